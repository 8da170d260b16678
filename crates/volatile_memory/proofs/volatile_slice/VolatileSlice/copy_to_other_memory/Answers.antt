use Rattle.std.proofs.Common.{◌≡◌, ◌-◌, min, length, take, refl, ap, ◌∙◌, arith}
use Rattle.std.proofs.lemmas.Result.{err_from_is_err_and}
use Rattle.volatile_memory.specs.Memory.{part}
use Rattle.volatile_memory.specs.Spans.{span}
use Rattle.volatile_memory.proofs.CallLaws.{did_nothing, guard_refused, guarded, copy_volatile_source, copy_volatile_target, copy_volatile_lays}
use Rattle.volatile_memory.proofs.LaidBytes.{take-part}
use Rattle.volatile_memory.proofs.volatile_slice.VolatileSlice.copy_to_other_memory.Goals as goal

pub returns-in_err-bytes : goal.returns-in_err-bytes
returns-in_err-bytes g c =
    let p = err_from_is_err_and c.from_residual.result c.from_residual.ensures.1 in
    let u = span c.args.self.now in
    let m = c.args.memory in
    let e = copy_volatile_source u m.now (span c.args.slice.now) (length c.args.other.now) _ (guard_refused u m.now m.ref_ptr _ c.in_err-bytes.ensures) in
    rw (p.1, p.2, e) (record { answer = refl; did = did_nothing _ _; lent = refl })

pub returns-in_err-check_memory : goal.returns-in_err-check_memory
returns-in_err-check_memory g c =
    let p = err_from_is_err_and c.from_residual-in_err-check_memory.result c.from_residual-in_err-check_memory.ensures.1 in
    let u = span c.args.self.now in
    let m = c.args.memory in
    let (held, same, long) = guarded u m.now m.ref_ptr _ _ c.in_ok-bytes.ensures in
    let e = copy_volatile_target u m.now (span c.args.slice.now) (length c.args.other.now) _ held c.in_err-check_memory.ensures in
    rw (p.1, p.2, e) (record { answer = refl; did = did_nothing _ _; lent = refl })

pub slice_bounds-lay-end : goal.slice_bounds-lay-end
slice_bounds-lay-end g c =
    let (held, same, long) = guarded (span c.args.self.now) c.args.memory.now c.args.memory.ref_ptr _ _ c.in_ok-bytes.ensures in
    omega arith

pub returns : goal.returns
returns g c =
    let u = span c.args.self.now in
    let m = c.args.memory in
    let count = c.min-count.result in
    let (held, same, long) = guarded u m.now m.ref_ptr _ _ c.in_ok-bytes.ensures in
    let e = copy_volatile_lays u m.now (span c.args.slice.now) (length c.args.other.now) held c.in_ok-check_memory.ensures in
    let bytes : take (count - 0) c.in_ok-bytes.bytes.now ≡ part m.now u.start (min u.size c.args.slice.now.size) = ap (take (count - 0)) same ∙ take-part m.now u.start u.size count (omega arith) ∙ ap (part m.now u.start) c.min-count.ensures in
    rw e (record { answer = refl; did = rw bytes at c.lay.ensures.did; lent = c.lay.ensures.lent })
