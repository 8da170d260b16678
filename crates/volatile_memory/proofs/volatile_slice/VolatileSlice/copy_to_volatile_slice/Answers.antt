use Rattle.std.proofs.Common.{◌≡◌, ◌+◌, min, length, refl, ◌∙◌, arith}
use Rattle.std.proofs.lemmas.Result.{err_from_is_err_and}
use Rattle.bitmap.specs.Pages.{wrapped}
use Rattle.volatile_memory.specs.Memory.{part}
use Rattle.volatile_memory.specs.Spans.{span}
use Rattle.volatile_memory.proofs.CallLaws.{did_nothing, found_in_memory, copy_volatile_source, copy_volatile_target, copy_volatile_lays}
use Rattle.volatile_memory.proofs.LaidBytes.{length_part, moved}
use Rattle.volatile_memory.proofs.volatile_slice.VolatileSlice.copy_to_volatile_slice.Goals as goal

pub returns-in_err-check_memory : goal.returns-in_err-check_memory
returns-in_err-check_memory g c =
    let p = err_from_is_err_and c.from_residual.result c.from_residual.ensures.1 in
    let e = copy_volatile_source (span c.args.self.now) c.args.memory.now (span c.args.slice.now) (length c.args.memory.now) _ c.in_err-check_memory.ensures in
    rw (p.1, p.2, e) (record { answer = refl; did = did_nothing _ _; lent = refl })

pub returns-in_err-check_memory-2 : goal.returns-in_err-check_memory-2
returns-in_err-check_memory-2 g c =
    let p = err_from_is_err_and c.from_residual-in_err-check_memory-2.result c.from_residual-in_err-check_memory-2.ensures.1 in
    let e = copy_volatile_target (span c.args.self.now) c.args.memory.now (span c.args.slice.now) (length c.args.memory.now) _ c.in_ok-check_memory.ensures c.in_err-check_memory-2.ensures in
    rw (p.1, p.2, e) (record { answer = refl; did = did_nothing _ _; lent = refl })

pub returns : goal.returns
returns g c =
    let u = c.args.self.now in
    let v = c.args.slice.now in
    let e = copy_volatile_lays (span u) c.args.memory.now (span v) (length c.args.memory.now) c.in_ok-check_memory.ensures c.in_ok-check_memory-2.ensures in
    let held = found_in_memory (span u) (length c.args.memory.now) c.in_ok-check_memory.ensures in
    let start : v.start + 0 ≡ v.start = omega arith in
    let mark : wrapped v.mark 0 ≡ v.mark = omega (arith, v.ends, v.marks) in
    let long : length (part c.args.memory.now u.start (min u.size v.size)) ≡ min u.size v.size = omega (arith, length_part c.args.memory.now u.start (min u.size v.size)) in
    rw e (record {
      answer = refl;
      did = (rw (start, ← c.min-count.ensures) (c.copy_within.ensures.after ∙ moved c.args.memory.now u.start c.min-count.result v.start (omega arith)), rw (mark, long, ← c.min-count.ensures) c.mark_dirty.ensures.marks);
      lent = c.mark_dirty.ensures.lent;
    })
