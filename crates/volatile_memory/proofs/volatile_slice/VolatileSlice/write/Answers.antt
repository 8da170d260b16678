use Rattle.std.proofs.Common.{◌≡◌, ◌-◌, length, refl, arith}
use Rattle.std.proofs.lemmas.Result.{err_from_is_err_and}
use Rattle.volatile_memory.specs.Spans.{span}
use Rattle.volatile_memory.proofs.CallLaws.{did_nothing, write_refused, write_nothing, write_some}
use Rattle.volatile_memory.proofs.volatile_slice.VolatileSlice.write.Goals as goal

pub returns-in_err-k : goal.returns-in_err-k
returns-in_err-k g c =
    let p = err_from_is_err_and c.from_residual.result c.from_residual.ensures.1 in
    let e = write_refused (span c.args.self.now) (length c.args.memory.now) c.args.buf.now c.args.addr _ c.in_err-k.ensures in
    rw (p.1, p.2, e) (record { answer = refl; did = did_nothing _ _; lent = refl })

pub returns-then-k-gt0 : goal.returns-then-k-gt0
returns-then-k-gt0 g c =
    let e = write_some (span c.args.self.now) (length c.args.memory.now) c.args.buf.now c.args.addr c.in_ok-k.k c.in_ok-k.ensures c.if-k-gt0.true in
    let all : c.in_ok-k.k - 0 ≡ c.in_ok-k.k = omega arith in
    rw e (record { answer = refl; did = rw all at c.lay.ensures.did; lent = c.lay.ensures.lent })

pub returns-else-k-gt0 : goal.returns-else-k-gt0
returns-else-k-gt0 g c =
    let e = write_nothing (span c.args.self.now) (length c.args.memory.now) c.args.buf.now c.args.addr c.in_ok-k.k c.in_ok-k.ensures c.if-k-gt0.false in
    rw e (record { answer = refl; did = did_nothing _ _; lent = refl })
