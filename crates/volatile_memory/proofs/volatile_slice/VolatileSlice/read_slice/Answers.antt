use Rattle.std.proofs.Common.{length, ap, ◌∙◌}
use Rattle.std.proofs.lemmas.Result.{err_from_is_err_and}
use Rattle.volatile_memory.specs.Calls.{whole}
use Rattle.volatile_memory.proofs.volatile_slice.VolatileSlice.read_slice.Goals as goal

pub returns-in_err-completed : goal.returns-in_err-completed
returns-in_err-completed c =
    let p = err_from_is_err_and c.from_residual.result c.from_residual.ensures.1 in
    let was = c.in_err-completed.ensures in
    rw (p.1, p.2) (record { answer = ap (whole (length c.args.buf.now)) was.answer; after = was.after })

pub returns : goal.returns
returns c =
    let was = c.in_ok-completed.ensures in
    record { answer = (rw c.read.auto.buf at c.check_whole.ensures) ∙ ap (whole (length c.args.buf.now)) was.answer; after = was.after }
