use Rattle.std.proofs.Common.{length, ap, ◌∙◌}
use Rattle.std.proofs.lemmas.Result.{err_from_is_err_and}
use Rattle.volatile_memory.specs.Calls.{whole, write_slice}
use Rattle.volatile_memory.proofs.volatile_slice.VolatileSlice.write_slice.Goals as goal

pub returns-in_err-completed : goal.returns-in_err-completed
unfolding write_slice
returns-in_err-completed g c =
    let p = err_from_is_err_and c.from_residual.result c.from_residual.ensures.1 in
    let was = c.in_err-completed.ensures in
    rw (p.1, p.2) (record { answer = ap (whole (length c.args.buf.now)) was.answer; did = was.did; lent = was.lent })

pub returns : goal.returns
unfolding write_slice
returns g c =
    let was = c.in_ok-completed.ensures in
    record { answer = c.check_whole.ensures ∙ ap (whole (length c.args.buf.now)) was.answer; did = was.did; lent = was.lent }
