use Rattle.std.proofs.Common.{rules}
use Rattle.trials.proofs.Examples.{worked, marked_log}
use Rattle.trials.proofs.worked_examples.Goals as goal

pub returns : goal.returns
returns c =
    let log = c.mark_first_and_last in
    record { log = marked_log log.new.log (search rules) log.ensures.fits log.ensures.bits; theorem = worked }
