use Rattle.std.proofs.Common.{◌≡◌, take}
use Rattle.bitmap.specs.Tracked.{logged, loan}
use Rattle.monitor.specs.Marks.{after}
use Rattle.monitor.proofs.account.mark_log.Given as goal

abbrev pub invariant-loop-access : goal.invariant-loop-access
invariant-loop-access l =
    (logged l.log ≡ after (logged l.initial.log) (take l.access-index l.accesses)) ×
    (loan l.log.log ≡ loan l.initial.log.log)
