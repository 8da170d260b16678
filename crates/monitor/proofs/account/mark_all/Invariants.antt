use Rattle.std.proofs.Common.{◌≡◌, take, vec_items}
use Rattle.bitmap.specs.Tracked.{tracked}
use Rattle.monitor.specs.Marks.{after, turns, told}
use Rattle.monitor.proofs.account.mark_all.Given as goal

abbrev pub invariant-loop-access : goal.invariant-loop-access
invariant-loop-access l =
    (told (vec_items l.entries) ≡ turns (tracked l.initial.map) (take l.access-index l.accesses)) ×
    (tracked l.map ≡ after (tracked l.initial.map) (take l.access-index l.accesses))
