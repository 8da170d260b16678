use Rattle.std.proofs.Common.{◌≡◌, take, vec_items}
use Rattle.script.specs.Scripts.{listed}
use Rattle.replay.specs.Played.{told}
use Rattle.replay.proofs.account.entries_of.Given as goal

abbrev pub invariant-loop-step : goal.invariant-loop-step
invariant-loop-step l = told (vec_items l.entries) ≡ listed (take l.step-index l.steps)
