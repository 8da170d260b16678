use Rattle.std.proofs.Common.{◌≡◌, take, vec_items}
use Rattle.text.specs.Said.{numbered}
use Rattle.script.specs.Scripts.{listed}
use Rattle.script.proofs.program.steps_of.Given as goal

abbrev pub invariant-loop-line : goal.invariant-loop-line
invariant-loop-line l = listed (vec_items l.steps) ≡ numbered (take l.line-index l.lines)
