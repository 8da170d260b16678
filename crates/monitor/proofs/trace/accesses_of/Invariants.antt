use Rattle.std.proofs.Common.{take, vec_items}
use Rattle.text.specs.Said.{numbered}
use Rattle.monitor.specs.Texts.{AccessLines}
use Rattle.monitor.proofs.trace.accesses_of.Given as goal

abbrev pub invariant-loop-line : goal.invariant-loop-line
invariant-loop-line l = AccessLines (numbered (take l.line-index l.lines)) (vec_items l.accesses)
