use Rattle.std.proofs.Common.{◌≡◌, map, take}
use Rattle.volatile_memory.specs.Memory.{overlaid, joined}
use Rattle.volatile_memory.proofs.volatile_slice.copies.lay_elements.Given as goal

abbrev pub invariant-loop-i : goal.invariant-loop-i
invariant-loop-i g l = l.bytes ≡ overlaid l.initial.bytes 0 (joined (map g.T.ByteValued.bytes (take l.i l.values)))
