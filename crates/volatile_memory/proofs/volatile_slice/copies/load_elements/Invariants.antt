use Rattle.std.proofs.Common.{◌≡◌, take}
use Rattle.volatile_memory.specs.Memory.{elements}
use Rattle.volatile_memory.proofs.volatile_slice.copies.load_elements.Given as goal

abbrev pub invariant-loop-i : goal.invariant-loop-i
invariant-loop-i g l = take l.i l.values ≡ elements g.T.ByteValued.value g.T.ByteValued.size l.bytes 0 l.i
