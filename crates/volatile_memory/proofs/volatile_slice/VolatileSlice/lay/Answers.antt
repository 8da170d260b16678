use Rattle.std.proofs.Common.{◌+◌, ◌-◌, length, arith}
use Rattle.volatile_memory.proofs.LaidBytes.{overlaid_put}
use Rattle.volatile_memory.proofs.volatile_slice.VolatileSlice.lay.Goals as goal

pub returns-clause-did : goal.returns-clause-did
returns-clause-did g c =
    let at = c.args.self.now.start + c.args.offset in
    let k = at + length c.args.bytes.now - at in
    (rw c.copy_from_slice.ensures.after (overlaid_put c.args.memory.now c.args.bytes.now at k (omega arith)), c.mark_dirty.ensures.marks)
