use Rattle.std.proofs.Common.{◌+◌, length, ap, ◌∙◌}
use Rattle.volatile_memory.specs.Calls.{whole, loads}
use Rattle.volatile_memory.specs.Faults.Answer.{gives}
use Rattle.volatile_memory.specs.Memory.{part}
use Rattle.volatile_memory.specs.Spans.{span}
use Rattle.volatile_memory.proofs.CallLaws.{whole_fits}
use Rattle.volatile_memory.proofs.volatile_slice.VolatileSlice.read_obj.Goals as goal

pub element-requires : goal.element-requires
element-requires g c =
    whole_fits (span c.args.self.now) (length c.args.memory.now) g.T.ByteValued.size c.args.addr c.in_ok-completed.completed (rw c.size_of-size.ensures at c.in_ok-completed.ensures) (rw c.size_of-size.ensures at c.in_ok-check_whole.ensures) g.met.T.ByteValued.sized.0

pub returns : goal.returns
returns g c =
    let size = g.T.ByteValued.size in
    let moved = rw c.size_of-size.ensures at c.in_ok-completed.ensures in
    let all = rw c.size_of-size.ensures at c.in_ok-check_whole.ensures in
    let x = g.T.ByteValued.value (part c.args.memory.now (c.args.self.now.start + c.args.addr) size) in
    ap gives c.element.ensures ∙ ap (λ a. loads a x) (all ∙ ap (whole size) moved)
