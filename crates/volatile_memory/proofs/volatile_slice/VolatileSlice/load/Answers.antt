use Rattle.std.proofs.Common.{◌+◌, length, ap, ◌∙◌}
use Rattle.volatile_memory.specs.Calls.{loads}
use Rattle.volatile_memory.specs.Faults.Answer.{gives}
use Rattle.volatile_memory.specs.Memory.{part}
use Rattle.volatile_memory.specs.Spans.{span}
use Rattle.volatile_memory.proofs.CallLaws.{atomic_fits}
use Rattle.volatile_memory.proofs.volatile_slice.VolatileSlice.load.Goals as goal

pub element-requires : goal.element-requires
element-requires g c = atomic_fits (span c.args.self.now) (length c.args.memory.now) g.T.ByteValued.size c.args.addr (rw c.alignment.ensures at c.in_ok-check_atomic.ensures)

pub returns : goal.returns
returns g c =
    let x = g.T.ByteValued.value (part c.args.memory.now (c.args.self.now.start + c.args.addr) g.T.ByteValued.size) in
    ap gives c.element.ensures ∙ ap (λ a. loads a x) (rw c.alignment.ensures at c.in_ok-check_atomic.ensures)
