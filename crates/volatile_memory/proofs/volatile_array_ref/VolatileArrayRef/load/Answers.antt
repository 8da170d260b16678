use Rattle.std.proofs.Common.{◌+◌, ◌*◌, length, ap, ◌∙◌, arith}
use Rattle.volatile_memory.specs.Calls.{loads}
use Rattle.volatile_memory.specs.Faults.Answer.{gives}
use Rattle.volatile_memory.specs.Memory.{part}
use Rattle.volatile_memory.specs.Spans.{span}
use Rattle.volatile_memory.proofs.CallLaws.{found_in_memory, held_first}
use Rattle.volatile_memory.proofs.volatile_array_ref.VolatileArrayRef.load.Goals as goal

pub element-requires : goal.element-requires
element-requires g c =
    omega (arith, c.in_ok-offset.ensures.made.1, found_in_memory (span c.args.self.now.slice) (length c.args.memory.now) c.in_ok-check_memory.ensures)

pub returns : goal.returns
returns g c =
    let v = span c.args.self.now.slice in
    let m = c.args.memory.now in
    let size = g.T.ByteValued.size in
    let x = g.T.ByteValued.value (part m (v.start + c.args.index * size) size) in
    let at = c.in_ok-offset.ensures.made.0 in
    let given = c.in_ok-offset.ensures.answer ∙ held_first v (length m) _ c.in_ok-check_memory.ensures in
    rw at at (ap gives c.element.ensures) ∙ ap (λ a. loads a x) given
