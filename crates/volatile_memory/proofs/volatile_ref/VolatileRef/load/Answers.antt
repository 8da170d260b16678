use Rattle.std.proofs.Common.{◌≡◌, ◌+◌, length, ap, ◌∙◌, arith}
use Rattle.volatile_memory.specs.Calls.{loads}
use Rattle.volatile_memory.specs.Faults.Answer.{gives}
use Rattle.volatile_memory.specs.Memory.{part}
use Rattle.volatile_memory.specs.Spans.{span}
use Rattle.volatile_memory.proofs.CallLaws.{room_fits}
use Rattle.volatile_memory.proofs.volatile_ref.VolatileRef.load.Goals as goal

pub element-requires : goal.element-requires
element-requires g c = room_fits (span c.args.self.now.slice) (length c.args.memory.now) g.T.ByteValued.size c.in_ok-check_room.ensures

pub returns : goal.returns
returns g c =
    let start : c.args.self.now.slice.start + 0 ≡ c.args.self.now.slice.start = omega arith in
    let x = g.T.ByteValued.value (part c.args.memory.now c.args.self.now.slice.start g.T.ByteValued.size) in
    rw start (ap gives c.element.ensures ∙ ap (λ a. loads a x) c.in_ok-check_room.ensures)
