use Rattle.std.proofs.Common.{◌≡◌, suc, ◌+◌, ◌*◌, length, sym, ap, ◌∙◌, arith}
use Rattle.std.proofs.lemmas.List.{take_all, take_more_set}
use Rattle.volatile_memory.specs.Memory.{part, elements}
use Rattle.volatile_memory.proofs.volatile_slice.copies.load_elements.Goals as goal

pub loop-i-preserved : goal.loop-i-preserved
loop-i-preserved g c =
    let k = g.T.ByteValued in
    let i = c.loop-i.i in
    let one : i + 1 ≡ suc i = omega arith in
    let at : 0 + i * k.size ≡ i * c.size_of-size.result = rw c.size_of-size.ensures (omega arith) in
    let item : c.element.result ≡ k.value (part c.args.bytes.now (0 + i * k.size) k.size) = rw at c.element.ensures in
    take_more_set c.loop-i.values i c.element.result (omega arith) ∙ rw (one, c.loop-i.invariant, item)

pub returns : goal.returns
returns g c =
    let k = g.T.ByteValued in
    let all : c.loop-i.i ≡ length c.args.values.now = omega arith in
    sym (take_all c.loop-i.i c.loop-i.values (omega arith)) ∙ c.loop-i.invariant ∙ ap (elements k.value k.size c.args.bytes.now 0) all
