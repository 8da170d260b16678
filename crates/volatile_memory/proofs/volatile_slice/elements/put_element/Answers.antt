use Rattle.std.proofs.Common.{◌≡◌, ◌+◌, ◌-◌, length, sym, ◌∙◌, arith, length-drop, length-take}
use Rattle.volatile_memory.proofs.ElementBytes.{laid-whole}
use Rattle.volatile_memory.proofs.LaidBytes.{overlaid_put}
use Rattle.volatile_memory.proofs.volatile_slice.elements.put_element.Goals as goal

pub returns : goal.returns
returns g c =
    let at = c.args.offset in
    let size = c.size_of.result in
    let bytes = g.T.ByteValued.bytes c.args.value in
    let long : length bytes ≡ size = (g.met.T.ByteValued.exact c.args.value).0 ∙ sym c.size_of.ensures in
    rw (c.write_to.ensures.after ∙ laid-whole bytes _ (simp (length-take, length-drop) (omega arith))) (overlaid_put c.args.bytes.now bytes at (at + size - at) (omega arith))
