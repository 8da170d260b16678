use Rattle.std.proofs.Common.{sym, ◌∙◌}
use Rattle.volatile_memory.proofs.ElementBytes.{loaded}
use Rattle.volatile_memory.proofs.volatile_slice.elements.element.Goals as goal

pub returns : goal.returns
returns g c =
    loaded g.T.ByteValued.size c.size_of.result g.T.ByteValued.value c.args.bytes.now c.args.offset _ c.size_of.ensures (sym c.unwrap.ensures ∙ c.from_slice.ensures.value)
