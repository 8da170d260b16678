use Rattle.std.proofs.Common.{◌∙◌, rules}
use Rattle.byte_valued.proofs.NumberBytes.{from_le_bytes-padded}
use Rattle.byte_valued.proofs.integer.number_of.Goals as goal

pub returns : goal.returns
returns c = c.from_le_bytes.ensures ∙ rw c.copy_from_slice.ensures.after (from_le_bytes-padded c.args.data.now _ c.requires (search rules))
