use Rattle.std.proofs.Common.{◌*◌, ◌/◌, ◌<◌, length, get_or, ap, arith, rules}
use Rattle.bitmap.specs.Storage.{bit}
use Rattle.bitmap.proofs.StoredBits.{word_within, stored-write}
use Rattle.bitmap.proofs.word.put.Given as given
use Rattle.bitmap.proofs.word.put.Goals as goal

within : (g : given.Over) (c : goal.After-bits-width g) → c.args.n / c.bits-width.result < length c.args.words.now
within g c = word_within (bit g.W.Integer.bits_of) (8 * g.W.Integer.WIDTH) (omega (arith, g.W.Integer.laws.some)) _ _ _ c.bits-width.ensures c.requires

pub bounds-words-n : goal.bounds-words-n
bounds-words-n = within

pub offset_bounds-words-n : goal.offset_bounds-words-n
offset_bounds-words-n g c = let h = within g c in search rules

pub returns : goal.returns
returns g c = stored-write (bit g.W.Integer.bits_of) (8 * g.W.Integer.WIDTH) (omega (arith, g.W.Integer.laws.some)) _ _ _ _ _ _ c.bits-width.ensures c.requires (ap (get_or c.args.words.now _) c.index-words-n.is) c.with_bit.ensures
