use Rattle.std.proofs.Common.{◌*◌, sym, ◌∙◌, arith}
use Rattle.std.proofs.lemmas.Bool.{ltb-true, ltb-false}
use Rattle.bitmap.specs.Storage.{bit}
use Rattle.bitmap.proofs.StoredBits.{stored_read, stored_past}
use Rattle.bitmap.proofs.word.get.Goals as goal

pub returns-in-Some : goal.returns-in-Some
returns-in-Some g c =
    let within = ltb-true _ _ (sym c.in-Some.ensures.lookup.0) in
    c.get_bit.ensures ∙ stored_read (bit g.W.Integer.bits_of) (8 * g.W.Integer.WIDTH) (omega (arith, g.W.Integer.laws.some)) _ _ _ _ c.bits-width.ensures within c.in-Some.ensures.lookup.1

pub returns-in-None : goal.returns-in-None
returns-in-None g c =
    let past = ltb-false _ _ (sym c.in-None.ensures.lookup.0) in
    stored_past (bit g.W.Integer.bits_of) (8 * g.W.Integer.WIDTH) c.args.words.now c.args.n _ c.bits-width.ensures past
