use Rattle.std.proofs.Common.{◌≡◌, ℕ, ◌*◌, ◌^◌, ◌<◌, refl, sym, ap, ◌∙◌, arith}
use Rattle.std.specs.Option.{unwrap_or}
use Rattle.byte_valued.specs.IntegerProofs.{held, bits_again}
use Rattle.bitmap.proofs.BitLaws.{power_bytes}
use Rattle.bitmap.proofs.word.with_bit.Given as given
use Rattle.bitmap.proofs.word.with_bit.Goals as goal

-- a number that is no wider than a word's is one that a word holds
below : (g : given.Over) (word : g.row.W.Denot) → g.W.Integer.Holds word → (bits r k : ℕ) → bits ≡ g.W.Integer.bits_of word → k < 8 * g.W.Integer.WIDTH → ((w : ℕ) → k < w → bits < 2 ^ w → r < 2 ^ w) → r < 256 ^ g.W.Integer.WIDTH
below g word holds bits r k is h within =
    let power = power_bytes g.W.Integer.WIDTH in
    rw power (within (8 * g.W.Integer.WIDTH) h (rw (is, ← power) (g.W.Integer.laws.below word holds)))

pub unwrap-requires : goal.unwrap-requires
unwrap-requires g c =
    let i = g.W.Integer in
    let few = below g c.args.word c.to_bits.ensures.holds _ c.assign_bit.result c.args.k c.to_bits.ensures.bits c.requires c.assign_bit.ensures.within in
    rw (c.from_bits.ensures, held i.WIDTH i.of_bits _ few) refl

pub returns : goal.returns
returns g c j h =
    let i = g.W.Integer in
    let r = c.assign_bit.result in
    let few = below g c.args.word c.to_bits.ensures.holds _ r c.args.k c.to_bits.ensures.bits c.requires c.assign_bit.ensures.within in
    let is : c.unwrap.result ≡ i.of_bits r =
    ap (λ o. unwrap_or o (i.of_bits r)) (sym c.unwrap.ensures ∙ c.from_bits.ensures ∙ held i.WIDTH i.of_bits r few) in
    rw (is, bits_again i.laws r few, ← c.to_bits.ensures.bits) (c.assign_bit.ensures.bits j (omega (arith, i.laws.few)))
