use Rattle.std.proofs.Common.{◌≡◌, Some, ◌∙◌, sym, refl, ap}
use Rattle.std.specs.Option.{unwrap_or}
use Rattle.byte_valued.specs.Integers.{held_by}
use Rattle.byte_valued.proofs.NumberBytes.{none_below, number_of-zeros}
use Rattle.byte_valued.specs.IntegerProofs.{held}
use Rattle.byte_valued.proofs.integer.AnyByteValued.zeroed.Given as given
use Rattle.byte_valued.proofs.integer.AnyByteValued.zeroed.Goals as goal

zero : (g : given.Over) → held_by g.T.Integer.WIDTH g.T.Integer.of_bits 0 ≡ Some (g.T.Integer.of_bits 0)
zero g = held g.T.Integer.WIDTH g.T.Integer.of_bits 0 (none_below g.T.Integer.WIDTH)

pub unwrap-requires : goal.unwrap-requires
unwrap-requires g c = rw (c.from_bits.ensures, zero g) refl

pub returns : goal.returns
returns g c = rw (number_of-zeros g.T.Integer.WIDTH 0) (ap (λ o. unwrap_or o (g.T.Integer.of_bits 0)) (sym c.unwrap.ensures ∙ c.from_bits.ensures ∙ zero g))
