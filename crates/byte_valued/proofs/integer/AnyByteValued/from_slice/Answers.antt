use Rattle.std.proofs.Common.{◌≡◌, length, Some, ◌∙◌, arith}
use Rattle.byte_valued.specs.LittleEndian.{number_of, Bytes}
use Rattle.byte_valued.specs.ByteLaws.{number_of_below, number_of-drop, made_whole}
use Rattle.byte_valued.proofs.NumberBytes.{slice_bytes}
use Rattle.byte_valued.specs.IntegerProofs.{held}
use Rattle.byte_valued.proofs.integer.AnyByteValued.from_slice.Goals as goal

pub returns : goal.returns
returns g c =
    let i = g.T.Integer in
    let bs = c.args.«data».now in
    let is : length bs ≡ i.WIDTH = c.if-data-WIDTH.false ∙ c.WIDTH.ensures in
    let all : Bytes bs = slice_bytes bs c.type_inv.«data» in
    let made : c.from_bits.result ≡ Some (i.of_bits (number_of bs)) =
    rw (c.from_bits.ensures, c.number_of.ensures) (held i.WIDTH i.of_bits (number_of bs) (rw (← is) (number_of_below bs all))) in
    record {
      value = made ∙ made_whole i.WIDTH i.of_bits bs (number_of bs) is (number_of-drop i.WIDTH bs 0 (omega arith));
      holds = rw made (i.laws.back bs is all).0;
    }
