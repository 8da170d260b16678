use Rattle.std.proofs.Common.{◌<◌, arith}
use Rattle.std.proofs.lemmas.Nat.{one_shl}
use Rattle.bitmap.proofs.BitLaws.{get_bit}
use Rattle.bitmap.proofs.word.get_bit.Goals as goal

pub returns : goal.returns
returns g c =
    let few : c.args.k < 64 = omega (arith, g.W.Integer.laws.few) in
    rw (one_shl c.args.k 64 few, ← c.to_bits.ensures.bits) (get_bit c.to_bits.result c.args.k)
