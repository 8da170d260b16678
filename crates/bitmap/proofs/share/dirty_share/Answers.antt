use Rattle.std.proofs.Common.{◌*◌, arith}
use native.Mathlib.Nat.{div-le_of_le-mul}
use Rattle.bitmap.proofs.share.dirty_share.Goals as goal

pub overflow_cast-result : goal.overflow_cast-result
overflow_cast-result c = rw (c.from.ensures, c.from-2.ensures) (omega (arith, div-le_of_le-mul c.args.count {m = 1000 * c.args.dirty} {n = 1000} (omega arith)))
