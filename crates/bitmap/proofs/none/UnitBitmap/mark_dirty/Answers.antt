use Rattle.std.proofs.Common.{true, refl}
use Rattle.bitmap.proofs.PageLaws.{assigned_none}
use Rattle.bitmap.proofs.none.UnitBitmap.mark_dirty.Goals as goal

pub returns : goal.returns
returns c = record { marks = assigned_none true 1 _ _; lent = refl }
