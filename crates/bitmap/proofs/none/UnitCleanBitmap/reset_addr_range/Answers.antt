use Rattle.std.proofs.Common.{false, refl}
use Rattle.bitmap.proofs.PageLaws.{assigned_none}
use Rattle.bitmap.proofs.none.UnitCleanBitmap.reset_addr_range.Goals as goal

pub returns : goal.returns
returns c = record { cleans = assigned_none false 1 _ _; lent = refl }
