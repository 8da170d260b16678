use Rattle.std.proofs.Common.{false, ap, ◌∙◌}
use Rattle.bitmap.specs.Pages.{sliced}
use Rattle.bitmap.proofs.PageLaws.{assigned-sliced}
use Rattle.bitmap.proofs.slice.BaseSliceCleanBitmap.reset_addr_range.Goals as goal

pub returns : goal.returns
returns g c = record {
  cleans = ap (λ m. sliced m c.args.self.now.base_offset) c.reset_addr_range.ensures.cleans ∙ assigned-sliced false _ c.args.self.now.base_offset c.args.start_addr c.args.len;
  lent = c.reset_addr_range.ensures.lent;
}
