use Rattle.std.proofs.Common.{true, ap, ◌∙◌}
use Rattle.bitmap.specs.Pages.{sliced}
use Rattle.bitmap.proofs.PageLaws.{assigned-sliced}
use Rattle.bitmap.proofs.slice.BaseSliceBitmap.mark_dirty.Goals as goal

pub returns : goal.returns
returns g c = record {
  marks = ap (λ m. sliced m c.args.self.now.base_offset) c.mark_dirty.ensures.marks ∙ assigned-sliced true _ c.args.self.now.base_offset c.args.offset c.args.len;
  lent = c.mark_dirty.ensures.lent;
}
