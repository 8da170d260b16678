use Rattle.std.proofs.Common.{◌*◌, ◌≤◌, ◌∙◌, arith}
use Rattle.bitmap.specs.Pages.{Meaning, top}
use Rattle.parcel.proofs.PagePlaces.{dirty_at_page, page_within}
use Rattle.parcel.proofs.dirty_pages.is_dirty.Goals as goal

pub returns : goal.returns
returns g c =
    let b : Meaning = g.B.Bitmap.means c.args.bitmap.now in
    let page = c.get.ensures ∙ c.page_size.ensures in
    let last = g.B.Bitmap.bounded c.args.bitmap.now (omega arith) in
    let within : c.args.page * b.page ≤ top = page_within b.count b.page c.args.page last (omega arith) in
    c.dirty_at.ensures ∙ dirty_at_page b c.args.page c.get.result c.mark_base.result (g.B.Bitmap.paged c.args.bitmap.now) page c.mark_base.ensures c.mark_base.type_inv (rw page within)
