use Rattle.std.proofs.Common.{length, ap, ap₂, arith}
use Rattle.bitmap.specs.Pages.{dirty}
use Rattle.bitmap.proofs.PageLaws.{ceiling_le}
use Rattle.parcel.specs.Parcels.{pages, page_length, dirty_pages, sum_of}
use Rattle.parcel.proofs.DirtyList.{dirty_count}
use Rattle.parcel.proofs.WrittenPages.{length-parcel}
use Rattle.parcel.proofs.dirty_pages.DirtyPages.measure.Goals as goal

pub overflow_add-pages : goal.overflow_add-pages
overflow_add-pages g c =
    let b = g.B.Bitmap.means c.args.self.now.bitmap.now in
    let n = length c.args.self.now.memory.now in
    omega (arith, c.loop-page.invariant.counted, ap length c.in-Some.ensures.steps, dirty_count (dirty b) (pages n b.page), ceiling_le n b.page (g.B.Bitmap.paged c.args.self.now.bitmap.now))

pub returns-clause-length : goal.returns-clause-length
returns-clause-length g c =
    let b = g.B.Bitmap.means c.args.self.now.bitmap.now in
    let memory = c.args.self.now.memory.now in
    let qs = dirty_pages b memory in
    let none = c.in-None.ensures.steps.0 in
    let size = ap₂ (λ p n. sum_of (page_length p n) qs) c.layout-layout.ensures.page c.layout-layout.ensures.total in
    omega (arith, c.loop-page.invariant.told, c.loop-page.invariant.measured, ap length none, ap (sum_of (page_length c.layout-layout.result.page_size.value c.layout-layout.result.total)) none, size, length-parcel b.page memory qs)
