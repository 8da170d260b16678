use Rattle.std.proofs.Common.{sym, ap, ◌∙◌, arith}
use Rattle.volatile_memory.specs.Memory.{overlaid}
use Rattle.volatile_memory.proofs.LaidBytes.{overlaid_none}
use Rattle.parcel.specs.Parcels.{bodies}
use Rattle.parcel.proofs.WrittenPages.{page_place, page_next}
use Rattle.parcel.proofs.dirty_pages.DirtyPages.lay_bytes.Goals as goal

pub loop-page-preserved : goal.loop-page-preserved
loop-page-preserved g c =
    let b = g.B.Bitmap.means c.args.self.now.bitmap.now in
    let memory = c.args.self.now.memory.now in
    let next = c.in-Some.ensures.steps in
    record {
      place = page_place memory c.bytes.result.now _ _ b.page c.loop-page.at c.lay-at.result c.in-Some.page next c.bytes.ensures c.lay-at.ensures.end ∙ c.loop-page.invariant.place;
      laid = c.loop-page.invariant.laid ∙ page_next memory c.bytes.result.now _ _ b.page c.loop-page.at c.lay-at.result c.in-Some.page next c.bytes.ensures c.lay-at.ensures.end c.loop-page.buf _ c.lay-at.ensures.after (omega (arith, c.loop-page.invariant.place, c.requires));
    }

pub returns : goal.returns
returns g c =
    let b = g.B.Bitmap.means c.args.self.now.bitmap.now in
    let none = c.in-None.ensures.steps.0 in
    sym (c.loop-page.invariant.laid ∙ ap (λ qs. overlaid c.loop-page.buf c.loop-page.at (bodies b.page c.args.self.now.memory.now qs)) none ∙ overlaid_none c.loop-page.buf c.loop-page.at)
