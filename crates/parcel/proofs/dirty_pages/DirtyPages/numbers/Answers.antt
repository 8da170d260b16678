use Rattle.std.proofs.Common.{◌≡◌, ℕ, ◌-◌, Bool, arith, ap, ◌∙◌, ap₂}
use Rattle.bitmap.specs.Pages.{dirty}
use Rattle.parcel.specs.Parcels.{pages, dirty_below}
use Rattle.parcel.specs.Rules.{dirty_from}
use Rattle.parcel.proofs.DirtyList.{dirty_all}
use Rattle.parcel.proofs.dirty_pages.DirtyPages.numbers.Goals as goal

pub returns : goal.returns
returns g c =
    let d : ℕ → Bool = dirty (g.B.Bitmap.means c.args.self.now.bitmap.now) in
    let from_first : c.count.result - 0 ≡ c.count.result = omega arith in
    ap (dirty_from d 0) from_first ∙ dirty_all d c.count.result ∙ ap (dirty_below d) (c.count.ensures ∙ ap₂ pages c.layout.ensures.total c.layout.ensures.page)
