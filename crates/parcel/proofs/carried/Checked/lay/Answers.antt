use Rattle.std.proofs.Common.{◌≡◌, ℕ, ◌*◌, List, ap, ◌∙◌, arith}
use Rattle.parcel.specs.Parcels.{pages, page_length, numbers_of, sum_of, laid_pages}
use Rattle.parcel.proofs.PageNumbers.{below_next, lay_next}
use Rattle.parcel.proofs.PagePlaces.{page_begins}
use Rattle.parcel.proofs.carried.Checked.lay.Goals as goal

pub split_at-requires : goal.split_at-requires
split_at-requires c =
    omega (arith, c.loop-page.invariant.whole, ap (sum_of (page_length c.args.self.now.carried.layout.page_size.value c.args.self.now.carried.layout.total)) c.in-Some.ensures.steps, c.size.ensures)

pub lay-requires : goal.lay-requires
lay-requires c = omega (arith, c.start.ensures, c.size.ensures, c.split_at.ensures.front_len)

pub loop-page-preserved : goal.loop-page-preserved
loop-page-preserved c =
    let layout = c.args.self.now.carried.layout in
    let p : ℕ = layout.page_size.value in
    let q : ℕ = c.in-Some.page in
    let left : List ℕ = numbers_of c.next.new.self.bytes.now in
    let next = c.in-Some.ensures.steps in
    let below = below_next (pages layout.total p) q _ left next c.loop-page.invariant.below in
    let begins = page_begins layout.total p q layout.page_size.nonzero below.0 in
    let start : c.start.result ≡ q * p = omega (arith, c.start.ensures) in
    record {
      laid = c.loop-page.invariant.laid ∙ ap (λ qs. laid_pages c.loop-page.copy p qs c.loop-page.rest.now) next ∙ lay_next c.loop-page.copy c.lay.new.buf c.loop-page.rest.now _ _ left p layout.total q c.size.result c.start.result (omega arith) c.size.ensures start c.split_at.ensures.front c.split_at.ensures.back c.lay.ensures.after;
      whole = omega (arith, c.loop-page.invariant.whole, ap (sum_of (page_length p layout.total)) next, c.size.ensures);
      below = below.1;
    }
