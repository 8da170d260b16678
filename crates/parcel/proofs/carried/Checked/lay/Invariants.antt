use Rattle.std.proofs.Common.{◌≡◌, length}
use Rattle.parcel.specs.Parcels.{pages, page_length, numbers_of, sum_of, laid_pages}
use Rattle.parcel.specs.Rules.{Below}
use Rattle.parcel.proofs.carried.Checked.lay.Given as goal

abbrev pub invariant-loop-page : goal.invariant-loop-page
invariant-loop-page l =
    let p = l.self.carried.layout.page_size.value in
    let total = l.self.carried.layout.total in
    let left = numbers_of l.page-iterator.bytes.now in record {
      laid : laid_pages l.initial.copy p (numbers_of l.self.carried.numbers.now) l.self.carried.bytes.now ≡ laid_pages l.copy p left l.rest;
      whole : length l.rest ≡ sum_of (page_length p total) left;
      below : Below (pages total p) left;
    }
