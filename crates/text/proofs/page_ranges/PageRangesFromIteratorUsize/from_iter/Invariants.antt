use Rattle.std.proofs.Common.{◌≡◌, vec_items}
use Rattle.text.specs.PageRanges.{spread}
use Rattle.text.proofs.page_ranges.PageRangesFromIteratorUsize.from_iter.Given as goal

abbrev pub invariant-loop-page : goal.invariant-loop-page
invariant-loop-page g l = spread (vec_items l.ranges) ≡ l.yielded
