use Rattle.std.proofs.Common.{◌≡◌, ◌+◌, ◌-◌, ◌*◌, ◌≤◌, min, length}
use Rattle.bitmap.specs.Pages.{dirty, top}
use Rattle.parcel.specs.Parcels.{page_length, dirty_pages, sum_of}
use Rattle.parcel.specs.Rules.{dirty_from}
use Rattle.parcel.proofs.dirty_pages.DirtyPages.measure.Given as goal

abbrev pub invariant-loop-page : goal.invariant-loop-page
invariant-loop-page g l =
    let all = dirty_pages (g.B.Bitmap.means l.self.bitmap.now) l.self.memory.now in
    let left = dirty_from (dirty (g.B.Bitmap.means l.page-iterator.bitmap.now)) l.page-iterator.next (l.page-iterator.end - l.page-iterator.next) in
    let size = page_length l.layout.page_size.value l.layout.total in record {
      counted : l.pages + length left ≡ length all;
      told : l.length ≤ top;
      measured : min (l.length + 8 * length left + sum_of size left) top ≡ min (24 + 8 * length all + sum_of size all) top;
    }
