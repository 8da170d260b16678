use Rattle.std.proofs.Common.{◌≡◌, ◌+◌, ◌-◌, ◌*◌, length}
use Rattle.bitmap.specs.Pages.{dirty}
use Rattle.volatile_memory.specs.Memory.{overlaid}
use Rattle.parcel.specs.Parcels.{dirty_pages, words}
use Rattle.parcel.specs.Rules.{dirty_from}
use Rattle.parcel.proofs.dirty_pages.DirtyPages.lay_numbers.Given as goal

abbrev pub invariant-loop-page : goal.invariant-loop-page
invariant-loop-page g l =
    let all = dirty_pages (g.B.Bitmap.means l.self.bitmap.now) l.self.memory.now in
    let left = dirty_from (dirty (g.B.Bitmap.means l.page-iterator.bitmap.now)) l.page-iterator.next (l.page-iterator.end - l.page-iterator.next) in record {
      place : l.at + 8 * length left ≡ l.start + 8 * length all;
      laid : overlaid l.initial.buf l.start (words all) ≡ overlaid l.buf l.at (words left);
    }
