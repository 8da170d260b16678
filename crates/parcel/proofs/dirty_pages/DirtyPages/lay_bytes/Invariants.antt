use Rattle.std.proofs.Common.{◌≡◌, ◌+◌, ◌-◌, length}
use Rattle.bitmap.specs.Pages.{dirty}
use Rattle.volatile_memory.specs.Memory.{overlaid}
use Rattle.parcel.specs.Parcels.{dirty_pages, bodies}
use Rattle.parcel.specs.Rules.{dirty_from}
use Rattle.parcel.proofs.dirty_pages.DirtyPages.lay_bytes.Given as goal

abbrev pub invariant-loop-page : goal.invariant-loop-page
invariant-loop-page g l =
    let b = g.B.Bitmap.means l.self.bitmap.now in
    let memory = l.self.memory.now in
    let all = bodies b.page memory (dirty_pages b memory) in
    let left = bodies b.page memory (dirty_from (dirty (g.B.Bitmap.means l.page-iterator.bitmap.now)) l.page-iterator.next (l.page-iterator.end - l.page-iterator.next)) in record {
      place : l.at + length left ≡ l.start + length all;
      laid : overlaid l.initial.buf l.start all ≡ overlaid l.buf l.at left;
    }
