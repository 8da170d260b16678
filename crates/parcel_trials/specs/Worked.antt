-- Worked examples of parcels, as a theorem of the definitions that the contracts cite. Assumes nothing.
use Rattle.std.specs.Prelude.{◌≡◌, ℕ, List, [], ◌∷◌, ◌++◌, length}
use Rattle.bitmap.specs.Pages.{Meaning, marked, clean}
use Rattle.volatile_memory.specs.Calls.{write}
use Rattle.volatile_memory.specs.Faults.{no_room, bad_parcel}
use Rattle.volatile_memory.specs.Faults.Answer.{gives, refuses}
use Rattle.volatile_memory.specs.Spans.{Span}
use Rattle.mirror.specs.Example.{Stands}
use Rattle.parcel.specs.Parcels.{words, dirty_pages, due, taken, applied}

-- the root of ten bytes at the address 4096
abbrev pub ten_bytes : Span
ten_bytes = record { addr = 4096; start = 0; size = 10; mark = 0 }

-- three pages of four after one byte was stored at a place in ten
abbrev pub stored_at : Meaning → ℕ → ℕ → Meaning
stored_at b byte place = let d = write ten_bytes 10 (byte ∷ []) place in marked b d.from d.len

-- clean at first, and one byte stored at 0 and one at 9
abbrev pub two_stored : ℕ → ℕ → Meaning
two_stored x y = stored_at (stored_at (clean 4 3) x 0) y 9

-- parcels of those ten bytes
pub record WorkedParcels : Type 0 where
  pub two_pages : (x y : ℕ) (memory : List ℕ) → length memory ≡ 10 → dirty_pages (two_stored x y) memory ≡ 0 ∷ 2 ∷ []
  pub length_is_46 : (x y : ℕ) (memory : List ℕ) → length memory ≡ 10 → length (due (two_stored x y) memory) ≡ 46
  pub room_for_46 : (x y : ℕ) (memory : List ℕ) → length memory ≡ 10 → taken (two_stored x y) memory 46 ≡ gives (due (two_stored x y) memory)
  pub room_for_45 : (x y : ℕ) (memory : List ℕ) → length memory ≡ 10 → taken (two_stored x y) memory 45 ≡ refuses (no_room 46)
  -- page numbers 2, 0: they do not rise
  pub falling_pages : (copy bytes : List ℕ) → length copy ≡ 10 → applied copy (words (4 ∷ 2 ∷ 10 ∷ 2 ∷ 0 ∷ []) ++ bytes) ≡ refuses (bad_parcel 5 32)

pub record Worked : Type 0 where
  pub parcels : WorkedParcels
  -- a run that the law of the copy speaks of
  pub run : Stands
