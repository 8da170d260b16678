-- The worked examples of parcels, proved of the definitions.
use Rattle.std.proofs.Common.{◌≡◌, ℕ, ◌≤◌, false, ltb, List, [], ◌∷◌, ◌++◌, length, ap, ◌∙◌, arith, lit≤, length-append, length-drop, length-take}
use Rattle.std.proofs.lemmas.Bool.{le-ltb}
use Rattle.volatile_memory.specs.Faults.{no_room, bad_parcel}
use Rattle.volatile_memory.specs.Faults.Answer.{gives, refuses}
use Rattle.bitmap.specs.Pages.{spans, assigned}
use Rattle.parcel.specs.Parcels.{words, dirty_below, dirty_pages, parcel, due, taken, applied}
use Rattle.volatile_memory.specs.Calls.{write}
use Rattle.volatile_memory.specs.Memory.{part}
use Rattle.mirror.proofs.ExampleRun.{stands}
use Rattle.parcel_trials.specs.Worked.{two_stored, WorkedParcels, Worked}

module _ (x y : ℕ) (memory : List ℕ) (ten : length memory ≡ 10) where
  two_pages : dirty_pages (two_stored x y) memory ≡ 0 ∷ 2 ∷ []
  unfolding dirty_below assigned spans write
  two_pages = rw ten

  of_two : due (two_stored x y) memory ≡ parcel 4 memory (0 ∷ 2 ∷ [])
  unfolding assigned
  of_two = ap (parcel 4 memory) two_pages

  length_of_two : length (parcel 4 memory (0 ∷ 2 ∷ [])) ≡ 46
  unfolding parcel part
  length_of_two = simp (length-append, length-take, length-drop) (omega arith)

  length_is_46 : length (due (two_stored x y) memory) ≡ 46
  length_is_46 = ap length of_two ∙ length_of_two

  room_for_46 : taken (two_stored x y) memory 46 ≡ gives (due (two_stored x y) memory)
  unfolding taken assigned
  room_for_46 = rw (length_is_46, ten)

  room_for_45 : taken (two_stored x y) memory 45 ≡ refuses (no_room 46)
  unfolding taken assigned
  room_for_45 = rw (length_is_46, ten)

-- five numbers are 40 bytes and more
at_least_40 : (bytes : List ℕ) (n : ℕ) → n ≤ 40 → ltb (length (words (4 ∷ 2 ∷ 10 ∷ 2 ∷ 0 ∷ []) ++ bytes)) n ≡ false
at_least_40 bytes n few = le-ltb _ n (simp length-append (omega arith))

falling_pages : (copy bytes : List ℕ) → length copy ≡ 10 → applied copy (words (4 ∷ 2 ∷ 10 ∷ 2 ∷ 0 ∷ []) ++ bytes) ≡ refuses (bad_parcel 5 32)
unfolding applied part
falling_pages copy bytes ten = rw (at_least_40 bytes 24 (lit≤ tt), ten, at_least_40 bytes 40 (lit≤ tt))

pub worked_parcels : WorkedParcels
worked_parcels = record {
  two_pages = two_pages;
  length_is_46 = length_is_46;
  room_for_46 = room_for_46;
  room_for_45 = room_for_45;
  falling_pages = falling_pages;
}

pub worked : Worked
worked = record { parcels = worked_parcels; run = stands }
