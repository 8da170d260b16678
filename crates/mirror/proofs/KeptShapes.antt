-- What no call changes: the memory's length, and the bitmap's page size, page count and mark base.
use Rattle.std.proofs.Common.{◌≡◌, ℕ, Bool, true, List, length, refl}
use Rattle.bitmap.specs.Pages.{Meaning, with_bits, assigned}
use Rattle.volatile_memory.specs.Faults.{Answer}
use Rattle.volatile_memory.specs.Faults.Answer.{gives, refuses}
use Rattle.parcel.specs.Parcels.{covered, taken, swept}
use Rattle.parcel.specs.Outcomes.{left}
use Rattle.mirror.specs.Runs.{Call, State, Proper, Fits, memory_after, bitmap_after}
use Rattle.mirror.specs.Runs.Call.{stores, opens, puts, settles, takes}
use Rattle.mirror.proofs.BytePlaces.{length-overlaid}
use Rattle.mirror.proofs.FittingCalls.{lays_inside}

-- the same bitmap, but for its bits
pub record SameShape (b b' : Meaning) : Type 0 where
  pub page : b'.page ≡ b.page
  pub count : b'.count ≡ b.count
  pub base : b'.base ≡ b.base

same : {b : Meaning} (f : ℕ → Bool) → SameShape b (with_bits b f)
same f = record { page = refl; count = refl; base = refl }

left_shape : (b : Meaning) (memory : List ℕ) (a : Answer (List ℕ)) → SameShape b (left b memory a)
unfolding swept
left_shape b memory (gives bs) = same _
left_shape b memory (refuses f) = same _

pub kept_shape : (c : Call) (s : State) → SameShape s.bitmap (bitmap_after c s)
unfolding assigned
kept_shape (stores c) s = same _
kept_shape (opens v) s = same _
kept_shape (puts i buf addr) s = same _
kept_shape (settles i) s = same _
kept_shape (takes room) s = left_shape s.bitmap s.memory (taken s.bitmap s.memory room)

module _ (c : Call) (s : State) (proper : Proper c s) where
  pub kept-length : length (memory_after c s) ≡ length s.memory
  kept-length = length-overlaid s.memory _ _ (lays_inside c s proper)

  pub kept_covers : covered s.bitmap s.memory ≡ true → covered (bitmap_after c s) (memory_after c s) ≡ true
  kept_covers covers = let shape = kept_shape c s in rw (shape.page, shape.count, shape.base, kept-length) covers

  -- so what fits after a call did so before
  pub fits_before : Fits (memory_after c s) (bitmap_after c s) → Fits s.memory s.bitmap
  fits_before fits =
      let shape = kept_shape c s in
      record { long = rw kept-length at fits.long; page = rw shape.page at fits.page; paged = rw shape.page at fits.paged }
