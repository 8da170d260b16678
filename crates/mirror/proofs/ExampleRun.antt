-- The example run is legal, and its parcel, its memory and its copy are computed.
use Rattle.std.proofs.Common.{ℕ, ◌+◌, ◌≤◌, refl, inl, inr, arith}
use Rattle.std.proofs.lemmas.Bool.Decides.{nat_tests}
use Rattle.bitmap.specs.Pages.{spans, assigned}
use Rattle.volatile_memory.specs.Memory.{part, overlaid}
use Rattle.volatile_memory.specs.Calls.{write, store}
use Rattle.parcel.specs.Parcels.{dirty_below, parcel, taken, swept, applied}
use Rattle.mirror.specs.Runs.{Fresh, Rooted, Legal}
use Rattle.mirror.specs.Mirror.{Inside}
use Rattle.mirror.specs.Example.{zeros, view, after_parcel, Stands}

fresh : Fresh zeros
fresh = record { same = refl; clean = λ q. grind (arith, nat_tests); covers = refl; unclaimed = refl }

rooted : (place size : ℕ) → place + size ≤ 10 → Rooted (view place size)
rooted place size inside = record { marks = refl; ends = omega arith }

legal : Legal after_parcel
legal = (((((fresh, rooted 0 10 (omega arith)), rooted 8 2 (omega arith)), omega arith), omega arith), tt)

-- where nothing is laid, nothing is laid over
nowhere : (x : ℕ) → Inside 0 0 x → Inside 2 2 x → ⊥
nowhere x at there = omega arith

pub stands : Stands
unfolding part overlaid spans assigned write store dirty_below parcel taken swept applied
stands =
    record {
      legal = legal;
      fits = record { long = omega arith; page = omega arith; paged = omega arith };
      behind = refl;
      unclaimed = refl;
      whole = inr (inr (inr (inl (omega arith, omega arith, refl), nowhere), λ x at there. omega arith), nowhere);
      parcel = refl;
      page_numbers = refl;
      memory = refl;
      copy = refl;
      all_clean = λ q. grind (arith, nat_tests);
    }
