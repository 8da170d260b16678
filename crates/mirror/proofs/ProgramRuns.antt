-- A program's calls are the calls of a run.
use Rattle.std.proofs.Common.{◌≡◌, ℕ, List, [], ◌∷◌, map, length, sym, refl, ◌∙◌}
use Rattle.std.specs.List.{AllByRecursion}
use Rattle.volatile_memory.proofs.LaidBytes.{overlaid_nil}
use Rattle.mirror.specs.Program.{Begins, AllGoOn, RefusalsStoreNothing, MakesRuns}
use Rattle.mirror.proofs.FittingCalls.{store_in_view, refused_stores}

begins : Begins
begins memory b clean covers = record { legal = record { same = refl; clean = clean; covers = covers; unclaimed = refl }; memory_is = refl; bitmap_is = refl; copy_is = refl }

goes_on : AllGoOn
goes_on memory b copy r l =
    record {
      stored = λ c proper memory' b' did.
          record { legal = (l.legal, proper); memory_is = rw l.memory_is (sym did.0); bitmap_is = rw (l.memory_is, l.bitmap_is) (sym did.1); copy_is = l.copy_is };
      opened = λ v rooted. record { legal = (l.legal, rooted); memory_is = overlaid_nil _ ∙ l.memory_is; bitmap_is = l.bitmap_is; copy_is = l.copy_is };
      put = λ i opened buf addr. record { legal = (l.legal, opened); memory_is = rw l.memory_is; bitmap_is = l.bitmap_is; copy_is = l.copy_is };
      closed = λ i opened. record { legal = (l.legal, opened); memory_is = overlaid_nil _ ∙ l.memory_is; bitmap_is = rw l.bitmap_is; copy_is = l.copy_is };
      sent = λ room. record { legal = (l.legal, tt); memory_is = overlaid_nil _ ∙ l.memory_is; bitmap_is = rw (l.memory_is, l.bitmap_is); copy_is = rw (l.memory_is, l.bitmap_is, l.copy_is) };
    }

refusals : RefusalsStoreNothing
refusals c proper memory f refused = refused_stores (store_in_view c memory proper) f refused

-- the bytes of elements of one kind are of one length
all_sized : {X : Type 0} (size : ℕ) (bytes : X → List ℕ) → ((x : X) → length (bytes x) ≡ size) → (xs : List X) → AllByRecursion (λ bs. length bs ≡ size) (map bytes xs)
all_sized size bytes each [] = tt
all_sized size bytes each (x ∷ xs) = (each x, all_sized size bytes each xs)

pub calls_make_runs : {X : Type 0} (size : ℕ) (bytes : X → List ℕ) → ((x : X) → length (bytes x) ≡ size) → MakesRuns size bytes
calls_make_runs size bytes each =
    record { views = λ v. record { marks = v.marks; ends = v.ends }; elements = all_sized size bytes each; begins = begins; goes_on = goes_on; refusals = refusals }
