-- A refresh: a parcel is taken, applied to the copy, and an element is loaded there. Assumes nothing.
use Rattle.std.specs.Prelude.{◌≡◌, ℕ, ◌≤◌, List, [], length}
use Rattle.bitmap.specs.Pages.{Meaning}
use Rattle.volatile_memory.specs.Faults.{Answer}
use Rattle.volatile_memory.specs.Faults.Answer.{gives, refuses}
use Rattle.volatile_memory.specs.Spans.{Span}
use Rattle.parcel.specs.Parcels.{dirty_pages, taken, applied, unless}
use Rattle.parcel.specs.Outcomes.{told, kept}
use Rattle.mirror.specs.Runs.{Run, state, onto}
use Rattle.mirror.specs.Runs.Call.{takes}
use Rattle.mirror.specs.Runs.Run.{then}
use Rattle.mirror.specs.Mirror.{Law, LiesWhole, due_after}
use Rattle.mirror.specs.Program.{LeadsTo}

-- both answers, or the first refusal
abbrev pub both : {X Y : Type 0} → Answer X → Answer Y → Answer (X × Y)
both (gives x) (gives y) = gives (x, y)
both (gives x) (refuses f) = refuses f
both (refuses f) a = refuses f

-- the copy after a refresh with room for so many bytes
abbrev pub copy_then : Meaning → List ℕ → ℕ → List ℕ → List ℕ
copy_then b memory room copy = kept copy (onto copy (taken b memory room))

-- what a refresh answers: the parcel's length and pages with what is loaded, or the first refusal, of the taking, of the applying, or of the load
abbrev pub refreshes : {X : Type 0} → (List ℕ → Answer X) → Meaning → List ℕ → ℕ → List ℕ → Answer ((ℕ × ℕ) × X)
refreshes load b memory room copy =
    both (told (length (dirty_pages b memory)) (taken b memory room)) (unless (onto copy (taken b memory room)) (load (copy_then b memory room copy)))

-- the law of the copy, at a refresh after a run: with room for so many bytes, it left this bitmap and this copy and gave this answer
pub record Mirrors {X : Type 0} (size : ℕ) (bytes : X → List ℕ) (Holds : X → Type 0) (v : Span) (r : Run) (room : ℕ) (b : Meaning) (copy : List ℕ) (answer : Answer ((ℕ × ℕ) × X)) : Type 0 where
  pub law : Law r
  -- the run goes on with this taking
  pub next : LeadsTo (state r).memory b copy (then r (takes room))
  -- with room, the parcel is accepted, and the copy is the one with it
  pub accepted : length (due_after r) ≤ room → applied (state r).copy (due_after r) ≡ gives copy
  -- with no claim open, that copy equals the memory
  pub equal : length (due_after r) ≤ room → (state r).claims ≡ [] → copy ≡ (state r).memory
  -- and an element that was stored whole where a reference of its size lies, and not stored over, is loaded as it was stored
  pub loads : length (due_after r) ≤ room → (state r).claims ≡ [] → v.size ≡ size → (x : X) → Holds x → LiesWhole r v.start (bytes x)
      → answer ≡ gives ((length (due_after r), length (dirty_pages (state r).bitmap (state r).memory)), x)
