-- The law of the copy at a refresh.
use Rattle.std.proofs.Common.{◌≡◌, ℕ, ◌≤◌, List, length, sym, refl, ap, ◌∙◌}
use Rattle.bitmap.specs.Pages.{Meaning}
use Rattle.volatile_memory.specs.Faults.{Answer}
use Rattle.volatile_memory.specs.Faults.Answer.{gives, refuses}
use Rattle.volatile_memory.specs.Spans.{Span}
use Rattle.volatile_memory.specs.Calls.{loads}
use Rattle.volatile_memory.proofs.LaidBytes.{overlaid_nil}
use Rattle.parcel.specs.Parcels.{taken}
use Rattle.parcel.specs.Outcomes.{left}
use Rattle.parcel.proofs.Refusals.{gives-refuses}
use Rattle.mirror.specs.Runs.{Run, Legal, Fits, state}
use Rattle.mirror.specs.Mirror.{Exact, Law, load_ref, due_after, taken_after}
use Rattle.mirror.specs.Program.{LeadsTo}
use Rattle.mirror.specs.Refresh.{copy_then, refreshes, Mirrors}
use Rattle.mirror.proofs.LawOverRuns.{law_run}

-- what is loaded as bytes is loaded as their value
loads_value : {X : Type 0} (value : List ℕ → X) (a : Answer ℕ) (bs es : List ℕ) → loads a bs ≡ gives es → loads a (value bs) ≡ gives (value es)
loads_value value (gives k) bs es e = let same : bs ≡ es = cc in ap (λ b. gives (value b)) same
loads_value value (refuses f) bs es e = absurd (gives-refuses (sym e))

-- a kind of element: what its bytes and values are, and its laws
pub record Kind (X : Type 0) : Type 1 where
  pub size : ℕ
  pub value : List ℕ → X
  pub bytes : X → List ℕ
  pub Holds : X → Type 0
  pub sized : (x : X) → length (bytes x) ≡ size
  pub again : (x : X) → Holds x → value (bytes x) ≡ x

module _ {X : Type 0} (k : Kind X) where
  -- an element that is loaded by its bytes
  loads_element : (v : Span) (copy : List ℕ) (x : X) → k.Holds x → load_ref (length (k.bytes x)) (λ bs. bs) v copy ≡ gives (k.bytes x) → load_ref k.size k.value v copy ≡ gives x
  loads_element v copy x holds is = rw (← k.sized x) (loads_value k.value _ _ _ is ∙ ap gives (k.again x holds))

  pub mirrors : (v : Span) (r : Run) (room : ℕ) → Legal r → Fits (state r).memory (state r).bitmap
      → Mirrors k.size k.bytes k.Holds v r room (left (state r).bitmap (state r).memory (taken (state r).bitmap (state r).memory room)) (copy_then (state r).bitmap (state r).memory room (state r).copy) (refreshes (load_ref k.size k.value v) (state r).bitmap (state r).memory room (state r).copy)
  mirrors v r room legal fits =
      record {
        law = law;
        next = record { legal = (legal, tt); memory_is = overlaid_nil (state r).memory; bitmap_is = refl; copy_is = refl };
        accepted = λ most. rw (given most, (exact most).accepted);
        equal = λ most unclaimed. rw (given most, (exact most).accepted) ((exact most).equal unclaimed);
        loads = λ most unclaimed as_large x holds whole.
            let e = exact most in
            let l = loads_element v e.copy x holds (e.loads unclaimed v (k.bytes x) (as_large ∙ sym (k.sized x)) whole) in
            rw (given most, e.accepted, l);
      }
    where
      law : Law r
      law = law_run r legal fits

      given : length (due_after r) ≤ room → taken_after r room ≡ gives (due_after r)
      given most = law.given room most

      exact : length (due_after r) ≤ room → Exact r (due_after r)
      exact most = law.exact room _ (given most)

  -- so it holds of what a refresh did to a memory, a bitmap and a copy, at any run that led to them
  pub law_at : (v : Span) (memory : List ℕ) (b : Meaning) (copy : List ℕ) (room : ℕ) → Fits memory b → (b' : Meaning) (copy' : List ℕ) (a : Answer ((ℕ × ℕ) × X))
      → b' ≡ left b memory (taken b memory room) → copy' ≡ copy_then b memory room copy → a ≡ refreshes (load_ref k.size k.value v) b memory room copy
      → (r : Run) → LeadsTo memory b copy r → Mirrors k.size k.bytes k.Holds v r room b' copy' a
  law_at v memory b copy room fits b' copy' a left_is copy_is answer_is r l =
      let there : Fits (state r).memory (state r).bitmap = rw (l.memory_is, l.bitmap_is) fits in
      rw (left_is, copy_is, answer_is, ← l.memory_is, ← l.bitmap_is, ← l.copy_is) (mirrors v r room l.legal there)
