-- An element's bytes in a memory.
use Rattle.std.proofs.Common.{◌≡◌, ℕ, ◌+◌, ◌-◌, ◌≤◌, eqb, List, ◌++◌, length, take, drop, Some, sym, ap, ◌∙◌, inl, inr, append-nil, arith}
use Rattle.std.proofs.lemmas.List.{drop_all, take_at}
use Rattle.std.proofs.lemmas.Bool.{cases_Bool, cond-true, cond-false, le-leb}
use Rattle.byte_valued.specs.Buffers.{laid, made_of}
use Rattle.volatile_memory.specs.Calls.{only, lays, unless_refused}
use Rattle.volatile_memory.specs.Faults.{Fault, Answer}
use Rattle.volatile_memory.specs.Faults.Answer.{gives, refuses}
use Rattle.volatile_memory.specs.Memory.{part}
use Rattle.volatile_memory.specs.Spans.{Span}
use Rattle.volatile_memory.proofs.LaidBytes.{part_of}

-- a value that was made is the one of the bytes
made_is : {X : Type 0} (z : ℕ) (f : List ℕ → X) (bs : List ℕ) (x : X) → Some x ≡ made_of z f bs → x ≡ f bs
made_is z f bs x is =
    elim (cases_Bool (eqb (length bs) z)) [
      | inl e ↦ let made = is ∙ cond-true _ _ _ e in cc
      | inr e ↦ let none = is ∙ cond-false _ _ _ e in cc
    ]

pub loaded : {X : Type 0} (z r : ℕ) (f : List ℕ → X) (memory : List ℕ) (at : ℕ) (x : X) → r ≡ z → Some x ≡ made_of z f (take (at + r - at) (drop at memory)) → x ≡ f (part memory at z)
loaded z r f memory at x is made = made_is z f _ x made ∙ ap f (part_of memory at r ∙ ap (part memory at) is)

-- bytes laid into a buffer of their length are all of it
pub laid-whole : (bs buf : List ℕ) → length buf ≡ length bs → laid bs buf ≡ bs
laid-whole bs buf same = cond-true _ _ _ (le-leb (length bs) (length buf) (omega arith)) ∙ ap (λ n. bs ++ n) (drop_all (length bs) buf (omega arith)) ∙ append-nil bs

-- and into a longer one, they are its start
pub laid_start : (bs buf : List ℕ) (k : ℕ) → length bs ≤ length buf → length bs ≡ k → take (k - 0) (laid bs buf) ≡ bs
laid_start bs buf k room is =
    let all : k - 0 ≡ k = omega arith in
    rw all (ap (take k) (cond-true _ _ _ (le-leb _ _ room)) ∙ take_at bs (drop (length bs) buf) k is)

-- an element that is stored, unless a check refuses it
module _ (v : Span) (o : ℕ) (bs : List ℕ) (check : Answer ℕ) where
  pub store_refused : (f : Fault) → refuses f ≡ check → unless_refused v o bs check ≡ only (refuses f)
  store_refused f is = ap (unless_refused v o bs) (sym is)

  pub store-lays : gives 0 ≡ check → unless_refused v o bs check ≡ lays v o bs (gives 0)
  store-lays is = ap (unless_refused v o bs) (sym is)
