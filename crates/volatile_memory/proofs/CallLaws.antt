-- What the calls that touch memory do, case by case.
use Rattle.std.proofs.Common.{◌≡◌, ℕ, ◌+◌, ◌<◌, ◌≤◌, min, Bool, true, cond, eqb, ltb, List, [], length, take, sym, ap, ◌∙◌, inl, inr, arith}
use Rattle.std.proofs.lemmas.Bool.{cases_Bool, le-ltb, cond-true, cond-false, ne_eqb}
use Rattle.std.proofs.lemmas.Bool.Decides.{nat_tests}
use Rattle.bitmap.specs.Pages.{Meaning, place, spans, assigned, marked, with_bits}
use Rattle.volatile_memory.specs.Calls.{Done, only, lays, moves, laid_at, whole, atomic_at, reference_at, guards, write, fetched, in_memory, unless_refused, copy_from, copies, copied, after_source, copy_volatile}
use Rattle.volatile_memory.specs.Faults.{Fault, Answer, foreign}
use Rattle.volatile_memory.specs.Faults.Answer.{gives, refuses}
use Rattle.volatile_memory.specs.Memory.{part, overlaid, joined, elements}
use Rattle.volatile_memory.specs.Spans.{Span, count}
use Rattle.volatile_memory.proofs.LaidBytes.{overlaid_nil, overlaid-part, length_part}

no_page : (page count start n : ℕ) (bit : Bool) → bit ≡ cond (spans page count start 0 n) true bit
unfolding spans
no_page page count start n bit = grind (arith, nat_tests)

-- a mark of no bytes marks nothing
marked_nothing : (b : Meaning) (offset : ℕ) → b ≡ marked b offset 0
unfolding assigned
marked_nothing b offset i = with_bits b (λ n. no_page b.page b.count (place b offset) n (b.bit n) i)

-- nothing laid and nothing marked leaves all as it was
pub did_nothing : (m : List ℕ) (b : Meaning) → (m ≡ overlaid m 0 []) × (b ≡ marked b 0 0)
did_nothing m b = (sym (overlaid_nil m), marked_nothing b 0)

-- the memory was found to hold the view
pub found_in_memory : (v : Span) (memory : ℕ) → gives 0 ≡ in_memory v memory → v.start + v.size ≤ memory
found_in_memory v memory is = grind (arith, nat_tests)

-- an answer where the memory is looked at first
abbrev pub checked : {X : Type 0} → Span → ℕ → Answer X → Answer X
checked v memory rest = cond (ltb memory (v.start + v.size)) (refuses (foreign (v.start + v.size) memory)) rest

module _ {X : Type 0} (v : Span) (memory : ℕ) (rest : Answer X) where
  -- a memory that does not hold the view is refused, whatever else is asked
  pub foreign_first : (f : Fault) → refuses f ≡ in_memory v memory → refuses f ≡ checked v memory rest
  foreign_first f is = elim (cases_Bool (ltb memory (v.start + v.size))) [
    | inl e ↦ let same : f ≡ foreign (v.start + v.size) memory = let it = is ∙ cond-true _ _ _ e in cc in ap refuses same ∙ sym (cond-true _ _ _ e)
    | inr e ↦ let clash = is ∙ cond-false _ _ _ e in cc
  ]

  -- a memory that holds the view is refused for nothing of its own
  pub held_first : gives 0 ≡ in_memory v memory → rest ≡ checked v memory rest
  held_first is = sym (cond-false _ _ _ (le-ltb memory (v.start + v.size) (found_in_memory v memory is)))

module _ (v : Span) (m : List ℕ) (at : ℕ × ℕ) where
  -- a guard is refused as the memory is
  pub guard_refused : (f : Fault) → refuses f ≡ guards v m at → refuses f ≡ in_memory v (length m)
  guard_refused f is = elim (cases_Bool (ltb (length m) (v.start + v.size))) [
    | inl e ↦ let same : f ≡ foreign (v.start + v.size) (length m) = let it = is ∙ cond-true _ _ _ e in cc in ap refuses same ∙ sym (cond-true _ _ _ e)
    | inr e ↦ let clash = is ∙ cond-false _ _ _ e in cc
  ]

  -- and else it is the view's part of the memory
  pub guarded : (bs : List ℕ) (p : ℕ × ℕ) → gives (bs, p) ≡ guards v m at → (gives 0 ≡ in_memory v (length m)) × (bs ≡ part m v.start v.size) × (length bs ≡ v.size)
  guarded bs p is = elim (cases_Bool (ltb (length m) (v.start + v.size))) [
    | inl e ↦ let clash = is ∙ cond-true _ _ _ e in cc
    | inr e ↦
        let held : gives 0 ≡ in_memory v (length m) = sym (cond-false _ _ _ e) in
        let both : ◌≡◌ {A = List ℕ × (ℕ × ℕ)} (bs, p) (part m v.start v.size, (at.0, v.start + at.1)) = let it = is ∙ cond-false _ _ _ e in cc in
        let same : bs ≡ part m v.start v.size = ap (λ q. q.0) both in
        let all : length (part m v.start v.size) ≡ v.size = omega (arith, length_part m v.start v.size, found_in_memory v (length m) held) in
        (held, same, ap length same ∙ all)
  ]

-- what is moved fits
pub moved_fits : (v : Span) (memory n addr k : ℕ) → gives k ≡ moves v memory n addr → 0 < k → (addr + k ≤ v.size) × (v.start + v.size ≤ memory) × (k ≤ n)
moved_fits v memory n addr k is some = grind (arith, nat_tests)

-- an atomic access is within the memory
pub atomic_fits : (v : Span) (memory z addr : ℕ) → gives 0 ≡ atomic_at v memory z addr → v.start + addr + z ≤ memory
atomic_fits v memory z addr is = grind (arith, nat_tests)

-- a reference's element is within the memory
pub room_fits : (v : Span) (memory z : ℕ) → gives 0 ≡ reference_at v memory z → v.start + z ≤ memory
room_fits v memory z is = grind (arith, nat_tests)

module _ (v : Span) (memory : ℕ) (buf : List ℕ) (addr : ℕ) where
  pub write_refused : (f : Fault) → refuses f ≡ moves v memory (length buf) addr → write v memory buf addr ≡ only (refuses f)
  unfolding write
  write_refused f is = ap (laid_at v buf addr) (sym is)

  pub write_nothing : (k : ℕ) → gives k ≡ moves v memory (length buf) addr → k ≤ 0 → write v memory buf addr ≡ only (gives k)
  unfolding write
  write_nothing k is none = let zero : k ≡ 0 = omega arith in ap (laid_at v buf addr) (sym is) ∙ rw zero

  pub write_some : (k : ℕ) → gives k ≡ moves v memory (length buf) addr → 0 < k → write v memory buf addr ≡ lays v addr (take k buf) (gives k)
  unfolding write
  write_some k is some = ap (laid_at v buf addr) (sym is) ∙ cond-false (eqb k 0) _ _ (ne_eqb k 0 (omega arith))

-- where all that was asked for is moved, all of it fits
pub whole_fits : (v : Span) (memory n addr k : ℕ) → gives k ≡ moves v memory n addr → gives 0 ≡ whole n (gives k) → 0 < n → v.start + addr + n ≤ memory
whole_fits v memory n addr k is all some = grind (arith, nat_tests)

module _ (v : Span) (memory buf : List ℕ) (addr : ℕ) where
  pub fetched_refused : (f : Fault) → refuses f ≡ moves v (length memory) (length buf) addr → buf ≡ fetched v memory buf addr
  unfolding fetched
  fetched_refused f is = rw (← is) (sym (overlaid-part memory buf (v.start + addr)))

  pub fetched_some : (k : ℕ) → gives k ≡ moves v (length memory) (length buf) addr → fetched v memory buf addr ≡ overlaid buf 0 (part memory (v.start + addr) k)
  unfolding fetched
  fetched_some k is = rw (← is)

  pub fetched_nothing : (k : ℕ) → gives k ≡ moves v (length memory) (length buf) addr → k ≤ 0 → buf ≡ fetched v memory buf addr
  fetched_nothing k is none =
      let zero : k ≡ 0 = omega arith in
      rw (fetched_some k is, zero) (sym (overlaid-part memory buf (v.start + addr)))

module _ (v : Span) (memory z : ℕ) (xs : List (List ℕ)) where
  pub copy_from_refused : (f : Fault) → refuses f ≡ in_memory v memory → copy_from v memory z xs ≡ only (refuses f)
  unfolding copy_from
  copy_from_refused f is = ap (unless_refused v 0 (joined (take (count v z) xs))) (sym is)

  pub copy_from_lays : gives 0 ≡ in_memory v memory → copy_from v memory z xs ≡ lays v 0 (joined (take (count v z) xs)) (gives 0)
  unfolding copy_from
  copy_from_lays is = ap (unless_refused v 0 (joined (take (count v z) xs))) (sym is)

-- where the memory holds the view, that many elements are copied
pub copies_refused : (v : Span) (memory z n : ℕ) (f : Fault) → refuses f ≡ in_memory v memory → refuses f ≡ copies v memory z n
copies_refused v memory z n = foreign_first v memory _

pub copies_some : (v : Span) (memory z n k : ℕ) → k ≡ min n (count v z) → gives 0 ≡ in_memory v memory → gives k ≡ copies v memory z n
copies_some v memory z n k most is = ap gives most ∙ sym (cond-false _ _ _ (le-ltb memory (v.start + v.size) (found_in_memory v memory is)))

module _ {X : Type 0} (value : List ℕ → X) (v : Span) (memory : List ℕ) (z : ℕ) (buf : List X) where
  pub copied_refused : (f : Fault) → refuses f ≡ copies v (length memory) z (length buf) → buf ≡ copied value v memory z buf
  unfolding copied
  copied_refused f is = rw (← is) (sym (overlaid_nil buf))

  pub copied_some : (k : ℕ) → gives k ≡ copies v (length memory) z (length buf) → copied value v memory z buf ≡ overlaid buf 0 (elements value z memory v.start k)
  unfolding copied
  copied_some k is = rw (← is)

module _ (u : Span) (source : List ℕ) (v : Span) (memory : ℕ) where
  carried : Done
  carried = unless_refused v 0 (part source u.start (min u.size v.size)) (in_memory v memory)

  pub copy_volatile_source : (f : Fault) → refuses f ≡ in_memory u (length source) → copy_volatile u source v memory ≡ only (refuses f)
  unfolding copy_volatile carried
  copy_volatile_source f is = ap (λ a. after_source a carried) (sym is)

  pub copy_volatile_target : (f : Fault) → gives 0 ≡ in_memory u (length source) → refuses f ≡ in_memory v memory → copy_volatile u source v memory ≡ only (refuses f)
  unfolding copy_volatile carried
  copy_volatile_target f held is = ap (λ a. after_source a carried) (sym held) ∙ ap (unless_refused v 0 (part source u.start (min u.size v.size))) (sym is)

  pub copy_volatile_lays : gives 0 ≡ in_memory u (length source) → gives 0 ≡ in_memory v memory → copy_volatile u source v memory ≡ lays v 0 (part source u.start (min u.size v.size)) (gives 0)
  unfolding copy_volatile carried
  copy_volatile_lays held is = ap (λ a. after_source a carried) (sym held) ∙ ap (unless_refused v 0 (part source u.start (min u.size v.size))) (sym is)
