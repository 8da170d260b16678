-- Taking, by its steps. Assumes nothing.
use Rattle.std.proofs.Common.{◌≡◌, ℕ, zero, suc, ◌+◌, ◌-◌, ◌/◌, ◌<◌, ◌≤◌, min, true, false, cond, eqb, ltb, leb, List, length, sym, refl, ap, ◌∙◌, inl, inr, arith}
use native.Mathlib.Nat.{add-div_right}
use Rattle.std.proofs.lemmas.Nat.{div_below}
use Rattle.std.proofs.lemmas.Bool.{cases_Bool, cond-true, cond-false, and_parts, leb-true, eqb-true, le-ltb, lt-ltb, not_from_true, not_from_false}
use Rattle.std.proofs.lemmas.Bool.Decides.{nat_tests}
use Rattle.bitmap.specs.Pages.{Meaning, top, ceiling, place, spans, cleaned}
use Rattle.bitmap.proofs.PageLaws.{assigned_by}
use Rattle.volatile_memory.specs.Faults.{Fault, Answer, uncovered, no_room}
use Rattle.volatile_memory.specs.Faults.Answer.{gives, refuses}
use Rattle.parcel.specs.Parcels.{pages, due, covered, taken, swept}
use Rattle.parcel.specs.Outcomes.{told, left}
use Rattle.parcel.specs.Rules.{cover}
use Rattle.parcel.proofs.Refusals.{gives-refuses}

module _ (b : Meaning) (memory : List ℕ) where
  -- a bitmap that has every page
  cover_tells : gives 0 ≡ cover b memory → covered b memory ≡ true
  cover_tells is =
      elim (cases_Bool (covered b memory)) [
        | inl e ↦ e
        | inr e ↦ absurd (gives-refuses (is ∙ cond-false _ _ _ e))
      ]

  module _ (room : ℕ) where
    pub taken-uncovered : (f : Fault) → refuses f ≡ cover b memory → taken b memory room ≡ refuses f
    unfolding taken
    taken-uncovered f is =
        elim (cases_Bool (covered b memory)) [
          | inl e ↦ absurd (gives-refuses (sym (is ∙ cond-true _ _ _ e)))
          | inr e ↦ let same = is ∙ cond-false _ _ _ e in let g : f ≡ uncovered (pages (length memory) b.page) b.count = cc in cond-true _ _ _ (not_from_false _ e) ∙ ap refuses (sym g)
        ]

    -- past the cover, the room decides
    past_cover : gives 0 ≡ cover b memory → taken b memory room ≡ cond (ltb room (length (due b memory))) (refuses (no_room (min (length (due b memory)) top))) (gives (due b memory))
    unfolding taken
    past_cover is = cond-false _ _ _ (not_from_true _ (cover_tells is))

    -- by the length that was told, of a buffer that is no longer than the largest number
    module _ (covers : gives 0 ≡ cover b memory) (n : ℕ) (n_is : n ≡ min (length (due b memory)) top) (fits : room < top) where
      pub taken_short : room < n → taken b memory room ≡ refuses (no_room n)
      taken_short short =
          past_cover covers ∙ cond-true _ _ _ (lt-ltb room (length (due b memory)) (omega arith)) ∙ ap (λ m. refuses (no_room m)) (sym n_is)

      pub all_told : n ≤ room → n ≡ length (due b memory)
      all_told long = omega arith

      pub taken_gives : n ≤ room → taken b memory room ≡ gives (due b memory)
      taken_gives long = past_cover covers ∙ cond-false _ _ _ (le-ltb room (length (due b memory)) (omega arith))

    -- a bitmap that a parcel was taken by had every page
    pub told_covered : (k : ℕ) (x : ℕ × ℕ) → gives x ≡ told k (taken b memory room) → covered b memory ≡ true
    unfolding taken
    told_covered k x is =
        elim (cases_Bool (covered b memory)) [
          | inl e ↦ e
          | inr e ↦ absurd (gives-refuses (is ∙ ap (told k) (cond-true _ _ _ (not_from_false _ e))))
        ]

  -- what is left of a bitmap, by what was told
  pub left_alone : (k : ℕ) (t : Answer (List ℕ)) (f : Fault) → refuses f ≡ told k t → left b memory t ≡ b
  left_alone k (gives bs) f is = absurd (gives-refuses (sym is))
  left_alone k (refuses g) f is = refl

  pub left_swept : (k : ℕ) (t : Answer (List ℕ)) (x : ℕ × ℕ) → gives x ≡ told k t → left b memory t ≡ swept b memory
  left_swept k (gives bs) x is = refl
  left_swept k (refuses g) x is = absurd (gives-refuses is)

-- the pages of a whole memory, from its first byte to its last
all_pages : (p count n m : ℕ) → 0 < p → n ≤ top → ceiling n p ≤ count → spans p count 0 n m ≡ ltb m (ceiling n p)
unfolding spans
all_pages p count zero m some fits enough =
    let none = div_below (0 + (p - 1)) p 1 some (omega arith) in
    grind (arith, nat_tests)
all_pages p count (suc n) m some fits enough =
    let e : suc n + (p - 1) ≡ n + p = omega arith in
    let last : min (0 + suc n - 1) top ≡ n = omega arith in
    let first : 0 / p ≤ 0 = omega (arith, div_below 0 p 1 some (omega arith)) in
    let next : ceiling (suc n) p ≡ n / p + 1 = rw e (add-div_right n some ∙ omega arith) in
    rw (next, last) (grind (arith, nat_tests))

-- a range from the first byte to the last makes the memory's pages clean
pub swept-cleaned : (b : Meaning) (memory : List ℕ) → 0 < b.page → covered b memory ≡ true → length memory ≤ top → cleaned b 0 (length memory) ≡ swept b memory
unfolding swept
swept-cleaned b memory some covers fits =
    let (from_start, has_pages) = and_parts (eqb b.base 0) (leb (pages (length memory) b.page) b.count) covers in
    let start = eqb-true b.base 0 from_start in
    let enough = leb-true (pages (length memory) b.page) b.count has_pages in
    let here : place b 0 ≡ 0 = omega arith in
    sym (assigned_by b false 0 (length memory) (λ m. cond (ltb m (pages (length memory) b.page)) false (b.bit m)) λ m.
    ap (λ t. cond t false (b.bit m)) (sym (ap (λ at. spans b.page b.count at (length memory) m) here ∙ all_pages b.page b.count (length memory) m some fits enough)))
