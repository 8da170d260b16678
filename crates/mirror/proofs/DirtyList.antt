-- The list of the dirty pages below a number: it rises, and has just those pages.
use Rattle.std.proofs.Common.{◌≡◌, ℕ, zero, suc, ◌+◌, ◌<◌, ◌≤◌, Bool, true, false, cond, ◌&&◌, ◌||◌, eqb, ltb, List, [], ◌∷◌, ◌++◌, length, get_or, sym, refl, ap, ◌∙◌, inl, inr, arith}
use Rattle.std.proofs.lemmas.Bool.{and_from, lt-ltb, eqb-true, or_cases, both_ways}
use Rattle.std.proofs.lemmas.Bool.Decides.{nat_tests}
use Rattle.parcel.specs.Parcels.{dirty_below}
use Rattle.parcel.proofs.DirtyList.{dirty_next}
use Rattle.mirror.specs.Mirror.{Rising, Among}

-- numbers that rise, from low on and below n
abbrev pub Chain : ℕ → ℕ → List ℕ → Type 0
Chain low n [] = Unit {0}
Chain low n (q ∷ qs) = (low ≤ q) × (q < n) × Chain (q + 1) n qs

chain_more : (low n : ℕ) (qs : List ℕ) (b : Bool) → low ≤ n → Chain low n qs → Chain low (suc n) (qs ++ cond b (n ∷ []) [])
chain_more low n [] true h c = (h, omega arith, tt)
chain_more low n [] false h c = tt
chain_more low n (q ∷ qs) b h c = (c.0, omega arith, chain_more (q + 1) n qs b (omega arith) c.2)

pub dirty_chain : (d : ℕ → Bool) (n : ℕ) → Chain 0 n (dirty_below d n)
unfolding dirty_below
dirty_chain d zero = tt
dirty_chain d (suc n) = rw (dirty_next d n) (chain_more 0 n (dirty_below d n) (d n) (omega arith) (dirty_chain d n))

pub chain_count : (low n : ℕ) (qs : List ℕ) → low ≤ n → Chain low n qs → low + length qs ≤ n
chain_count low n [] h c = omega arith
chain_count low n (q ∷ qs) h c = omega (arith, chain_count (q + 1) n qs (omega arith) c.2)

chain_rises : (low n : ℕ) (qs : List ℕ) → Chain low n qs → Rising qs
chain_rises low n [] c i h = omega arith
chain_rises low n (q ∷ []) c i h = omega arith
chain_rises low n (q ∷ r ∷ qs) c zero h = omega arith
chain_rises low n (q ∷ r ∷ qs) c (suc i) h =
    let e : suc i + 1 ≡ suc (i + 1) = omega arith in rw e (chain_rises (q + 1) n (r ∷ qs) c.2 i (omega arith))

pub dirty_rises : (d : ℕ → Bool) (n : ℕ) → Rising (dirty_below d n)
dirty_rises d n = chain_rises 0 n (dirty_below d n) (dirty_chain d n)

-- q is one of these
abbrev pub has : ℕ → List ℕ → Bool
has q [] = false
has q (x ∷ xs) = eqb q x || has q xs

has_more : (q n : ℕ) (xs : List ℕ) (b : Bool) → has q (xs ++ cond b (n ∷ []) []) ≡ (has q xs || (eqb q n && b))
has_more q n [] b = grind (arith, nat_tests)
has_more q n (x ∷ xs) b = let ih = has_more q n xs b in grind (arith, nat_tests)

pub dirty_has : (d : ℕ → Bool) (n q : ℕ) → has q (dirty_below d n) ≡ (ltb q n && d q)
unfolding dirty_below
dirty_has d zero q = grind (arith, nat_tests)
dirty_has d (suc n) q = let next = ap (has q) (dirty_next d n) in let e = has_more q n (dirty_below d n) (d n) in let ih = dirty_has d n q in grind (arith, nat_tests)

among_has : (q : ℕ) (xs : List ℕ) (i : ℕ) → i < length xs → get_or xs i 0 ≡ q → has q xs ≡ true
among_has q [] i h e = absurd (omega arith)
among_has q (x ∷ xs) zero h e = grind (arith, nat_tests)
among_has q (x ∷ xs) (suc i) h e = let ih = among_has q xs i (omega arith) e in grind (arith, nat_tests)

has_among : (q : ℕ) (xs : List ℕ) → has q xs ≡ true → Among q xs
has_among q [] h = absurd (both_ways false refl h)
has_among q (x ∷ xs) h =
    elim (or_cases (eqb q x) (has q xs) h) [
      | inl e ↦ (0, omega arith, sym (eqb-true q x e))
      | inr e ↦ let (i, h, is) = has_among q xs e in (suc i, omega arith, is)
    ]

pub dirty_from_among : (d : ℕ → Bool) (n q : ℕ) → Among q (dirty_below d n) → (q < n) × (d q ≡ true)
dirty_from_among d n q a =
    let listed = among_has q (dirty_below d n) a.0 a.1 a.2 in
    let known = dirty_has d n q in
    (grind (arith, nat_tests), grind (arith, nat_tests))

pub among_from_dirty : (d : ℕ → Bool) (n q : ℕ) → q < n → d q ≡ true → Among q (dirty_below d n)
among_from_dirty d n q h e = has_among q (dirty_below d n) (dirty_has d n q ∙ and_from _ _ (lt-ltb q n h) e)
