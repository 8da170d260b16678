-- The numbers of a range that pass a test. Assumes nothing.
use Rattle.std.proofs.Common.{◌≡◌, ℕ, zero, suc, ◌+◌, ◌-◌, ◌<◌, ◌≤◌, Bool, false, not, ◌&&◌, ltb, leb, [], ◌∷◌, ◌++◌, filter, sym, refl, ap, ◌∙◌, inl, inr, append-nil, arith}
use Rattle.std.specs.List.{range_with_len}
use Rattle.std.proofs.lemmas.Bool.{cases_lt}
use Rattle.std.proofs.lemmas.Bool.Decides.{nat_tests}
use Rattle.std.proofs.lemmas.List.Elements.{filter-append}
use Rattle.monitor.specs.Marks.{those}

-- a range in two parts
range-plus : (a m n : ℕ) → range_with_len a (m + n) ≡ range_with_len a m ++ range_with_len (a + m) n
range-plus a zero n =
    let none : 0 + n ≡ n = omega arith in
    let start : a ≡ a + 0 = omega arith in
    ap (range_with_len a) none ∙ ap (λ k. range_with_len k n) start
range-plus a (suc m) n =
    let more : suc m + n ≡ suc (m + n) = omega arith in
    let start : a + 1 + m ≡ a + suc m = omega arith in
    ap (range_with_len a) more ∙ ap (λ l. a ∷ l) (range-plus (a + 1) m n ∙ ap (λ k. range_with_len (a + 1) m ++ range_with_len k n) start)

-- where two tests agree on a range
pub range_same : (p q : ℕ → Bool) (a n : ℕ) → ((k : ℕ) → a ≤ k → k < a + n → p k ≡ q k) → filter p (range_with_len a n) ≡ filter q (range_with_len a n)
range_same p q a zero h = refl
range_same p q a (suc n) h = rw (h a (omega arith) (omega arith), range_same p q (a + 1) n (λ k from to. h k (omega arith) (omega arith)))

-- none of a range passes
range_none : (p : ℕ → Bool) (a n : ℕ) → ((k : ℕ) → a ≤ k → k < a + n → p k ≡ false) → filter p (range_with_len a n) ≡ []
range_none p a zero h = refl
range_none p a (suc n) h = rw (h a (omega arith) (omega arith)) (range_none p (a + 1) n (λ k from to. h k (omega arith) (omega arith)))

pub those_same : (p q : ℕ → Bool) (n : ℕ) → ((k : ℕ) → k < n → p k ≡ q k) → those p n ≡ those q n
those_same p q n h = range_same p q 0 n (λ k from to. h k (omega arith))

-- those of a range that fail a test
module _ (first end : ℕ) (d : ℕ → Bool) where
  abbrev pub between : ℕ → Bool
  between n = (leb first n && ltb n end) && not (d n)

  inside : (count : ℕ) → first ≤ end → end ≤ count → those between count ≡ filter (λ n. not (d n)) (range_with_len first (end - first))
  inside count rising within =
      let len = end - first in
      let rest = count - end in
      let whole : count ≡ first + (len + rest) = omega arith in
      let start : 0 + first ≡ first = omega arith in
      let stop : first + len ≡ end = omega arith in
      let cut = ap (range_with_len 0) whole ∙ range-plus 0 first (len + rest) ∙ ap (λ k. range_with_len 0 first ++ range_with_len k (len + rest)) start ∙ ap (λ l. range_with_len 0 first ++ l) (range-plus first len rest) in
      let before = range_none between 0 first (λ k from to. grind (arith, nat_tests)) in
      let behind = range_none between (first + len) rest (λ k from to. grind (arith, nat_tests)) in
      let at = range_same between (λ n. not (d n)) first len (λ k from to. grind (arith, nat_tests)) in
      ap (filter between) cut ∙ filter-append between (range_with_len 0 first) _ ∙ ap (λ l. l ++ filter between (range_with_len first len ++ range_with_len (first + len) rest)) before ∙ filter-append between (range_with_len first len) _ ∙ ap (λ l. filter between (range_with_len first len) ++ l) behind ∙ append-nil _ ∙ at

  pub those_between : (count : ℕ) → end ≤ count → those between count ≡ filter (λ n. not (d n)) (range_with_len first (end - first))
  those_between count within =
      elim (cases_lt end first) [
        | inl less ↦
            let none : end - first ≡ 0 = omega arith in
            range_none between 0 count (λ k from to. grind (arith, nat_tests)) ∙ ap (λ n. filter (λ k. not (d k)) (range_with_len first n)) (sym none)
        | inr rising ↦ inside count rising within
      ]
