-- The list of the dirty pages below a number, page by page. Assumes nothing.
use Rattle.std.proofs.Common.{◌≡◌, ℕ, zero, suc, ◌+◌, ◌-◌, ◌*◌, ◌<◌, ◌≤◌, min, Bool, true, false, cond, Some, None, List, [], ◌∷◌, ◌++◌, filter, length, sym, refl, ap, ◌∙◌, inl, inr, append-nil, suc-mul, arith, length-append}
use Rattle.std.specs.List.{find, range_with_len}
use Rattle.std.proofs.lemmas.List.{map-id}
use Rattle.std.proofs.lemmas.List.FromFn.{filter_of_map_range_with_len_more}
use Rattle.std.proofs.lemmas.Bool.{cases_Bool, cases_eq, cond-true, cond-false}
use Rattle.std.proofs.lemmas.Option.{none-some}
use Rattle.parcel.specs.Parcels.{dirty_below, page_length, sum_of}
use Rattle.parcel.specs.Rules.{dirty_from}

module _ (d : ℕ → Bool) where
  -- from the first page on
  pub dirty_all : (n : ℕ) → dirty_from d 0 n ≡ dirty_below d n
  unfolding dirty_below
  dirty_all n = refl

  -- one page more
  pub dirty_next : (n : ℕ) → dirty_below d (suc n) ≡ dirty_below d n ++ cond (d n) (n ∷ []) []
  unfolding dirty_below
  dirty_next n =
      let e : suc n ≡ n + 1 = omega arith in
      let more = filter_of_map_range_with_len_more d (λ x. x) 0 n n (omega arith) in
      ap (λ m. filter d (range_with_len 0 m)) e ∙ ap (filter d) (sym (map-id (range_with_len 0 (n + 1)))) ∙ more ∙ ap (λ xs. filter d xs ++ cond (d n) (n ∷ []) []) (map-id (range_with_len 0 n))

  -- the first of them is the one that a search finds
  first_found : (m k x : ℕ) → Some x ≡ find d (range_with_len m k) → (m ≤ x) × (x < m + k) × (dirty_from d m k ≡ x ∷ dirty_from d (x + 1) (m + k - (x + 1)))
  first_found m zero x is = absurd (none-some x (sym is))
  first_found m (suc k) x is =
      elim (cases_Bool (d m)) [
        | inl e ↦
            let same : x ≡ m = let here = is ∙ cond-true _ _ _ e in cc in
            let left : m + suc k - (m + 1) ≡ k = omega arith in
            (omega arith, omega arith, rw (e, same, left))
        | inr e ↦
            let later = first_found (m + 1) k x (is ∙ cond-false _ _ _ e) in
            let left : m + 1 + k - (x + 1) ≡ m + suc k - (x + 1) = omega arith in
            (omega (arith, later.0), omega (arith, later.1), rw e (later.2 ∙ ap (λ n. x ∷ dirty_from d (x + 1) n) left))
      ]

  pub found_some : (next end x : ℕ) → Some x ≡ find d (range_with_len next (end - next)) → (x < end) × (dirty_from d next (end - next) ≡ x ∷ dirty_from d (x + 1) (end - (x + 1)))
  found_some next end x is =
      let found = first_found next (end - next) x is in
      let e : next + (end - next) - (x + 1) ≡ end - (x + 1) = omega (arith, found.0, found.1) in
      (omega (arith, found.0, found.1), found.2 ∙ ap (λ n. x ∷ dirty_from d (x + 1) n) e)

  pub found_none : (m k : ℕ) → None ≡ find d (range_with_len m k) → dirty_from d m k ≡ []
  found_none m zero is = refl
  found_none m (suc k) is =
      elim (cases_Bool (d m)) [
        | inl e ↦ absurd (none-some m (is ∙ cond-true _ _ _ e))
        | inr e ↦ rw e (found_none (m + 1) k (is ∙ cond-false _ _ _ e))
      ]

  -- there are no more dirty pages than pages
  pub dirty_count : (n : ℕ) → length (dirty_below d n) ≤ n
  unfolding dirty_below
  dirty_count zero = omega arith
  dirty_count (suc n) =
      elim (cases_Bool (d n)) [
        | inl e ↦ rw (dirty_next n, e) (simp length-append (omega (arith, dirty_count n)))
        | inr e ↦ rw (dirty_next n, e) (simp length-append (omega (arith, dirty_count n)))
      ]

-- a sum with one more
pub sum_push : (f : ℕ → ℕ) (xs : List ℕ) (y : ℕ) → sum_of f (xs ++ (y ∷ [])) ≡ sum_of f xs + f y
sum_push f [] y = omega arith
sum_push f (x ∷ xs) y = omega (arith, sum_push f xs y)

-- or perhaps one more
maybe_length : (xs : List ℕ) (b : Bool) (y : ℕ) → (length xs ≤ length (xs ++ cond b (y ∷ []) [])) × (length (xs ++ cond b (y ∷ []) []) ≤ length xs + 1)
maybe_length xs true y = (simp length-append (omega arith), simp length-append (omega arith))
maybe_length xs false y = (simp length-append (omega arith), simp length-append (omega arith))

maybe_sum : (f : ℕ → ℕ) (xs : List ℕ) (b : Bool) (y : ℕ) → (sum_of f xs ≤ sum_of f (xs ++ cond b (y ∷ []) [])) × (sum_of f (xs ++ cond b (y ∷ []) []) ≤ sum_of f xs + f y)
maybe_sum f xs true y = (rw (sum_push f xs y) (omega arith), rw (sum_push f xs y) (omega arith))
maybe_sum f xs false y = (rw (append-nil xs) (omega arith), rw (append-nil xs) (omega arith))

module _ (d : ℕ → Bool) where
  -- below more pages there are no fewer dirty ones, and no fewer bytes of theirs
  dirty_grows : (m n : ℕ) → m ≤ n → length (dirty_below d m) ≤ length (dirty_below d n)
  dirty_grows m zero h = let e : m ≡ 0 = omega arith in rw e (omega arith)
  dirty_grows m (suc n) h =
      elim (cases_eq m (suc n)) [
        | inl e ↦ rw e (omega arith)
        | inr ne ↦ rw (dirty_next d n) (omega (arith, dirty_grows m n (omega arith), (maybe_length (dirty_below d n) (d n) n).0))
      ]

  sum_grows : (f : ℕ → ℕ) (m n : ℕ) → m ≤ n → sum_of f (dirty_below d m) ≤ sum_of f (dirty_below d n)
  sum_grows f m zero h = let e : m ≡ 0 = omega arith in rw e (omega arith)
  sum_grows f m (suc n) h =
      elim (cases_eq m (suc n)) [
        | inl e ↦ rw e (omega arith)
        | inr ne ↦ rw (dirty_next d n) (omega (arith, sum_grows f m n (omega arith), (maybe_sum f (dirty_below d n) (d n) n).0))
      ]

  -- a dirty page is among those below more
  pub dirty_fits : (q n : ℕ) → d q ≡ true → q < n → length (dirty_below d q) + 1 ≤ length (dirty_below d n)
  dirty_fits q n is h =
      let grown = dirty_grows (suc q) n (omega arith) in
      omega (arith, rw (dirty_next d q, is) at grown, length-append (dirty_below d q) (q ∷ []))

  pub sum_fits : (f : ℕ → ℕ) (q n : ℕ) → d q ≡ true → q < n → sum_of f (dirty_below d q) + f q ≤ sum_of f (dirty_below d n)
  sum_fits f q n is h =
      let grown = sum_grows f (suc q) n (omega arith) in
      omega (arith, rw (dirty_next d q, is) at grown, sum_push f (dirty_below d q) q)

  -- pages do not overlap: the dirty ones have together no more bytes than the memory
  pub bytes_within : (p total n : ℕ) → sum_of (page_length p total) (dirty_below d n) ≤ min (n * p) total
  unfolding dirty_below
  bytes_within p total zero = omega arith
  bytes_within p total (suc n) =
      rw (dirty_next d n) (omega (arith, bytes_within p total n, (maybe_sum (page_length p total) (dirty_below d n) (d n) n).1, suc-mul n p))
