-- Applying, by its steps. Assumes nothing.
use Rattle.std.proofs.Common.{◌≡◌, ℕ, ◌+◌, ◌*◌, ◌<◌, ◌≤◌, min, Bool, true, false, cond, not, ◌||◌, eqb, ltb, Some, List, length, take, drop, sym, refl, ap, ◌∙◌, inl, inr, arith, length-take, length-drop}
use Rattle.std.proofs.lemmas.Bool.{cases_Bool, cond-true, cond-false, or_parts, ltb-false, eqb-false, eqb-true, not-false}
use Rattle.std.proofs.lemmas.Option.{none-some}
use Rattle.std.proofs.lemmas.List.{drop-drop}
use Rattle.bitmap.specs.Pages.{page_size}
use Rattle.volatile_memory.specs.Faults.{Fault, Answer, bad_parcel}
use Rattle.volatile_memory.specs.Faults.Answer.{gives, refuses}
use Rattle.parcel.specs.Parcels.{pages, page_length, number_at, numbers, numbers_of, wrong_among, sum_of, laid_pages, unless, applied}
use Rattle.parcel.specs.Rules.{head_of, head_rules, length_rule, rules, Below, Carries}
use Rattle.parcel.proofs.Refusals.{gives-refuses}
use Rattle.parcel.proofs.PageNumbers.{numbers_carried, right_below}

-- a page size that was made is the number that it was made of
pub size_made : (n p : ℕ) → Some p ≡ page_size n → p ≡ n
size_made n p is =
    elim (cases_Bool (eqb n 0)) [
      | inl e ↦ absurd (none-some p (sym (is ∙ cond-true _ _ _ e)))
      | inr e ↦ let same = is ∙ cond-false _ _ _ e in cc
    ]

-- a parcel behind its head, cut into numbers and pages
pub cut_behind : (n : ℕ) (bs ns rest : List ℕ) (p k : ℕ) → p ≡ number_at bs 0 → k ≡ number_at bs 1 → 24 + 8 * k ≤ length bs → ns ≡ take (8 * k) (drop 24 bs) → rest ≡ drop (8 * k) (drop 24 bs) → Carries n bs p n ns rest
cut_behind n bs ns rest p k p_is k_is room ns_is rest_is =
    let front : length ns ≡ 8 * k = ap length ns_is ∙ simp (length-take, length-drop) (omega arith) in
    let back : length rest + (24 + 8 * k) ≡ length bs = rw rest_is (simp length-drop (omega arith)) in
    record {
      page_is = p_is;
      total_is = refl;
      numbers_are = ap numbers_of ns_is ∙ numbers_carried bs k room ∙ ap (numbers bs 3) k_is;
      long = omega (arith, front, k_is);
      whole = omega (arith, front, back);
      bodies_are = rest_is ∙ drop-drop (8 * k) 24 bs ∙ ap (λ m. drop (24 + 8 * m) bs) k_is;
    }

-- a parcel with no room for a head breaks the first rule for every copy
pub head_refused : (n : ℕ) (bs : List ℕ) (f : Fault) → refuses f ≡ head_of bs → refuses f ≡ head_rules n bs
head_refused n bs f is =
    elim (cases_Bool (ltb (length bs) 24)) [
      | inl e ↦ let same = is ∙ cond-true _ _ _ e in let g : f ≡ bad_parcel 1 (length bs) = cc in ap refuses g ∙ sym (cond-true _ _ _ e)
      | inr e ↦ absurd (gives-refuses (sym (is ∙ cond-false _ _ _ e)))
    ]

-- what stands behind a step that was refused, or passed
step_refused : {X : Type 0} (w : Answer ℕ) (f : Fault) (s : ℕ) → refuses f ≡ unless w (gives s) → (a : Answer X) → unless w a ≡ refuses f
step_refused (gives x) f s is a = absurd (gives-refuses (sym is))
step_refused (refuses g) f s is a = let e : f ≡ g = cc in ap refuses (sym e)

step_passed : {X : Type 0} (w : Answer ℕ) (n s : ℕ) → gives n ≡ unless w (gives s) → (n ≡ s) × ((a : Answer X) → unless w a ≡ a)
step_passed (gives x) n s is = (cc, λ a. refl)
step_passed (refuses g) n s is = absurd (gives-refuses is)

length_right : (n owed : ℕ) → gives 0 ≡ length_rule n owed → n ≡ owed
length_right n owed is =
    elim (cases_Bool (eqb n owed)) [
      | inl e ↦ eqb-true n owed e
      | inr e ↦ absurd (gives-refuses (is ∙ cond-false _ _ _ e))
    ]

-- what rules 1 to 4 tell of a parcel that keeps them, for a memory of n bytes
pub record Headed (n : ℕ) (bs : List ℕ) : Type 0 where
  pub long : 24 ≤ length bs
  pub paged : 0 < number_at bs 0
  pub same : number_at bs 2 ≡ n
  pub few : number_at bs 1 ≤ pages n (number_at bs 0)
  pub room : 24 + 8 * number_at bs 1 ≤ length bs

-- tests in a row that were all passed
passed : {X : Type 0} (t₁ t₂ t₃ t₄ : Bool) (f₁ f₂ f₃ f₄ : Fault) (x y : X) → gives y ≡ cond t₁ (refuses f₁) (cond t₂ (refuses f₂) (cond t₃ (refuses f₃) (cond t₄ (refuses f₄) (gives x))))
    → (t₁ ≡ false) × (t₂ ≡ false) × (t₃ ≡ false) × (t₄ ≡ false)
passed false false false false f₁ f₂ f₃ f₄ x y is = (refl, refl, refl, refl)
passed false false false true f₁ f₂ f₃ f₄ x y is = absurd (gives-refuses is)
passed false false true t₄ f₁ f₂ f₃ f₄ x y is = absurd (gives-refuses is)
passed false true t₃ t₄ f₁ f₂ f₃ f₄ x y is = absurd (gives-refuses is)
passed true t₂ t₃ t₄ f₁ f₂ f₃ f₄ x y is = absurd (gives-refuses is)

pub headed : (n y : ℕ) (bs : List ℕ) → gives y ≡ head_rules n bs → Headed n bs
headed n y bs is =
    let tests = passed (ltb (length bs) 24) (eqb (number_at bs 0) 0) (not (eqb (number_at bs 2) n)) (ltb (pages (number_at bs 2) (number_at bs 0)) (number_at bs 1) || ltb (length bs) (24 + 8 * number_at bs 1)) _ _ _ _ 0 y is in
    let some = eqb-false (number_at bs 0) 0 tests.1 in
    let same = eqb-true (number_at bs 2) n (not-false _ tests.2) in
    let last = or_parts _ _ tests.3 in
    record {
      long = ltb-false (length bs) 24 tests.0;
      paged = omega arith;
      same = same;
      few = rw same at (ltb-false (pages (number_at bs 2) (number_at bs 0)) (number_at bs 1) last.0);
      room = ltb-false (length bs) (24 + 8 * number_at bs 1) last.1;
    }

-- the rules one after another, for a copy of n bytes
module _ (n : ℕ) (bs : List ℕ) where
  -- rules 5 and 6, for a memory of m bytes
  behind : ℕ → Answer ℕ
  behind m = unless (wrong_among (pages m (number_at bs 0)) 0 3 (numbers bs 3 (number_at bs 1))) (length_rule (length bs) (24 + 8 * number_at bs 1 + sum_of (page_length (number_at bs 0) n) (numbers bs 3 (number_at bs 1))))

  pub rules-head : (f : Fault) → refuses f ≡ head_rules n bs → rules n bs ≡ refuses f
  unfolding rules behind
  rules-head f is = ap (λ a. unless a (behind (number_at bs 2))) (sym is)

  module _ (p total : ℕ) (ns rest : List ℕ) (c : Carries n bs p total ns rest) (head_right : gives 0 ≡ head_rules n bs) where
    past_head : rules n bs ≡ behind n
    unfolding rules behind
    past_head = ap (λ a. unless a (behind (number_at bs 2))) (sym head_right) ∙ ap behind (headed n 0 bs head_right).same

    -- the list of the page numbers, as the parcel has it
    listed : wrong_among (pages total p) 0 3 (numbers_of ns) ≡ wrong_among (pages n (number_at bs 0)) 0 3 (numbers bs 3 (number_at bs 1))
    listed = rw (c.total_is, c.page_is, c.numbers_are) refl

    abbrev owed : ℕ
    owed = sum_of (page_length p total) (numbers_of ns)

    pub rules-numbers : (f : Fault) → refuses f ≡ unless (wrong_among (pages total p) 0 3 (numbers_of ns)) (gives owed) → rules n bs ≡ refuses f
    unfolding behind
    rules-numbers f is = past_head ∙ step_refused _ f owed (rw listed at is) (length_rule (length bs) (24 + 8 * number_at bs 1 + sum_of (page_length (number_at bs 0) n) (numbers bs 3 (number_at bs 1))))

    pub rules-length : (bytes : ℕ) → gives bytes ≡ unless (wrong_among (pages total p) 0 3 (numbers_of ns)) (gives owed) → rules n bs ≡ length_rule (24 + length ns + length rest) (24 + length ns + bytes)
    unfolding behind
    rules-length bytes is =
        let past = step_passed (wrong_among (pages n (number_at bs 0)) 0 3 (numbers bs 3 (number_at bs 1))) bytes owed (rw listed at is) in
        let same : bytes ≡ sum_of (page_length (number_at bs 0) n) (numbers bs 3 (number_at bs 1)) = past.0 ∙ rw (c.total_is, c.page_is, c.numbers_are) refl in
        past_head ∙ past.1 _ ∙ rw (c.whole, c.long, same) refl

-- a step that was passed, and what stands behind it
behind_step : (w a : Answer ℕ) (x : ℕ) → gives x ≡ unless w a → ((y : ℕ) × (gives y ≡ w)) × (gives x ≡ a)
behind_step (gives y) a x is = ((y, refl), is)
behind_step (refuses f) a x is = absurd (gives-refuses is)

-- what a parcel is that keeps all rules: its head is right, its pages are pages of the memory, and their bytes are all there
pub record Kept (n : ℕ) (bs : List ℕ) : Type 0 where
  pub head : Headed n bs
  pub below : Below (pages n (number_at bs 0)) (numbers bs 3 (number_at bs 1))
  pub whole : length bs ≡ 24 + 8 * number_at bs 1 + sum_of (page_length (number_at bs 0) n) (numbers bs 3 (number_at bs 1))

pub kept-rules : (n : ℕ) (bs : List ℕ) → gives 0 ≡ rules n bs → Kept n bs
unfolding rules
kept-rules n bs is =
    let p = number_at bs 0 in
    let k = number_at bs 1 in
    let first = behind_step (head_rules n bs) (unless (wrong_among (pages (number_at bs 2) p) 0 3 (numbers bs 3 k)) (length_rule (length bs) (24 + 8 * k + sum_of (page_length p n) (numbers bs 3 k)))) 0 is in
    let second = behind_step (wrong_among (pages (number_at bs 2) p) 0 3 (numbers bs 3 k)) (length_rule (length bs) (24 + 8 * k + sum_of (page_length p n) (numbers bs 3 k))) 0 first.1 in
    let head = headed n first.0.0 bs first.0.1 in
    let right = second.0.1 ∙ ap (λ m. wrong_among (pages m p) 0 3 (numbers bs 3 k)) head.same in
    record {
      head = head;
      below = right_below (pages n p) 0 3 second.0.0 (numbers bs 3 k) (sym right);
      whole = length_right (length bs) _ second.1;
    }

-- the same of a parcel in its parts
pub kept_parts : (n : ℕ) (bs : List ℕ) (p total : ℕ) (ns rest : List ℕ) → Carries n bs p total ns rest → gives 0 ≡ rules n bs
    → Below (pages total p) (numbers_of ns) × (length rest ≡ sum_of (page_length p total) (numbers_of ns))
kept_parts n bs p total ns rest c is =
    let kept = kept-rules n bs is in
    rw (c.total_is, c.page_is, c.numbers_are) (kept.below, omega (arith, kept.whole, c.whole, c.long))

-- the rules in a row, and what stands behind them
in_order : {X : Type 0} (t₁ t₂ t₃ t₄ t₆ : Bool) (f₁ f₂ f₃ f₄ f₆ : Fault) (w : Answer ℕ) (x : X)
    → cond t₁ (refuses f₁) (cond t₂ (refuses f₂) (cond t₃ (refuses f₃) (cond t₄ (refuses f₄) (unless w (cond (not t₆) (refuses f₆) (gives x))))))
    ≡ unless (unless (cond t₁ (refuses f₁) (cond t₂ (refuses f₂) (cond t₃ (refuses f₃) (cond t₄ (refuses f₄) (let z : Answer ℕ = gives 0 in z))))) (unless w (cond t₆ (let z : Answer ℕ = gives 0 in z) (refuses f₆)))) (gives x)
in_order true t₂ t₃ t₄ t₆ f₁ f₂ f₃ f₄ f₆ w x = refl
in_order false true t₃ t₄ t₆ f₁ f₂ f₃ f₄ f₆ w x = refl
in_order false false true t₄ t₆ f₁ f₂ f₃ f₄ f₆ w x = refl
in_order false false false true t₆ f₁ f₂ f₃ f₄ f₆ w x = refl
in_order false false false false true f₁ f₂ f₃ f₄ f₆ (gives y) x = refl
in_order false false false false false f₁ f₂ f₃ f₄ f₆ (gives y) x = refl
in_order false false false false true f₁ f₂ f₃ f₄ f₆ (refuses g) x = refl
in_order false false false false false f₁ f₂ f₃ f₄ f₆ (refuses g) x = refl

-- applying is the rules, and then the pages
pub rules-applied : (copy bs : List ℕ) → applied copy bs ≡ unless (rules (length copy) bs) (gives (laid_pages copy (number_at bs 0) (numbers bs 3 (number_at bs 1)) (drop (24 + 8 * number_at bs 1) bs)))
unfolding applied rules
rules-applied copy bs =
    let p = number_at bs 0 in
    let k = number_at bs 1 in
    let n = number_at bs 2 in
    let owed = 24 + 8 * k + sum_of (page_length p (length copy)) (numbers bs 3 k) in
    in_order (ltb (length bs) 24) (eqb p 0) (not (eqb n (length copy))) (ltb (pages n p) k || ltb (length bs) (24 + 8 * k)) (eqb (length bs) owed) (bad_parcel 1 (length bs)) (bad_parcel 2 0) (bad_parcel 3 16) (bad_parcel 4 8) (bad_parcel 6 (min (length bs) owed)) (wrong_among (pages n p) 0 3 (numbers bs 3 k)) (laid_pages copy p (numbers bs 3 k) (drop (24 + 8 * k) bs))
