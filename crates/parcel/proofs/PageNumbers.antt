-- A parcel's page numbers, looked at one by one. Assumes nothing.
use Rattle.std.proofs.Common.{◌≡◌, ℕ, zero, suc, ◌+◌, ◌-◌, ◌*◌, ◌/◌, ◌<◌, ◌≤◌, min, true, ◌&&◌, ltb, leb, Some, None, Option, List, [], ◌∷◌, length, take, drop, sym, refl, ap, ap₂, ◌∙◌, subst, inl, inr, mul-le-mul_right, suc-mul, arith, length-drop, length-take}
use Rattle.std.specs.List.{slice_get}
use Rattle.std.proofs.lemmas.Option.{none-some, slice_get_past}
use Rattle.std.proofs.lemmas.Bool.Decides.{nat_tests}
use Rattle.std.proofs.lemmas.List.{drop-drop, drop-take, take-take}
use Rattle.std.proofs.lemmas.Bool.{cases_Bool, cases_lt, le-ltb, lt-ltb, le-leb, cond-true, cond-false, and_parts, leb-true, ltb-true, ltb-false}
use Rattle.byte_valued.specs.Buffers.{made_of}
use Rattle.byte_valued.specs.LittleEndian.{number_of}
use Rattle.volatile_memory.specs.Faults.Answer.{gives}
use Rattle.volatile_memory.specs.Memory.{part, overlaid}
use Rattle.parcel.specs.Parcels.{number_at, numbers, numbers_of, page_number, page_numbers, wrong_among, page_length, laid_pages}
use Rattle.parcel.specs.Rules.{Below, first_of, head_of}
use Rattle.parcel.proofs.Refusals.{gives-refuses}

pub length-numbers : (bs : List ℕ) (i k : ℕ) → length (numbers bs i k) ≡ k
length-numbers bs i zero = refl
length-numbers bs i (suc k) = ap suc (length-numbers bs (i + 1) k)

-- the numbers behind the first j of them
number_behind : (bs : List ℕ) (j i : ℕ) → number_at (drop (j * 8) bs) i ≡ number_at bs (j + i)
unfolding part
number_behind bs j i =
    let e : j * 8 + i * 8 ≡ (j + i) * 8 = omega arith in
    ap (λ xs. number_of (take 8 xs)) (drop-drop (i * 8) (j * 8) bs ∙ ap (λ n. drop n bs) e)

pub numbers_behind : (bs : List ℕ) (j i k : ℕ) → numbers (drop (j * 8) bs) i k ≡ numbers bs (j + i) k
numbers_behind bs j i zero = refl
numbers_behind bs j i (suc k) =
    let e : j + (i + 1) ≡ j + i + 1 = omega arith in
    ap₂ ◌∷◌ (number_behind bs j i) (numbers_behind bs j (i + 1) k ∙ ap (λ n. numbers bs n k) e)

-- numbers of which the bytes lie among the first n
number_within : (bs : List ℕ) (n i : ℕ) → i * 8 + 8 ≤ n → number_at (take n bs) i ≡ number_at bs i
unfolding part
number_within bs n i fits =
    let e : n ≡ i * 8 + (n - i * 8) = omega arith in
    let cut : drop (i * 8) (take n bs) ≡ take (n - i * 8) (drop (i * 8) bs) = ap (λ m. drop (i * 8) (take m bs)) e ∙ drop-take (i * 8) (n - i * 8) bs in
    ap (λ xs. number_of (take 8 xs)) cut ∙ ap number_of (take-take 8 (n - i * 8) (drop (i * 8) bs) (omega arith))

numbers_within : (bs : List ℕ) (n i k : ℕ) → (i + k) * 8 ≤ n → numbers (take n bs) i k ≡ numbers bs i k
numbers_within bs n i zero fits = refl
numbers_within bs n i (suc k) fits = ap₂ ◌∷◌ (number_within bs n i (omega arith)) (numbers_within bs n (i + 1) k (omega arith))

-- all the numbers that bytes hold: the first, and those behind it
pub numbers_first : (bs : List ℕ) → 8 ≤ length bs → numbers_of bs ≡ number_of (take 8 bs) ∷ numbers_of (drop 8 bs)
unfolding part
numbers_first bs long =
    let e : length bs / 8 ≡ suc (length (drop 8 bs) / 8) = simp length-drop (omega arith) in
    ap (numbers bs 0) e ∙ ap (λ ns. number_of (take 8 bs) ∷ ns) (sym (numbers_behind bs 1 0 (length (drop 8 bs) / 8)))

-- a number made of the first 8 bytes
pub number_made : (bs first : List ℕ) (r : Option ℕ) → first ≡ take 8 bs → length first ≡ 8 → r ≡ made_of 8 number_of first → r ≡ Some (number_of (take 8 bs))
number_made bs first r first_is long made = made ∙ rw (long, first_is) refl

-- three numbers that come first are those of the head, and with fewer there is none
pub first_read : (bs rest : List ℕ) (a b c : ℕ) → numbers_of bs ≡ a ∷ b ∷ c ∷ rest → Some (a, b, c) ≡ first_of bs
first_read bs rest a b c is =
    let many : length bs / 8 ≡ suc (suc (suc (length rest))) = sym (length-numbers bs 0 (length bs / 8)) ∙ ap length is in
    let same : number_at bs 0 ∷ number_at bs 1 ∷ number_at bs 2 ∷ numbers bs 3 (length rest) ≡ a ∷ b ∷ c ∷ rest = sym (ap (numbers bs 0) many) ∙ is in
    let first : number_at bs 0 ≡ a = cc in
    let second : number_at bs 1 ≡ b = cc in
    let third : number_at bs 2 ≡ c = cc in
    rw (le-ltb (length bs) 24 (omega arith), first, second, third)

pub first_missing : (bs : List ℕ) → length (numbers_of bs) < 3 → None ≡ first_of bs
first_missing bs few =
    rw (lt-ltb (length bs) 24 (omega (arith, length-numbers bs 0 (length bs / 8))))

-- what the first three numbers tell
pub first_told : (bs : List ℕ) (a b c : ℕ) → Some (a, b, c) ≡ first_of bs → (24 ≤ length bs) × (a ≡ number_at bs 0) × (b ≡ number_at bs 1) × (c ≡ number_at bs 2)
first_told bs a b c is =
    elim (cases_Bool (ltb (length bs) 24)) [
      | inl e ↦ absurd (none-some _ (sym (is ∙ cond-true _ _ _ e)))
      | inr e ↦ let same = is ∙ cond-false _ _ _ e in let each : ◌≡◌ {A = ℕ × ℕ × ℕ} (a, b, c) (number_at bs 0, number_at bs 1, number_at bs 2) = cc in (ltb-false (length bs) 24 e, ap (λ t. t.0) each, ap (λ t. t.1) each, ap (λ t. t.2) each)
    ]

pub head_told : (bs : List ℕ) (a b c : ℕ) → gives (a, b, c) ≡ head_of bs → (24 ≤ length bs) × (a ≡ number_at bs 0) × (b ≡ number_at bs 1) × (c ≡ number_at bs 2)
head_told bs a b c is =
    elim (cases_Bool (ltb (length bs) 24)) [
      | inl e ↦ absurd (gives-refuses (is ∙ cond-true _ _ _ e))
      | inr e ↦ let same = is ∙ cond-false _ _ _ e in let each : ◌≡◌ {A = ℕ × ℕ × ℕ} (a, b, c) (number_at bs 0, number_at bs 1, number_at bs 2) = cc in (ltb-false (length bs) 24 e, ap (λ t. t.0) each, ap (λ t. t.1) each, ap (λ t. t.2) each)
    ]

-- the page numbers of a parcel, which its head is cut off from
pub numbers_carried : (bs : List ℕ) (k : ℕ) → 24 + 8 * k ≤ length bs → numbers_of (take (8 * k) (drop 24 bs)) ≡ numbers bs 3 k
numbers_carried bs k room =
    let e : length (take (8 * k) (drop 24 bs)) / 8 ≡ k = simp (length-take, length-drop) (omega arith) in
    ap (numbers (take (8 * k) (drop 24 bs)) 0) e ∙ numbers_within (drop 24 bs) (8 * k) 0 k (omega arith) ∙ numbers_behind bs 3 0 k

-- as many of them as a parcel says it has, and has bytes for
pub pages_listed : (bs : List ℕ) (k : ℕ) → 24 ≤ length bs → k ≡ min (number_at bs 1) ((length bs - 24) / 8) → numbers_of (take (8 * k) (drop 24 bs)) ≡ page_numbers bs
pages_listed bs k head k_is = numbers_carried bs k (omega (arith, k_is)) ∙ ap (numbers bs 3) k_is

-- with no room for a head there are none
pub none_listed : (bs : List ℕ) → None ≡ first_of bs → [] ≡ page_numbers bs
none_listed bs is =
    elim (cases_Bool (ltb (length bs) 24)) [
      | inl e ↦ let none : min (number_at bs 1) ((length bs - 24) / 8) ≡ 0 = omega (arith, ltb-true (length bs) 24 e) in rw none refl
      | inr e ↦ absurd (none-some _ (is ∙ cond-false _ _ _ e))
    ]

-- one of k numbers
nth_number : (bs : List ℕ) (j k i : ℕ) → i < k → slice_get (numbers bs j k) i ≡ Some (number_at bs (j + i))
nth_number bs j zero i below = absurd (omega arith)
nth_number bs j (suc k) zero below = let e : j ≡ j + 0 = omega arith in ap (λ n. Some (number_at bs n)) e
nth_number bs j (suc k) (suc i) below =
    let e : j + 1 + i ≡ j + suc i = omega arith in
    nth_number bs (j + 1) k i (omega arith) ∙ ap (λ n. Some (number_at bs n)) e

-- the number of a page that a parcel says it has, and has bytes for
pub nth_page : (bs : List ℕ) (i : ℕ) → slice_get (page_numbers bs) i ≡ page_number bs i
nth_page bs i =
    let k = min (number_at bs 1) ((length bs - 24) / 8) in
    elim (cases_lt i k) [
      | inl below ↦ nth_number bs 3 k i below ∙ rw (lt-ltb i (number_at bs 1) (omega arith), le-leb (24 + 8 * (i + 1)) (length bs) (omega arith)) refl
      | inr past ↦ let none = slice_get_past (page_numbers bs) i (omega (arith, length-numbers bs 3 k)) in grind (arith, nat_tests)
    ]

-- numbers that rise below n are pages of n
pub right_below : (n low i x : ℕ) (qs : List ℕ) → wrong_among n low i qs ≡ gives x → Below n qs
right_below n low i x [] is = tt
right_below n low i x (q ∷ qs) is =
    elim (cases_Bool (leb low q && ltb q n)) [
      | inl e ↦ (ltb-true _ _ (and_parts _ _ e).1, right_below n (q + 1) (i + 1) x qs (sym (cond-true _ _ _ e) ∙ is))
      | inr e ↦ absurd (gives-refuses (sym is ∙ cond-false _ _ _ e))
    ]

-- the first of such pages, and the others
pub below_next : (n q : ℕ) (all qs : List ℕ) → all ≡ q ∷ qs → Below n all → (q < n) × Below n qs
below_next n q all qs is below = subst (Below n) is below

-- one page more laid
pub lay_next : (copy copy' rest front back qs : List ℕ) (p total q size start : ℕ) → length copy ≡ total → size ≡ page_length p total q → start ≡ q * p → front ≡ take size rest → back ≡ drop size rest → copy' ≡ overlaid copy start front → laid_pages copy p (q ∷ qs) rest ≡ laid_pages copy' p qs back
lay_next copy copy' rest front back qs p total q size start long size_is start_is front_is back_is laid =
    let e : page_length p (length copy) q ≡ size = ap (λ n. page_length p n q) long ∙ sym size_is in
    rw (laid, start_is, front_is, back_is, e)

-- what a right number is
pub right_above : (q low n : ℕ) → (leb low q && ltb q n) ≡ true → low ≤ q
right_above q low n right = leb-true low q (and_parts _ _ right).0

-- pages that rise do not overlap
pub next_within : (p total low q bytes : ℕ) → bytes ≤ min (low * p) total → low ≤ q → bytes + page_length p total q ≤ min ((q + 1) * p) total
next_within p total low q bytes sofar above =
    let more = mul-le-mul_right p above in
    let e : q + 1 ≡ suc q = omega arith in
    rw e (omega (arith, suc-mul q p))
