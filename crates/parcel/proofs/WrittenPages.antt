-- The parts of a parcel, one laid behind another. Assumes nothing.
use Rattle.std.proofs.Common.{◌≡◌, ℕ, ◌+◌, ◌-◌, ◌*◌, ◌≤◌, min, List, [], ◌∷◌, ◌++◌, length, take, drop, sym, refl, ap, ◌∙◌, ap₂, inl, inr, arith, length-append, length-drop, length-take}
use Rattle.std.proofs.lemmas.List.{take_all, drop_all}
use Rattle.std.proofs.lemmas.Bool.{cases_lt}
use Rattle.byte_valued.specs.LittleEndian.{bytes_of}
use Rattle.volatile_memory.specs.Memory.{part, overlaid}
use Rattle.volatile_memory.proofs.LaidBytes.{overlaid_next}
use Rattle.parcel.specs.Parcels.{page_length, words, head, bodies, parcel, sum_of}

pub length-words : (ns : List ℕ) → length (words ns) ≡ 8 * length ns
length-words [] = refl
length-words (n ∷ ns) = omega (arith, length-words ns)

-- a part is as long as it is asked to be, as far as there are bytes
pub length-part : (xs : List ℕ) (o k : ℕ) → length (part xs o k) ≡ min k (length xs - o)
unfolding part
length-part xs o k = simp (length-take, length-drop)

-- the bytes of page q, as a slice's part
pub page_part : (memory : List ℕ) (page q from size p total : ℕ) → p ≡ page → total ≡ length memory → from ≡ min (q * p) total → size ≡ page_length p total q → take (from + size - from) (drop from memory) ≡ part memory (q * page) page
unfolding part
page_part memory page q from size p total p_is total_is from_is size_is =
    let e : from + size - from ≡ size = omega arith in
    let same : drop from memory ≡ drop (q * p) memory =
    elim (cases_lt (q * p) total) [
      | inl inside ↦ let at : from ≡ q * p = omega arith in rw at
      | inr past ↦ drop_all from memory (omega arith) ∙ sym (drop_all (q * p) memory (omega arith))
    ] in
    rw (e, same, ← p_is) (elim (cases_lt (length memory - q * p) p) [
      | inl short ↦ take_all size (drop (q * p) memory) (simp length-drop (omega arith)) ∙ sym (take_all p (drop (q * p) memory) (simp length-drop (omega arith)))
      | inr whole ↦ let all : size ≡ p = omega arith in ap (λ n. take n (drop (q * p) memory)) all
    ])

pub length-bodies : (p : ℕ) (memory qs : List ℕ) → length (bodies p memory qs) ≡ sum_of (page_length p (length memory)) qs
length-bodies p memory [] = refl
length-bodies p memory (q ∷ qs) =
    length-append (part memory (q * p) p) (bodies p memory qs) ∙ ap₂ ◌+◌ (length-part memory (q * p) p) (length-bodies p memory qs)

-- the first of some numbers laid, and those behind it
pub number_next : (buf buf' ns left : List ℕ) (at at' n : ℕ) → ns ≡ n ∷ left → at' ≡ at + 8 → buf' ≡ overlaid buf at (bytes_of 8 n) → at + 8 * length ns ≤ length buf → overlaid buf at (words ns) ≡ overlaid buf' at' (words left)
number_next buf buf' ns left at at' n is at_is laid fits =
    rw (is, laid) (sym (overlaid_next buf (bytes_of 8 n) (words left) at at' at_is (omega (arith, ap length is, length-words left))))

-- the first of some pages laid, and those behind it
module _ (memory page qs left : List ℕ) (p at at' q : ℕ) (is : qs ≡ q ∷ left) (page_is : page ≡ part memory (q * p) p) (at_is : at' ≡ at + length page) where
  first_page : bodies p memory qs ≡ page ++ bodies p memory left
  first_page = rw (is, page_is) refl

  pub page_place : at' + length (bodies p memory left) ≡ at + length (bodies p memory qs)
  page_place = omega (arith, ap length first_page, length-append page (bodies p memory left))

  pub page_next : (buf buf' : List ℕ) → buf' ≡ overlaid buf at page → at + length (bodies p memory qs) ≤ length buf → overlaid buf at (bodies p memory qs) ≡ overlaid buf' at' (bodies p memory left)
  page_next buf buf' laid fits =
      rw (first_page, laid) (sym (overlaid_next buf page (bodies p memory left) at at' at_is (omega (arith, page_place))))

-- the three numbers of a head, laid one by one
pub head-laid : (buf : List ℕ) (a b c : ℕ) → 24 ≤ length buf → overlaid (overlaid (overlaid buf 0 (bytes_of 8 a)) 8 (bytes_of 8 b)) 16 (bytes_of 8 c) ≡ overlaid buf 0 (words (a ∷ b ∷ c ∷ []))
head-laid buf a b c fits =
    ap (λ x. overlaid x 16 (bytes_of 8 c)) (overlaid_next buf (bytes_of 8 a) (bytes_of 8 b) 0 8 refl (omega arith)) ∙ overlaid_next buf (words (a ∷ b ∷ [])) (bytes_of 8 c) 0 16 refl (omega arith)

module _ (p : ℕ) (memory qs : List ℕ) where
  pub length-head : length (words (head p memory qs)) ≡ 24 + 8 * length qs
  length-head = omega (arith, length-words (head p memory qs))

  pub length-parcel : length (parcel p memory qs) ≡ 24 + 8 * length qs + sum_of (page_length p (length memory)) qs
  unfolding parcel
  length-parcel = length-append (words (head p memory qs)) (bodies p memory qs) ∙ ap₂ ◌+◌ length-head (length-bodies p memory qs)

  -- a parcel's three parts, laid one behind another
  pub parcel-laid : (buf : List ℕ) → length (parcel p memory qs) ≤ length buf → overlaid (overlaid (overlaid buf 0 (words (p ∷ length qs ∷ length memory ∷ []))) 24 (words qs)) (24 + 8 * length qs) (bodies p memory qs) ≡ overlaid buf 0 (parcel p memory qs)
  unfolding parcel
  parcel-laid buf room =
      let long = length-words qs in
      let ends = length-bodies p memory qs in
      let all = length-append (words (head p memory qs)) (bodies p memory qs) in
      let whole = length-head in
      ap (λ x. overlaid x (24 + 8 * length qs) (bodies p memory qs)) (overlaid_next buf (words (p ∷ length qs ∷ length memory ∷ [])) (words qs) 0 24 refl (omega arith)) ∙ overlaid_next buf (words (head p memory qs)) (bodies p memory qs) 0 (24 + 8 * length qs) (omega arith) (omega arith)
