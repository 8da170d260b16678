-- Pages of a memory laid into a copy as long: which bytes it holds then.
use Rattle.std.proofs.Common.{◌≡◌, ℕ, suc, ◌+◌, ◌-◌, ◌*◌, ◌/◌, ◌<◌, cond, ◌&&◌, eqb, ltb, leb, List, [], ◌∷◌, length, get_or, sym, refl, ap, ◌∙◌, ap₂, inl, inr, mul-le-mul_right, mod-lt, div-add-mod', div-mul-le_self, arith, take_at, drop_at}
use Rattle.std.proofs.lemmas.Nat.{le-div}
use Rattle.std.proofs.lemmas.Bool.{cases_order}
use Rattle.std.proofs.lemmas.Bool.Decides.{nat_tests}
use Rattle.bitmap.specs.Pages.{ceiling}
use Rattle.volatile_memory.specs.Memory.{part, overlaid}
use Rattle.parcel.specs.Parcels.{pages, bodies, page_length, laid_pages}
use Rattle.parcel.proofs.PagePlaces.{page_begins}
use Rattle.parcel.proofs.WrittenPages.{length-part}
use Rattle.mirror.proofs.BytePlaces.{get_or_part, length-overlaid, get_or_overlaid}
use Rattle.mirror.proofs.DirtyList.{Chain, has}

-- each of n bytes lies on one of their pages
pub byte_on_page : (n p x : ℕ) → 0 < p → x < n → x / p < ceiling n p
byte_on_page n p x h l = le-div (suc (x / p)) (n + (p - 1)) p h (omega (arith, div-mul-le_self x p))

-- the bytes on page q are those between its ends
on_page : (p q x : ℕ) → 0 < p → eqb (x / p) q ≡ (leb (q * p) x && ltb x (q * p + p))
on_page p q x h =
    let whole = div-add-mod' x p in
    let rest = mod-lt x h in
    elim (cases_order (x / p) q) [
      | inl e ↦ let m = ap (λ k. k * p) e in grind (arith, nat_tests)
      | inr (inl l) ↦ let m = mul-le-mul_right p l in grind (arith, nat_tests)
      | inr (inr l) ↦ let m = mul-le-mul_right p l in grind (arith, nat_tests)
    ]

-- page q of the memory, laid into a copy as long
abbrev with_page : ℕ → List ℕ → List ℕ → ℕ → List ℕ
with_page p memory copy q = overlaid copy (q * p) (part memory (q * p) p)

-- rising pages of the memory, laid into a copy as long
abbrev pub refreshed : ℕ → List ℕ → List ℕ → List ℕ → List ℕ
refreshed p memory copy qs = laid_pages copy p qs (bodies p memory qs)

laid_first : (p : ℕ) (memory copy : List ℕ) (q : ℕ) (qs : List ℕ) → length memory ≡ length copy → refreshed p memory copy (q ∷ qs) ≡ refreshed p memory (with_page p memory copy q) qs
laid_first p memory copy q qs even =
    let long : length (part memory (q * p) p) ≡ page_length p (length copy) q = length-part memory (q * p) p ∙ ap (λ n. page_length p n q) even in
    ap₂ (λ now left. laid_pages (overlaid copy (q * p) now) p qs left) (take_at _ _ _ long) (drop_at _ _ _ long)

module _ (p : ℕ) (memory : List ℕ) (paged : 0 < p) where
  length_with_page : (copy : List ℕ) (q : ℕ) → length memory ≡ length copy → q * p < length memory → length memory ≡ length (with_page p memory copy q)
  length_with_page copy q even begins =
      let long = length-part memory (q * p) p in even ∙ sym (length-overlaid copy (part memory (q * p) p) (q * p) (omega arith))

  get_or_with_page : (copy : List ℕ) (q x : ℕ) → length memory ≡ length copy → q * p < length memory → x < length memory
      → get_or (with_page p memory copy q) x 0 ≡ cond (eqb (x / p) q) (get_or memory x 0) (get_or copy x 0)
  get_or_with_page copy q x even begins below =
      let long = length-part memory (q * p) p in
      let laid = get_or_overlaid copy (part memory (q * p) p) (q * p) (omega arith) x in
      let on = on_page p q x paged in
      grind (arith, nat_tests, get_or_part)

  pub length_refreshed : (copy : List ℕ) (low : ℕ) (qs : List ℕ) → length memory ≡ length copy → Chain low (pages (length memory) p) qs → length (refreshed p memory copy qs) ≡ length memory
  length_refreshed copy low [] even chain = sym even
  length_refreshed copy low (q ∷ qs) even chain =
      let long = length_with_page copy q even (page_begins _ p q paged chain.1) in
      ap length (laid_first p memory copy q qs even) ∙ length_refreshed (with_page p memory copy q) (q + 1) qs long chain.2

  pub get_or_refreshed : (copy : List ℕ) (low : ℕ) (qs : List ℕ) (x : ℕ) → length memory ≡ length copy → Chain low (pages (length memory) p) qs → x < length memory
      → get_or (refreshed p memory copy qs) x 0 ≡ cond (has (x / p) qs) (get_or memory x 0) (get_or copy x 0)
  get_or_refreshed copy low [] x even chain below = refl
  get_or_refreshed copy low (q ∷ qs) x even chain below =
      let begins = page_begins (length memory) p q paged chain.1 in
      let later = get_or_refreshed (with_page p memory copy q) (q + 1) qs x (length_with_page copy q even begins) chain.2 below in
      let here = get_or_with_page copy q x even begins below in
      ap (λ bs. get_or bs x 0) (laid_first p memory copy q qs even) ∙ grind (arith, nat_tests)
