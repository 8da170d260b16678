-- The parcel of a memory's dirty pages is accepted by a copy as long, and refreshes those pages of it.
use Rattle.std.proofs.Common.{◌≡◌, ℕ, suc, ◌+◌, ◌*◌, ◌/◌, ◌^◌, ◌<◌, ◌≤◌, Bool, cond, List, [], ◌∷◌, length, get_or, drop, refl, ap, ◌∙◌, arith, drop_at}
use Rattle.std.proofs.lemmas.Bool.{and_from, lt-ltb, le-leb, cond-true}
use Rattle.std.proofs.lemmas.Bool.Decides.{nat_tests}
use Rattle.bitmap.specs.Pages.{ceiling}
use Rattle.bitmap.proofs.PageLaws.{ceiling_le}
use Rattle.volatile_memory.specs.Faults.Answer.{gives}
use Rattle.parcel.specs.Parcels.{dirty_below, pages, words, head, bodies, parcel, number_at, numbers, page_length, sum_of, laid_pages, applied, wrong_among}
use Rattle.parcel.proofs.DirtyList.{dirty_count}
use Rattle.parcel.proofs.WrittenPages.{length-head, length-parcel}
use Rattle.mirror.proofs.WrittenNumbers.{Small, words_read}
use Rattle.mirror.proofs.DirtyList.{Chain, dirty_chain, dirty_has}
use Rattle.mirror.proofs.RefreshedPages.{byte_on_page, refreshed, length_refreshed, get_or_refreshed}

right_passes : (qs : List ℕ) (n low i : ℕ) → Chain low n qs → wrong_among n low i qs ≡ gives 0
right_passes [] n low i c = refl
right_passes (q ∷ qs) n low i c =
    cond-true _ _ _ (and_from _ _ (le-leb low q c.0) (lt-ltb q n c.1)) ∙ right_passes qs n (q + 1) (i + 1) c.2

-- what makes a parcel apply to a copy of n bytes
applied_accepts : (copy bs qs body : List ℕ) (p n : ℕ) → 0 < p → n ≡ length copy → numbers bs 0 (suc (suc (suc (length qs)))) ≡ p ∷ length qs ∷ n ∷ qs
    → Chain 0 (ceiling n p) qs → length qs ≤ ceiling n p → length bs ≡ 24 + 8 * length qs + sum_of (page_length p n) qs → drop (24 + 8 * length qs) bs ≡ body
    → applied copy bs ≡ gives (laid_pages copy p qs body)
unfolding applied
applied_accepts copy bs qs body p n h e read c few long left =
    let page : number_at bs 0 ≡ p = cc in
    let count : number_at bs 1 ≡ length qs = cc in
    let total : number_at bs 2 ≡ n = cc in
    let pages_are : numbers bs 3 (length qs) ≡ qs = cc in
    let pass = ap (wrong_among (ceiling n p) 0 3) pages_are ∙ right_passes qs (ceiling n p) 0 3 c in
    grind (arith, nat_tests)

chain_small : (low n : ℕ) (qs : List ℕ) → n < 2 ^ 64 → Chain low n qs → Small qs
chain_small low n [] h c = tt
chain_small low n (q ∷ qs) h c = (omega arith, chain_small (q + 1) n qs h c.2)

module _ (p : ℕ) (memory qs : List ℕ) (paged : 0 < p) (page_small : p < 2 ^ 64) (small : length memory < 2 ^ 64) (chain : Chain 0 (pages (length memory) p) qs) (few : length qs ≤ pages (length memory) p) where
  head_small : Small (head p memory qs)
  head_small =
      let bound = ceiling_le (length memory) p paged in
      (page_small, (omega arith, (omega arith, chain_small 0 (pages (length memory) p) qs (omega arith) chain)))

  parcel_read : numbers (parcel p memory qs) 0 (suc (suc (suc (length qs)))) ≡ head p memory qs
  unfolding parcel
  parcel_read = words_read (head p memory qs) (bodies p memory qs) head_small

  drop-parcel : drop (24 + 8 * length qs) (parcel p memory qs) ≡ bodies p memory qs
  unfolding parcel
  drop-parcel = drop_at (words (head p memory qs)) (bodies p memory qs) _ (length-head p memory qs)

  parcel-accepted : (copy : List ℕ) → length memory ≡ length copy → applied copy (parcel p memory qs) ≡ gives (refreshed p memory copy qs)
  parcel-accepted copy even =
      applied_accepts copy (parcel p memory qs) qs (bodies p memory qs) p (length memory) paged even parcel_read chain few (length-parcel p memory qs) drop-parcel

-- the copy after the parcel of the dirty pages: memory's bytes on dirty pages, its own elsewhere
pub record Refreshed (p : ℕ) (memory copy : List ℕ) (d : ℕ → Bool) : Type 0 where
  pub fresh : List ℕ
  pub accepted : applied copy (parcel p memory (dirty_below d (pages (length memory) p))) ≡ gives fresh
  pub long : length fresh ≡ length memory
  pub bytes : (x : ℕ) → x < length memory → get_or fresh x 0 ≡ cond (d (x / p)) (get_or memory x 0) (get_or copy x 0)

pub parcel-refreshes : (p : ℕ) (memory copy : List ℕ) (d : ℕ → Bool) → 0 < p → p < 2 ^ 64 → length memory ≡ length copy → length memory < 2 ^ 64 → Refreshed p memory copy d
parcel-refreshes p memory copy d paged page_small even small =
    let qs = dirty_below d (pages (length memory) p) in
    let chain = dirty_chain d (pages (length memory) p) in
    let few = dirty_count d (pages (length memory) p) in
    record {
      fresh = refreshed p memory copy qs;
      accepted = parcel-accepted p memory qs paged page_small small chain few copy even;
      long = length_refreshed p memory paged copy 0 qs even chain;
      bytes = λ x below.
          let at = get_or_refreshed p memory paged copy 0 qs x even chain below in
          let page = byte_on_page (length memory) p x paged below in
          let known = dirty_has d (pages (length memory) p) (x / p) in
          grind (arith, nat_tests);
    }
