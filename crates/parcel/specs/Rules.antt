-- Taking and applying, step by step. Assumes nothing.
use Rattle.std.specs.Prelude.{◌≡◌, ℕ, ◌+◌, ◌*◌, ◌<◌, min, Bool, cond, not, ◌||◌, List, filter, length, drop, ◌==◌, nat_lt, if◌then◌else◌, Some, None, Option}
use Rattle.std.specs.List.{range_with_len, AllByRecursion}
use Rattle.bitmap.specs.Pages.{Meaning}
use Rattle.volatile_memory.specs.Faults.{Answer, uncovered, bad_parcel}
use Rattle.volatile_memory.specs.Faults.Answer.{gives, refuses}
use Rattle.parcel.specs.Parcels.{pages, page_length, covered, number_at, numbers, numbers_of, wrong_among, sum_of, unless}

-- the dirty ones by d of k pages from m on, rising
abbrev pub dirty_from : (ℕ → Bool) → ℕ → ℕ → List ℕ
dirty_from d m k = filter d (range_with_len m k)

-- the bitmap has every page of a memory
abbrev pub cover : Meaning → List ℕ → Answer ℕ
cover b memory = cond (covered b memory) (gives 0) (refuses (uncovered (pages (length memory) b.page) b.count))

-- the page size, how many pages, and the memory's length, if a parcel has those numbers
abbrev pub first_of : List ℕ → Option (ℕ × ℕ × ℕ)
first_of bs = if nat_lt (length bs) 24 then None else Some (number_at bs 0, number_at bs 1, number_at bs 2)

-- the same, or rule 1
abbrev pub head_of : List ℕ → Answer (ℕ × ℕ × ℕ)
head_of bs = cond (nat_lt (length bs) 24) (refuses (bad_parcel 1 (length bs))) (gives (number_at bs 0, number_at bs 1, number_at bs 2))

-- rules 1 to 4, for a copy of n bytes
abbrev pub head_rules : ℕ → List ℕ → Answer ℕ
head_rules n bs =
    cond (nat_lt (length bs) 24) (refuses (bad_parcel 1 (length bs)))
    (cond (number_at bs 0 == 0) (refuses (bad_parcel 2 0))
    (cond (not (number_at bs 2 == n)) (refuses (bad_parcel 3 16))
    (cond (nat_lt (pages (number_at bs 2) (number_at bs 0)) (number_at bs 1) || nat_lt (length bs) (24 + 8 * number_at bs 1)) (refuses (bad_parcel 4 8))
    (gives 0))))

-- the pages that a parcel carries for a memory of n bytes: their size, the memory's length, the bytes of their numbers, and their bytes
pub record Carries (n : ℕ) (bs : List ℕ) (page total : ℕ) (words bodies : List ℕ) : Type 0 where
  pub page_is : page ≡ number_at bs 0
  pub total_is : total ≡ n
  pub numbers_are : numbers_of words ≡ numbers bs 3 (number_at bs 1)
  pub long : 24 + length words ≡ 24 + 8 * number_at bs 1
  pub whole : 24 + length words + length bodies ≡ length bs
  pub bodies_are : bodies ≡ drop (24 + 8 * number_at bs 1) bs

-- rule 6
abbrev pub length_rule : ℕ → ℕ → Answer ℕ
length_rule n owed = cond (n == owed) (gives 0) (refuses (bad_parcel 6 (min n owed)))

-- each is a page of n
abbrev pub Below : ℕ → List ℕ → Type 0
Below n qs = AllByRecursion (λ q. q < n) qs

-- all six rules, for a copy of n bytes: the first that a parcel breaks
unfoldable pub rules : ℕ → List ℕ → Answer ℕ
rules n bs =
    let p = number_at bs 0 in let k = number_at bs 1 in
    unless (head_rules n bs) (unless (wrong_among (pages (number_at bs 2) p) 0 3 (numbers bs 3 k)) (length_rule (length bs) (24 + 8 * k + sum_of (page_length p n) (numbers bs 3 k))))

-- what a parcel says of itself, unless it breaks a rule: the page size, how many pages it carries, the memory's length
abbrev pub inspected : List ℕ → Answer (ℕ × ℕ × ℕ)
inspected bs = unless (rules (number_at bs 2) bs) (gives (number_at bs 0, number_at bs 1, number_at bs 2))
