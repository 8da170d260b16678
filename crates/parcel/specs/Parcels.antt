-- Parcels: the dirty pages of a memory as bytes, and those bytes laid into a copy. Assumes nothing.
use Rattle.std.specs.Prelude.{ℕ, zero, suc, ◌+◌, ◌-◌, ◌*◌, ◌/◌, min, Bool, false, cond, not, ◌&&◌, ◌||◌, List, [], ◌∷◌, ◌++◌, map, filter, length, take, drop, ◌==◌, nat_le, nat_lt, if◌then◌else◌, Some, None, Option}
use Rattle.std.specs.List.{range_with_len}
use Rattle.byte_valued.specs.LittleEndian.{bytes_of, number_of}
use Rattle.bitmap.specs.Pages.{Meaning, top, ceiling, dirty, with_bits}
use Rattle.volatile_memory.specs.Faults.{Answer, uncovered, no_room, bad_parcel}
use Rattle.volatile_memory.specs.Faults.Answer.{gives, refuses}
use Rattle.volatile_memory.specs.Memory.{part, overlaid, joined}

-- how many pages of size p a memory of n bytes has
abbrev pub pages : ℕ → ℕ → ℕ
pages n p = ceiling n p

-- how many bytes page q has: p, the memory's last page only those below n
abbrev pub page_length : ℕ → ℕ → ℕ → ℕ
page_length p n q = min p (n - q * p)

-- the pages below n that are dirty by d, rising
unfoldable pub dirty_below : (ℕ → Bool) → ℕ → List ℕ
dirty_below d n = filter d (range_with_len 0 n)

-- the dirty pages of a memory
abbrev pub dirty_pages : Meaning → List ℕ → List ℕ
dirty_pages b memory = dirty_below (dirty b) (pages (length memory) b.page)

-- numbers, 8 bytes each
abbrev pub words : List ℕ → List ℕ
words ns = joined (map (bytes_of 8) ns)

-- a parcel's numbers: the page size, how many pages, the memory's length, and the pages
abbrev pub head : ℕ → List ℕ → List ℕ → List ℕ
head p memory qs = p ∷ length qs ∷ length memory ∷ qs

-- the pages' bytes, one page after another
abbrev pub bodies : ℕ → List ℕ → List ℕ → List ℕ
bodies p memory qs = joined (map (λ q. part memory (q * p) p) qs)

-- the parcel of these pages
unfoldable pub parcel : ℕ → List ℕ → List ℕ → List ℕ
parcel p memory qs = words (head p memory qs) ++ bodies p memory qs

-- the parcel that a bitmap calls for
abbrev pub due : Meaning → List ℕ → List ℕ
due b memory = parcel b.page memory (dirty_pages b memory)

-- the bitmap has every page of the memory
abbrev pub covered : Meaning → List ℕ → Bool
covered b memory = b.base == 0 && nat_le (pages (length memory) b.page) b.count

-- taking, with room for so many bytes
unfoldable pub taken : Meaning → List ℕ → ℕ → Answer (List ℕ)
taken b memory room =
    cond (not (covered b memory)) (refuses (uncovered (pages (length memory) b.page) b.count))
    (cond (nat_lt room (length (due b memory))) (refuses (no_room (min (length (due b memory)) top)))
    (gives (due b memory)))

-- how many bytes the parcel has that taking would write, as far as 64 bits tell it
abbrev pub parcel_len : Meaning → List ℕ → Answer ℕ
parcel_len b memory = cond (covered b memory) (gives (min (length (due b memory)) top)) (refuses (uncovered (pages (length memory) b.page) b.count))

-- the bitmap after a parcel was taken: the pages of the memory are clean
unfoldable pub swept : Meaning → List ℕ → Meaning
swept b memory = with_bits b (λ n. cond (nat_lt n (pages (length memory) b.page)) false (b.bit n))

-- number i of a parcel's numbers
abbrev pub number_at : List ℕ → ℕ → ℕ
number_at bs i = number_of (part bs (i * 8) 8)

-- the number of page i that a parcel carries: absent past the pages that it says it has, and past its bytes
abbrev pub page_number : List ℕ → ℕ → Option ℕ
page_number bs i = if nat_lt i (number_at bs 1) && nat_le (24 + 8 * (i + 1)) (length bs) then Some (number_at bs (3 + i)) else None

-- k numbers from the i-th on
abbrev pub numbers : List ℕ → ℕ → ℕ → List ℕ
numbers bs i zero = []
numbers bs i (suc k) = number_at bs i ∷ numbers bs (i + 1) k

-- the numbers of the pages that a parcel carries: as many as it says it has, as far as it has bytes for them
abbrev pub page_numbers : List ℕ → List ℕ
page_numbers bs = numbers bs 3 (min (number_at bs 1) ((length bs - 24) / 8))

-- all the numbers that bytes hold
abbrev pub numbers_of : List ℕ → List ℕ
numbers_of bs = numbers bs 0 (length bs / 8)

-- the first of some page numbers that is no page of n, or below `low` (one more than the page before, 0 at first), by its place; the first of them is the i-th number
abbrev pub wrong_among : ℕ → ℕ → ℕ → List ℕ → Answer ℕ
wrong_among n low i [] = gives 0
wrong_among n low i (q ∷ qs) = cond (nat_le low q && nat_lt q n) (wrong_among n (q + 1) (i + 1) qs) (refuses (bad_parcel 5 (i * 8)))

abbrev pub sum_of : (ℕ → ℕ) → List ℕ → ℕ
sum_of f [] = 0
sum_of f (x ∷ xs) = f x + sum_of f xs

-- the pages' bytes laid at their places
abbrev pub laid_pages : List ℕ → ℕ → List ℕ → List ℕ → List ℕ
laid_pages copy p [] bs = copy
laid_pages copy p (q ∷ qs) bs =
    let k = page_length p (length copy) q in laid_pages (overlaid copy (q * p) (take k bs)) p qs (drop k bs)

-- what stands, unless an answer before it refuses
abbrev pub unless : {X Y : Type 0} → Answer X → Answer Y → Answer Y
unless (gives x) a = a
unless (refuses f) a = refuses f

-- applying: the first rule that a parcel breaks, or the copy with its pages
unfoldable pub applied : List ℕ → List ℕ → Answer (List ℕ)
applied copy bs =
    let p = number_at bs 0 in let k = number_at bs 1 in let n = number_at bs 2 in let qs = numbers bs 3 k in
    let owed = 24 + 8 * k + sum_of (page_length p (length copy)) qs in
    cond (nat_lt (length bs) 24) (refuses (bad_parcel 1 (length bs)))
    (cond (p == 0) (refuses (bad_parcel 2 0))
    (cond (not (n == length copy)) (refuses (bad_parcel 3 16))
    (cond (nat_lt (pages n p) k || nat_lt (length bs) (24 + 8 * k)) (refuses (bad_parcel 4 8))
    (unless (wrong_among (pages n p) 0 3 qs)
    (cond (not (length bs == owed)) (refuses (bad_parcel 6 (min (length bs) owed)))
    (gives (laid_pages copy p qs (drop (24 + 8 * k) bs))))))))
