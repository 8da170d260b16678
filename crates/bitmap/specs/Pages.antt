-- What a dirty bitmap means: pages of one size, each with a bit, from a mark base on. Assumes nothing.
use Rattle.std.specs.Prelude.{ℕ, ◌+◌, ◌-◌, ◌*◌, ◌/◌, ◌%◌, ◌^◌, ◌<◌, ◌≤◌, min, Bool, true, false, cond, ◌&&◌, Some, None, Option, ◌==◌, nat_le, nat_lt}

-- the largest number of 64 bits
abbrev pub top : ℕ
top = 2 ^ 64 - 1

-- a sum as 64 bits hold it
abbrev pub wrapped : ℕ → ℕ → ℕ
wrapped a b = (a + b) % 2 ^ 64

-- n / d, rounded up
abbrev pub ceiling : ℕ → ℕ → ℕ
ceiling n d = (n + (d - 1)) / d

-- a page size, how many pages there are, the offset that is added to each range, and the bit of each page; bits at or past the count stand for no page
pub record Meaning : Type 0 where
  pub page : ℕ
  pub count : ℕ
  pub base : ℕ
  pub bit : ℕ → Bool

-- there are pages, and the last one starts within 64 bits
abbrev pub Paged : Meaning → Type 0
Paged b = 0 < b.page

abbrev pub Bounded : Meaning → Type 0
Bounded b = 0 < b.count → (b.count - 1) * b.page ≤ top

-- page n is dirty
abbrev pub dirty : Meaning → ℕ → Bool
dirty b n = nat_lt n b.count && b.bit n

-- the byte that an offset stands for
abbrev pub place : Meaning → ℕ → ℕ
place b offset = wrapped b.base offset

-- page n is one of count pages, and one of the len bytes from start on lies there; the end stops at the top
unfoldable pub spans : ℕ → ℕ → ℕ → ℕ → ℕ → Bool
spans page count start len n = (nat_lt 0 len && nat_lt n count) && (nat_le (start / page) n && nat_le n (min (start + len - 1) top / page))

-- the pages that a call with an offset and a length reaches
abbrev pub reaches : Meaning → ℕ → ℕ → ℕ → Bool
reaches b offset len n = spans b.page b.count (place b offset) len n

abbrev pub with_bits : Meaning → (ℕ → Bool) → Meaning
with_bits b f = record { page = b.page; count = b.count; base = b.base; bit = f }

-- the pages of a range made dirty, where `on`, or clean; every other bit stays
unfoldable pub assigned : Bool → Meaning → ℕ → ℕ → Meaning
assigned on b offset len = with_bits b (λ n. cond (reaches b offset len n) on (b.bit n))

abbrev pub marked : Meaning → ℕ → ℕ → Meaning
marked = assigned true

abbrev pub cleaned : Meaning → ℕ → ℕ → Meaning
cleaned = assigned false

-- one page made dirty or clean, if the bitmap has it
unfoldable pub assigned_page : Bool → Meaning → ℕ → Meaning
assigned_page on b page = with_bits b (λ n. cond (n == page && nat_lt n b.count) on (b.bit n))

-- the page at an offset is dirty
abbrev pub dirty_at : Meaning → ℕ → Bool
dirty_at b offset = dirty b (place b offset / b.page)

-- the same pages, from an offset on
abbrev pub sliced : Meaning → ℕ → Meaning
sliced b offset = record { page = b.page; count = b.count; base = wrapped b.base offset; bit = b.bit }

-- how many pages a memory of so many bytes has, as far as there are addresses, and bits, for them
abbrev pub page_count : ℕ → ℕ → ℕ → ℕ
page_count byte_size page bits = min (ceiling (min byte_size top) page) bits

-- pages that are all clean
abbrev pub clean : ℕ → ℕ → Meaning
clean page count = record { page = page; count = count; base = 0; bit = λ n. false }

-- a page size as it is made of a number
abbrev pub page_size : ℕ → Option ℕ
page_size n = cond (n == 0) None (Some n)

-- the dirty share of k pages among c, in thousandths, rounded down
abbrev pub share : ℕ → ℕ → Option ℕ
share k c = cond (c == 0) None (cond (nat_lt c k) None (Some (1000 * k / c)))
