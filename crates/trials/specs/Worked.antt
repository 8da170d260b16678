-- Worked examples, as a theorem of the definitions that the contracts cite. Assumes nothing.
use Rattle.std.specs.Prelude.{◌≡◌, ℕ, ◌^◌, ◌<◌, Bool, ◌||◌, List, [], ◌∷◌, length, ◌==◌}
use Rattle.std.specs.List.{AllByRecursion}
use Rattle.bitmap.specs.Pages.{Meaning, top, dirty, marked}
use Rattle.bitmap.specs.Storage.{bit_of, stored}
use Rattle.volatile_memory.specs.Calls.{Done, write, write_slice, store, copy_from}
use Rattle.volatile_memory.specs.Faults.{out_of_bounds, overflow, too_big, misaligned, partial_buffer}
use Rattle.volatile_memory.specs.Faults.Answer.{gives, refuses}
use Rattle.volatile_memory.specs.Spans.{Span, root, cut, cut_array, rest}

-- three pages of 4096, from a mark base on
abbrev pub three_pages : ℕ → (ℕ → Bool) → Meaning
three_pages base bit = record { page = 4096; count = 3; base = base; bit = bit }

-- the root of 10,000 bytes at the address 4096, and its view of some bytes from a place on
abbrev pub view : ℕ → ℕ → Span
view start size = record { addr = 4096; start = start; size = size; mark = start }

abbrev pub whole : Span
whole = view 0 10000

-- page n of the three is dirty after what a call marks, or was before
abbrev pub marks : Done → (ℕ → Bool) → ℕ → Bool
marks d bit n = dirty (marked (three_pages 0 bit) d.from d.len) n

pub record WorkedBitmaps : Type 0 where
  -- from the top on, the start wraps: one byte at 1 lies on page 0
  pub start_wraps : (bit : ℕ → Bool) (n : ℕ) → dirty (marked (three_pages top bit) 1 1) n ≡ (n == 0 || dirty (three_pages top bit) n)
  -- and the end does not: two bytes from 0 on end at the top
  pub end_stops : (bit : ℕ → Bool) (n : ℕ) → dirty (marked (three_pages top bit) 0 2) n ≡ dirty (three_pages top bit) n
  -- a log that is clear but for pages 0 and 9
  pub log_bytes : (log : List ℕ) → AllByRecursion (λ b. b < 256) log → length log ≡ 2 → ((n : ℕ) → stored bit_of 8 log n ≡ (n == 0 || n == 9)) → log ≡ 1 ∷ 2 ∷ []

-- cuts of the root
pub record WorkedCuts : Type 0 where
  pub is_root : root 4096 10000 ≡ gives whole
  pub last_thousand : cut whole 9000 1000 ≡ gives (view 9000 1000)
  pub one_too_many : cut whole 9000 1001 ≡ refuses (out_of_bounds 10001)
  pub past_the_top : cut whole top 1 ≡ refuses (overflow top 1)
  pub rest_is_empty : rest whole 10000 ≡ gives (view 10000 0)
  pub past_the_rest : rest whole 10001 ≡ refuses (out_of_bounds 14097)
  pub too_many : cut_array whole 2 0 (2 ^ 62) ≡ refuses (too_big (2 ^ 62) 2)

-- calls on the root: a buffer, or an element, by its bytes
pub record WorkedCalls : Type 0 where
  pub nothing_anywhere : (write whole 10000 [] 20000).answer ≡ gives 0
  pub one_byte_outside : (b : ℕ) → (write whole 10000 (b ∷ []) 10000).answer ≡ refuses (out_of_bounds 10000)
  pub five_at_the_end : (buf : List ℕ) → length buf ≡ 5 → (write_slice whole 10000 buf 9998).answer ≡ refuses (partial_buffer 5 2)
  pub dirties_the_last_page : (buf : List ℕ) (bit : ℕ → Bool) (n : ℕ) → length buf ≡ 5 → marks (write_slice whole 10000 buf 9998) bit n ≡ (n == 2 || dirty (three_pages 0 bit) n)
  -- nine line heads on the hundred bytes from 4080 on: eight fit
  pub eight_heads : (heads : List (List ℕ)) → length heads ≡ 9 → AllByRecursion (λ h. length h ≡ 12) heads → length (copy_from (view 4080 100) 10000 12 heads).bytes ≡ 96
  pub heads_dirty_two_pages : (heads : List (List ℕ)) (bit : ℕ → Bool) (n : ℕ) → length heads ≡ 9 → AllByRecursion (λ h. length h ≡ 12) heads → marks (copy_from (view 4080 100) 10000 12 heads) bit n ≡ (n == 0 || (n == 1 || dirty (three_pages 0 bit) n))
  pub not_aligned : (bytes : List ℕ) → length bytes ≡ 4 → (store whole 10000 bytes 2).answer ≡ refuses (misaligned 4098 4)
  pub store_outside : (bytes : List ℕ) → length bytes ≡ 4 → (store whole 10000 bytes 9998).answer ≡ refuses (out_of_bounds 10002)

pub record Worked : Type 0 where
  pub bitmaps : WorkedBitmaps
  pub cuts : WorkedCuts
  pub calls : WorkedCalls
