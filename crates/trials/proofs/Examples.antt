-- The worked examples, proved of the definitions.
use Rattle.std.proofs.Common.{◌≡◌, ℕ, zero, suc, ◌/◌, ◌%◌, ◌<◌, Bool, ◌&&◌, ◌||◌, eqb, List, [], ◌∷◌, length, get_or, take, sym, refl, ap, ◌∙◌, arith, lit<, length-take}
use Rattle.std.proofs.ByRecursion.{All-from_get_or, All-take}
use Rattle.std.proofs.lemmas.Bool.Decides.{nat_tests}
use Rattle.std.specs.List.{AllByRecursion}
use Rattle.bitmap.specs.Pages.{top, spans, dirty, assigned, marked}
use Rattle.bitmap.specs.Tracked.{over}
use Rattle.bitmap.specs.Storage.{bit_of, bit_at, stored}
use Rattle.bitmap.proofs.BitLaws.{bit_of_power}
use Rattle.bitmap.proofs.LentStorage.{stored-zeros}
use Rattle.bitmap.proofs.StoredBits.{same_words}
use Rattle.volatile_memory.specs.Calls.{Done, moves, write, write_slice, atomic_at, unless_refused, store, copy_from}
use Rattle.volatile_memory.specs.Faults.{out_of_bounds, misaligned, partial_buffer}
use Rattle.volatile_memory.specs.Faults.Answer.{gives, refuses}
use Rattle.volatile_memory.proofs.LaidBytes.{length_pieces}
use Rattle.trials.specs.Worked.{three_pages, view, whole, marks, Worked, WorkedCuts}

start_wraps : (bit : ℕ → Bool) (n : ℕ) → dirty (marked (three_pages top bit) 1 1) n ≡ (eqb n 0 || dirty (three_pages top bit) n)
unfolding assigned spans
start_wraps bit n = grind (arith, nat_tests)

end_stops : (bit : ℕ → Bool) (n : ℕ) → dirty (marked (three_pages top bit) 0 2) n ≡ dirty (three_pages top bit) n
unfolding assigned spans
end_stops bit n = grind (arith, nat_tests)

-- the bits of the bytes 1 and 2
example_bit : (i k : ℕ) → bit_at bit_of (1 ∷ 2 ∷ []) i k ≡ ((eqb i 0 && eqb k 0) || (eqb i 1 && eqb k 1))
example_bit zero k = bit_of_power 0 k ∙ grind (arith, nat_tests)
example_bit (suc zero) k = bit_of_power 1 k ∙ grind (arith, nat_tests)
example_bit (suc (suc i)) k = grind (arith, nat_tests)

example_bits : (n : ℕ) → stored bit_of 8 (1 ∷ 2 ∷ []) n ≡ (eqb n 0 || eqb n 9)
unfolding stored
example_bits n = rw (example_bit (n / 8) (n % 8)) (grind (arith, nat_tests))

log_bytes : (log : List ℕ) → AllByRecursion (λ b. b < 256) log → length log ≡ 2 → ((n : ℕ) → stored bit_of 8 log n ≡ (eqb n 0 || eqb n 9)) → log ≡ 1 ∷ 2 ∷ []
log_bytes log fits two bits = same_words 8 (lit< tt) log (1 ∷ 2 ∷ []) fits (lit< tt, (lit< tt, tt)) two (λ n. bits n ∙ sym (example_bits n))

-- ten clear pages with two of them marked
two_marks : (n : ℕ) → (marked (marked (over 40960 4096 8 (0 ∷ 0 ∷ [])) 0 1) 36864 1).bit n ≡ (eqb n 0 || eqb n 9)
unfolding assigned spans
two_marks n = let clear = stored-zeros 8 2 n in grind (arith, nat_tests)

-- the two bytes of a log after those marks
pub marked_log : (log : List ℕ) → length log ≡ 2 → ((i : ℕ) → get_or log i 0 < 256) → ((n : ℕ) → stored bit_of 8 log n ≡ (marked (marked (over 40960 4096 8 (0 ∷ 0 ∷ [])) 0 1) 36864 1).bit n) → ◌≡◌ {A = ℕ × ℕ} (get_or log 0 0, get_or log 1 0) (1, 2)
marked_log log two fits bits =
    ap (λ xs. (get_or xs 0 0, get_or xs 1 0)) (log_bytes log (All-from_get_or (λ b. b < 256) log 0 (λ i h. fits i)) two (λ n. bits n ∙ two_marks n))

pages_of : (d : Done) (from len : ℕ) (bit : ℕ → Bool) (n : ℕ) → d.from ≡ from → d.len ≡ len → marks d bit n ≡ dirty (marked (three_pages 0 bit) from len) n
pages_of d from len bit n is_from is_len = ap (λ f. dirty (marked (three_pages 0 bit) f d.len) n) is_from ∙ ap (λ l. dirty (marked (three_pages 0 bit) from l) n) is_len

cuts : WorkedCuts
cuts = record {
  is_root = refl;
  last_thousand = refl;
  one_too_many = refl;
  past_the_top = refl;
  rest_is_empty = refl;
  past_the_rest = refl;
  too_many = refl;
}

module _ (buf : List ℕ) (five : length buf ≡ 5) where
  two_fit : moves whole 10000 (length buf) 9998 ≡ gives 2
  two_fit = rw five

  five_at_the_end : (write_slice whole 10000 buf 9998).answer ≡ refuses (partial_buffer 5 2)
  unfolding write_slice write
  five_at_the_end = rw (two_fit, five)

  page_two : (bit : ℕ → Bool) (n : ℕ) → dirty (marked (three_pages 0 bit) 9998 2) n ≡ (eqb n 2 || dirty (three_pages 0 bit) n)
  unfolding assigned spans
  page_two bit n = grind (arith, nat_tests)

  two_taken : length (take 2 buf) ≡ 2
  two_taken = simp length-take (omega arith)

  dirties_the_last_page : (bit : ℕ → Bool) (n : ℕ) → marks (write_slice whole 10000 buf 9998) bit n ≡ (eqb n 2 || dirty (three_pages 0 bit) n)
  unfolding write_slice write
  dirties_the_last_page bit n = pages_of (write_slice whole 10000 buf 9998) 9998 2 bit n (rw two_fit) (rw two_fit two_taken) ∙ page_two bit n

module _ (heads : List (List ℕ)) (nine : length heads ≡ 9) (each : AllByRecursion (λ h. length h ≡ 12) heads) where
  eight_heads : length (copy_from (view 4080 100) 10000 12 heads).bytes ≡ 96
  unfolding copy_from
  eight_heads = length_pieces 12 (take 8 heads) (All-take _ 8 heads each) ∙ rw eight
    where
      eight : length (take 8 heads) ≡ 8
      eight = simp length-take (omega arith)

  two_pages : (bit : ℕ → Bool) (n : ℕ) → dirty (marked (three_pages 0 bit) 4080 96) n ≡ (eqb n 0 || (eqb n 1 || dirty (three_pages 0 bit) n))
  unfolding assigned spans
  two_pages bit n = grind (arith, nat_tests)

  heads_dirty_two_pages : (bit : ℕ → Bool) (n : ℕ) → marks (copy_from (view 4080 100) 10000 12 heads) bit n ≡ (eqb n 0 || (eqb n 1 || dirty (three_pages 0 bit) n))
  unfolding copy_from
  heads_dirty_two_pages bit n = pages_of (copy_from (view 4080 100) 10000 12 heads) 4080 96 bit n refl eight_heads ∙ two_pages bit n

module _ (bytes : List ℕ) (four : length bytes ≡ 4) where
  not_aligned : (store whole 10000 bytes 2).answer ≡ refuses (misaligned 4098 4)
  unfolding store
  not_aligned = ap (λ z. (unless_refused whole 2 bytes (atomic_at whole 10000 z 2)).answer) four

  store_outside : (store whole 10000 bytes 9998).answer ≡ refuses (out_of_bounds 10002)
  unfolding store
  store_outside = ap (λ z. (unless_refused whole 9998 bytes (atomic_at whole 10000 z 9998)).answer) four

nothing_anywhere : (write whole 10000 [] 20000).answer ≡ gives 0
unfolding write
nothing_anywhere = refl

one_byte_outside : (b : ℕ) → (write whole 10000 (b ∷ []) 10000).answer ≡ refuses (out_of_bounds 10000)
unfolding write
one_byte_outside b = refl

pub worked : Worked
worked = record {
  bitmaps = record { start_wraps = start_wraps; end_stops = end_stops; log_bytes = log_bytes };
  cuts = cuts;
  calls = record {
    nothing_anywhere = nothing_anywhere;
    one_byte_outside = one_byte_outside;
    five_at_the_end = five_at_the_end;
    dirties_the_last_page = λ buf bit n five. dirties_the_last_page buf five bit n;
    eight_heads = eight_heads;
    heads_dirty_two_pages = λ heads bit n nine each. heads_dirty_two_pages heads nine each bit n;
    not_aligned = not_aligned;
    store_outside = store_outside;
  };
}
