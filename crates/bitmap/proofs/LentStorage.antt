-- What a bitmap over lent words means after some of their bits were assigned.
use Rattle.std.proofs.Common.{◌≡◌, ℕ, zero, suc, ◌*◌, ◌/◌, ◌%◌, ◌^◌, ◌<◌, ◌≤◌, min, Bool, false, cond, ◌&&◌, eqb, ltb, leb, List, [], ◌∷◌, length, replicate, refl, ap, ◌∙◌, arith, MutBor}
use native.Mathlib.Nat.{zero-div}
use denote.Ref.{at_last}
use lib.ListN.{length-replicate}
use Rattle.std.proofs.lemmas.Bool.Decides.{nat_tests}
use Rattle.bitmap.specs.Pages.{Meaning, top, wrapped, spans, with_bits, assigned, assigned_page, page_count, clean}
use Rattle.bitmap.specs.Storage.{bit_of, bit, bit_at, stored}
use Rattle.bitmap.specs.Tracked.{loan, over_words, over}
use Rattle.bitmap.proofs.PageLaws.{assigned_by, assigned_page_by, ceiling_le}

-- a limit on the bits that is past every page count is none
pub page_count_capped : (byte_size page bits : ℕ) → 0 < page → page_count byte_size page (min bits top) ≡ page_count byte_size page bits
page_count_capped byte_size page bits some = let few = ceiling_le (min byte_size top) page some in omega arith

module _ {W : Type 0} (bits_of : W → ℕ) (byte_size page width : ℕ) (ws vs : List W) (same : length vs ≡ length ws) where
  -- other words of the same number differ in their bits alone
  over_bits : over_words bits_of byte_size page width vs ≡ with_bits (over_words bits_of byte_size page width ws) (stored (bit bits_of) width vs)
  over_bits = ap (λ l. record { page = page; count = page_count byte_size page (width * l); base = 0; bit = stored (bit bits_of) width vs }) same

  pub over-assigned : (on : Bool) (start len first end : ℕ) → start < 2 ^ 64 → ((n : ℕ) → spans page (page_count byte_size page (width * length ws)) start len n ≡ (leb first n && ltb n end)) → ((n : ℕ) → stored (bit bits_of) width vs n ≡ cond (leb first n && ltb n end) on (stored (bit bits_of) width ws n)) → over_words bits_of byte_size page width vs ≡ assigned on (over_words bits_of byte_size page width ws) start len
  over-assigned on start len first end fits pages bits =
      let at : wrapped 0 start ≡ start = omega arith in
      over_bits ∙ assigned_by (over_words bits_of byte_size page width ws) on start len (stored (bit bits_of) width vs) (λ n. rw (at, pages n) (bits n))

  pub over_assigned_page : (on : Bool) (n : ℕ) → n < page_count byte_size page (width * length ws) → ((m : ℕ) → stored (bit bits_of) width vs m ≡ cond (eqb m n) on (stored (bit bits_of) width ws m)) → over_words bits_of byte_size page width vs ≡ assigned_page on (over_words bits_of byte_size page width ws) n
  over_assigned_page on n has bits =
      over_bits ∙ assigned_page_by (over_words bits_of byte_size page width ws) on n (stored (bit bits_of) width vs) (λ m. rw (bits m) (grind (arith, nat_tests)))

-- storage that is written to is the storage that was lent
pub loan-kept : {W : Type 0} (r : MutBor (List W)) (vs : List W) → length vs ≡ length r.now → loan (at_last r vs) ≡ loan r
loan-kept r vs same = ap (λ l. r.ghost_name ∷ l ∷ []) same

-- a page past the count is left alone
pub past_assigned_page : (on : Bool) (b : Meaning) (n : ℕ) → b.count ≤ n → b ≡ assigned_page on b n
past_assigned_page on b n past = assigned_page_by b on n b.bit (λ m. grind (arith, nat_tests))

bit_of_zero : (k : ℕ) → bit_of 0 k ≡ false
bit_of_zero k = rw (zero-div (2 ^ k))

bit_at_zeros : (l i k : ℕ) → bit_at bit_of (replicate l 0) i k ≡ false
bit_at_zeros zero i k = refl
bit_at_zeros (suc l) zero k = bit_of_zero k
bit_at_zeros (suc l) (suc i) k = bit_at_zeros l i k

pub stored-zeros : (width l n : ℕ) → stored bit_of width (replicate l 0) n ≡ false
unfolding stored
stored-zeros width l n = bit_at_zeros l (n / width) (n % width)

-- cleared words are clean pages
pub over_cleared : (byte_size page width l : ℕ) → over byte_size page width (replicate l 0) ≡ clean page (page_count byte_size page (width * l))
over_cleared byte_size page width l i = record {
  page = page;
  count = page_count byte_size page (width * length-replicate {A = ℕ} l 0 i);
  base = 0;
  bit = λ n. stored-zeros width l n i;
}
