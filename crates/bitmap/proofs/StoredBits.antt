-- Bits in a row of words: what a read of one gives, and what a write of one leaves. Over every kind of word.
use Rattle.std.proofs.Common.{◌≡◌, ℕ, zero, suc, ◌+◌, ◌*◌, ◌/◌, ◌%◌, ◌^◌, ◌<◌, ◌≤◌, Bool, false, cond, eqb, List, [], ◌∷◌, length, get_or, set, sym, refl, ap, ◌∙◌, inl, inr, mul_comm, arith}
use Rattle.std.proofs.lemmas.Nat.{div_below, mod_below, div-add-mod', div-mul-add, mod-mul-add}
use Rattle.std.proofs.ByRecursion.{All-get_or}
use Rattle.std.proofs.lemmas.List.{ext_get_or, get_or_default}
use Rattle.std.proofs.lemmas.Bool.{cases_eq}
use Rattle.std.proofs.lemmas.Bool.Decides.{nat_tests}
use Rattle.std.specs.List.{AllByRecursion}
use Rattle.bitmap.specs.Storage.{bit_of, bit_at, stored}
use Rattle.bitmap.proofs.BitLaws.{same_number}

module _ {W : Type 0} (bit : W → ℕ → Bool) where
  bit_at_read : (ws : List W) (i k : ℕ) (x : W) → i < length ws → x ≡ get_or ws i x → bit x k ≡ bit_at bit ws i k
  bit_at_read [] i k x h is = absurd (omega arith)
  bit_at_read (w ∷ ws) zero k x h is = ap (λ y. bit y k) is
  bit_at_read (w ∷ ws) (suc i) k x h is = bit_at_read ws i k x (omega arith) is

  bit_at_set : (ws : List W) (i j k : ℕ) (x : W) → i < length ws → bit_at bit (set ws i x) j k ≡ cond (eqb j i) (bit x k) (bit_at bit ws j k)
  bit_at_set [] i j k x h = absurd (omega arith)
  bit_at_set (w ∷ ws) zero zero k x h = refl
  bit_at_set (w ∷ ws) zero (suc j) k x h = grind (arith, nat_tests)
  bit_at_set (w ∷ ws) (suc i) zero k x h = grind (arith, nat_tests)
  bit_at_set (w ∷ ws) (suc i) (suc j) k x h = let ih = bit_at_set ws i j k x (omega arith) in grind (arith, nat_tests)

  bit_at_past : (ws : List W) (i k : ℕ) → length ws ≤ i → bit_at bit ws i k ≡ false
  bit_at_past [] i k h = refl
  bit_at_past (w ∷ ws) zero k h = absurd (omega arith)
  bit_at_past (w ∷ ws) (suc i) k h = bit_at_past ws i k (omega arith)

  -- past the last word no bit is set
  pub stored_past : (width : ℕ) (ws : List W) (n r : ℕ) → r ≡ width → length ws ≤ n / r → false ≡ stored bit width ws n
  unfolding stored
  stored_past width ws n r is past = sym (bit_at_past ws (n / width) (n % width) (rw is at past))

module _ {W : Type 0} (bit : W → ℕ → Bool) (width : ℕ) (wide : 0 < width) where
  -- the word of a bit of the row, where r is the width as the code has it
  pub word_within : (ws : List W) (n r : ℕ) → r ≡ width → n < width * length ws → n / r < length ws
  word_within ws n r is h = rw is (div_below n width (length ws) wide (omega (arith, mul_comm width (length ws))))

  -- a bit as its word has it
  pub stored_read : (ws : List W) (n r : ℕ) (x : W) → r ≡ width → n / r < length ws → x ≡ get_or ws (n / r) x → bit x (n % r) ≡ stored bit width ws n
  unfolding stored
  stored_read ws n r x is h at = rw is (bit_at_read bit ws (n / width) (n % width) x (rw is at h) (rw is at at))

  -- two bits with one word and one place are one
  same_bit : (m n : ℕ) → m / width ≡ n / width → m % width ≡ n % width → m ≡ n
  same_bit m n q r = sym (div-add-mod' m width) ∙ ap (λ x. x * width + m % width) q ∙ ap (λ x. n / width * width + x) r ∙ div-add-mod' n width

  write_one : (ws : List W) (n : ℕ) (x y : W) (on : Bool) → n / width < length ws → x ≡ get_or ws (n / width) x → ((j : ℕ) → j < width → bit y j ≡ cond (eqb j (n % width)) on (bit x j)) → (m : ℕ) → stored bit width (set ws (n / width) y) m ≡ cond (eqb m n) on (stored bit width ws m)
  unfolding stored
  write_one ws n x y on h is each m =
      let at = bit_at_set bit ws (n / width) (m / width) (m % width) y h in
      let new = each (m % width) (mod_below m width wide) in
      elim (cases_eq (m / width) (n / width)) [
        | inl q ↦
            let old : bit x (m % width) ≡ bit_at bit ws (m / width) (m % width) = rw q (bit_at_read bit ws (n / width) (m % width) x h is) in
            elim (cases_eq (m % width) (n % width)) [
              | inl r ↦ let e = same_bit m n q r in grind (arith, nat_tests)
              | inr r ↦ let e : m ≡ n → ⊥ = λ same. r (ap (λ z. z % width) same) in grind (arith, nat_tests)
            ]
        | inr q ↦ let e : m ≡ n → ⊥ = λ same. q (ap (λ z. z / width) same) in grind (arith, nat_tests)
      ]

  -- a word written that differs in one bit from the one that stood there
  pub stored-write : (ws : List W) (n r : ℕ) (x y : W) (on : Bool) → r ≡ width → n < width * length ws → x ≡ get_or ws (n / r) x → ((j : ℕ) → j < width → bit y j ≡ cond (eqb j (n % r)) on (bit x j)) → (m : ℕ) → stored bit width (set ws (n / r) y) m ≡ cond (eqb m n) on (stored bit width ws m)
  stored-write ws n r x y on is h at each = rw is (write_one ws n x y on (word_within ws n width refl h) (rw is at at) (rw is at each))

-- words are known by their bits
pub same_words : (width : ℕ) → 0 < width → (ws vs : List ℕ) → AllByRecursion (λ w. w < 2 ^ width) ws → AllByRecursion (λ w. w < 2 ^ width) vs → length ws ≡ length vs → ((n : ℕ) → stored bit_of width ws n ≡ stored bit_of width vs n) → ws ≡ vs
unfolding stored
same_words width wide ws vs fit fit' same each =
    ext_get_or 0 ws vs same λ i h.
    same_number width _ _ (All-get_or _ ws i 0 h fit) (All-get_or _ vs i 0 (omega arith) fit') λ k below.
    let at = each (i * width + k) in
    let e = rw (div-mul-add i width k below, mod-mul-add i width k below) at at in
    bit_at_read bit_of ws i k _ h (get_or_default ws i 0 _ h) ∙ e ∙ sym (bit_at_read bit_of vs i k _ (omega arith) (get_or_default vs i 0 _ (omega arith)))
