-- The bits of a number under `|`, `&` and `!`, over every width. Assumes nothing.
use Rattle.std.proofs.Common.{◌≡◌, ℕ, zero, suc, ◌+◌, ◌-◌, ◌*◌, ◌/◌, ◌%◌, ◌^◌, ◌<◌, ◌≤◌, min, max, true, false, cond, not, eqb, sym, refl, ap, ◌∙◌, inl, inr, lt_of_lt_of_le, mul_comm, add-mul, pow-suc, zero-mul, arith, pow_mono}
use native.Mathlib.Nat.{div-eq_of_lt, div_self, div-div-eq-div-mul}
use lib.Bits.{bit_and, bit_or, and_shr, or_shr, and_mod, or_mod, and_high, and_zero_l, or_zero_l}
use Rattle.std.proofs.lemmas.Nat.{pow_pos, pow-add, pow_below, shr_split, shl-shr, div_below, mod_below, div-mul-add}
use Rattle.std.proofs.lemmas.Bool.{cases_order}
use Rattle.std.proofs.lemmas.Bool.Decides.{nat_tests}
use Rattle.bitmap.specs.Storage.{bit_of}

-- bit k as a number
abbrev digit : ℕ → ℕ → ℕ
digit n k = n / 2 ^ k % 2

or_digits : (a b : ℕ) → a < 2 → b < 2 → bit_or a b ≡ max a b
or_digits zero b h k = or_zero_l b ∙ omega arith
or_digits (suc zero) zero h k = refl
or_digits (suc zero) (suc zero) h k = refl
or_digits (suc zero) (suc (suc b)) h k = absurd (omega arith)
or_digits (suc (suc a)) b h k = absurd (omega arith)

and_digits : (a b : ℕ) → a < 2 → b < 2 → bit_and a b ≡ min a b
and_digits zero b h k = and_zero_l b ∙ omega arith
and_digits (suc zero) zero h k = refl
and_digits (suc zero) (suc zero) h k = refl
and_digits (suc zero) (suc (suc b)) h k = absurd (omega arith)
and_digits (suc (suc a)) b h k = absurd (omega arith)

digit_or : (a b k : ℕ) → digit (bit_or a b) k ≡ max (digit a k) (digit b k)
digit_or a b k = rw (or_shr a b k) (or_mod (a / 2 ^ k) (b / 2 ^ k) 1 ∙ or_digits _ _ (omega arith) (omega arith))

digit_and : (a b k : ℕ) → digit (bit_and a b) k ≡ min (digit a k) (digit b k)
digit_and a b k = rw (and_shr a b k) (and_mod (a / 2 ^ k) (b / 2 ^ k) 1 ∙ and_digits _ _ (omega arith) (omega arith))

-- a higher power is a multiple of twice a lower one
power_split : (j w : ℕ) → j < w → 2 ^ w ≡ 2 ^ (w - suc j) * 2 * 2 ^ j
power_split j w h =
    let e : w ≡ w - suc j + 1 + j = omega arith in
    ap (λ n. 2 ^ n) e ∙ pow-add 2 (w - suc j + 1) j ∙ ap (λ n. n * 2 ^ j) (pow-add 2 (w - suc j) 1)

-- the one bit of a power
digit_power : (k j : ℕ) → digit (2 ^ k) j ≡ cond (eqb j k) 1 0
digit_power k j =
    elim (cases_order j k) [
      | inl same ↦ rw (same, div_self (pow_pos k)) (grind (arith, nat_tests))
      | inr (inl below) ↦
          let e : 2 ^ k / 2 ^ j ≡ 2 ^ (k - suc j) * 2 = ap (λ n. n / 2 ^ j) (power_split j k below) ∙ shl-shr (2 ^ (k - suc j) * 2) j in
          rw e (grind (arith, nat_tests))
      | inr (inr above) ↦ rw (div-eq_of_lt (pow_below k j above)) (grind (arith, nat_tests))
    ]

pub bit_of_power : (k j : ℕ) → bit_of (2 ^ k) j ≡ eqb j k
bit_of_power k j = rw (digit_power k j) (grind (arith, nat_tests))

-- every bit below w of the complement to 2 ^ w - 1 is the other one
digit_complement : (w n j : ℕ) → j < w → n < 2 ^ w → digit (2 ^ w - 1 - n) j ≡ 1 - digit n j
digit_complement w n j h fits =
    let q = n / 2 ^ j in
    let x = 2 ^ (w - suc j) in
    let split : q * 2 ^ j + n % 2 ^ j ≡ n = shr_split n j in
    let whole : 2 ^ w ≡ x * 2 * 2 ^ j = power_split j w h in
    let less : q < x * 2 = div_below n (2 ^ j) (x * 2) (pow_pos j) (omega arith) in
    let r : n % 2 ^ j < 2 ^ j = mod_below n (2 ^ j) (pow_pos j) in
    let y = x * 2 - 1 - q in
    let sum : y + (q + 1) ≡ x * 2 = omega arith in
    let parts : y * 2 ^ j + (q * 2 ^ j + 1 * 2 ^ j) ≡ x * 2 * 2 ^ j = sym (add-mul y (q + 1) (2 ^ j) ∙ ap (λ m. y * 2 ^ j + m) (add-mul q 1 (2 ^ j))) ∙ ap (λ m. m * 2 ^ j) sum in
    let e : 2 ^ w - 1 - n ≡ y * 2 ^ j + (2 ^ j - 1 - n % 2 ^ j) = omega arith in
    rw (e, div-mul-add y (2 ^ j) (2 ^ j - 1 - n % 2 ^ j) (omega arith)) (omega arith)

read : (d p : ℕ) → d < 2 → 0 < p → not (eqb (d * p) 0) ≡ eqb d 1
read zero p h some = rw (zero-mul p)
read (suc zero) p h some = let e : 1 * p ≡ p = omega arith in rw e (grind (arith, nat_tests))
read (suc (suc d)) p h some = absurd (omega arith)

-- a bit read by a mask
pub get_bit : (n k : ℕ) → not (eqb (bit_and n (2 ^ k)) 0) ≡ bit_of n k
get_bit n k =
    let e : 2 ^ (1 + k) - 2 ^ k ≡ 2 ^ k = omega (arith, pow-add 2 1 k) in
    let masked : bit_and n (2 ^ k) ≡ digit n k * 2 ^ k = ap (bit_and n) (sym e) ∙ and_high n 1 k in
    rw masked (read (digit n k) (2 ^ k) (omega arith) (pow_pos k))

-- a number of w bits has no bit from w on
pub no_bit : (w n k : ℕ) → n < 2 ^ w → w ≤ k → bit_of n k ≡ false
no_bit w n k fits past = rw (div-eq_of_lt (lt_of_lt_of_le fits (pow_mono past)))

-- a bit set
pub set_bit : (n k j : ℕ) → bit_of (bit_or n (2 ^ k)) j ≡ cond (eqb j k) true (bit_of n j)
set_bit n k j = rw (digit_or n (2 ^ k) j, digit_power k j) (grind (arith, nat_tests))

-- a bit cleared
pub clear_bit : (w n k j : ℕ) → k < w → j < w → bit_of (bit_and n (2 ^ w - 1 - 2 ^ k)) j ≡ cond (eqb j k) false (bit_of n j)
clear_bit w n k j h l = rw (digit_and n (2 ^ w - 1 - 2 ^ k) j, digit_complement w (2 ^ k) j l (pow_below k w h), digit_power k j) (grind (arith, nat_tests))

-- the bits of a half are the next ones
halved : (a j : ℕ) → bit_of (a / 2) j ≡ bit_of a (suc j)
halved a j = ap (λ n. eqb (n % 2) 1) (div-div-eq-div-mul a 2 (2 ^ j) ∙ ap (λ n. a / n) (sym (pow-suc 2 j ∙ mul_comm _ _)))

-- numbers of w bits with the same bits are equal
pub same_number : (w a b : ℕ) → a < 2 ^ w → b < 2 ^ w → ((k : ℕ) → k < w → bit_of a k ≡ bit_of b k) → a ≡ b
same_number zero a b h k each = omega arith
same_number (suc w) a b h k each =
    let low : a % 2 ≡ b % 2 = grind (arith, nat_tests, each 0 (omega arith)) in
    let high : a / 2 ≡ b / 2 = same_number w (a / 2) (b / 2) (omega (arith, pow-suc 2 w)) (omega (arith, pow-suc 2 w)) (λ j below. halved a j ∙ each (suc j) (omega arith) ∙ sym (halved b j)) in
    omega arith

-- the power of a number of bytes is that of their bits
pub power_bytes : (z : ℕ) → 256 ^ z ≡ 2 ^ (8 * z)
power_bytes zero = refl
power_bytes (suc z) =
    let ih = power_bytes z in
    let e : 8 * suc z ≡ 8 + 8 * z = omega arith in
    rw (e, pow-add 2 8 (8 * z)) (omega (arith, pow-suc 256 z, ih))
