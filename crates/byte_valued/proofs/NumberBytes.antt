-- Numbers of up to eight bytes, as `u64` has them.
use Rattle.std.specs.Prelude.{◌^◌, ◌<◌, ◌≡◌, ℕ, zero, suc, ◌+◌, ◌-◌, ◌*◌, ◌/◌, ◌%◌, ◌≤◌, List, [], ◌∷◌, ◌++◌, length, take, drop, replicate, refl}
use Rattle.std.specs.Int.{w64, from_le_bytes, to_le_bytes}
use Rattle.std.proofs.Common.{sym, ap, ◌∙◌, arith, rules, length-append, length-drop, pow-suc, Fits, w8, slice_index_or}
use Rattle.std.proofs.lemmas.List.{length-replicate}
use Rattle.byte_valued.specs.LittleEndian.{bytes_of, number_of, Bytes}
use Rattle.byte_valued.specs.ByteLaws.{placed, number_of-drop}

from_le_bytes-is : (bs : List ℕ) → length bs ≡ 8 → from_le_bytes w64 bs ≡ number_of bs
from_le_bytes-is bs is =
    let e : from_le_bytes w64 bs ≡ placed 8 bs 0 = omega arith in
    e ∙ sym (number_of-drop 8 bs 0 is)

-- zeros behind a number's bytes add nothing
pub number_of-zeros : (k n : ℕ) → number_of (drop n (replicate k 0)) ≡ 0
number_of-zeros zero zero = refl
number_of-zeros zero (suc n) = refl
number_of-zeros (suc k) zero = omega (arith, number_of-zeros k zero)
number_of-zeros (suc k) (suc n) = number_of-zeros k n

number_of-padded : (bs zs : List ℕ) → number_of zs ≡ 0 → number_of (bs ++ zs) ≡ number_of bs
number_of-padded [] zs none = none
number_of-padded (b ∷ bs) zs none = ap (λ n. b + n * 256) (number_of-padded bs zs none)

pub from_le_bytes-padded : (bs zs : List ℕ) → length bs ≤ 8 → zs ≡ drop (length bs) (replicate 8 0) → from_le_bytes w64 (bs ++ zs) ≡ number_of bs
from_le_bytes-padded bs zs fits are =
    let rest : length zs ≡ 8 - length bs = rw are (simp (length-drop, length-replicate) refl) in
    let whole : length (bs ++ zs) ≡ 8 = simp length-append (omega arith) in
    from_le_bytes-is (bs ++ zs) whole ∙ number_of-padded bs zs (rw are (number_of-zeros 8 (length bs)))

-- the low bytes of a number
take-bytes_of : (z y n : ℕ) → z ≤ y → take z (bytes_of y n) ≡ bytes_of z n
take-bytes_of zero y n few = refl
take-bytes_of (suc z) zero n few = absurd (omega arith)
take-bytes_of (suc z) (suc y) n few = ap (λ bs. n % 256 ∷ bs) (take-bytes_of z y (n / 256) (omega arith))

to_le_bytes-is : (n : ℕ) → to_le_bytes w64 n ≡ bytes_of 8 n
to_le_bytes-is n = search rules

pub take-to_le_bytes : (z n : ℕ) → z ≤ 8 → take z (to_le_bytes w64 n) ≡ bytes_of z n
take-to_le_bytes z n few = ap (take z) (to_le_bytes-is n) ∙ take-bytes_of z 8 n few

-- a slice's elements are bytes
pub slice_bytes : (bs : List ℕ) → ((i : ℕ) → Fits w8 (slice_index_or bs i 0)) → Bytes bs
slice_bytes [] fits = tt
slice_bytes (b ∷ bs) fits = ((fits 0).fits, slice_bytes bs (λ i. fits (suc i)))

-- zero is a number of any bytes
pub none_below : (z : ℕ) → 0 < 256 ^ z
none_below zero = omega arith
none_below (suc z) = let rest = none_below z in omega (arith, pow-suc 256 z)
