-- The laws of bytes, over every width.
use Rattle.std.specs.Prelude.{◌≡◌, ℕ, zero, suc, ◌+◌, ◌-◌, ◌*◌, ◌/◌, ◌%◌, ◌^◌, ◌<◌, ◌≤◌, List, [], ◌∷◌, length, take, drop, ℤ, pos, negsuc, Some, nat_lt, slice_index, refl}
use Rattle.std.proofs.Common.{sym, ap, ◌∙◌, inl, inr, pow-suc, arith, length-take, length-drop}
use Rattle.std.proofs.ByRecursion.{All-take, All-drop}
use Rattle.std.proofs.lemmas.List.{drop_all, drop_more}
use Rattle.std.proofs.lemmas.Bool.{cases_Bool}
use Rattle.std.proofs.lemmas.Bool.Decides.{nat_tests}
use Rattle.byte_valued.specs.Buffers.{made_of}
use Rattle.byte_valued.specs.LittleEndian.{bytes_of, number_of, complement, signed_of, Unsigned, Signed, Bytes}

length-bytes_of : (z n : ℕ) → length (bytes_of z n) ≡ z
length-bytes_of zero n = refl
length-bytes_of (suc z) n = ap suc (length-bytes_of z (n / 256))

bytes_bytes_of : (z n : ℕ) → Bytes (bytes_of z n)
bytes_bytes_of zero n = tt
bytes_bytes_of (suc z) n = (omega arith, bytes_bytes_of z (n / 256))

pub unsigned_exact : (z n : ℕ) → (length (bytes_of z n) ≡ z) × Bytes (bytes_of z n)
unsigned_exact z n = (length-bytes_of z n, bytes_bytes_of z n)

-- a number that z bytes hold comes back from its bytes
pub unsigned_again : (z n : ℕ) → Unsigned z n → number_of (bytes_of z n) ≡ n
unsigned_again zero n h = omega arith
unsigned_again (suc z) n h = let ih = unsigned_again z (n / 256) (omega (arith, pow-suc 256 z)) in omega arith

-- z bytes make a number that they hold
pub number_of_below : (bs : List ℕ) → Bytes bs → number_of bs < 256 ^ length bs
number_of_below [] h = omega arith
number_of_below (b ∷ bs) (h, hs) = let ih = number_of_below bs hs in omega (arith, pow-suc 256 (length bs))

-- and bytes come back from their number
bytes_of-number_of : (bs : List ℕ) → Bytes bs → bytes_of (length bs) (number_of bs) ≡ bs
bytes_of-number_of [] h = refl
bytes_of-number_of (b ∷ bs) (h, hs) =
    let low : (b + number_of bs * 256) % 256 ≡ b = omega arith in
    let high : (b + number_of bs * 256) / 256 ≡ number_of bs = omega arith in
    rw (low, high, bytes_of-number_of bs hs)

pub unsigned_back : (z : ℕ) (bs : List ℕ) → length bs ≡ z → Bytes bs → Unsigned z (number_of bs) × (bytes_of z (number_of bs) ≡ bs)
unsigned_back z bs is h = (rw (← is) (number_of_below bs h), rw (← is) (bytes_of-number_of bs h))

-- the same of z bytes among others
pub unsigned_part : (z i : ℕ) (bs : List ℕ) → i + z ≤ length bs → Bytes bs → Unsigned z (number_of (take z (drop i bs))) × (bytes_of z (number_of (take z (drop i bs))) ≡ take z (drop i bs))
unsigned_part z i bs fits h =
    unsigned_back z (take z (drop i bs)) (simp (length-take, length-drop) (omega arith)) (All-take _ z (drop i bs) (All-drop _ i bs h))

-- the power of a width is twice its half
halves : (z : ℕ) → 0 < z → 256 ^ z ≡ 256 ^ z / 2 + 256 ^ z / 2
halves zero h = absurd (omega arith)
halves (suc z) h = omega (arith, pow-suc 256 z)

pub complement_below : (z : ℕ) → 0 < z → (x : ℤ) → Signed z x → complement z x < 256 ^ z
complement_below z some (pos n) h = omega (arith, halves z some)
complement_below z some (negsuc n) h = omega (arith, halves z some)

signed_of-complement : (z : ℕ) → 0 < z → (x : ℤ) → Signed z x → signed_of z (complement z x) ≡ x
signed_of-complement z some (pos n) h = grind (arith, nat_tests)
signed_of-complement z some (negsuc n) h =
    let e = halves z some in
    let back : 256 ^ z - suc (256 ^ z - suc n) ≡ n = omega arith in
    grind (arith, nat_tests)

pub signed_exact : (z : ℕ) (x : ℤ) → (length (bytes_of z (complement z x)) ≡ z) × Bytes (bytes_of z (complement z x))
signed_exact z x = unsigned_exact z (complement z x)

pub signed_again : (z : ℕ) → 0 < z → (x : ℤ) → Signed z x → signed_of z (number_of (bytes_of z (complement z x))) ≡ x
signed_again z some x h = rw (unsigned_again z (complement z x) (complement_below z some x h)) (signed_of-complement z some x h)

-- the number under a signed one, and back
complement-signed_of : (z : ℕ) → 0 < z → (n : ℕ) → n < 256 ^ z → Signed z (signed_of z n) × (complement z (signed_of z n) ≡ n)
complement-signed_of z some n h =
    elim (cases_Bool (nat_lt n (256 ^ z / 2))) [
      | inl e ↦ rw e (grind (arith, nat_tests), refl)
      | inr e ↦ let twice = halves z some in rw e (grind (arith, nat_tests), omega arith)
    ]

pub signed_back : (z : ℕ) → 0 < z → (bs : List ℕ) → length bs ≡ z → Bytes bs → Signed z (signed_of z (number_of bs)) × (bytes_of z (complement z (signed_of z (number_of bs))) ≡ bs)
signed_back z some bs is h =
    let (below, same) = unsigned_back z bs is h in
    let (holds, back) = complement-signed_of z some (number_of bs) below in
    (holds, rw back same)

-- z bytes from place i on, as a number, each byte by its place
abbrev pub placed : ℕ → List ℕ → ℕ → ℕ
placed zero bs i = 0
placed (suc z) bs i = slice_index bs i + placed z bs (suc i) * 256

pub number_of-drop : (z : ℕ) (bs : List ℕ) (i : ℕ) → length bs ≡ i + z → number_of (drop i bs) ≡ placed z bs i
number_of-drop zero bs i is = rw (drop_all i bs (omega arith))
number_of-drop (suc z) bs i is =
    let e : i + 1 ≡ suc i = omega arith in
    let ih = number_of-drop z bs (suc i) (omega arith) in
    rw (drop_more bs i 0 (omega arith), e, ih)

-- a slice of z bytes makes what the number that they stand for does
pub made_whole : {X : Type 0} (z : ℕ) (of_bits : ℕ → X) (bs : List ℕ) (n : ℕ) → length bs ≡ z → n ≡ placed z bs 0 → Some (of_bits n) ≡ made_of z (λ bs. of_bits (number_of bs)) bs
made_whole z of_bits bs n is placed_is =
    let e : n ≡ number_of bs = placed_is ∙ sym (number_of-drop z bs 0 (omega arith)) in
    rw e (grind (arith, nat_tests))
