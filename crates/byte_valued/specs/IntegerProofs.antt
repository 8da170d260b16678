-- The integers keep their laws, unsigned and signed, over every width.
use Rattle.std.specs.Prelude.{◌≡◌, ℕ, ◌^◌, ◌<◌, ◌≤◌, Some}
use Rattle.std.proofs.Common.{sym, ap, ◌∙◌, arith}
use Rattle.std.proofs.lemmas.Bool.Decides.{nat_tests}
use Rattle.byte_valued.specs.LittleEndian.{number_of, complement, signed_of, Unsigned, Signed}
use Rattle.byte_valued.specs.ByteLaws.{complement_below, unsigned_exact, unsigned_again, unsigned_back, signed_again, signed_back}
use Rattle.byte_valued.specs.Integers.{held_by, IntegerLaws}

pub unsigned_laws : (z : ℕ) → 0 < z → z ≤ 8 → IntegerLaws z (λ n. n) (λ n. n) (Unsigned z)
unsigned_laws z some few = record { some = some; few = few; below = λ n h. h; again = unsigned_again z; back = unsigned_back z }

pub signed_laws : (z : ℕ) → 0 < z → z ≤ 8 → IntegerLaws z (complement z) (signed_of z) (Signed z)
signed_laws z some few = record { some = some; few = few; below = complement_below z some; again = signed_again z some; back = signed_back z some }

-- eight bytes are few
pub sized : (z : ℕ) → 0 < z → z ≤ 8 → (0 < z) × (z ≤ 64)
sized z some few = (some, omega arith)

-- a number that z bytes hold makes its value
pub held : {X : Type 0} (z : ℕ) (of_bits : ℕ → X) (n : ℕ) → n < 256 ^ z → held_by z of_bits n ≡ Some (of_bits n)
held z of_bits n below = grind (arith, nat_tests)

-- which has that number's bits
pub bits_again : {X : Type 0} {z : ℕ} {bits_of : X → ℕ} {of_bits : ℕ → X} {Holds : X → Type 0} → IntegerLaws z bits_of of_bits Holds → (n : ℕ) → n < 256 ^ z → bits_of (of_bits n) ≡ n
bits_again {z = z} {bits_of = bits_of} {of_bits = of_bits} laws n below =
    let (is, all) = unsigned_exact z n in
    let number = unsigned_again z n below in
    let made = laws.back _ is all in
    let (holds, same) = rw number at made in
    sym (unsigned_again z (bits_of (of_bits n)) (laws.below _ holds)) ∙ ap number_of same ∙ number
