-- Types of integers, by the bits of their values. Assumes nothing.
use Rattle.std.specs.Prelude.{◌≡◌, ℕ, ◌^◌, ◌<◌, ◌≤◌, cond, List, length, Some, None, Option, nat_lt}
use Rattle.byte_valued.specs.LittleEndian.{bytes_of, number_of, Bytes}

-- the value of a number that z bytes hold, and nothing of a larger one
abbrev pub held_by : {X : Type 0} → ℕ → (ℕ → X) → ℕ → Option X
held_by z of_bits n = cond (nat_lt n (256 ^ z)) (Some (of_bits n)) None

-- a type of z bytes: the bytes of a value's bits make that value again, and any z bytes make a value that has those bytes
pub record IntegerLaws {X : Type 0} (z : ℕ) (bits_of : X → ℕ) (of_bits : ℕ → X) (Holds : X → Type 0) : Type 0 where
  pub some : 0 < z
  pub few : z ≤ 8
  pub below : (x : X) → Holds x → bits_of x < 256 ^ z
  pub again : (x : X) → Holds x → of_bits (number_of (bytes_of z (bits_of x))) ≡ x
  pub back : (bs : List ℕ) → length bs ≡ z → Bytes bs → Holds (of_bits (number_of bs)) × (bytes_of z (bits_of (of_bits (number_of bs))) ≡ bs)
