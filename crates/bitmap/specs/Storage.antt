-- Bits in words: bit n of a row of words is bit n % width of word n / width. Assumes nothing.
use Rattle.std.specs.Prelude.{ℕ, zero, suc, ◌/◌, ◌%◌, ◌^◌, Bool, false, List, [], ◌∷◌, ◌==◌}

-- bit k of a number
abbrev pub bit_of : ℕ → ℕ → Bool
bit_of w k = w / 2 ^ k % 2 == 1

-- bit k of a word, read by its number
abbrev pub bit : {W : Type 0} → (W → ℕ) → W → ℕ → Bool
bit bits_of w k = bit_of (bits_of w) k

-- bit k of word i, clear past the last word
abbrev pub bit_at : {W : Type 0} → (W → ℕ → Bool) → List W → ℕ → ℕ → Bool
bit_at bit [] i k = false
bit_at bit (w ∷ ws) zero k = bit w k
bit_at bit (w ∷ ws) (suc i) k = bit_at bit ws i k

unfoldable pub stored : {W : Type 0} → (W → ℕ → Bool) → ℕ → List W → ℕ → Bool
stored bit width ws n = bit_at bit ws (n / width) (n % width)
