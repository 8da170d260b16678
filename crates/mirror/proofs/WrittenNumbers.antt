-- Numbers written as bytes, one after another, and read back.
use Rattle.std.proofs.Common.{◌≡◌, ℕ, ◌^◌, ◌<◌, List, [], ◌∷◌, ◌++◌, length, sym, refl, ◌∙◌, ap₂}
use Rattle.byte_valued.specs.ByteLaws.{unsigned_again}
use Rattle.volatile_memory.specs.Memory.{part}
use Rattle.parcel.specs.Parcels.{words, numbers}
use Rattle.parcel.proofs.PageNumbers.{numbers_behind}

-- numbers that 8 bytes hold
abbrev pub Small : List ℕ → Type 0
Small [] = Unit {0}
Small (n ∷ ns) = (n < 2 ^ 64) × Small ns

pub words_read : (ns rest : List ℕ) → Small ns → numbers (words ns ++ rest) 0 (length ns) ≡ ns
unfolding part
words_read [] rest small = refl
words_read (n ∷ ns) rest small =
    ap₂ ◌∷◌ (unsigned_again 8 n small.0) (sym (numbers_behind (words (n ∷ ns) ++ rest) 1 0 (length ns)) ∙ words_read ns rest small.1)
