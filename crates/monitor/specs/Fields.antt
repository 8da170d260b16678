-- The fields of a line, and its two numbers. Assumes nothing.
use Rattle.std.specs.Prelude.{◌≡◌, ℕ, ◌<◌, List, [], ◌∷◌, ◌++◌, length}
use Rattle.std.specs.Char.{is_whitespace, is_not_whitespace}
use Rattle.std.specs.Str.{NoCharPasses, EmptyOrStartsWithPassing}
use Rattle.text.specs.Numerals.{Writes}

-- bs is white space, the field w, and rest, which is empty or begins with white space
pub record Field (bs w rest : List ℕ) : Type 0 where
  pub gap : List ℕ
  pub cut : bs ≡ gap ++ (w ++ rest)
  pub some : 0 < length w
  pub blank : NoCharPasses is_not_whitespace gap
  pub solid : NoCharPasses is_whitespace w
  pub ends : (more : List ℕ) × EmptyOrStartsWithPassing is_whitespace rest more

-- ws are the fields of bs
abbrev pub Fields : List ℕ → List (List ℕ) → Type 0
Fields bs [] = NoCharPasses is_not_whitespace bs
Fields bs (w ∷ ws) = (rest : List ℕ) × Field bs w rest × Fields rest ws

-- the line has two fields, which write a and b
abbrev pub TwoNumbers : List ℕ → ℕ → ℕ → Type 0
TwoNumbers line a b = (v : List ℕ) × (w : List ℕ) × Fields line (v ∷ w ∷ []) × Writes v a × Writes w b
