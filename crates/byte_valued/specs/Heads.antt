-- A line's head as twelve bytes. Assumes nothing.
use Rattle.std.specs.Prelude.{ℕ, List, ◌++◌, take, drop}
use Rattle.byte_valued.specs.LittleEndian.{bytes_of, number_of, Unsigned}
use Rattle.byte_valued.specs.declared.line_head.LineHead.{LineHead}

abbrev pub head_bytes : LineHead → List ℕ
head_bytes h = bytes_of 4 h.register ++ (bytes_of 2 h.leaf ++ (bytes_of 2 h.line ++ (bytes_of 2 h.left ++ bytes_of 2 h.width)))

-- the number of the z bytes from i on
abbrev pub field : List ℕ → ℕ → ℕ → ℕ
field bs i z = number_of (take z (drop i bs))

abbrev pub head_value : List ℕ → LineHead
head_value bs = record { register = field bs 0 4; leaf = field bs 4 2; line = field bs 6 2; left = field bs 8 2; width = field bs 10 2 }

-- each field is what its bytes can hold
pub record Head (h : LineHead) : Type 0 where
  pub register : Unsigned 4 h.register
  pub leaf : Unsigned 2 h.leaf
  pub line : Unsigned 2 h.line
  pub left : Unsigned 2 h.left
  pub width : Unsigned 2 h.width
