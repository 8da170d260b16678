-- Bytes in a lent buffer. Assumes nothing.
use Rattle.std.specs.Prelude.{ℕ, Bool, cond, List, ◌++◌, length, drop, Some, None, Option, ◌==◌, nat_le}

-- a buffer has room for these bytes
abbrev pub has_room : List ℕ → List ℕ → Bool
has_room bs buf = nat_le (length bs) (length buf)

-- a buffer with bytes laid at its start, its rest as it was; one without room stays as it is
abbrev pub laid : List ℕ → List ℕ → List ℕ
laid bs buf = cond (has_room bs buf) (bs ++ drop (length bs) buf) buf

-- what exactly z bytes make, and nothing of any other number of them
abbrev pub made_of : {X : Type 0} → ℕ → (List ℕ → X) → List ℕ → Option X
made_of z value bs = cond (length bs == z) (Some (value bs)) None
