-- Bytes laid over bytes. Assumes nothing.
use Rattle.std.specs.Prelude.{ℕ, zero, suc, ◌+◌, ◌*◌, List, [], ◌∷◌, ◌++◌, length, take, drop}

-- k bytes of xs from i on, or as many as there are
unfoldable pub part : {X : Type 0} → List X → ℕ → ℕ → List X
part xs i k = take k (drop i xs)

-- xs with ys in the place of what stood there from i on
unfoldable pub overlaid : {X : Type 0} → List X → ℕ → List X → List X
overlaid xs i ys = take i xs ++ (ys ++ drop (i + length ys) xs)

abbrev pub joined : List (List ℕ) → List ℕ
joined [] = []
joined (xs ∷ xss) = xs ++ joined xss

-- k elements of size z, from a place on, by the value of each one's bytes
abbrev pub elements : {X : Type 0} → (List ℕ → X) → ℕ → List ℕ → ℕ → ℕ → List X
elements value z memory start zero = []
elements value z memory start (suc k) = elements value z memory start k ++ (value (part memory (start + k * z) z) ∷ [])
