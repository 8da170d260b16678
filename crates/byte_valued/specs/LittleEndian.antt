-- Numbers as bytes, the least significant first, and two's complement. Assumes nothing.
use Rattle.std.specs.Prelude.{ℕ, zero, suc, ◌+◌, ◌-◌, ◌*◌, ◌/◌, ◌%◌, ◌^◌, ◌<◌, cond, List, [], ◌∷◌, ℤ, pos, negsuc, nat_lt}
use Rattle.std.specs.List.{AllByRecursion}

-- the z low bytes of a number
abbrev pub bytes_of : ℕ → ℕ → List ℕ
bytes_of zero n = []
bytes_of (suc z) n = (n % 256) ∷ bytes_of z (n / 256)

-- the number that bytes stand for
abbrev pub number_of : List ℕ → ℕ
number_of [] = 0
number_of (b ∷ bs) = b + number_of bs * 256

-- the number of z bytes that stands for a signed one: a negative one by what it lacks to 256 ^ z
abbrev pub complement : ℕ → ℤ → ℕ
complement z (pos n) = n
complement z (negsuc n) = 256 ^ z - suc n

-- the signed number that a number of z bytes stands for: the upper half are the negative ones
abbrev pub signed_of : ℕ → ℕ → ℤ
signed_of z n = cond (nat_lt n (256 ^ z / 2)) (pos n) (negsuc (256 ^ z - suc n))

-- the numbers that z bytes hold
abbrev pub Unsigned : ℕ → ℕ → Type 0
Unsigned z n = n < 256 ^ z

-- and the signed ones: from -(256 ^ z / 2) up to 256 ^ z / 2 - 1
abbrev pub Signed : ℕ → ℤ → Type 0
Signed z (pos n) = n < 256 ^ z / 2
Signed z (negsuc n) = n < 256 ^ z / 2

-- each is a byte
abbrev pub Bytes : List ℕ → Type 0
Bytes bs = AllByRecursion (λ b. b < 256) bs
