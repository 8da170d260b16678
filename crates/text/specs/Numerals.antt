-- The numbers of a text: decimal, or hexadecimal after 0x. Assumes nothing.
use Rattle.std.specs.Prelude.{◌≡◌, ℕ, ◌^◌, ◌<◌, ◌≤◌, Bool, cond, ◌&&◌, List, drop, Ok, Err, Result, ◌==◌, slice_index}
use Rattle.std.specs.Str.Parse.{IsNumeral, digits_value}
use Rattle.std.specs.declared.num.IntErrorKind.{IntErrorKind}
use Rattle.std.specs.declared.num.IntErrorKind.TheVariants.{Empty, InvalidDigit, PosOverflow, NegOverflow, Zero}
use Rattle.text.specs.declared.numbers.NumberError.{NumberError}
use Rattle.text.specs.declared.numbers.NumberError.TheVariants.{Malformed, TooLarge}

-- the field begins with 0x
abbrev pub hexadecimal : List ℕ → Bool
hexadecimal field = slice_index field 0 == 48 && slice_index field 1 == 120

abbrev pub base_of : List ℕ → ℕ
base_of field = cond (hexadecimal field) 16 10

abbrev pub digits_of : List ℕ → List ℕ
digits_of field = cond (hexadecimal field) (drop 2 field) field

-- the number that digits write, or why there is none of 64 bits
abbrev pub Reads : ℕ → List ℕ → Result ℕ NumberError → Type 0
Reads radix ds (Ok n) = IsNumeral radix ds × (n ≡ digits_value radix ds) × (n < 2 ^ 64)
Reads radix ds (Err Malformed) = IsNumeral radix ds → ⊥
Reads radix ds (Err TooLarge) = IsNumeral radix ds → 2 ^ 64 ≤ digits_value radix ds

-- what an error of std's parser of numbers is here
abbrev pub number_error : IntErrorKind → NumberError
number_error Empty = Malformed
number_error InvalidDigit = Malformed
number_error PosOverflow = TooLarge
number_error NegOverflow = Malformed
number_error Zero = Malformed

-- a field writes a number
abbrev pub Writes : List ℕ → ℕ → Type 0
Writes field n = Reads (base_of field) (digits_of field) (Ok n)
