-- What a call answers: a result, or a fault by its number and values. Assumes nothing.
use Rattle.std.specs.Prelude.{ℕ, List, [], ◌∷◌, Ok, Err, Result}
use Rattle.volatile_memory.specs.declared.error.Error.{Error}
use Rattle.volatile_memory.specs.declared.error.Rule.{Rule}
use Rattle.volatile_memory.specs.declared.error.Rule.TheVariants.{ShortHead, NoPageSize, OtherLength, TooManyPages, WrongPage, WrongLength}
use Rattle.volatile_memory.specs.declared.error.Error.TheVariants.{OutOfBounds, Overflow, TooBig, Misaligned, PartialBuffer, NoElement, Foreign, Uncovered, NoRoom, BadParcel}

pub record Fault : Type 0 where
  pub number : ℕ
  pub values : List ℕ

pub data Answer (X : Type 0) : Type 0 where
  gives : X → Answer X
  refuses : Fault → Answer X

abbrev pub out_of_bounds : ℕ → Fault
out_of_bounds addr = record { number = 1; values = addr ∷ [] }

abbrev pub overflow : ℕ → ℕ → Fault
overflow base offset = record { number = 2; values = base ∷ offset ∷ [] }

abbrev pub too_big : ℕ → ℕ → Fault
too_big nelements size = record { number = 3; values = nelements ∷ size ∷ [] }

abbrev pub misaligned : ℕ → ℕ → Fault
misaligned addr alignment = record { number = 4; values = addr ∷ alignment ∷ [] }

abbrev pub partial_buffer : ℕ → ℕ → Fault
partial_buffer expected completed = record { number = 5; values = expected ∷ completed ∷ [] }

abbrev pub no_element : ℕ → ℕ → Fault
no_element index count = record { number = 6; values = index ∷ count ∷ [] }

abbrev pub foreign : ℕ → ℕ → Fault
foreign end length = record { number = 7; values = end ∷ length ∷ [] }

abbrev pub uncovered : ℕ → ℕ → Fault
uncovered needed pages = record { number = 8; values = needed ∷ pages ∷ [] }

abbrev pub no_room : ℕ → Fault
no_room needed = record { number = 9; values = needed ∷ [] }

abbrev pub bad_parcel : ℕ → ℕ → Fault
bad_parcel rule place = record { number = 10; values = rule ∷ place ∷ [] }

-- the rules for parcels, by their numbers
abbrev pub rule_number : Rule → ℕ
rule_number ShortHead = 1
rule_number NoPageSize = 2
rule_number OtherLength = 3
rule_number TooManyPages = 4
rule_number WrongPage = 5
rule_number WrongLength = 6

-- every case of the code's errors, by its number and values
abbrev pub fault : Error → Fault
fault (OutOfBounds addr) = out_of_bounds addr
fault (Overflow base offset) = overflow base offset
fault (TooBig nelements size) = too_big nelements size
fault (Misaligned addr alignment) = misaligned addr alignment
fault (PartialBuffer expected completed) = partial_buffer expected completed
fault (NoElement index count) = no_element index count
fault (Foreign end length) = foreign end length
fault (Uncovered needed pages) = uncovered needed pages
fault (NoRoom needed) = no_room needed
fault (BadParcel rule place) = bad_parcel (rule_number rule) place

-- what a call answered, with its result read by f
abbrev pub said : {X Y : Type 0} → (X → Y) → Result X Error → Answer Y
said f (Ok x) = gives (f x)
said f (Err e) = refuses (fault e)
