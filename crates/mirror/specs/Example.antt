-- A run that the law speaks of: a store, a claim opened, a put through it, the claim settled, and a parcel taken. Assumes nothing.
use Rattle.std.specs.Prelude.{◌≡◌, ℕ, false, List, [], ◌∷◌}
use Rattle.bitmap.specs.Pages.{clean, dirty}
use Rattle.volatile_memory.specs.Faults.Answer.{gives}
use Rattle.volatile_memory.specs.Spans.{Span}
use Rattle.parcel.specs.Parcels.{number_at, numbers, taken}
use Rattle.mirror.specs.Mirror.{LiesWhole}
use Rattle.mirror.specs.Runs.{State, Run, state, Legal, Fits}
use Rattle.mirror.specs.Runs.Store.{by_atomic}
use Rattle.mirror.specs.Runs.Call.{stores, opens, puts, settles, takes}
use Rattle.mirror.specs.Runs.Run.{start, then}

abbrev pub ten_zeros : List ℕ
ten_zeros = 0 ∷ 0 ∷ 0 ∷ 0 ∷ 0 ∷ 0 ∷ 0 ∷ 0 ∷ 0 ∷ 0 ∷ []

-- ten zero bytes, in three clean pages of four, four and two
abbrev pub zeros : State
zeros = record { memory = ten_zeros; bitmap = clean 4 3; claims = []; copy = ten_zeros }

-- size bytes from a place on, of a root at address 4096
abbrev pub view : ℕ → ℕ → Span
view place size = record { addr = 4096; start = place; size = size; mark = place }

-- two bytes stored on page 0, and one put on page 2 through a claim
abbrev pub before_parcel : Run
before_parcel = then (then (then (then (start zeros) (stores (by_atomic (view 0 10) (7 ∷ 8 ∷ []) 2))) (opens (view 8 2))) (puts 0 (9 ∷ []) 1)) (settles 0)

-- then the parcel is taken
abbrev pub after_parcel : Run
after_parcel = then before_parcel (takes 100)

-- the parcel that it takes: the page size, two pages, ten bytes, pages 0 and 2, and the bytes of each
abbrev pub sent_bytes : List ℕ
sent_bytes =
    4 ∷ 0 ∷ 0 ∷ 0 ∷ 0 ∷ 0 ∷ 0 ∷ 0 ∷
    2 ∷ 0 ∷ 0 ∷ 0 ∷ 0 ∷ 0 ∷ 0 ∷ 0 ∷
    10 ∷ 0 ∷ 0 ∷ 0 ∷ 0 ∷ 0 ∷ 0 ∷ 0 ∷
    0 ∷ 0 ∷ 0 ∷ 0 ∷ 0 ∷ 0 ∷ 0 ∷ 0 ∷
    2 ∷ 0 ∷ 0 ∷ 0 ∷ 0 ∷ 0 ∷ 0 ∷ 0 ∷
    0 ∷ 0 ∷ 7 ∷ 8 ∷
    0 ∷ 9 ∷ []

-- the run is legal, its first store lies whole, its parcel carries pages 0 and 2, and then memory and copy are equal and every page is clean
pub record Stands : Type 0 where
  pub legal : Legal after_parcel
  pub fits : Fits (state after_parcel).memory (state after_parcel).bitmap
  pub behind : (state before_parcel).copy ≡ ten_zeros
  pub unclaimed : (state before_parcel).claims ≡ []
  pub whole : LiesWhole before_parcel 2 (7 ∷ 8 ∷ [])
  pub parcel : taken (state before_parcel).bitmap (state before_parcel).memory 100 ≡ gives sent_bytes
  pub page_numbers : numbers sent_bytes 3 (number_at sent_bytes 1) ≡ 0 ∷ 2 ∷ []
  pub memory : (state after_parcel).memory ≡ 0 ∷ 0 ∷ 7 ∷ 8 ∷ 0 ∷ 0 ∷ 0 ∷ 0 ∷ 0 ∷ 9 ∷ []
  pub copy : (state after_parcel).copy ≡ (state after_parcel).memory
  pub all_clean : (q : ℕ) → dirty (state after_parcel).bitmap q ≡ false
