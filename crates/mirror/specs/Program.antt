-- A program's calls are the calls of a run, since their contracts say what the run says. Assumes nothing.
use Rattle.std.specs.Prelude.{◌≡◌, ℕ, ◌<◌, true, false, ◌⊎◌, List, [], map, length}
use Rattle.std.specs.List.{AllByRecursion}
use Rattle.bitmap.specs.Pages.{Meaning, dirty}
use Rattle.volatile_memory.specs.Faults.{Fault, partial_buffer}
use Rattle.volatile_memory.specs.Faults.Answer.{refuses}
use Rattle.volatile_memory.specs.Spans.{Span, span}
use Rattle.volatile_memory.specs.declared.volatile_slice.VolatileSlice.{VolatileSlice}
use Rattle.volatile_memory.specs.Memory.{overlaid}
use Rattle.volatile_memory.specs.Calls.{Did, write, settled}
use Rattle.parcel.specs.Parcels.{covered, taken}
use Rattle.parcel.specs.Outcomes.{left, kept}
use Rattle.mirror.specs.Runs.{Store, State, Run, state, claim, does, onto, Rooted, ProperStore, Legal}
use Rattle.mirror.specs.Runs.Call.{stores, opens, puts, settles, takes}
use Rattle.mirror.specs.Runs.Run.{start, then}

-- a legal run that leads to a memory, what its bitmap means, and the copy
pub record LeadsTo (memory : List ℕ) (b : Meaning) (copy : List ℕ) (r : Run) : Type 0 where
  pub legal : Legal r
  pub memory_is : (state r).memory ≡ memory
  pub bitmap_is : (state r).bitmap ≡ b
  pub copy_is : (state r).copy ≡ copy

-- a memory, its bitmap and a copy of it, with no claim open
abbrev pub at_first : List ℕ → Meaning → State
at_first memory b = record { memory = memory; bitmap = b; claims = []; copy = memory }

-- a run begins where the bitmap is clean and covers the memory
abbrev pub Begins : Type 0
Begins = (memory : List ℕ) (b : Meaning) → ((q : ℕ) → dirty b q ≡ false) → covered b memory ≡ true → LeadsTo memory b memory (start (at_first memory b))

-- a run that led to a memory, a bitmap and a copy goes on with each call, and leads to what the call's contract says
pub record GoesOn (memory : List ℕ) (b : Meaning) (copy : List ℕ) (r : Run) : Type 0 where
  pub stored : (c : Store) → ProperStore c → (memory' : List ℕ) (b' : Meaning) → Did (does c memory) memory memory' b b' → LeadsTo memory' b' copy (then r (stores c))
  pub opened : (v : Span) → Rooted v → LeadsTo memory b copy (then r (opens v))
  pub put : (i : ℕ) → i < length (state r).claims → (buf : List ℕ) (addr : ℕ)
      → let d = write (claim (state r) i) (length memory) buf addr in LeadsTo (overlaid memory d.place d.bytes) b copy (then r (puts i buf addr))
  pub closed : (i : ℕ) → i < length (state r).claims → LeadsTo memory (settled b (claim (state r) i)) copy (then r (settles i))
  pub sent : (room : ℕ) → let t = taken b memory room in LeadsTo memory (left b memory t) (kept copy (onto copy t)) (then r (takes room))

abbrev pub AllGoOn : Type 0
AllGoOn = (memory : List ℕ) (b : Meaning) (copy : List ℕ) (r : Run) → LeadsTo memory b copy r → GoesOn memory b copy r

-- a store that is refused stores nothing, but a partial buffer the bytes that it counts
abbrev pub RefusalsStoreNothing : Type 0
RefusalsStoreNothing = (c : Store) → ProperStore c → (memory : List ℕ) (f : Fault) → (does c memory).answer ≡ refuses f → ((does c memory).bytes ≡ []) ⊎ ((n : ℕ) × (f ≡ partial_buffer n (length (does c memory).bytes)))

-- a program's calls are the calls of a run: its views and its elements are such as the law speaks of, a run begins, and it goes on with each call as that call's contract says
pub record MakesRuns {X : Type 0} (size : ℕ) (bytes : X → List ℕ) : Type 0 where
  pub views : (v : VolatileSlice) → Rooted (span v)
  pub elements : (xs : List X) → AllByRecursion (λ bs. length bs ≡ size) (map bytes xs)
  pub begins : Begins
  pub goes_on : AllGoOn
  pub refusals : RefusalsStoreNothing
