-- Any list of calls on one memory and one bitmap, and which such runs are legal. Assumes nothing.
use Rattle.std.specs.Prelude.{◌≡◌, ℕ, ◌+◌, ◌^◌, ◌<◌, true, false, List, [], ◌∷◌, ◌++◌, length, slice_index_or}
use Rattle.std.specs.List.{remove, AllByRecursion}
use Rattle.bitmap.specs.Pages.{Meaning, Paged, dirty, marked}
use Rattle.volatile_memory.specs.Faults.{Answer}
use Rattle.volatile_memory.specs.Faults.Answer.{gives, refuses}
use Rattle.volatile_memory.specs.Spans.{Span}
use Rattle.volatile_memory.specs.Memory.{overlaid}
use Rattle.volatile_memory.specs.Calls.{Done, only, write, write_slice, store, store_ref, store_at, copy_from, copy_volatile, settled}
use Rattle.parcel.specs.Parcels.{covered, taken, applied}
use Rattle.parcel.specs.Outcomes.{left, kept}

-- a store outside claims, to a view v. Elements stand by their bytes, so that kinds mix: `write_obj` is a `write_slice` of them, an array's copy is one of what its elements fill
pub data Store : Type 0 where
  by_write : (v : Span) (buf : List ℕ) (addr : ℕ) → Store
  by_write_slice : (v : Span) (buf : List ℕ) (addr : ℕ) → Store
  by_atomic : (v : Span) (bs : List ℕ) (addr : ℕ) → Store
  by_reference : (v : Span) (bs : List ℕ) → Store
  by_array : (v : Span) (z i : ℕ) (bs : List ℕ) → Store
  by_copy_from : (v : Span) (z : ℕ) (xs : List (List ℕ)) → Store
  by_copy_within : (u v : Span) → Store
  by_copy_over : (u : Span) (source : List ℕ) (v : Span) → Store

-- a call: a store, a claim opened, put through or settled, by its place i among the open ones, or a parcel taken with room for so many bytes
pub data Call : Type 0 where
  stores : Store → Call
  opens : (v : Span) → Call
  puts : (i : ℕ) (buf : List ℕ) (addr : ℕ) → Call
  settles : (i : ℕ) → Call
  takes : (room : ℕ) → Call

-- the memory, what its bitmap means, the open claims, and the copy with all parcels taken applied to it
pub record State : Type 0 where
  pub memory : List ℕ
  pub bitmap : Meaning
  pub claims : List Span
  pub copy : List ℕ

-- the open claim at a place
abbrev pub claim : State → ℕ → Span
claim s i = slice_index_or s.claims i (record { addr = 0; start = 0; size = 0; mark = 0 })

-- what a store does in a memory
abbrev pub does : Store → List ℕ → Done
does (by_write v buf addr) memory = write v (length memory) buf addr
does (by_write_slice v buf addr) memory = write_slice v (length memory) buf addr
does (by_atomic v bs addr) memory = store v (length memory) bs addr
does (by_reference v bs) memory = store_ref v (length memory) bs
does (by_array v z i bs) memory = store_at v (length memory) z i bs
does (by_copy_from v z xs) memory = copy_from v (length memory) z xs
does (by_copy_within u v) memory = copy_volatile u memory v (length memory)
does (by_copy_over u source v) memory = copy_volatile u source v (length memory)

-- what a call lays in memory, outside claims or through one
abbrev pub lays_down : Call → State → Done
lays_down (stores c) s = does c s.memory
lays_down (opens v) s = only (gives 0)
lays_down (puts i buf addr) s = write (claim s i) (length s.memory) buf addr
lays_down (settles i) s = only (gives 0)
lays_down (takes room) s = only (gives 0)

-- the memory after a call; where nothing is laid, it stays
abbrev pub memory_after : Call → State → List ℕ
memory_after c s = overlaid s.memory (lays_down c s).place (lays_down c s).bytes

-- a copy with what was taken applied to it, unless that was refused
abbrev pub onto : List ℕ → Answer (List ℕ) → Answer (List ℕ)
onto copy (gives bs) = applied copy bs
onto copy (refuses f) = refuses f

-- the bitmap after a call: a put marks nothing
abbrev pub bitmap_after : Call → State → Meaning
bitmap_after (stores c) s = marked s.bitmap (does c s.memory).from (does c s.memory).len
bitmap_after (opens v) s = s.bitmap
bitmap_after (puts i buf addr) s = s.bitmap
bitmap_after (settles i) s = settled s.bitmap (claim s i)
bitmap_after (takes room) s = left s.bitmap s.memory (taken s.bitmap s.memory room)

-- the open claims after a call
abbrev pub claims_after : Call → State → List Span
claims_after (stores c) s = s.claims
claims_after (opens v) s = s.claims ++ (v ∷ [])
claims_after (puts i buf addr) s = s.claims
claims_after (settles i) s = remove s.claims i
claims_after (takes room) s = s.claims

-- the copy after a call: only a parcel changes it
abbrev pub copy_after : Call → State → List ℕ
copy_after (stores c) s = s.copy
copy_after (opens v) s = s.copy
copy_after (puts i buf addr) s = s.copy
copy_after (settles i) s = s.copy
copy_after (takes room) s = kept s.copy (onto s.copy (taken s.bitmap s.memory room))

abbrev pub after : Call → State → State
after c s = record { memory = memory_after c s; bitmap = bitmap_after c s; claims = claims_after c s; copy = copy_after c s }

-- a list of calls from a start, the latest last
pub data Run : Type 0 where
  start : State → Run
  then : Run → Call → Run

-- what a run leads to
abbrev pub state : Run → State
state (start s) = s
state (then r c) = after c (state r)

-- memory and copy equal, every page clean, the bitmap covering the memory, no claim open
pub record Fresh (s : State) : Type 0 where
  pub same : s.memory ≡ s.copy
  pub clean : (q : ℕ) → dirty s.bitmap q ≡ false
  pub covers : covered s.bitmap s.memory ≡ true
  pub unclaimed : s.claims ≡ []

-- a view of a root, as every view of the code is: marks fall where its bytes lie, and its end is an address. The views of a run need not share one root's address, so the law speaks of more runs than a program makes
pub record Rooted (v : Span) : Type 0 where
  pub marks : v.mark ≡ v.start
  pub ends : v.addr + v.start + v.size < 2 ^ 64

-- what a store takes: a view of a root to store to, and elements of one size
abbrev pub ProperStore : Store → Type 0
ProperStore (by_write v buf addr) = Rooted v
ProperStore (by_write_slice v buf addr) = Rooted v
ProperStore (by_atomic v bs addr) = Rooted v
ProperStore (by_reference v bs) = Rooted v
ProperStore (by_array v z i bs) = Rooted v × (length bs ≡ z)
ProperStore (by_copy_from v z xs) = Rooted v × AllByRecursion (λ bs. length bs ≡ z) xs
ProperStore (by_copy_within u v) = Rooted v
ProperStore (by_copy_over u source v) = Rooted v

-- what a call takes: such a store, a view of a root, an open claim
abbrev pub Proper : Call → State → Type 0
Proper (stores c) s = ProperStore c
Proper (opens v) s = Rooted v
Proper (puts i buf addr) s = i < length s.claims
Proper (settles i) s = i < length s.claims
Proper (takes room) s = Unit {0}

-- the law's suppositions, all of them
abbrev pub Legal : Run → Type 0
Legal (start s) = Fresh s
Legal (then r c) = Legal r × Proper c (state r)

-- what holds of every slice and every bitmap of the code: a length and a page size are numbers of 64 bits, and a page has a byte
pub record Fits (memory : List ℕ) (b : Meaning) : Type 0 where
  pub long : length memory < 2 ^ 64
  pub page : b.page < 2 ^ 64
  pub paged : Paged b
