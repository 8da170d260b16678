-- The law of the copy, over every run. Assumes nothing.
use Rattle.std.specs.Prelude.{◌≡◌, ℕ, ◌+◌, ◌-◌, ◌/◌, ◌<◌, ◌≤◌, Bool, true, false, ◌⊎◌, ◌↔◌, List, [], length, ◌≢◌, slice_index}
use Rattle.bitmap.specs.Pages.{dirty}
use Rattle.volatile_memory.specs.Faults.{Answer}
use Rattle.volatile_memory.specs.Faults.Answer.{gives, refuses}
use Rattle.volatile_memory.specs.Memory.{part}
use Rattle.volatile_memory.specs.Spans.{Span}
use Rattle.volatile_memory.specs.Calls.{Done, loads, reference_at}
use Rattle.parcel.specs.Parcels.{pages, parcel, due, taken, applied}
use Rattle.mirror.specs.Runs.{Call, State, Run, state, claim, does, lays_down}
use Rattle.mirror.specs.Runs.Call.{stores, opens, puts, settles, takes}
use Rattle.mirror.specs.Runs.Run.{start, then}

-- q is a page of the memory
abbrev pub HasPage : State → ℕ → Type 0
HasPage s q = q < pages (length s.memory) s.bitmap.page

-- byte x is one of the len bytes from place on
abbrev pub Inside : ℕ → ℕ → ℕ → Type 0
Inside place len x = (place ≤ x) × (x < place + len)

-- one of the len bytes from place on lies on page q, of pages of size p
abbrev pub On : ℕ → ℕ → ℕ → ℕ → Type 0
On p place len q = (x : ℕ) × Inside place len x × (x / p ≡ q)

-- the call is a reason for page q to be dirty: it stored a byte there outside claims, or settled a claim that reaches it
abbrev pub Reason : Call → State → ℕ → Type 0
Reason (stores c) s q = On s.bitmap.page (does c s.memory).place (length (does c s.memory).bytes) q
Reason (opens v) s q = ⊥
Reason (puts i buf addr) s q = ⊥
Reason (settles i) s q = On s.bitmap.page (claim s i).start (claim s i).size q
Reason (takes room) s q = ⊥

-- an answer that refuses nothing
abbrev gave : {X : Type 0} → Answer X → Bool
gave (gives x) = true
gave (refuses f) = false

-- the call took a parcel
abbrev pub took : Call → State → Bool
took (stores c) s = false
took (opens v) s = false
took (puts i buf addr) s = false
took (settles i) s = false
took (takes room) s = gave (taken s.bitmap s.memory room)

-- since the last parcel taken, or else the start, some call was a reason for page q
abbrev pub Since : Run → ℕ → Type 0
Since (start s) q = ⊥
Since (then r c) q = (took c (state r) ≡ false) × (Reason c (state r) q ⊎ Since r q)

-- a byte lies under an open claim
abbrev pub Claimed : State → ℕ → Type 0
Claimed s x = (i : ℕ) × (i < length s.claims) × Inside (claim s i).start (claim s i).size x

-- (a) where memory and copy differ
abbrev pub DiffersForAReason : State → Type 0
DiffersForAReason s = (x : ℕ) → (slice_index s.memory x ≢ slice_index s.copy x) → (dirty s.bitmap (x / s.bitmap.page) ≡ true) ⊎ Claimed s x

-- (b) which pages of the memory are dirty
abbrev pub DirtyForAReason : Run → Type 0
DirtyForAReason r = (q : ℕ) → HasPage (state r) q → (dirty (state r).bitmap q ≡ true) ↔ Since r q

-- these bytes were laid whole, in a row, from place o on
abbrev WholeBy : Done → ℕ → List ℕ → Type 0
WholeBy d o bs = (d.place ≤ o) × (o + length bs ≤ d.place + length d.bytes) × (part d.bytes (o - d.place) (length bs) ≡ bs)

-- no byte was laid among the k bytes from place o on
abbrev Apart : Done → ℕ → ℕ → Type 0
Apart d o k = (x : ℕ) → Inside d.place (length d.bytes) x → Inside o k x → ⊥

-- one call laid these bytes whole from place o on, and no later call laid a byte there
abbrev pub LiesWhole : Run → ℕ → List ℕ → Type 0
LiesWhole (start s) o bs = ⊥
LiesWhole (then r c) o bs = WholeBy (lays_down c (state r)) o bs ⊎ (LiesWhole r o bs × Apart (lays_down c (state r)) o (length bs))

-- a reference load over a memory, of an element of some size, by the value of its bytes
abbrev pub load_ref : {X : Type 0} → ℕ → (List ℕ → X) → Span → List ℕ → Answer X
load_ref size value v memory = loads (reference_at v (length memory) size) (value (part memory (v.start + 0) size))

-- rising page numbers
abbrev pub Rising : List ℕ → Type 0
Rising qs = (i : ℕ) → i + 1 < length qs → slice_index qs i < slice_index qs (i + 1)

-- q is one of these
abbrev pub Among : ℕ → List ℕ → Type 0
Among q qs = (i : ℕ) × (i < length qs) × (slice_index qs i ≡ q)

-- the parcel that is due after a run, and what a taking with room for so many bytes gives then
abbrev pub due_after : Run → List ℕ
due_after r = due (state r).bitmap (state r).memory

abbrev pub taken_after : Run → ℕ → Answer (List ℕ)
taken_after r room = taken (state r).bitmap (state r).memory room

-- (c) a parcel that is taken after the run: just the pages that (b) calls dirty, with the memory's bytes; the copy accepts it, and with no claim open equals the memory then, and what lies whole is loaded there
pub record Exact (r : Run) (bs : List ℕ) : Type 0 where
  pub carried : List ℕ
  pub rising : Rising carried
  pub pages : (q : ℕ) → Among q carried ↔ (HasPage (state r) q × Since r q)
  pub bytes : bs ≡ parcel (state r).bitmap.page (state r).memory carried
  pub copy : List ℕ
  pub accepted : applied (state r).copy bs ≡ gives copy
  pub equal : (state r).claims ≡ [] → copy ≡ (state r).memory
  pub loads : (state r).claims ≡ [] → (v : Span) (es : List ℕ) → v.size ≡ length es → LiesWhole r v.start es → load_ref (length es) (λ bs. bs) v copy ≡ gives es

-- the law of the copy; memory and copy are as long, and with room for it a parcel is never refused
pub record Law (r : Run) : Type 0 where
  pub even : length (state r).copy ≡ length (state r).memory
  pub differs : DiffersForAReason (state r)
  pub dirty_pages : DirtyForAReason r
  pub exact : (room : ℕ) (bs : List ℕ) → taken_after r room ≡ gives bs → Exact r bs
  pub given : (room : ℕ) → length (due_after r) ≤ room → taken_after r room ≡ gives (due_after r)
