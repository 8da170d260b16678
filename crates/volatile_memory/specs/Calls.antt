-- Every call that touches memory, by its case. Assumes nothing.
use Rattle.std.specs.Prelude.{◌≡◌, ℕ, ◌+◌, ◌-◌, ◌*◌, ◌%◌, min, cond, List, [], length, take, ◌==◌, nat_le, nat_lt}
use Rattle.bitmap.specs.Pages.{Meaning, top, wrapped, marked}
use Rattle.volatile_memory.specs.Faults.{Answer, out_of_bounds, overflow, misaligned, partial_buffer, no_element, foreign}
use Rattle.volatile_memory.specs.Faults.Answer.{gives, refuses}
use Rattle.volatile_memory.specs.Spans.{Span, address, count}
use Rattle.volatile_memory.specs.Memory.{part, overlaid, joined, elements}

-- what a storing call does: its answer, the bytes that it lays in memory from a place on, and the range that it marks
pub record Done : Type 0 where
  pub answer : Answer ℕ
  pub place : ℕ
  pub bytes : List ℕ
  pub from : ℕ
  pub len : ℕ

-- an answer, with nothing stored and nothing marked
abbrev pub only : Answer ℕ → Done
only a = record { answer = a; place = 0; bytes = []; from = 0; len = 0 }

-- the same done, with another answer
abbrev pub with_answer : Done → Answer ℕ → Done
with_answer d a = record { answer = a; place = d.place; bytes = d.bytes; from = d.from; len = d.len }

-- bytes laid into a view at an offset, and marked
abbrev pub lays : Span → ℕ → List ℕ → Answer ℕ → Done
lays v o bs a = record { answer = a; place = v.start + o; bytes = bs; from = wrapped v.mark o; len = length bs }

-- memory and bitmap after what was done: the bytes lie there, and the range is marked
abbrev pub Did : Done → List ℕ → List ℕ → Meaning → Meaning → Type 0
Did d memory memory' bitmap bitmap' = (memory' ≡ overlaid memory d.place d.bytes) × (bitmap' ≡ marked bitmap d.from d.len)

-- how much of n bytes a call at addr moves, over a view in a memory of so many bytes
abbrev pub moves : Span → ℕ → ℕ → ℕ → Answer ℕ
moves v memory n addr =
    cond (nat_lt memory (v.start + v.size)) (refuses (foreign (v.start + v.size) memory)) (cond (n == 0) (gives 0) (cond (nat_le v.size addr) (refuses (out_of_bounds addr)) (gives (min n (v.size - addr)))))

-- so much of a buffer laid at addr
abbrev pub laid_at : Span → List ℕ → ℕ → Answer ℕ → Done
laid_at v buf addr (gives k) = cond (k == 0) (only (gives 0)) (lays v addr (take k buf) (gives k))
laid_at v buf addr (refuses f) = only (refuses f)

unfoldable pub write : Span → ℕ → List ℕ → ℕ → Done
write v memory buf addr = laid_at v buf addr (moves v memory (length buf) addr)

-- all of n bytes, or a partial buffer
abbrev pub whole : ℕ → Answer ℕ → Answer ℕ
whole n (gives k) = cond (k == n) (gives 0) (refuses (partial_buffer n k))
whole n (refuses f) = refuses f

unfoldable pub write_slice : Span → ℕ → List ℕ → ℕ → Done
write_slice v memory buf addr = let d = write v memory buf addr in with_answer d (whole (length buf) d.answer)

-- an atomic access of z bytes at addr: refused as a cut, then by its alignment
abbrev pub atomic_at : Span → ℕ → ℕ → ℕ → Answer ℕ
atomic_at v memory z addr =
    cond (nat_lt memory (v.start + v.size)) (refuses (foreign (v.start + v.size) memory)) (cond (nat_lt top (addr + z)) (refuses (overflow addr z)) (cond (nat_lt v.size (addr + z)) (refuses (out_of_bounds (addr + z))) (cond ((address v + addr) % z == 0) (gives 0) (refuses (misaligned (address v + addr) z)))))

-- an element's bytes laid at an offset, unless refused
abbrev pub unless_refused : Span → ℕ → List ℕ → Answer ℕ → Done
unless_refused v o bs (gives k) = lays v o bs (gives k)
unless_refused v o bs (refuses f) = only (refuses f)

-- an atomic store of an element
unfoldable pub store : Span → ℕ → List ℕ → ℕ → Done
store v memory bs addr = unless_refused v addr bs (atomic_at v memory (length bs) addr)

-- a reference's access of z bytes, which its view has room for
abbrev pub reference_at : Span → ℕ → ℕ → Answer ℕ
reference_at v memory z = cond (nat_lt memory (v.start + v.size)) (refuses (foreign (v.start + v.size) memory)) (cond (nat_lt v.size z) (refuses (out_of_bounds z)) (gives 0))

unfoldable pub store_ref : Span → ℕ → List ℕ → Done
store_ref v memory bs = unless_refused v 0 bs (reference_at v memory (length bs))

-- an array of elements of size z has an element i
abbrev pub has_element : Span → ℕ → ℕ → Answer ℕ
has_element v z i = cond (nat_lt i (count v z)) (gives 0) (refuses (no_element i (count v z)))

-- element i of an array of elements of size z
abbrev pub element_at : Span → ℕ → ℕ → ℕ → Answer ℕ
element_at v memory z i = cond (nat_lt memory (v.start + v.size)) (refuses (foreign (v.start + v.size) memory)) (has_element v z i)

unfoldable pub store_at : Span → ℕ → ℕ → ℕ → List ℕ → Done
store_at v memory z i bs = unless_refused v (i * z) bs (element_at v memory z i)

-- how many bytes an answer moved
abbrev pub amount : Answer ℕ → ℕ
amount (gives k) = k
amount (refuses f) = 0

-- a buffer after a read at addr: what was moved lies at its start, its rest stays
unfoldable pub fetched : Span → List ℕ → List ℕ → ℕ → List ℕ
fetched v memory buf addr = overlaid buf 0 (part memory (v.start + addr) (amount (moves v (length memory) (length buf) addr)))

-- what a load answers: the value, unless it is refused
abbrev pub loads : {X : Type 0} → Answer ℕ → X → Answer X
loads (gives k) x = gives x
loads (refuses f) x = refuses f

-- a view has to lie in a memory of so many bytes
abbrev pub in_memory : Span → ℕ → Answer ℕ
in_memory v memory = cond (nat_lt memory (v.start + v.size)) (refuses (foreign (v.start + v.size) memory)) (gives 0)

-- as many elements of size z as both hold, by their bytes
unfoldable pub copy_from : Span → ℕ → ℕ → List (List ℕ) → Done
copy_from v memory z xs = unless_refused v 0 (joined (take (count v z) xs)) (in_memory v memory)

abbrev pub after_source : Answer ℕ → Done → Done
after_source (gives k) d = d
after_source (refuses f) d = only (refuses f)

-- the bytes of a source view in a memory, as they stood before; the source is looked at first
unfoldable pub copy_volatile : Span → List ℕ → Span → ℕ → Done
copy_volatile u source v memory = after_source (in_memory u (length source)) (unless_refused v 0 (part source u.start (min u.size v.size)) (in_memory v memory))

-- how many elements of size z are copied to a buffer of n
abbrev pub copies : Span → ℕ → ℕ → ℕ → Answer ℕ
copies v memory z n = cond (nat_lt memory (v.start + v.size)) (refuses (foreign (v.start + v.size) memory)) (gives (min n (count v z)))

-- a buffer of elements after a copy to it: its rest stays
unfoldable pub copied : {X : Type 0} → (List ℕ → X) → Span → List ℕ → ℕ → List X → List X
copied value v memory z buf = overlaid buf 0 (elements value z memory v.start (amount (copies v (length memory) z (length buf))))

-- a view's part of a memory: its bytes, and where they lie, in the memory's block at its offset and the view's start
abbrev pub guards : Span → List ℕ → ℕ × ℕ → Answer (List ℕ × (ℕ × ℕ))
guards v memory at = cond (nat_lt (length memory) (v.start + v.size)) (refuses (foreign (v.start + v.size) (length memory))) (gives (part memory v.start v.size, (at.0, v.start + at.1)))

-- as much of an array's view as its elements fill
abbrev pub filled : Span → ℕ → Span
filled v z = record { addr = v.addr; start = v.start; size = count v z * z; mark = v.mark }

-- a claim on a view settled: all of the view is marked
abbrev pub settled : Meaning → Span → Meaning
settled b v = marked b (wrapped v.mark 0) v.size
