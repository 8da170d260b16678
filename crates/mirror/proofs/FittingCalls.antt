-- What each call lays lies inside its view and the memory, and is marked where it lies.
use Rattle.std.proofs.Common.{◌≡◌, ℕ, ◌+◌, ◌*◌, ◌^◌, ◌<◌, ◌≤◌, min, eqb, ◌⊎◌, List, [], length, take, refl, inl, inr, mul-le-mul_right, div-mul-le_self, arith, length-take}
use Rattle.std.proofs.ByRecursion.{All-take}
use Rattle.std.proofs.lemmas.Bool.{cond_both, eqb-false}
use Rattle.std.proofs.lemmas.Bool.Decides.{nat_tests}
use Rattle.std.specs.List.{AllByRecursion}
use Rattle.volatile_memory.specs.Faults.{Fault, Answer, partial_buffer}
use Rattle.volatile_memory.specs.Faults.Answer.{gives, refuses}
use Rattle.volatile_memory.specs.Spans.{Span, count}
use Rattle.volatile_memory.specs.Memory.{part, joined}
use Rattle.volatile_memory.specs.Calls.{Done, only, with_answer, lays, moves, laid_at, whole, atomic_at, reference_at, element_at, in_memory, unless_refused, after_source, write, write_slice, store, store_ref, store_at, copy_from, copy_volatile}
use Rattle.volatile_memory.proofs.LaidBytes.{length_pieces}
use Rattle.volatile_memory.proofs.CallLaws.{moved_fits}
use Rattle.mirror.specs.Runs.{Store, Call, State, claim, does, lays_down, Rooted, ProperStore, Proper}
use Rattle.mirror.specs.Runs.Store.{by_write, by_write_slice, by_atomic, by_reference, by_array, by_copy_from, by_copy_within, by_copy_over}
use Rattle.mirror.specs.Runs.Call.{stores, opens, puts, settles, takes}
use Rattle.mirror.specs.Mirror.{Inside}
use Rattle.parcel.proofs.Refusals.{gives-refuses}
use Rattle.parcel.proofs.WrittenPages.{length-part}

-- what is answered where bytes were stored: no refusal, but that of a partial buffer, which counts them
pub data Stored (bs : List ℕ) : Answer ℕ → Type 0 where
  freely : (k : ℕ) → Stored bs (gives k)
  partly : (n : ℕ) → Stored bs (refuses (partial_buffer n (length bs)))

-- a call on a view, in a memory of n bytes, lays nothing, or bytes inside the view, which lies inside the memory
pub data InView (v : Span) (n : ℕ) : Done → Type 0 where
  none : (a : Answer ℕ) → InView v n (only a)
  some : (o : ℕ) (bs : List ℕ) (a : Answer ℕ) → Stored bs a → v.start + v.size ≤ n → o + length bs ≤ v.size → InView v n (lays v o bs a)

pub under_view : {v : Span} {n : ℕ} {d : Done} → InView v n d → (x : ℕ) → Inside d.place (length d.bytes) x → Inside v.start v.size x
under_view (none a) x inside = omega arith
under_view (some o bs a answers held below) x inside = omega arith

-- what a call lays ends inside n bytes
pub inside_memory : {v : Span} {n : ℕ} {d : Done} → InView v n d → d.place + length d.bytes ≤ n
inside_memory (none a) = omega arith
inside_memory (some o bs a answers held below) = omega arith

refused_partly : {bs : List ℕ} {a : Answer ℕ} → Stored bs a → (f : Fault) → a ≡ refuses f → (n : ℕ) × (f ≡ partial_buffer n (length bs))
refused_partly (freely k) f refused = absurd (gives-refuses refused)
refused_partly (partly n) f refused = (n, cc)

pub refused_stores : {v : Span} {n : ℕ} {d : Done} → InView v n d → (f : Fault) → d.answer ≡ refuses f → (d.bytes ≡ []) ⊎ ((k : ℕ) × (f ≡ partial_buffer k (length d.bytes)))
refused_stores (none a) f refused = inl refl
refused_stores (some o bs a answers held below) f refused = inr (refused_partly answers f refused)

-- the marked range is the laid one, and ends at an address
pub record Marked (d : Done) : Type 0 where
  pub from_is : d.from ≡ d.place
  pub len_is : d.len ≡ length d.bytes
  pub ends : d.place + length d.bytes < 2 ^ 64

pub marks-laid : {v : Span} {n : ℕ} {d : Done} → InView v n d → Rooted v → Marked d
marks-laid (none a) rooted = record { from_is = refl; len_is = refl; ends = omega arith }
marks-laid (some o bs a answers held below) rooted = record { from_is = omega arith; len_is = refl; ends = omega arith }

module _ (v : Span) (n : ℕ) where
  -- what an answer lets be stored, where it shows that the bytes fit
  Room : ℕ → List ℕ → Answer ℕ → Type 0
  Room o bs a = (k : ℕ) → gives k ≡ a → (v.start + v.size ≤ n) × (o + length bs ≤ v.size)

  unless-view : (o : ℕ) (bs : List ℕ) (a : Answer ℕ) → Room o bs a → InView v n (unless_refused v o bs a)
  unfolding Room
  unless-view o bs (gives k) room = let (held, below) = room k refl in some o bs (gives k) (freely k) held below
  unless-view o bs (refuses f) room = none (refuses f)

  laid-view : (buf : List ℕ) (addr : ℕ) (a : Answer ℕ) → a ≡ moves v n (length buf) addr → InView v n (laid_at v buf addr a)
  laid-view buf addr (refuses f) is = none (refuses f)
  laid-view buf addr (gives k) is =
      cond_both (eqb k 0) _ _ (InView v n) (λ e. none _) λ e.
      let more = eqb-false k 0 e in
      let (below, held, most) = moved_fits v n (length buf) addr k is (omega arith) in
      some addr (take k buf) _ (freely k) held (omega (arith, length-take k buf))

  pub write_view : (buf : List ℕ) (addr : ℕ) → InView v n (write v n buf addr)
  unfolding write
  write_view buf addr = laid-view buf addr _ refl

  -- all of a buffer, or a part that is counted
  whole-stored : (m k : ℕ) (bs : List ℕ) → length bs ≡ k → Stored bs (whole m (gives k))
  whole-stored m k bs long = cond_both (eqb k m) _ _ (Stored bs) (λ e. freely 0) (λ e. rw (← long) (partly m))

  whole-view : (buf : List ℕ) (addr : ℕ) (a : Answer ℕ) → a ≡ moves v n (length buf) addr → InView v n (with_answer (laid_at v buf addr a) (whole (length buf) (laid_at v buf addr a).answer))
  whole-view buf addr (refuses f) is = none _
  whole-view buf addr (gives k) is =
      cond_both (eqb k 0) _ _ (λ d. InView v n (with_answer d (whole (length buf) d.answer))) (λ e. none _) λ e.
      let more = eqb-false k 0 e in
      let (below, held, most) = moved_fits v n (length buf) addr k is (omega arith) in
      let long : length (take k buf) ≡ k = omega (arith, length-take k buf) in
      some addr (take k buf) _ (whole-stored (length buf) k _ long) held (omega arith)

  write_slice_view : (buf : List ℕ) (addr : ℕ) → InView v n (write_slice v n buf addr)
  unfolding write write_slice
  write_slice_view buf addr = whole-view buf addr _ refl

  store_view : (bs : List ℕ) (addr : ℕ) → InView v n (store v n bs addr)
  unfolding store Room
  store_view bs addr = unless-view addr bs (atomic_at v n (length bs) addr) λ k is. (grind (arith, nat_tests), grind (arith, nat_tests))

  store_ref_view : (bs : List ℕ) → InView v n (store_ref v n bs)
  unfolding store_ref Room
  store_ref_view bs = unless-view 0 bs (reference_at v n (length bs)) λ k is. (grind (arith, nat_tests), grind (arith, nat_tests))

  store_at_view : (z i : ℕ) (bs : List ℕ) → length bs ≡ z → InView v n (store_at v n z i bs)
  unfolding store_at Room
  store_at_view z i bs long =
      unless-view (i * z) bs (element_at v n z i) λ k is.
      let below : i < count v z = grind (arith, nat_tests) in
      let last = mul-le-mul_right z below in
      (grind (arith, nat_tests), omega (arith, div-mul-le_self v.size z))

  copy_from_view : (z : ℕ) (xs : List (List ℕ)) → AllByRecursion (λ bs. length bs ≡ z) xs → InView v n (copy_from v n z xs)
  unfolding copy_from Room
  copy_from_view z xs each =
      let few = take (count v z) xs in
      unless-view 0 (joined few) (in_memory v n) λ k is.
      let fewer : length few ≤ count v z = omega (arith, length-take (count v z) xs) in
      let most = mul-le-mul_right z fewer in
      (grind (arith, nat_tests), omega (arith, length_pieces z few (All-take _ (count v z) xs each), div-mul-le_self v.size z))

  after-view : (a : Answer ℕ) (d : Done) → InView v n d → InView v n (after_source a d)
  after-view (gives k) d inside = inside
  after-view (refuses f) d inside = none (refuses f)

  copy_volatile_view : (u : Span) (source : List ℕ) → InView v n (copy_volatile u source v n)
  unfolding copy_volatile Room
  copy_volatile_view u source =
      let bs = part source u.start (min u.size v.size) in
      after-view (in_memory u (length source)) _ (unless-view 0 bs (in_memory v n) λ k is. (grind (arith, nat_tests), omega (arith, length-part source u.start (min u.size v.size))))

-- a store's view, which is one of a root
abbrev pub target : Store → Span
target (by_write v buf addr) = v
target (by_write_slice v buf addr) = v
target (by_atomic v bs addr) = v
target (by_reference v bs) = v
target (by_array v z i bs) = v
target (by_copy_from v z xs) = v
target (by_copy_within u v) = v
target (by_copy_over u source v) = v

pub target_rooted : (c : Store) → ProperStore c → Rooted (target c)
target_rooted (by_write v buf addr) rooted = rooted
target_rooted (by_write_slice v buf addr) rooted = rooted
target_rooted (by_atomic v bs addr) rooted = rooted
target_rooted (by_reference v bs) rooted = rooted
target_rooted (by_array v z i bs) (rooted, long) = rooted
target_rooted (by_copy_from v z xs) (rooted, each) = rooted
target_rooted (by_copy_within u v) rooted = rooted
target_rooted (by_copy_over u source v) rooted = rooted

pub store_in_view : (c : Store) (memory : List ℕ) → ProperStore c → InView (target c) (length memory) (does c memory)
store_in_view (by_write v buf addr) memory rooted = write_view v _ buf addr
store_in_view (by_write_slice v buf addr) memory rooted = write_slice_view v _ buf addr
store_in_view (by_atomic v bs addr) memory rooted = store_view v _ bs addr
store_in_view (by_reference v bs) memory rooted = store_ref_view v _ bs
store_in_view (by_array v z i bs) memory (rooted, long) = store_at_view v _ z i bs long
store_in_view (by_copy_from v z xs) memory (rooted, each) = copy_from_view v _ z xs each
store_in_view (by_copy_within u v) memory rooted = copy_volatile_view v _ u memory
store_in_view (by_copy_over u source v) memory rooted = copy_volatile_view v _ u source

-- what any call lays ends inside the memory
pub lays_inside : (c : Call) (s : State) → Proper c s → (lays_down c s).place + length (lays_down c s).bytes ≤ length s.memory
lays_inside (stores c) s proper = inside_memory (store_in_view c s.memory proper)
lays_inside (opens v) s proper = omega arith
lays_inside (puts i buf addr) s proper = inside_memory (write_view (claim s i) (length s.memory) buf addr)
lays_inside (settles i) s proper = omega arith
lays_inside (takes room) s proper = omega arith
