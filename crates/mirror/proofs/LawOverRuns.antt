-- The law of the copy: each call of a legal run is a step, and the law follows from call to call.
use Rattle.std.proofs.Common.{◌≡◌, ℕ, ◌+◌, ◌≤◌, List, [], length, get_or, sym, refl, ap, ◌∙◌, inl, inr, arith}
use Rattle.std.proofs.lemmas.List.{ext_get_or}
use Rattle.std.proofs.lemmas.Bool.{cases_eq, both_ways}
use Rattle.std.proofs.lemmas.Bool.Decides.{nat_tests}
use Rattle.bitmap.specs.Pages.{Meaning, dirty}
use Rattle.volatile_memory.specs.Faults.Answer.{gives}
use Rattle.volatile_memory.specs.Memory.{part}
use Rattle.volatile_memory.specs.Spans.{Span}
use Rattle.volatile_memory.specs.Calls.{reference_at}
use Rattle.parcel.specs.Parcels.{pages, dirty_pages, due, taken}
use Rattle.mirror.specs.Runs.{State, Run, Legal, Fits, state}
use Rattle.mirror.specs.Runs.Run.{start, then}
use Rattle.mirror.specs.Mirror.{HasPage, LiesWhole, load_ref, DirtyForAReason, due_after, taken_after, Exact, Law}
use Rattle.mirror.proofs.BytePlaces.{part_inside, part_outside}
use Rattle.mirror.proofs.FittingCalls.{lays_inside}
use Rattle.mirror.proofs.KeptShapes.{kept_shape, kept-length, fits_before}
use Rattle.mirror.proofs.DirtyList.{dirty_rises, dirty_from_among, among_from_dirty}
use Rattle.mirror.proofs.Steps.{Sound, taken_cases, send, differs_claimed, step}

-- a parcel that was given is the one that the bitmap calls for
taken_is : (b : Meaning) (memory : List ℕ) (room : ℕ) (bs : List ℕ) → taken b memory room ≡ gives bs → bs ≡ due b memory
taken_is b memory room bs gave = elim (taken_cases b memory room) [ inl (f, refused) ↦ cc | inr is ↦ cc ]

-- with no claim open, the copy becomes the memory
equal_unclaimed : (s : State) (sound : Sound s) (fits : Fits s.memory s.bitmap) → s.claims ≡ [] → (send s sound fits).fresh ≡ s.memory
equal_unclaimed s sound fits unclaimed =
    ext_get_or 0 _ _ (send s sound fits).long λ x h.
    elim (cases_eq (get_or s.memory x 0) (get_or (send s sound fits).fresh x 0)) [
      | inl same ↦ sym same
      | inr differ ↦ let (i, opened, under) = differs_claimed s sound fits x differ in absurd (omega (arith, ap length unclaimed))
    ]

pub sound_run : (r : Run) → Legal r → Fits (state r).memory (state r).bitmap → Sound (state r)
sound_run (start s) fresh fits =
    record {
      even = ap length (sym fresh.same);
      covers = fresh.covers;
      rooted = rw fresh.unclaimed tt;
      explained = λ x differ. absurd (differ (ap (λ m. get_or m x 0) fresh.same));
    }
sound_run (then r c) (legal, proper) fits = let before = fits_before c (state r) proper fits in (step (state r) (sound_run r legal before) before c proper).sound

dirty_run : (r : Run) → Legal r → Fits (state r).memory (state r).bitmap → DirtyForAReason r
dirty_run (start s) fresh fits q below = (λ is. both_ways _ (fresh.clean q) is, λ never. absurd never)
dirty_run (then r c) (legal, proper) fits q below =
    let before = fits_before c (state r) proper fits in
    let had : HasPage (state r) q = rw ((kept_shape c (state r)).page, kept-length c (state r) proper) at below in
    let was = dirty_run r legal before q had in
    let is = (step (state r) (sound_run r legal before) before c proper).dirties q had in (
      λ now. let (kept, how) = is.0 now in (kept, elim how [ inl reason ↦ inl reason | inr known ↦ inr (was.0 known) ]),
      λ since. is.1 (since.0, elim since.1 [ inl reason ↦ inl reason | inr known ↦ inr (was.1 known) ]),
    )

-- what one call laid whole, and no later call touched, stands in memory
lies_run : (r : Run) → Legal r → (o : ℕ) (es : List ℕ) → LiesWhole r o es → part (state r).memory o (length es) ≡ es
lies_run (start s) legal o es never = absurd never
lies_run (then r c) (legal, proper) o es whole =
    let inside = lays_inside c (state r) proper in
    elim whole [
      | inl (low, high, is) ↦ part_inside _ _ _ inside o (length es) low high ∙ is
      | inr (before, apart) ↦ part_outside _ _ _ inside o (length es) apart ∙ lies_run r legal o es before
    ]

-- and it lies in the memory
lies_inside : (r : Run) → Legal r → (o : ℕ) (es : List ℕ) → LiesWhole r o es → o + length es ≤ length (state r).memory
lies_inside (start s) legal o es never = absurd never
lies_inside (then r c) (legal, proper) o es whole =
    rw (kept-length c (state r) proper) (elim whole [
      | inl (low, high, is) ↦ omega (arith, lays_inside c (state r) proper)
      | inr (before, apart) ↦ lies_inside r legal o es before
    ])

-- a reference as large as its element, inside a memory, is not refused
reference_given : (v : Span) (n size : ℕ) → v.size ≡ size → v.start + size ≤ n → reference_at v n size ≡ gives 0
reference_given v n size is inside = grind (arith, nat_tests)

-- so it loads the bytes that lie there
loads-part : {X : Type 0} (size : ℕ) (value : List ℕ → X) (v : Span) (memory es : List ℕ) → length es ≡ size → v.size ≡ size → v.start + length es ≤ length memory → part memory v.start (length es) ≡ es
    → load_ref size value v memory ≡ gives (value es)
loads-part size value v memory es long as_large inside lies =
    let first : v.start + 0 ≡ v.start = omega arith in
    let is : part memory v.start size ≡ es = rw (← long) lies in
    rw (reference_given v (length memory) size as_large (omega arith), first, is)

exact_run : (r : Run) → Legal r → Fits (state r).memory (state r).bitmap → (room : ℕ) (bs : List ℕ) → taken_after r room ≡ gives bs → Exact r bs
exact_run r legal fits room bs gave =
    let s = state r in
    let sound = sound_run r legal fits in
    let sent = send s sound fits in
    let is = taken_is s.bitmap s.memory room bs gave in
    let equal = equal_unclaimed s sound fits in
    record {
      carried = dirty_pages s.bitmap s.memory;
      rising = dirty_rises (dirty s.bitmap) (pages (length s.memory) s.bitmap.page);
      pages = λ q. (
        λ among. let (below, known) = dirty_from_among (dirty s.bitmap) _ q among in (below, (dirty_run r legal fits q below).0 known),
        λ how. among_from_dirty (dirty s.bitmap) _ q how.0 ((dirty_run r legal fits q how.0).1 how.1),
      );
      bytes = is;
      copy = sent.fresh;
      accepted = rw is sent.accepted;
      equal = equal;
      loads = λ unclaimed v es as_large whole.
          loads-part _ (λ bs. bs) v _ es refl as_large (rw (equal unclaimed) (lies_inside r legal v.start es whole)) (rw (equal unclaimed) (lies_run r legal v.start es whole));
    }

given_run : (r : Run) → Legal r → Fits (state r).memory (state r).bitmap → (room : ℕ) → length (due_after r) ≤ room → taken_after r room ≡ gives (due_after r)
unfolding taken
given_run r legal fits room most =
    let covers = (sound_run r legal fits).covers in
    grind (arith, nat_tests)

pub law_run : (r : Run) → Legal r → Fits (state r).memory (state r).bitmap → Law r
law_run r legal fits = record { even = (sound_run r legal fits).even; differs = (sound_run r legal fits).explained; dirty_pages = dirty_run r legal fits; exact = exact_run r legal fits; given = given_run r legal fits }
