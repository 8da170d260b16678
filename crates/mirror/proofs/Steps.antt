-- Each call on a sound state: the state stays sound, and which pages become or stay dirty.
use Rattle.std.proofs.Common.{◌≡◌, ℕ, suc, ◌+◌, ◌-◌, ◌/◌, ◌^◌, ◌<◌, ◌≤◌, min, Bool, true, false, not, ◌&&◌, ltb, leb, ◌⊎◌, ◌↔◌, List, [], ◌∷◌, length, get_or, sym, refl, ◌∙◌, inl, inr, arith}
use Rattle.std.specs.List.{remove, AllByRecursion}
use Rattle.std.proofs.lemmas.List.{get_or_append_left, length_push, get_or_past}
use Rattle.std.proofs.lemmas.List.Edits.{length-remove, get_or-remove_below, get_or-remove_above}
use Rattle.std.proofs.ByRecursion.{All-get_or, All-push, All-append, All-take, All-drop}
use Rattle.std.proofs.lemmas.Bool.{cases_lt, cases_Bool, cases_order, both_ways, cond-true, cond-false}
use Rattle.std.proofs.lemmas.Bool.Decides.{nat_tests}
use Rattle.bitmap.specs.Pages.{Meaning, top, wrapped, dirty, assigned, marked}
use Rattle.volatile_memory.specs.Faults.{Fault, uncovered, no_room}
use Rattle.volatile_memory.specs.Faults.Answer.{gives, refuses}
use Rattle.volatile_memory.specs.Spans.{Span}
use Rattle.volatile_memory.specs.Memory.{overlaid}
use Rattle.volatile_memory.specs.Calls.{Done}
use Rattle.parcel.specs.Parcels.{pages, covered, due, taken, swept}
use Rattle.mirror.specs.Runs.{Store, Call, State, claim, does, lays_down, after, Rooted, ProperStore, Proper, Fits}
use Rattle.mirror.specs.Runs.Call.{stores, opens, puts, settles, takes}
use Rattle.mirror.specs.Mirror.{HasPage, Inside, On, Reason, took, Claimed, DiffersForAReason}
use Rattle.mirror.proofs.BytePlaces.{get_or_overlaid}
use Rattle.mirror.proofs.RefreshedPages.{byte_on_page}
use Rattle.mirror.proofs.AppliedParcel.{Refreshed, parcel-refreshes}
use Rattle.mirror.proofs.MarkedPages.{marked_more, marked-dirty}
use Rattle.mirror.proofs.FittingCalls.{under_view, inside_memory, marks-laid, write_view, target_rooted, store_in_view}
use Rattle.mirror.proofs.KeptShapes.{kept-length, kept_covers}

-- what holds of a state after every call
pub record Sound (s : State) : Type 0 where
  pub even : length s.copy ≡ length s.memory
  pub covers : covered s.bitmap s.memory ≡ true
  pub rooted : AllByRecursion Rooted s.claims
  pub explained : DiffersForAReason s

-- from s to t by a call that took a parcel or did not, and is a reason for some pages
pub record Leads (s t : State) (took : Bool) (Because : ℕ → Type 0) : Type 0 where
  pub sound : Sound t
  pub dirties : (q : ℕ) → HasPage s q → (dirty t.bitmap q ≡ true) ↔ ((took ≡ false) × (Because q ⊎ (dirty s.bitmap q ≡ true)))

abbrev pub Step : Call → State → Type 0
Step c s = Leads s (after c s) (took c s) (λ q. Reason c s q)

-- a page's state, where nothing was marked
unmarked : {Dirty : Type 0} → Dirty ↔ ((false ≡ false) × (⊥ ⊎ Dirty))
unmarked = (λ is. (refl, inr is), λ how. elim how.1 [ inl never ↦ absurd never | inr was ↦ was ])

-- a page of the memory is clean once a parcel was taken
swept-clean : (b : Meaning) (memory : List ℕ) (q : ℕ) → q < pages (length memory) b.page → dirty (swept b memory) q ≡ true → ⊥
unfolding swept
swept-clean b memory q below is = grind (arith, nat_tests)

-- a parcel is refused, or it is the one that the bitmap calls for
pub taken_cases : (b : Meaning) (memory : List ℕ) (room : ℕ) → ((f : Fault) × (taken b memory room ≡ refuses f)) ⊎ (taken b memory room ≡ gives (due b memory))
unfolding taken
taken_cases b memory room =
    elim (cases_Bool (not (covered b memory))) [
      | inl uncovers ↦ inl (uncovered (pages (length memory) b.page) b.count, rw uncovers)
      | inr covers ↦ elim (cases_Bool (ltb room (length (due b memory)))) [ inl large ↦ inl (no_room (min (length (due b memory)) top), rw (covers, large)) | inr fits ↦ inr (rw (covers, fits)) ]
    ]

-- a memory and a copy as long differ only inside
differ_inside : (memory copy : List ℕ) → length copy ≡ length memory → (x : ℕ) → (get_or memory x 0 ≡ get_or copy x 0 → ⊥) → x < length memory
differ_inside memory copy even x differ =
    elim (cases_lt x (length memory)) [
      | inl below ↦ below
      | inr past ↦ absurd (differ (get_or_past memory x 0 past ∙ sym (get_or_past copy x 0 (omega arith))))
    ]

-- a state with bytes laid in its memory, and another bitmap
abbrev laid : State → Done → Meaning → State
laid s d b = record { memory = overlaid s.memory d.place d.bytes; bitmap = b; claims = s.claims; copy = s.copy }

module _ (s : State) (sound : Sound s) (fits : Fits s.memory s.bitmap) where
  rooted_claim : (i : ℕ) → i < length s.claims → Rooted (claim s i)
  rooted_claim i opened = All-get_or Rooted s.claims i _ opened sound.rooted

  -- laid bytes are explained if each byte laid is, and what was dirty still is
  explained_laid : (d : Done) (b : Meaning) → d.place + length d.bytes ≤ length s.memory
      → ((x : ℕ) → x < length s.memory → Inside d.place (length d.bytes) x → (dirty b (x / b.page) ≡ true) ⊎ Claimed s x)
      → ((x : ℕ) → dirty s.bitmap (x / s.bitmap.page) ≡ true → dirty b (x / b.page) ≡ true)
      → DiffersForAReason (laid s d b)
  explained_laid d b inside new still x differ =
      let at = get_or_overlaid s.memory d.bytes d.place inside x in
      elim (cases_Bool (leb d.place x && ltb x (d.place + length d.bytes))) [
        | inl among ↦ new x (grind (arith, nat_tests)) (grind (arith, nat_tests), grind (arith, nat_tests))
        | inr beside ↦ elim (sound.explained x (λ e. differ (at ∙ cond-false _ _ _ beside ∙ e))) [ inl known ↦ inl (still x known) | inr claimed ↦ inr claimed ]
      ]

  module _ (from len : ℕ) (ends : from + len < 2 ^ 64) where
    -- a page's state, where a range was marked
    dirty_then : (q : ℕ) → HasPage s q → (dirty (marked s.bitmap from len) q ≡ true) ↔ ((false ≡ false) × (On s.bitmap.page from len q ⊎ (dirty s.bitmap q ≡ true)))
    dirty_then q below =
        let is = marked-dirty s.bitmap s.memory sound.covers fits.paged from len ends q below in
        (λ now. (refl, is.0 now), λ how. is.1 how.1)

    -- a byte of a marked range is on a dirty page
    byte_marked : (x : ℕ) → x < length s.memory → Inside from len x → dirty (marked s.bitmap from len) (x / s.bitmap.page) ≡ true
    byte_marked x below inside = (dirty_then (x / s.bitmap.page) (byte_on_page _ s.bitmap.page x fits.paged below)).1 (refl, inl (x, inside, refl))

  step_stored : (c : Store) → ProperStore c → Step (stores c) s
  unfolding assigned
  step_stored c proper =
      let d = does c s.memory in
      let len = length d.bytes in
      let view = store_in_view c s.memory proper in
      let m = marks-laid view (target_rooted c proper) in
      record {
        sound = record {
          even = sound.even ∙ sym (kept-length (stores c) s proper);
          covers = kept_covers (stores c) s proper sound.covers;
          rooted = sound.rooted;
          explained = rw (m.from_is, m.len_is) (explained_laid d (marked s.bitmap d.place len) (inside_memory view)
              (λ x below inside. inl (byte_marked d.place len m.ends x below inside))
              (λ x was. marked_more s.bitmap d.place len _ was));
        };
        dirties = rw (m.from_is, m.len_is) (dirty_then d.place len m.ends);
      }

  step_opened : (v : Span) → Rooted v → Step (opens v) s
  unfolding overlaid
  step_opened v fresh =
      record {
        sound = record { even = sound.even; covers = sound.covers; rooted = All-push Rooted s.claims v sound.rooted fresh; explained = explained };
        dirties = λ q below. unmarked;
      }
    where
      explained : DiffersForAReason (after (opens v) s)
      explained x differ =
          elim (sound.explained x differ) [
            | inl known ↦ inl known
            | inr (i, opened, under) ↦ inr (i, omega (arith, length_push s.claims v), rw (get_or_append_left s.claims (v ∷ []) _ i opened) under)
          ]

  step_put : (i : ℕ) (buf : List ℕ) (addr : ℕ) → i < length s.claims → Step (puts i buf addr) s
  step_put i buf addr opened =
      let c = puts i buf addr in
      let view = write_view (claim s i) (length s.memory) buf addr in
      record {
        sound = record {
          even = sound.even ∙ sym (kept-length c s opened);
          covers = kept_covers c s opened sound.covers;
          rooted = sound.rooted;
          explained = explained_laid (lays_down c s) s.bitmap (inside_memory view) (λ x below inside. inr (i, opened, under_view view x inside)) (λ x was. was);
        };
        dirties = λ q below. unmarked;
      }

  step_settled : (i : ℕ) → i < length s.claims → Step (settles i) s
  unfolding overlaid assigned
  step_settled i opened =
      record {
        sound = record {
          even = sound.even;
          covers = sound.covers;
          rooted = All-append Rooted _ _ (All-take Rooted i s.claims sound.rooted) (All-drop Rooted (suc i) s.claims sound.rooted);
          explained = explained;
        };
        dirties = rw from_is (dirty_then (claim s i).start (claim s i).size (omega (arith, root.ends)));
      }
    where
      root : Rooted (claim s i)
      root = rooted_claim i opened

      from_is : wrapped (claim s i).mark 0 ≡ (claim s i).start
      from_is = omega (arith, root.marks, root.ends)

      long : length (remove s.claims i) + 1 ≡ length s.claims
      long = length-remove s.claims i opened

      explained : DiffersForAReason (after (settles i) s)
      explained x differ =
          elim (sound.explained x differ) [
            | inl known ↦ inl (marked_more s.bitmap _ (claim s i).size _ known)
            | inr (j, other, under) ↦ elim (cases_order j i) [
              | inl same ↦ inl (byte_marked _ _ (omega (arith, root.ends, from_is)) x (differ_inside _ _ sound.even x differ) (rw (from_is, sym same) under))
              | inr (inl below) ↦ inr (j, omega (arith, long), rw (get_or-remove_below s.claims i _ j below opened) under)
              | inr (inr above) ↦
                  let back : j - 1 + 1 ≡ j = omega arith in
                  inr (j - 1, omega (arith, long), rw (get_or-remove_above s.claims i _ (j - 1) (omega arith) opened, back) under)
            ]
          ]

  -- the copy, refreshed by the parcel of the dirty pages
  pub send : Refreshed s.bitmap.page s.memory s.copy (dirty s.bitmap)
  send = parcel-refreshes s.bitmap.page s.memory s.copy (dirty s.bitmap) fits.paged fits.page (sym sound.even) fits.long

  -- then a byte differs only under a claim
  pub differs_claimed : (x : ℕ) → (get_or s.memory x 0 ≡ get_or send.fresh x 0 → ⊥) → Claimed s x
  differs_claimed x differ =
      let is = send.bytes x (differ_inside s.memory send.fresh send.long x differ) in
      elim (cases_Bool (dirty s.bitmap (x / s.bitmap.page))) [
        | inl known ↦ absurd (differ (sym (is ∙ cond-true _ _ _ known)))
        | inr clean ↦ elim (sound.explained x (λ e. differ (e ∙ sym (is ∙ cond-false _ _ _ clean)))) [ inl known ↦ absurd (both_ways _ clean known) | inr claimed ↦ claimed ]
      ]

  step_taken : (room : ℕ) → Step (takes room) s
  unfolding overlaid swept
  step_taken room =
      elim (taken_cases s.bitmap s.memory room) [
        | inl (f, refused) ↦ rw refused (record { sound = sound; dirties = λ q below. unmarked })
        | inr gave ↦ rw (gave, send.accepted) (record {
          sound = record { even = send.long; covers = sound.covers; rooted = sound.rooted; explained = λ x differ. inr (differs_claimed x differ) };
          dirties = λ q below. (λ is. absurd (swept-clean s.bitmap s.memory q below is), λ how. absurd (both_ways true how.0 refl));
        })
      ]

  pub step : (c : Call) → Proper c s → Step c s
  step (stores c) proper = step_stored c proper
  step (opens v) rooted = step_opened v rooted
  step (puts i buf addr) opened = step_put i buf addr opened
  step (settles i) opened = step_settled i opened
  step (takes room) proper = step_taken room
