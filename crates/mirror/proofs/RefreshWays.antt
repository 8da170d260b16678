-- The ways through a refresh: refused at the taking, at the applying or at the load, or not at all.
use Rattle.std.proofs.Common.{◌≡◌, ℕ, ◌-◌, ◌≤◌, List, length, take, sym, refl, ap, arith}
use Rattle.std.proofs.lemmas.List.{take_at}
use Rattle.std.proofs.lemmas.Bool.Decides.{nat_tests}
use Rattle.bitmap.specs.Pages.{Meaning}
use Rattle.volatile_memory.specs.Faults.{Fault, Answer}
use Rattle.volatile_memory.specs.Faults.Answer.{gives, refuses}
use Rattle.volatile_memory.specs.Spans.{Span}
use Rattle.volatile_memory.specs.Memory.{overlaid}
use Rattle.parcel.specs.Parcels.{dirty_pages, taken, applied, unless}
use Rattle.parcel.specs.Outcomes.{told, filled, left, accepted, kept}
use Rattle.parcel.proofs.Refusals.{gives-refuses}
use Rattle.mirror.specs.Runs.{Run, Fits}
use Rattle.mirror.specs.Mirror.{load_ref}
use Rattle.mirror.specs.Program.{LeadsTo}
use Rattle.mirror.specs.Refresh.{both, copy_then, refreshes, Mirrors}
use Rattle.mirror.proofs.RefreshLaw.{Kind, law_at}

-- a taking that was refused
told_refused : (k : ℕ) (f : Fault) (t : Answer (List ℕ)) → refuses f ≡ told k t → t ≡ refuses f
told_refused k f (gives bs) e = absurd (gives-refuses (sym e))
told_refused k f (refuses g) e = let same : g ≡ f = cc in ap refuses same

-- a parcel of n bytes and k pages that was taken
record Given (t : Answer (List ℕ)) (k n m : ℕ) (bs : List ℕ) : Type 0 where
  pub is : t ≡ gives bs
  pub long : length bs ≡ n
  pub many : m ≡ k

-- it lies at the buffer's start
given : (k n m : ℕ) (t : Answer (List ℕ)) (buf buf' : List ℕ) → gives (n, m) ≡ told k t → buf' ≡ filled buf t → Given t k n m (take (n - 0) buf')
unfolding overlaid
given k n m (refuses f) buf buf' e b = absurd (gives-refuses e)
given k n m (gives bs) buf buf' e b =
    let same : ◌≡◌ {A = ℕ × ℕ} (n, m) (length bs, k) = cc in
    let long : length bs ≡ n = sym (ap (λ p. p.0) same) in
    let all : n - 0 ≡ n = omega arith in
    let start : take (n - 0) buf' ≡ bs = rw (b, all) (take_at bs _ n long) in
    rw start (record { is = refl; long = long; many = ap (λ p. p.1) same })

-- a parcel that was given had room
taken_room : (b : Meaning) (memory : List ℕ) (room : ℕ) (bs : List ℕ) → taken b memory room ≡ gives bs → length bs ≤ room
unfolding taken
taken_room b memory room bs is = grind (arith, nat_tests)

pub parcel_fits : (b : Meaning) (memory buf buf' : List ℕ) (k n m : ℕ) → gives (n, m) ≡ told k (taken b memory (length buf)) → buf' ≡ filled buf (taken b memory (length buf)) → n ≤ length buf
parcel_fits b memory buf buf' k n m e lies =
    let l = given k n m (taken b memory (length buf)) buf buf' e lies in omega (arith, l.long, taken_room b memory (length buf) (take (n - 0) buf') l.is)

-- an applying that was refused, and one that was not
unapplied : {X : Type 0} (p : ℕ × ℕ) (load : List ℕ → Answer X) (copy : List ℕ) (a : Answer (List ℕ)) (f : Fault) → refuses f ≡ accepted a → refuses f ≡ both (gives p) (unless a (load (kept copy a)))
unapplied p load copy (gives x) f e = absurd (gives-refuses (sym e))
unapplied p load copy (refuses g) f e = cc

loaded : {X : Type 0} (p : ℕ × ℕ) (load : List ℕ → Answer X) (copy : List ℕ) (a : Answer (List ℕ)) → gives 0 ≡ accepted a → both (gives p) (load (kept copy a)) ≡ both (gives p) (unless a (load (kept copy a)))
loaded p load copy (gives x) e = refl
loaded p load copy (refuses g) e = absurd (gives-refuses e)

module _ {X : Type 0} (k : Kind X) where
  module _ (v : Span) (memory : List ℕ) (b : Meaning) (buf copy : List ℕ) (fits : Fits memory b) (b' : Meaning) (means : b' ≡ left b memory (taken b memory (length buf))) where
    -- what a refresh owes, but for the buffer and the bitmap
    pub record Owed (copy' : List ℕ) (a : Answer ((ℕ × ℕ) × X)) : Type 0 where
      pub answer : a ≡ refreshes (load_ref k.size k.value v) b memory (length buf) copy
      pub copy_is : copy' ≡ copy_then b memory (length buf) copy
      pub law : (r : Run) → LeadsTo memory b copy r → Mirrors k.size k.bytes k.Holds v r (length buf) b' copy' a

    owed : (copy' : List ℕ) (a : Answer ((ℕ × ℕ) × X)) → copy' ≡ copy_then b memory (length buf) copy → a ≡ refreshes (load_ref k.size k.value v) b memory (length buf) copy → Owed copy' a
    owed copy' a copy_is answer = record { answer = answer; copy_is = copy_is; law = law_at k v memory b copy (length buf) fits b' copy' a means copy_is answer }

    pub untaken_owed : (f : Fault) → refuses f ≡ told (length (dirty_pages b memory)) (taken b memory (length buf)) → Owed copy (refuses f)
    untaken_owed f e = let none = told_refused _ f _ e in owed copy (refuses f) (rw none) (rw none)

    module _ (buf' copy' : List ℕ) (n m : ℕ) (e : gives (n, m) ≡ told (length (dirty_pages b memory)) (taken b memory (length buf))) (lies : buf' ≡ filled buf (taken b memory (length buf))) (after : copy' ≡ kept copy (applied copy (take (n - 0) buf'))) where
      parcel_given : Given (taken b memory (length buf)) (length (dirty_pages b memory)) n m (take (n - 0) buf')
      parcel_given = given _ n m _ buf buf' e lies

      pub unapplied_owed : (f : Fault) → refuses f ≡ accepted (applied copy (take (n - 0) buf')) → Owed copy' (refuses f)
      unapplied_owed f refused = let l = parcel_given in owed copy' (refuses f) (rw l.is after) (rw l.is (unapplied _ (load_ref k.size k.value v) copy _ f refused))

      pub loaded_owed : gives 0 ≡ accepted (applied copy (take (n - 0) buf')) → (a : Answer X) → a ≡ load_ref k.size k.value v copy' → Owed copy' (both (gives (n, m)) a)
      loaded_owed gave a is = let l = parcel_given in owed copy' _ (rw l.is after) (rw (is, after, l.is, l.long, l.many) (loaded _ (load_ref k.size k.value v) copy _ gave))
