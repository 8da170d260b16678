-- A part of bytes, and bytes laid over bytes: their lengths, and what stands at each place.
use Rattle.std.proofs.Common.{◌≡◌, ℕ, ◌+◌, ◌-◌, ◌<◌, ◌≤◌, min, cond, ◌&&◌, ltb, leb, List, length, get_or, arith, length-append, length-drop, length-take}
use Rattle.std.proofs.lemmas.List.{places, ext_get_or, get_or-take, get_or-drop}
use Rattle.std.proofs.lemmas.Bool.Decides.{nat_tests}
use Rattle.volatile_memory.specs.Memory.{part, overlaid}
use Rattle.parcel.proofs.WrittenPages.{length-part}
use Rattle.mirror.specs.Mirror.{Inside}

pub get_or_part : (xs : List ℕ) (o k j : ℕ) → j < k → get_or (part xs o k) j 0 ≡ get_or xs (o + j) 0
unfolding part
get_or_part xs o k j h = rw (get_or-take, get_or-drop)

module _ (xs ys : List ℕ) (place : ℕ) (fits : place + length ys ≤ length xs) where
  pub length-overlaid : length (overlaid xs place ys) ≡ length xs
  unfolding overlaid
  length-overlaid = simp (length-append, length-take, length-drop) (omega arith)

  pub get_or_overlaid : (x : ℕ) → get_or (overlaid xs place ys) x 0 ≡ cond (leb place x && ltb x (place + length ys)) (get_or ys (x - place) 0) (get_or xs x 0)
  unfolding overlaid
  get_or_overlaid x = grind (arith, nat_tests, places)

-- two parts are equal where their lengths and their bytes are
parts_equal : (xs ys : List ℕ) (o i k : ℕ) → min k (length xs - o) ≡ min k (length ys - i) → ((j : ℕ) → j < k → get_or xs (o + j) 0 ≡ get_or ys (i + j) 0) → part xs o k ≡ part ys i k
parts_equal xs ys o i k long each =
    ext_get_or 0 _ _ (simp length-part long) λ j h.
    let below : j < k = omega (arith, length-part xs o k) in
    rw (get_or_part xs o k j below, get_or_part ys i k j below) (each j below)

module _ (xs ys : List ℕ) (place : ℕ) (fits : place + length ys ≤ length xs) (o k : ℕ) where
  -- a part of what was laid
  pub part_inside : place ≤ o → o + k ≤ place + length ys → part (overlaid xs place ys) o k ≡ part ys (o - place) k
  part_inside low high =
      parts_equal _ _ o (o - place) k (omega (arith, length-overlaid xs ys place fits)) λ j h.
      let at = get_or_overlaid xs ys place fits (o + j) in
      let e : o + j - place ≡ o - place + j = omega arith in
      grind (arith, nat_tests)

  -- a part that nothing was laid on
  pub part_outside : ((x : ℕ) → Inside place (length ys) x → Inside o k x → ⊥) → part (overlaid xs place ys) o k ≡ part xs o k
  part_outside apart =
      parts_equal _ _ o o k (rw (length-overlaid xs ys place fits)) λ j h.
      let at = get_or_overlaid xs ys place fits (o + j) in
      let beside = apart (o + j) in
      grind (arith, nat_tests)
