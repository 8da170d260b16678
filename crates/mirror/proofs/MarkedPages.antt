-- A range marked in a bitmap that covers a memory makes dirty just the pages that its bytes lie on.
use Rattle.std.proofs.Common.{◌≡◌, ℕ, ◌+◌, ◌-◌, ◌*◌, ◌/◌, ◌^◌, ◌<◌, ◌≤◌, min, true, ◌||◌, ◌⊎◌, ◌↔◌, List, length, sym, ◌∙◌, inl, inr, le_antisymm, le-div_iff_mul-le, div-mul-le_self, mul-div_cancel, arith}
use Rattle.std.proofs.lemmas.Nat.{le-div}
use Rattle.std.proofs.lemmas.Bool.{cases_lt, or_cases, or_left, or_right}
use Rattle.std.proofs.lemmas.Bool.Decides.{nat_tests}
use Rattle.bitmap.specs.Pages.{Meaning, Paged, top, wrapped, dirty, spans, reaches, assigned, marked}
use Rattle.parcel.specs.Parcels.{pages, covered}
use Rattle.mirror.specs.Mirror.{On}

-- pages rise with the bytes on them
page_rises : (p x y : ℕ) → 0 < p → x ≤ y → x / p ≤ y / p
page_rises p x y pos le = le-div (x / p) y p pos (omega (arith, div-mul-le_self x p))

-- a page from that of the first byte to that of the last has a byte of the range
on_from_bounds : (p from len q : ℕ) → 0 < p → 0 < len → from / p ≤ q → q ≤ (from + len - 1) / p → On p from len q
on_from_bounds p from len q pos some low high =
    elim (cases_lt from (q * p)) [
      | inl below ↦ (q * p, (omega arith, omega (arith, (le-div_iff_mul-le pos).0 high)), mul-div_cancel q pos)
      | inr above ↦ (from, (omega arith, omega arith), le_antisymm low (le-div q from p pos above))
    ]

-- and only such pages have one
bounds_from_on : (p from len q : ℕ) → 0 < p → On p from len q → (0 < len) × (from / p ≤ q) × (q ≤ (from + len - 1) / p)
bounds_from_on p from len q pos (x, (low, high), is) = (omega arith, omega (arith, page_rises p from x pos low), omega (arith, page_rises p x (from + len - 1) pos (omega arith)))

-- a page is dirty that the range reaches, or that was dirty
dirty-marked : (b : Meaning) (from len q : ℕ) → dirty (marked b from len) q ≡ (reaches b from len q || dirty b q)
unfolding assigned spans
dirty-marked b from len q = grind (arith, nat_tests)

-- what was dirty stays so
pub marked_more : (b : Meaning) (from len q : ℕ) → dirty b q ≡ true → dirty (marked b from len) q ≡ true
marked_more b from len q is = dirty-marked b from len q ∙ or_right _ _ is

module _ (b : Meaning) (memory : List ℕ) (covers : covered b memory ≡ true) (paged : Paged b) (from len : ℕ) (ends : from + len < 2 ^ 64) (q : ℕ) where
  unshifted : b.base ≡ 0
  unshifted = grind (arith, nat_tests)

  enough : pages (length memory) b.page ≤ b.count
  enough = grind (arith, nat_tests)

  first_is : wrapped b.base from ≡ from
  first_is = omega (arith, unshifted)

  last_is : 0 < len → min (wrapped b.base from + len - 1) top ≡ from + len - 1
  last_is some = omega (arith, first_is)

  on_from_reaches : reaches b from len q ≡ true → On b.page from len q
  unfolding spans
  on_from_reaches is =
      let some : 0 < len = grind (arith, nat_tests) in
      let first = first_is in
      let last = last_is some in
      on_from_bounds b.page from len q paged some (grind (arith, nat_tests)) (grind (arith, nat_tests))

  reaches_from_on : q < b.count → On b.page from len q → reaches b from len q ≡ true
  unfolding spans
  reaches_from_on known on =
      let (some, low, high) = bounds_from_on b.page from len q paged on in
      let first = first_is in
      let last = last_is some in
      grind (arith, nat_tests)

  -- a page of the memory is dirty then that a byte of the range lies on, or that was dirty
  pub marked-dirty : q < pages (length memory) b.page → (dirty (marked b from len) q ≡ true) ↔ (On b.page from len q ⊎ (dirty b q ≡ true))
  marked-dirty below = (
    λ is. elim (or_cases (reaches b from len q) (dirty b q) (sym (dirty-marked b from len q) ∙ is)) [ inl reached ↦ inl (on_from_reaches reached) | inr was ↦ inr was ],
    λ how. elim how [ inl on ↦ dirty-marked b from len q ∙ or_left _ _ (reaches_from_on (omega (arith, enough)) on) | inr was ↦ marked_more b from len q was ],
  )
