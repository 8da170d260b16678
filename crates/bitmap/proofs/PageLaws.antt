-- Page counts, page ranges, and bitmaps that differ in some bits.
use Rattle.std.proofs.Common.{◌≡◌, ℕ, ◌+◌, ◌-◌, ◌*◌, ◌/◌, ◌%◌, ◌^◌, ◌<◌, ◌≤◌, min, Bool, false, cond, ◌&&◌, eqb, ltb, leb, ap, inl, inr, add-mul, mul-le-mul_left, div-add-mod', arith}
use Rattle.std.proofs.lemmas.Nat.{div-mul-add, mod_below}
use Rattle.std.proofs.lemmas.Bool.{cases_eq}
use Rattle.std.proofs.lemmas.Bool.Decides.{nat_tests}
use Rattle.bitmap.specs.Pages.{Meaning, top, wrapped, ceiling, spans, reaches, with_bits, assigned, assigned_page, sliced, clean}

-- a quotient rounded up, as `div_ceil` has it
pub ceiling_is : (n p : ℕ) → 0 < p → n / p + min 1 (n % p) ≡ ceiling n p
ceiling_is n p some =
    let split = div-add-mod' n p in
    let rest = mod_below n p some in
    elim (cases_eq (n % p) 0) [
      | inl whole ↦
          let e : n + (p - 1) ≡ n / p * p + (p - 1) = omega arith in
          rw (e, div-mul-add (n / p) p (p - 1) (omega arith)) (omega arith)
      | inr more ↦
          let next : (n / p + 1) * p ≡ n / p * p + 1 * p = add-mul (n / p) 1 p in
          let e : n + (p - 1) ≡ (n / p + 1) * p + (n % p - 1) = omega arith in
          rw (e, div-mul-add (n / p + 1) p (n % p - 1) (omega arith)) (omega arith)
    ]

-- no more pages than bytes
pub ceiling_le : (n p : ℕ) → 0 < p → ceiling n p ≤ n
ceiling_le n p some =
    let split = div-add-mod' n p in
    let fewer : n / p * 1 ≤ n / p * p = mul-le-mul_left (n / p) some in
    omega (arith, ceiling_is n p some)

-- nothing lies on no page
pub spans_nothing : (page count start n : ℕ) → spans page count start 0 n ≡ (leb 0 n && ltb n 0)
unfolding spans
spans_nothing page count start n = grind (arith, nat_tests)

-- the pages of a range, by the first and the one past the last
pub spans_range : (page count start len n first last end : ℕ) → 0 < len → count < 2 ^ 64 → first ≡ start / page → last ≡ min (start + (len - 1)) top / page → end ≡ min (min (last + 1) top) count → spans page count start len n ≡ (leb first n && ltb n end)
unfolding spans
spans_range page count start len n first last end some fits is_first is_last is_end =
    let e : start + len - 1 ≡ start + (len - 1) = omega arith in
    rw (e, ← is_first, ← is_last) (grind (arith, nat_tests))

-- bits assigned page by page
pub assigned_by : (b : Meaning) (on : Bool) (offset len : ℕ) (f : ℕ → Bool) → ((n : ℕ) → f n ≡ cond (reaches b offset len n) on (b.bit n)) → with_bits b f ≡ assigned on b offset len
unfolding assigned
assigned_by b on offset len f each i = with_bits b (λ n. each n i)

pub assigned_page_by : (b : Meaning) (on : Bool) (page : ℕ) (f : ℕ → Bool) → ((n : ℕ) → f n ≡ cond (eqb n page && ltb n b.count) on (b.bit n)) → with_bits b f ≡ assigned_page on b page
unfolding assigned_page
assigned_page_by b on page f each i = with_bits b (λ n. each n i)

pub same_bits : (b : Meaning) (f : ℕ → Bool) → ((n : ℕ) → b.bit n ≡ f n) → b ≡ with_bits b f
same_bits b f each i = with_bits b (λ n. each n i)

-- offsets add up, modulo 2 ^ 64
pub assigned-sliced : (on : Bool) (b : Meaning) (k offset len : ℕ) → sliced (assigned on b (wrapped k offset) len) k ≡ assigned on (sliced b k) offset len
unfolding assigned
assigned-sliced on b k offset len =
    let e : wrapped b.base (wrapped k offset) ≡ wrapped (wrapped b.base k) offset = omega arith in
    ap (λ x. with_bits (sliced b k) (λ n. cond (spans b.page b.count x len n) on (b.bit n))) e

-- a bitmap of no pages stays clean
pub assigned_none : (on : Bool) (page offset len : ℕ) → clean page 0 ≡ assigned on (clean page 0) offset len
unfolding assigned spans
assigned_none on page offset len = assigned_by (clean page 0) on offset len (λ n. false) λ n. grind (arith, nat_tests)
