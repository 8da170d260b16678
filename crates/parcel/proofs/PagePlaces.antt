-- Where pages lie in a memory. Assumes nothing.
use Rattle.std.proofs.Common.{◌≡◌, ℕ, ◌+◌, ◌-◌, ◌*◌, ◌%◌, ◌^◌, ◌<◌, ◌≤◌, ap, mul-le-mul_right, div-mul-le_self, arith}
use Rattle.std.proofs.lemmas.Nat.{div-mul-add}
use Rattle.bitmap.specs.Pages.{Meaning, top, ceiling, place, dirty, dirty_at}

-- a page of n bytes begins before their end
pub page_begins : (n p q : ℕ) → 0 < p → q < ceiling n p → q * p < n
page_begins n p q some below = omega (arith, div-mul-le_self (n + (p - 1)) p, mul-le-mul_right p below)

-- a page of a bitmap starts within 64 bits
pub page_within : (count p q : ℕ) → (count - 1) * p ≤ top → q < count → q * p ≤ top
page_within count p q last below =
    let e : q ≤ count - 1 = omega arith in
    omega (arith, mul-le-mul_right p e)

-- the start of page q, with the mark base taken from it, stands for page q
pub dirty_at_page : (b : Meaning) (q p base : ℕ) → 0 < b.page → p ≡ b.page → base ≡ b.base → base < 2 ^ 64 → q * p ≤ top → dirty_at b ((q * p + (2 ^ 64 - base)) % 2 ^ 64) ≡ dirty b q
dirty_at_page b q p base some page_is base_is fits within =
    let here : place b ((q * p + (2 ^ 64 - base)) % 2 ^ 64) ≡ q * p + 0 = omega arith in
    ap (dirty b) (rw (here, page_is) (div-mul-add q b.page 0 some))
