-- Every bitmap's pages have a byte, and the last starts within 64 bits. Assumes nothing.
use Rattle.std.specs.Prelude.{◌≡◌, ℕ, ◌+◌, ◌-◌, ◌*◌, ◌/◌, ◌<◌, ◌≤◌, min, max, length}
use Rattle.std.proofs.Common.{ap, ◌∙◌, div-mul-le_self, mul-le-mul_right, add-mul, arith}
use Rattle.bitmap.specs.Pages.{Paged, Bounded, top, ceiling, page_count}
use Rattle.bitmap.specs.Tracked.{tracked, logged}
use Rattle.bitmap.specs.declared.atomic_bitmap.AtomicBitmap.{AtomicBitmap}
use Rattle.bitmap.specs.declared.byte_log.ByteLog.{ByteLog}

-- the last of c pages starts below the last byte
starts_within : (n p c : ℕ) → 0 < p → 0 < c → c ≤ ceiling n p → (c - 1) * p ≤ n
starts_within n p c some has most =
    let all : (n + (p - 1)) / p * p ≤ n + (p - 1) = div-mul-le_self (n + (p - 1)) p in
    let these : c * p ≤ (n + (p - 1)) / p * p = mul-le-mul_right p most in
    let split : c ≡ c - 1 + 1 = omega arith in
    let last : c * p ≡ (c - 1) * p + 1 * p = ap (λ x. x * p) split ∙ add-mul (c - 1) 1 p in
    omega arith

pub over_bounded : (byte_size p bits : ℕ) → 0 < p → 0 < page_count byte_size p bits → (page_count byte_size p bits - 1) * p ≤ top
over_bounded byte_size p bits some has =
    let within = starts_within (min byte_size top) p (page_count byte_size p bits) some has (omega arith) in
    omega arith

pub tracked_paged : (b : AtomicBitmap) → Paged (tracked b)
tracked_paged b = omega arith

pub tracked_bounded : (b : AtomicBitmap) → Bounded (tracked b)
tracked_bounded b = over_bounded b.byte_size (max 1 b.page_size) (64 * length b.map.now) (omega arith)

pub logged_paged : (b : ByteLog) → Paged (logged b)
logged_paged b = omega arith

pub logged_bounded : (b : ByteLog) → Bounded (logged b)
logged_bounded b = over_bounded b.byte_size 4096 (8 * length b.log.now) (omega arith)
