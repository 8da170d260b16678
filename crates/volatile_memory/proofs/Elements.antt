-- Elements in a row: where each lies. Assumes nothing.
use Rattle.std.proofs.Common.{◌≡◌, ℕ, ◌+◌, ◌*◌, ◌/◌, ◌<◌, ◌≤◌, min, mul-le-mul_right, add-mul, div-mul-le_self, arith}

-- element i of n ends within all of them
pub next_element : (i n z : ℕ) → i < n → i * z + z ≤ n * z
next_element i n z h =
    let all : (i + 1) * z ≤ n * z = mul-le-mul_right z (omega arith) in
    omega (arith, add-mul i 1 z)

-- as many elements as lie in s bytes, and no more than n, end within them
pub counted_within : (s z k n : ℕ) → k ≡ min n (s / z) → k * z ≤ s
counted_within s z k n most =
    let all : k * z ≤ s / z * z = mul-le-mul_right z (omega arith) in
    omega (arith, div-mul-le_self s z)
