-- Views by their numbers, and how they are cut. Assumes nothing.
use Rattle.std.specs.Prelude.{ℕ, ◌+◌, ◌-◌, ◌*◌, ◌/◌, ◌^◌, cond, nat_lt}
use Rattle.bitmap.specs.Pages.{top, wrapped}
use Rattle.volatile_memory.specs.Faults.{Answer, overflow, out_of_bounds, too_big, no_element}
use Rattle.volatile_memory.specs.Faults.Answer.{gives, refuses}
use Rattle.volatile_memory.specs.declared.volatile_slice.VolatileSlice.{VolatileSlice}

-- a view: the root's address, its start in the memory, its size, its mark base
pub record Span : Type 0 where
  pub addr : ℕ
  pub start : ℕ
  pub size : ℕ
  pub mark : ℕ

abbrev pub span : VolatileSlice → Span
span v = record { addr = v.addr; start = v.start; size = v.size; mark = v.mark }

-- the root of a memory of so many bytes at an address
abbrev pub root : ℕ → ℕ → Answer Span
root addr size = cond (nat_lt top (addr + size)) (refuses (overflow addr size)) (gives (record { addr = addr; start = 0; size = size; mark = 0 }))

-- the address of a view's first byte
abbrev pub address : Span → ℕ
address v = v.addr + v.start

-- k bytes from o on
abbrev pub sub : Span → ℕ → ℕ → Span
sub v o k = record { addr = v.addr; start = v.start + o; size = k; mark = wrapped v.mark o }

-- where o + k ends, if that is within the view
abbrev pub end_offset : Span → ℕ → ℕ → Answer ℕ
end_offset v o k = cond (nat_lt top (o + k)) (refuses (overflow o k)) (cond (nat_lt v.size (o + k)) (refuses (out_of_bounds (o + k))) (gives (o + k)))

abbrev pub cut : Span → ℕ → ℕ → Answer Span
cut v o k = cond (nat_lt top (o + k)) (refuses (overflow o k)) (cond (nat_lt v.size (o + k)) (refuses (out_of_bounds (o + k))) (gives (sub v o k)))

-- the rest from k on; the faults speak of addresses
abbrev pub rest : Span → ℕ → Answer Span
rest v k = cond (nat_lt top (address v + k)) (refuses (overflow (address v) k)) (cond (nat_lt v.size k) (refuses (out_of_bounds (address v + k))) (gives (sub v k (v.size - k))))

abbrev with_front : Span → Answer Span → Answer (Span × Span)
with_front u (gives w) = gives (u, w)
with_front u (refuses f) = refuses f

-- both halves, refused as the rest is
abbrev pub halves : Span → ℕ → Answer (Span × Span)
halves v mid = with_front (sub v 0 mid) (rest v mid)

-- n elements of size z from o on
abbrev pub cut_array : Span → ℕ → ℕ → ℕ → Answer Span
cut_array v z o n = cond (nat_lt (2 ^ 63 - 1) (n * z)) (refuses (too_big n z)) (cut v o (n * z))

-- how many elements of size z lie in a view
abbrev pub count : Span → ℕ → ℕ
count v z = v.size / z

-- element i
abbrev pub cut_element : Span → ℕ → ℕ → Answer Span
cut_element v z i = cond (nat_lt i (count v z)) (gives (sub v (i * z) z)) (refuses (no_element i (count v z)))
