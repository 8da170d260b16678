-- A memory's bitmaps before any access. Assumes nothing.
use Rattle.std.proofs.Common.{◌≡◌, ℕ, ◌*◌, ◌^◌, ◌<◌, ◌≤◌, min, List, ◌++◌, length, take, replicate, ap, ◌∙◌, arith}
use lib.Seq.{take-append-le}
use Rattle.std.proofs.lemmas.List.{take_all}
use Rattle.bitmap.specs.Pages.{clean, ceiling, page_count, top}
use Rattle.bitmap.proofs.LentStorage.{over_cleared}
use Rattle.monitor.specs.Marks.{clean_map, clean_log, log_of}
use Rattle.monitor.specs.declared.memory.Memory.{Memory}

-- enough bits for every page
page_count_all : (size page bits : ℕ) → size < 2 ^ 64 → ceiling size page ≤ bits → page_count size page bits ≡ ceiling size page
page_count_all size page bits fits room =
    let whole : min size top ≡ size = omega arith in
    let same : ceiling (min size top) page ≡ ceiling size page = ap (λ n. ceiling n page) whole in
    omega arith

module _ (m : Memory) (fits : m.byte_size < 2 ^ 64) where
  pub map_start : (bits : ℕ) → ceiling m.byte_size m.page_size.value ≤ bits → clean m.page_size.value (page_count m.byte_size m.page_size.value bits) ≡ clean_map m
  map_start bits room = ap (clean m.page_size.value) (page_count_all m.byte_size m.page_size.value bits fits room)

  pub log_start : (l : ℕ) → ceiling m.byte_size 4096 ≤ 8 * l → log_of m (replicate l 0) ≡ clean_log m
  log_start l room = over_cleared m.byte_size 4096 8 l ∙ ap (clean 4096) (page_count_all m.byte_size 4096 (8 * l) fits room)

pub take_front : {X : Type 0} (n : ℕ) (xs ys : List X) → length xs ≡ n → take n (xs ++ ys) ≡ xs
take_front n xs ys long =
    let le : n ≤ length xs = omega arith in
    take-append-le n xs ys le ∙ take_all n xs (omega arith)
