-- The bits of the pages that a bitmap has are what says which of them are dirty. Assumes nothing.
use Rattle.std.proofs.Common.{◌≡◌, ℕ, zero, suc, ◌+◌, ◌≤◌, true, ltb, map, refl, arith}
use Rattle.std.specs.List.{range_with_len}
use Rattle.std.proofs.lemmas.Bool.{lt-ltb}
use Rattle.bitmap.specs.Pages.{Meaning, dirty}

shown_from : (b : Meaning) (m k : ℕ) → m + k ≤ b.count → map b.bit (range_with_len m k) ≡ map (dirty b) (range_with_len m k)
shown_from b m zero within = refl
shown_from b m (suc k) within =
    let here : ltb m b.count ≡ true = lt-ltb m b.count (omega arith) in
    rw (here, shown_from b (m + 1) k (omega arith)) refl

pub shown : (b : Meaning) → map b.bit (range_with_len 0 b.count) ≡ map (dirty b) (range_with_len 0 b.count)
shown b = shown_from b 0 b.count (omega arith)
