-- A line's head and its twelve bytes: the bytes are those of its parts.
use Rattle.std.specs.Prelude.{◌≡◌, ℕ, ◌+◌, List, ◌++◌, length, take, drop}
use Rattle.std.proofs.Common.{arith, take-append-drop, length-drop}
use Rattle.std.proofs.lemmas.List.{drop-drop, take_all}

-- bytes from i on are z of them and those behind
pub next : (z i : ℕ) (bs : List ℕ) → take z (drop i bs) ++ drop (i + z) bs ≡ drop i bs
next z i bs = rw (← drop-drop z i bs) (take-append-drop z (drop i bs))

-- twelve bytes are their five parts
pub parts : (bs r f n l w : List ℕ) → length bs ≡ 12 → r ≡ take 4 (drop 0 bs) → f ≡ take 2 (drop 4 bs) → n ≡ take 2 (drop 6 bs) → l ≡ take 2 (drop 8 bs) → w ≡ take 2 (drop 10 bs) → r ++ (f ++ (n ++ (l ++ w))) ≡ bs
parts bs r f n l w is at_r at_f at_n at_l at_w =
    let last : take 2 (drop 10 bs) ≡ drop 10 bs = take_all 2 (drop 10 bs) (simp length-drop (omega arith)) in
    rw (at_r, at_f, at_n, at_l, at_w, last, next 2 8 bs, next 2 6 bs, next 2 4 bs, next 4 0 bs)
