use Rattle.std.proofs.Common.{◌≡◌, ℕ, ◌*◌, ◌≤◌, max, cond, ◌&&◌, ltb, leb}
use Rattle.bitmap.specs.Storage.{bit, stored}
use Rattle.bitmap.proofs.word.assign.Given as goal

abbrev pub invariant-loop-n : goal.invariant-loop-n
invariant-loop-n g l =
    let bits = stored (bit g.W.Integer.bits_of) (8 * g.W.Integer.WIDTH) in
    let start = l.fn.bits.start in
    let end = l.fn.bits.end in
    let n = l.n-iterator.start in
    (l.n-iterator.end ≡ end) × (start ≤ n) × (n ≤ max start end) × ((m : ℕ) → bits l.words m ≡ cond (leb start m && ltb m n) l.on (bits l.initial.words m))
