use Rattle.std.proofs.Common.{◌≡◌, ℕ, ◌+◌, ◌≤◌, max, Bool, cond, ◌&&◌, eqb, ltb, leb, ◌∙◌, arith}
use Rattle.std.proofs.lemmas.Bool.Decides.{nat_tests}
use Rattle.bitmap.proofs.word.assign.Goals as goal

-- one bit more
next : (first n m : ℕ) (on before : Bool) → first ≤ n → cond (eqb m n) on (cond (leb first m && ltb m n) on before) ≡ cond (leb first m && ltb m (n + 1)) on before
next first n m on before h = grind (arith, nat_tests)

-- all of them
last : (first end n m : ℕ) (on before : Bool) → first ≤ n → end ≤ n → n ≤ max first end → cond (leb first m && ltb m n) on before ≡ cond (leb first m && ltb m end) on before
last first end n m on before h k l = grind (arith, nat_tests)

pub loop-n-preserved : goal.loop-n-preserved
loop-n-preserved g c =
    let (ends, (some, is, moved)) = c.in-Some.ensures.steps in
    let (end, low, high, bits) = c.loop-n.invariant in
    (ends ∙ end, omega arith, omega arith, λ m. rw (c.put.ensures m, is, bits m, moved) (next _ _ m _ _ low))

pub returns : goal.returns
returns g c m =
    let (ends, (none, moved)) = c.in-None.ensures.steps in
    let (end, low, high, bits) = c.loop-n.invariant in
    bits m ∙ last _ _ _ m _ _ low (omega arith) high
