use Rattle.std.proofs.Common.{◌≡◌, ℕ, List, Some, Result, Ok, Err, IfOk, sym, ap, ◌∙◌, subst, arith, rules}
use Rattle.std.specs.Result.{MatchResult, IsErrAnd}
use Rattle.std.proofs.lemmas.Bool.Decides.{nat_tests}
use Rattle.std.proofs.lemmas.Result.{IfOk-weaker}
use Rattle.bitmap.specs.Pages.{page_size}
use Rattle.monitor.specs.Fields.{TwoNumbers}
use Rattle.monitor.specs.declared.memory.Memory.{Memory}
use Rattle.monitor.proofs.trace.memory_of.Goals as goal

-- a page size is the number that it was made of
same_size : (n p : ℕ) → Some p ≡ page_size n → p ≡ n
same_size n p e = grind (arith, nat_tests)

numbers_are : (line : List ℕ) (a b c d : ℕ) → c ≡ a → d ≡ b → TwoNumbers line a b → TwoNumbers line c d
numbers_are line a b c d p q h =
    let P : ℕ → Type 0 = λ n. TwoNumbers line n b in
    let Q : ℕ → Type 0 = λ n. TwoNumbers line c n in
    subst Q (sym q) (subst P (sym p) h)

-- another error leaves what holds of the value
kept : {T E F : Type 0} (Q : E → F → Type 0) (r : Result T E) (s : Result T F) (P : T → Type 0) → MatchResult r (λ x. s ≡ Ok x) (λ e. IsErrAnd s (Q e)) → IfOk r P → IfOk s P
kept Q (Ok x) s P h p = rw h p
kept Q (Err e) (Ok x) P h p = absurd h
kept Q (Err e) (Err f) P h p = tt

pub returns : goal.returns
returns c =
    let read = c.in_ok-byte_size in
    let line = c.args.line.now.text.now in
    let size = same_size read.page_size c.in_ok-page_size.page_size.value (search (rules, c.new.ensures)) in
    kept _ c.new-2.result c.map_err.result (λ (m : Memory). TwoNumbers line m.byte_size m.page_size.value) c.map_err.ensures.cases (IfOk-weaker c.new-2.result _ _ (λ m made. numbers_are line read.byte_size read.page_size m.byte_size m.page_size.value made.0 (ap (λ s. s.value) made.1 ∙ size) read.ensures) c.new-2.ensures.made)
