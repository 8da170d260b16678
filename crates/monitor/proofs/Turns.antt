-- What one access more turns. Assumes nothing.
use Rattle.std.proofs.Common.{◌≡◌, ℕ, ◌+◌, ◌<◌, Bool, true, false, cond, not, ◌&&◌, ltb, List, [], ◌∷◌, ◌++◌, length, get_or, take, sym, refl, ap, ◌∙◌, arith}
use Rattle.std.proofs.lemmas.List.{take_more}
use Rattle.std.proofs.lemmas.Bool.Decides.{nat_tests}
use Rattle.bitmap.specs.Pages.{Meaning, dirty, reaches, assigned, marked}
use Rattle.monitor.specs.Marks.{those, turned, accessed, after, turns, told}
use Rattle.monitor.specs.declared.account.Entry.{Entry}
use Rattle.monitor.specs.declared.trace.Access.{Access}
use Rattle.monitor.proofs.Numbers.{those_same}

-- a page that a mark reaches is turned if it was clean
turns_page : (reached bit within : Bool) → within ≡ true → (reached && not (within && bit)) ≡ ((within && cond reached true bit) && not (within && bit))
turns_page true true true h = refl
turns_page true false true h = refl
turns_page false true true h = refl
turns_page false false true h = refl
turns_page reached bit false h = grind (arith, nat_tests)

pub turned-marked : (b : Meaning) (offset len : ℕ) → those (λ n. reaches b offset len n && not (dirty b n)) b.count ≡ turned b (marked b offset len)
unfolding assigned
turned-marked b offset len = those_same _ _ b.count (λ n h. turns_page (reaches b offset len n) (b.bit n) (ltb n b.count) (grind (arith, nat_tests)))

after_push : (b : Meaning) (xs : List Access) (a : Access) → after b (xs ++ (a ∷ [])) ≡ accessed (after b xs) a
after_push b [] a = refl
after_push b (x ∷ xs) a = after_push (accessed b x) xs a

turns_push : (b : Meaning) (xs : List Access) (a : Access) → turns b (xs ++ (a ∷ [])) ≡ turns b xs ++ ((a, turned (after b xs) (accessed (after b xs) a)) ∷ [])
turns_push b [] a = refl
turns_push b (x ∷ xs) a = ap (λ l. (x, turned b (accessed b x)) ∷ l) (turns_push (accessed b x) xs a)

told_push : (es : List Entry) (e : Entry) → told (es ++ (e ∷ [])) ≡ told es ++ ((e.access, e.turned) ∷ [])
told_push [] e = refl
told_push (x ∷ es) e = ap (λ l. (x.access, x.turned) ∷ l) (told_push es e)

-- a is the next access, from b₁ to b₂
module _ (b b₁ b₂ : Meaning) (xs : List Access) (i : ℕ) (d : Access) (less : i < length xs) (at : b₁ ≡ after b (take i xs)) (step : b₂ ≡ accessed b₁ (get_or xs i d)) where
  pub after_more : b₂ ≡ after b (take (i + 1) xs)
  after_more = step ∙ ap (λ m. accessed m (get_or xs i d)) at ∙ sym (after_push b (take i xs) (get_or xs i d)) ∙ ap (after b) (sym (take_more xs i d less))

  pub turns_more : (es : List Entry) (e : Entry) → told es ≡ turns b (take i xs) → e.access ≡ get_or xs i d → e.turned ≡ turned b₁ b₂ → told (es ++ (e ∷ [])) ≡ turns b (take (i + 1) xs)
  turns_more es e before is pages =
      let a = get_or xs i d in
      let entry : Access × List ℕ = (e.access, e.turned) in
      let now : turned b₁ b₂ ≡ turned (after b (take i xs)) (accessed (after b (take i xs)) a) = ap (turned b₁) step ∙ ap (λ m. turned m (accessed m a)) at in
      let same : entry ≡ (a, turned (after b (take i xs)) (accessed (after b (take i xs)) a)) = λ j. (is j, (pages ∙ now) j) in
      told_push es e ∙ ap (λ l. l ++ (entry ∷ [])) before ∙ ap (λ p. turns b (take i xs) ++ (p ∷ [])) same ∙ sym (turns_push b (take i xs) a) ∙ ap (turns b) (sym (take_more xs i d less))

-- accesses leave the page count
pub after-count : (b : Meaning) (xs : List Access) → (after b xs).count ≡ b.count
unfolding assigned
after-count b [] = refl
after-count b (x ∷ xs) = after-count (accessed b x) xs
