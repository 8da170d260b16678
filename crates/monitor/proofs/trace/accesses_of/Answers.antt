use Rattle.std.proofs.Common.{◌≡◌, ℕ, ◌+◌, ◌<◌, List, [], ◌∷◌, ◌++◌, length, get_or, take, vec_items, sym, ap, ◌∙◌, subst}
use Rattle.std.proofs.lemmas.List.{take_more}
use Rattle.monitor.specs.Fields.{TwoNumbers}
use Rattle.text.specs.Said.{numbered}
use Rattle.monitor.specs.Texts.{AccessLines}
use Rattle.monitor.specs.declared.trace.Access.{Access}
use Rattle.text.specs.declared.reading.Line.{Line}
use Rattle.std.proofs.lemmas.List.{map-append}
use Rattle.monitor.proofs.trace.accesses_of.Goals as goal

accesses_push : (ks : List (ℕ × List ℕ)) (xs : List Access) (k : ℕ × List ℕ) (a : Access) → AccessLines ks xs → TwoNumbers k.1 a.offset a.len → AccessLines (ks ++ (k ∷ [])) (xs ++ (a ∷ []))
accesses_push [] [] k a h here = (here, tt)
accesses_push [] (x ∷ xs) k a h here = absurd h
accesses_push (y ∷ ks) [] k a h here = absurd h
accesses_push (y ∷ ks) (x ∷ xs) k a h here = (h.0, accesses_push ks xs k a h.1 here)

accesses_more : (ls : List Line) (i : ℕ) (d : Line) (xs ys : List Access) (a : Access) → i < length ls → AccessLines (numbered (take i ls)) xs → ys ≡ xs ++ (a ∷ []) → TwoNumbers (get_or ls i d).text.now a.offset a.len → AccessLines (numbered (take (i + 1) ls)) ys
accesses_more ls i d xs ys a less h put here =
    let l = get_or ls i d in
    let next = ap numbered (take_more ls i d less) ∙ map-append (λ (x : Line). (x.number, x.text.now)) (take i ls) (l ∷ []) in
    let P : List (ℕ × List ℕ) → Type 0 = λ ks. AccessLines ks ys in
    let Q : List Access → Type 0 = AccessLines (numbered (take i ls) ++ ((l.number, l.text.now) ∷ [])) in
    subst P (sym next) (subst Q (sym put) (accesses_push (numbered (take i ls)) xs (l.number, l.text.now) a h here))

pub loop-line-preserved : goal.loop-line-preserved
loop-line-preserved c = accesses_more c.args.lines.now c.loop-line.line-index _ (vec_items c.loop-line.accesses) _ c.in_ok-access_of.field-0 c.loop-line-test.true c.loop-line.invariant c.in_ok-push.ensures.items c.in_ok-access_of.ensures
