use Rattle.std.proofs.Common.{◌≡◌, ℕ, ◌+◌, ◌-◌, List, [], ◌∷◌, ◌++◌, length, get_or, set, vec_items, vec_len, refl, ap, ◌∙◌, arith}
use lib.Seq.{set-get_or}
use Rattle.text.specs.PageRanges.{spread}
use Rattle.text.proofs.Spreads.{spread_longer, spread_push}
use Rattle.text.proofs.page_ranges.add_page.Goals as goal
use Rattle.text.proofs.page_ranges.add_page.Goals.{in-Some+else-range-page, else-range-page-via-then-range-page+else-page-range-eq1, else-range-page-via-else-range-page, in_default}

-- an element put back is no change
put_back : {X : Type 0} (xs : List X) (i : ℕ) (x : X) → x ≡ get_or xs i x → set xs i x ≡ xs
put_back xs i x is = ap (set xs i) is ∙ set-get_or xs i x

pub returns-then-page-range-eq1 : goal.returns-then-page-range-eq1
returns-then-page-range-eq1 c =
    let found = c.in-Some.ensures.item in
    let old = c.args.ranges.now in
    let last : vec_len old - 1 + 1 ≡ length (vec_items old) = omega (arith, found.3.0, old.ok.0) in
    spread_longer (vec_items old) _ c.args.page c.in-Some.range.now _ last found.1 (omega arith) refl refl

pub returns : goal.returns
returns c =
    let old = c.args.ranges.now in
    let same : vec_items c.match-last_mut.ranges ≡ vec_items old =
    elim c.match-last_mut.branch [
      | in-Some+else-range-page w ↦
          let back = put_back (vec_items old) (vec_len old - 1) w.in-Some.range.now w.in-Some.ensures.item.1 in
          elim w.else-range-page.branch [
            | else-range-page-via-then-range-page+else-page-range-eq1 v ↦ ap vec_items (w.ranges-is ∙ v.ranges-is) ∙ back
            | else-range-page-via-else-range-page v ↦ ap vec_items (w.ranges-is ∙ v.ranges-is) ∙ back
          ]
      | in_default w ↦ ap vec_items w.ranges-is
    ] in
    ap spread c.in_ok-push.ensures.items ∙ spread_push (vec_items c.match-last_mut.ranges) c.args.page _ refl refl ∙ ap (λ l. spread l ++ (c.args.page ∷ [])) same
