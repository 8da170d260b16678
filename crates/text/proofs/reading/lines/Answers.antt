use Rattle.std.proofs.Common.{◌≡◌, ℕ, ◌+◌, List, [], ◌∷◌, not, map, refl, ap, ◌∙◌, rules}
use Rattle.std.specs.List.{filter, enumerate_from}
use Rattle.std.specs.Str.Lines.{lines}
use Rattle.std.proofs.lemmas.Iterator.{YieldsList-from_map_by}
use Rattle.std.proofs.lemmas.Iterator.Consumers.{YieldsList-from_filter, YieldsList-from_enumerate, YieldsList-at, map_from_collect}
use Rattle.std.proofs.lemmas.Iterator.Splits.{YieldsList-from_lines}
use Rattle.std.proofs.lemmas.Result.{IfOk-weaker}
use Rattle.text.specs.Said.{skips}
use Rattle.text.specs.declared.reading.Line.{Line}
use Rattle.text.proofs.reading.lines.Goals as goal

-- numbers from 1 on are numbers from 0 on, and one more
from_one : (n : ℕ) (ls : List (List ℕ)) → map (λ (p : ℕ × List ℕ). (p.0 + 1, p.1)) (enumerate_from n ls) ≡ enumerate_from (n + 1) ls
from_one n [] = refl
from_one n (l ∷ ls) = ap (λ (ks : List (ℕ × List ℕ)). (n + 1, l) ∷ ks) (from_one (n + 1) ls)

pub returns : goal.returns
returns c =
    let text = c.args.text.now in
    let test = λ (k : ℕ × List ℕ). not (skips k.1) in
    let numbers = YieldsList-from_enumerate (YieldsList-at c.enumerate.ensures.source (YieldsList-from_lines text c.lines.ensures.rest)) c.enumerate.ensures.count in
    let made = YieldsList-from_map_by _ (λ (l : Line). (l.number, l.text.now)) (λ (p : ℕ × List ℕ). (p.0 + 1, p.1)) (YieldsList-at c.map.ensures.source numbers) c.map.ensures.closure (λ x r q k. search rules) in
    let road = YieldsList-from_filter _ test (YieldsList-at c.filter.ensures.source made) c.filter.ensures.closure (λ x b q k. search rules) in
    IfOk-weaker c.collect.result _ _ (λ v e. e ∙ ap (filter test) (from_one 0 (lines text))) (map_from_collect c.collect.result c.collect.ensures.ran road)
