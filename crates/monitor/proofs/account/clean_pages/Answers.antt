use Rattle.std.proofs.Common.{ℕ, List, ◌≡◌, not, ◌&&◌, rules, sym, refl, ap, ◌∙◌}
use Rattle.std.proofs.lemmas.Iterator.{YieldsList-from_range}
use Rattle.std.proofs.lemmas.Iterator.Adapters.{fact_from_collect}
use Rattle.std.proofs.lemmas.Iterator.Consumers.{YieldsList-from_filter, YieldsList-at}
use Rattle.std.proofs.lemmas.Result.{IfOk-weaker}
use Rattle.std.proofs.lemmas.Bool.{lt-ltb}
use Rattle.bitmap.specs.Pages.{reaches as reaches_page}
use Rattle.bitmap.specs.Tracked.{tracked}
use Rattle.monitor.proofs.Numbers.{those_between, those_same}
use Rattle.monitor.proofs.account.clean_pages.Goals as goal

pub returns : goal.returns
returns c =
    let b = tracked c.args.map.now in
    let range = c.page_range.result in
    let reaches = c.page_range.ensures.pages in
    let same = sym (those_between range.start range.end b.bit b.count c.page_range.ensures.within) ∙ those_same _ _ b.count (λ k l. ap (λ t. t && not (b.bit k)) (sym (reaches k)) ∙ ap (λ t. reaches_page b c.args.access.offset c.args.access.len k && not (t && b.bit k)) (sym (lt-ltb k b.count l))) in
    IfOk-weaker c.collect.result _ _ (λ pages e. e ∙ same) (fact_from_collect (λ (xs : List ℕ) (pages : List ℕ). pages ≡ xs) c.collect.result c.collect.ensures.ran (YieldsList-from_filter _ (λ (n : ℕ). not (b.bit n)) (YieldsList-at c.filter.ensures.source (YieldsList-from_range range.start range.end _ refl refl)) c.filter.ensures.closure (λ x r q k. search rules)))
