use Rattle.std.proofs.Common.{ap, ◌∙◌}
use Rattle.std.proofs.lemmas.Result.{err_from_is_err_and}
use Rattle.parcel.specs.Parcels.{number_at}
use Rattle.parcel.specs.Rules.{rules}
use Rattle.parcel.proofs.PageNumbers.{head_told}
use Rattle.parcel.proofs.AppliedSteps.{rules-head, head_refused}
use Rattle.parcel.proofs.contents.inspect.Goals as goal

pub returns-in_err-contents : goal.returns-in_err-contents
returns-in_err-contents c =
    let bs = c.args.parcel.now in
    let p = err_from_is_err_and c.from_residual.result c.from_residual.ensures.1 in
    rw (p.1, p.2, rules-head (number_at bs 2) bs _ (head_refused (number_at bs 2) bs _ c.in_err-contents.ensures))

pub returns-in_err-check : goal.returns-in_err-check
returns-in_err-check c =
    let bs = c.args.parcel.now in
    let head = c.in_ok-contents.contents in
    let told = head_told bs head.page_size head.pages head.total c.in_ok-contents.ensures in
    let p = err_from_is_err_and c.from_residual-in_err-check.result c.from_residual-in_err-check.ensures.1 in
    let e = c.in_err-check.ensures.answer ∙ ap (λ n. rules n bs) told.3 in
    rw (p.1, p.2, ← e)

pub returns : goal.returns
returns c =
    let bs = c.args.parcel.now in
    let head = c.in_ok-contents.contents in
    let told = head_told bs head.page_size head.pages head.total c.in_ok-contents.ensures in
    let e = c.in_ok-check.ensures.answer ∙ ap (λ n. rules n bs) told.3 in
    rw (← e, told.1, told.2, told.3)
