use Rattle.std.proofs.Common.{refl}
use Rattle.std.proofs.lemmas.Result.{err_from_is_err_and}
use Rattle.parcel.proofs.AppliedSteps.{rules-applied}
use Rattle.parcel.proofs.applying.apply.Goals as goal

pub returns-in_err-pages : goal.returns-in_err-pages
returns-in_err-pages c =
    let p = err_from_is_err_and c.from_residual.result c.from_residual.ensures.1 in
    let e = rules-applied c.args.copy.now c.args.parcel.now in
    rw (p.1, p.2, e, ← c.in_err-pages.ensures.answer) (record { answer = refl; after = refl })

pub lay-requires : goal.lay-requires
lay-requires c = c.in_ok-pages.ensures.carried.total_is

pub returns : goal.returns
returns c =
    let e = rules-applied c.args.copy.now c.args.parcel.now in
    let is = c.in_ok-pages.ensures.carried in
    rw (e, ← c.in_ok-pages.ensures.answer, ← is.page_is, ← is.numbers_are, ← is.bodies_are) (record { answer = refl; after = c.lay.ensures })
