use Rattle.std.proofs.Common.{sym, ◌∙◌, arith}
use Rattle.std.proofs.lemmas.Result.{err_from_is_err_and}
use Rattle.parcel.proofs.AppliedSteps.{rules-head, rules-numbers, rules-length, kept_parts}
use Rattle.parcel.proofs.carried.Carried.check.Goals as goal

pub returns-in_err-pages : goal.returns-in_err-pages
returns-in_err-pages c =
    let p = err_from_is_err_and c.from_residual.result c.from_residual.ensures.1 in
    rw (p.1, p.2) (record { answer = sym (rules-head c.args.total c.args.parcel.now _ c.in_err-pages.ensures.answer); carried = tt })

pub returns-in_err-owed : goal.returns-in_err-owed
returns-in_err-owed c =
    let p = err_from_is_err_and c.from_residual-in_err-owed.result c.from_residual-in_err-owed.ensures.1 in
    rw (p.1, p.2) (record { answer = sym (rules-numbers c.args.total c.args.parcel.now _ _ _ _ c.in_ok-pages.ensures.carried c.in_ok-pages.ensures.answer _ c.in_err-owed.ensures); carried = tt })

pub check_length-requires : goal.check_length-requires
check_length-requires c = omega (arith, c.in_ok-pages.ensures.carried.whole)

pub returns-in_err-check_length : goal.returns-in_err-check_length
returns-in_err-check_length c =
    let p = err_from_is_err_and c.from_residual-in_err-check_length.result c.from_residual-in_err-check_length.ensures.1 in
    rw (p.1, p.2) (record { answer = c.in_err-check_length.ensures ∙ sym (rules-length c.args.total c.args.parcel.now _ _ _ _ c.in_ok-pages.ensures.carried c.in_ok-pages.ensures.answer c.in_ok-owed.owed c.in_ok-owed.ensures); carried = tt })

pub invariant_of-result : goal.invariant_of-result
invariant_of-result c =
    let carried = c.in_ok-pages.ensures.carried in
    let kept = c.in_ok-check_length.ensures ∙ sym (rules-length c.args.total c.args.parcel.now _ _ _ _ carried c.in_ok-pages.ensures.answer c.in_ok-owed.owed c.in_ok-owed.ensures) in
    let k = kept_parts c.args.total c.args.parcel.now _ _ _ _ carried kept in
    record { below = k.0; whole = k.1 }

pub returns : goal.returns
returns c = record {
  answer = c.in_ok-check_length.ensures ∙ sym (rules-length c.args.total c.args.parcel.now _ _ _ _ c.in_ok-pages.ensures.carried c.in_ok-pages.ensures.answer c.in_ok-owed.owed c.in_ok-owed.ensures);
  carried = c.in_ok-pages.ensures.carried;
}
