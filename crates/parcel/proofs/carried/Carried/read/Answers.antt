use Rattle.std.proofs.Common.{◌*◌, take, drop, sym, ap, ◌∙◌, arith}
use Rattle.std.specs.Option.{option_map}
use Rattle.parcel.proofs.PageNumbers.{head_told}
use Rattle.parcel.proofs.AppliedSteps.{size_made, cut_behind}
use Rattle.parcel.proofs.carried.Carried.read.Goals as goal

pub returns-clause-carried : goal.returns-clause-carried
returns-clause-carried c =
    let bs = c.args.parcel.now in
    let head = c.in_ok-contents.contents in
    let told = head_told bs head.page_size head.pages head.total c.in_ok-contents.ensures in
    let made = size_made head.page_size c.in_ok-page_size.page_size.value (sym (ap (option_map (λ p. p.value)) c.in_ok-page_size.ensures.ok_part) ∙ c.new.ensures) in
    let behind = c.split_at.ensures.back in
    cut_behind c.args.total bs c.split_at-2.result.0.now c.split_at-2.result.1.now c.in_ok-page_size.page_size.value head.pages (made ∙ told.1) told.2 (omega (arith, told.0)) (c.split_at-2.ensures.front ∙ ap (take (8 * head.pages)) behind) (c.split_at-2.ensures.back ∙ ap (drop (8 * head.pages)) behind)
