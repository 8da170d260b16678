use Rattle.std.proofs.Common.{◌*◌, take, ap, ◌∙◌, arith, length, length-drop}
use Rattle.parcel.specs.Parcels.{numbers_of}
use Rattle.parcel.proofs.PageNumbers.{first_told, pages_listed}
use Rattle.parcel.proofs.contents.page_numbers.Goals as goal

pub returns : goal.returns
returns c =
    let bs = c.args.parcel.now in
    let head = c.in-Some.contents in
    let told = first_told bs head.page_size head.pages head.total c.in-Some.ensures in
    let rest = c.split_at.ensures.back in
    let k = c.min-count.result in
    ap numbers_of (c.new-2.ensures ∙ c.split_at-2.ensures.front ∙ ap (take (8 * k)) rest) ∙ pages_listed bs k told.0 (omega (arith, told.2, ap length rest, length-drop 24 bs))
