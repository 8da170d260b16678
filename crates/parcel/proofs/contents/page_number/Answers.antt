use Rattle.std.proofs.Common.{sym, ◌∙◌}
use Rattle.std.proofs.lemmas.Iterator.Adapters.{option_map_id}
use Rattle.std.proofs.lemmas.Iterator.Consumers.{nth_from_yields_List, YieldsList-from_first}
use Rattle.parcel.specs.Parcels.{numbers_of}
use Rattle.parcel.proofs.PageNumbers.{nth_page}
use Rattle.parcel.proofs.contents.page_number.Goals as goal

pub returns : goal.returns
returns c =
    sym (option_map_id c.nth.result) ∙ nth_from_yields_List c.nth.result c.nth.new.self c.args.index c.nth.ensures.ran (YieldsList-from_first (λ x. x) (λ s. numbers_of s.bytes.now) _ c.page_numbers.ensures) ∙ nth_page c.args.parcel.now c.args.index
