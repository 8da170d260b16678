use Rattle.std.proofs.Common.{rules, tests, ◌-◌, sym, refl, ◌∙◌}
use Rattle.std.proofs.lemmas.Iterator.{YieldsList-from_range}
use Rattle.std.proofs.lemmas.Iterator.Adapters.{option_map_id}
use Rattle.std.proofs.lemmas.Iterator.Search.{find_from_yields_List}
use Rattle.bitmap.specs.Pages.{dirty}
use Rattle.parcel.proofs.dirty_pages.DirtyNumbers.first.Goals as goal

pub returns : goal.returns
returns g c =
    let s = c.args.self.now in
    sym (option_map_id c.find.result) ∙ find_from_yields_List (dirty (g.B.Bitmap.means s.bitmap.now)) _ _ c.find.result c.find.ensures.ran (YieldsList-from_range s.next s.end (s.end - s.next) refl refl) (λ x b q k. search (rules, tests))
