-- What a page map shows. Assumes nothing.
use Rattle.std.specs.Prelude.{◌≡◌, Bool, List, map}
use Rattle.std.specs.List.{range_with_len}
use Rattle.bitmap.specs.Pages.{Meaning, dirty}

-- for each page, whether it is dirty
abbrev pub Shows : Meaning → List Bool → Type 0
Shows b ps = ps ≡ map (dirty b) (range_with_len 0 b.count)
