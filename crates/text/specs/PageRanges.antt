-- The pages of ranges. Assumes nothing.
use Rattle.std.specs.Prelude.{ℕ, ◌+◌, ◌-◌, List, [], ◌∷◌, ◌++◌}
use Rattle.std.specs.List.{range_with_len}
use Rattle.text.specs.declared.page_range.PageRange.{PageRange}

-- the pages of ranges, one range after the other
abbrev pub spread : List PageRange → List ℕ
spread [] = []
spread (r ∷ rs) = range_with_len r.first (r.last + 1 - r.first) ++ spread rs
