-- The lines of a text that say something. Assumes nothing.
use Rattle.std.specs.Prelude.{◌≡◌, ℕ, ◌+◌, Bool, not, ◌||◌, List, length, take, map, filter, count_by, IsUtf8, ◌==◌, slice_index}
use Rattle.std.specs.List.{enumerate_from}
use Rattle.std.specs.Str.Lines.{lines}
use Rattle.std.specs.Str.{IsValidUpTo, trim_start}
use Rattle.text.specs.declared.reading.Line.{Line}

-- nothing follows the white space at the front of a line, or a # does
abbrev pub skips : List ℕ → Bool
skips line = length (trim_start line) == 0 || slice_index (trim_start line) 0 == 35

-- ks are the lines of a text that are not skipped, with their numbers from 1 on
abbrev pub Says : List ℕ → List (ℕ × List ℕ) → Type 0
Says text ks = ks ≡ filter (λ l. not (skips l.1)) (enumerate_from 1 (lines text))

abbrev pub numbered : List Line → List (ℕ × List ℕ)
numbered ls = map (λ l. (l.number, l.text.now)) ls

-- how many line breaks stand among bytes
abbrev pub breaks : List ℕ → ℕ
breaks bytes = count_by (λ b. b == 10) bytes

-- bytes that are no text, and the number of the line on which the first byte lies that is none
abbrev pub NoText : List ℕ → ℕ → Type 0
NoText bytes line = (IsUtf8 bytes → ⊥) × ((at : ℕ) × IsValidUpTo bytes at × (line ≡ 1 + breaks (take at bytes)))
