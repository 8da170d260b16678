-- The account of a script, line by line. Assumes nothing.
use Rattle.std.specs.Prelude.{ℕ, List, ◌∷◌, map, vec_items, string_bytes}
use Rattle.text.specs.Said.{Says}
use Rattle.script.specs.Scripts.{Small}
use Rattle.replay.specs.declared.account.Account.{Account}
use Rattle.replay.specs.declared.account.Entry.{Entry}

-- the lines of entries, by number and text
abbrev pub told : List Entry → List (ℕ × List ℕ)
told es = map (λ e. (e.number, string_bytes e.text)) es

-- the first line that says something sets up the memory, and there is an entry for each further one, in order
pub record Played (bytes : List ℕ) (a : Account) : Type 0 where
  pub first : ℕ × List ℕ
  pub says : Says bytes (first ∷ told (vec_items a.entries))
  pub small : Small a.setup
