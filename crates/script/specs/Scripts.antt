-- The script that bytes write, line by line. Assumes nothing.
use Rattle.std.specs.Prelude.{◌≡◌, ℕ, ◌≤◌, List, ◌∷◌, map, vec_items, string_bytes}
use Rattle.bitmap.specs.Pages.{ceiling}
use Rattle.text.specs.Said.{Says}
use Rattle.script.specs.declared.command.Program.{Program}
use Rattle.script.specs.declared.command.Setup.{Setup}
use Rattle.script.specs.declared.command.Step.{Step}

-- the lines of steps, by number and text
abbrev pub listed : List Step → List (ℕ × List ℕ)
listed ss = map (λ s. (s.number, string_bytes s.text)) ss

-- no more bytes and pages than are held, and as many pages as the bytes take
pub record Small (s : Setup) : Type 0 where
  pub held : s.byte_size ≤ 67108864
  pub pages : s.pages ≡ ceiling s.byte_size s.page_size.value
  pub tracked : s.pages ≤ 1048576

-- the first line that says something sets up the memory, and each further one is a step
pub record Scripts (bytes : List ℕ) (p : Program) : Type 0 where
  pub first : ℕ × List ℕ
  pub says : Says bytes (first ∷ listed (vec_items p.steps))
  pub small : Small p.setup
