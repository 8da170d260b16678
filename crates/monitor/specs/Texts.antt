-- The trace that a text writes, line by line. Assumes nothing.
use Rattle.std.specs.Prelude.{ℕ, List, [], ◌∷◌, vec_items}
use Rattle.text.specs.Said.{Says}
use Rattle.monitor.specs.Fields.{TwoNumbers}
use Rattle.monitor.specs.declared.trace.Access.{Access}
use Rattle.monitor.specs.declared.trace.Trace.{Trace}

-- each line writes the access at its place
abbrev pub AccessLines : List (ℕ × List ℕ) → List Access → Type 0
AccessLines [] [] = Unit {0}
AccessLines [] (a ∷ more) = ⊥
AccessLines (k ∷ ks) [] = ⊥
AccessLines (k ∷ ks) (a ∷ more) = TwoNumbers k.1 a.offset a.len × AccessLines ks more

-- the first line writes the memory, and each further one an access
pub record Traces (text : List ℕ) (t : Trace) : Type 0 where
  pub first : ℕ × List ℕ
  pub others : List (ℕ × List ℕ)
  pub says : Says text (first ∷ others)
  pub memory : TwoNumbers first.1 t.memory.byte_size t.memory.page_size.value
  pub accesses : AccessLines others (vec_items t.accesses)
