-- An answer that gives something is not one that refuses. Assumes nothing.
use Rattle.std.proofs.Common.{◌≡◌, ℕ, arith}
use Rattle.volatile_memory.specs.Faults.{Fault}
use Rattle.volatile_memory.specs.Faults.Answer.{gives, refuses}

pub gives-refuses : {X : Type 0} {x : X} {f : Fault} → gives x ≡ refuses f → ⊥
gives-refuses is = let z : ◌≡◌ {A = ℕ} 0 1 = cc in omega arith
