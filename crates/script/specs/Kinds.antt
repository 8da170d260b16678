-- The names of the kinds of element. Assumes nothing.
use Rattle.std.specs.Prelude.{◌≡◌, ◌≢◌, ℕ, List, Result, codes, MatchResult}
use Rattle.script.specs.declared.fault.Complaint.{Complaint}
use Rattle.script.specs.declared.fault.Complaint.TheVariants.{UnknownKind}
use Rattle.script.specs.declared.kind.Kind.{Kind}
use Rattle.script.specs.declared.kind.Kind.TheVariants.{Integer, LineHead}
use Rattle.script.specs.declared.kind.IntegerKind.TheVariants.{U8, U16, U32, U64, Usize, I8, I16, I32, I64}

-- the name of a kind
abbrev pub name_of : Kind → List ℕ
name_of (Integer U8) = codes "u8"
name_of (Integer U16) = codes "u16"
name_of (Integer U32) = codes "u32"
name_of (Integer U64) = codes "u64"
name_of (Integer Usize) = codes "usize"
name_of (Integer I8) = codes "i8"
name_of (Integer I16) = codes "i16"
name_of (Integer I32) = codes "i32"
name_of (Integer I64) = codes "i64"
name_of LineHead = codes "LineHead"

-- a name is that of the kind k, or of no kind
abbrev pub Named : List ℕ → Result Kind Complaint → Type 0
Named name r = MatchResult r (λ k. name ≡ name_of k) (λ e. (e ≡ UnknownKind) × ((k : Kind) → name ≢ name_of k))
