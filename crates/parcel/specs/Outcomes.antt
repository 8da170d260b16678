-- What taking and applying leave behind, by their answers. Assumes nothing.
use Rattle.std.specs.Prelude.{ℕ, List, length}
use Rattle.bitmap.specs.Pages.{Meaning}
use Rattle.volatile_memory.specs.Faults.{Answer}
use Rattle.volatile_memory.specs.Faults.Answer.{gives, refuses}
use Rattle.volatile_memory.specs.Memory.{overlaid}
use Rattle.parcel.specs.Parcels.{swept}

-- what is told of a parcel with k pages: its length, and k
abbrev pub told : ℕ → Answer (List ℕ) → Answer (ℕ × ℕ)
told k (gives bs) = gives (length bs, k)
told k (refuses f) = refuses f

-- a buffer: the parcel lies at its start, the rest is as it was
abbrev pub filled : List ℕ → Answer (List ℕ) → List ℕ
filled buf (gives bs) = overlaid buf 0 bs
filled buf (refuses f) = buf

-- a bitmap: the memory's pages are clean once a parcel was taken
abbrev pub left : Meaning → List ℕ → Answer (List ℕ) → Meaning
left b memory (gives bs) = swept b memory
left b memory (refuses f) = b

-- what is told of a parcel that was applied, or refused
abbrev pub accepted : Answer (List ℕ) → Answer ℕ
accepted (gives new) = gives 0
accepted (refuses f) = refuses f

-- a copy: the one with the pages, or as it was
abbrev pub kept : List ℕ → Answer (List ℕ) → List ℕ
kept copy (gives new) = new
kept copy (refuses f) = copy
