-- What the bitmaps over lent storage mean. Assumes nothing.
use Rattle.std.specs.Prelude.{ℕ, ◌*◌, max, List, [], ◌∷◌, length}
use Rattle.std.specs.Borrow.{MutBor}
use Rattle.bitmap.specs.Pages.{Meaning, page_count}
use Rattle.bitmap.specs.Storage.{bit, stored}
use Rattle.bitmap.specs.declared.atomic_bitmap.AtomicBitmap.{AtomicBitmap}
use Rattle.bitmap.specs.declared.byte_log.ByteLog.{ByteLog}

-- lent storage: the name by which its lender knows it, and its length
abbrev pub loan : {W : Type 0} → MutBor (List W) → List ℕ
loan r = r.ghost_name ∷ length r.now ∷ []

-- a memory of so many bytes, in pages of one size, over words of so many bits, each known by its number
abbrev pub over_words : {W : Type 0} → (W → ℕ) → ℕ → ℕ → ℕ → List W → Meaning
over_words bits_of byte_size page width words = record { page = page; count = page_count byte_size page (width * length words); base = 0; bit = stored (bit bits_of) width words }

-- the same, where the words are numbers
abbrev pub over : ℕ → ℕ → ℕ → List ℕ → Meaning
over = over_words (λ n. n)

abbrev pub tracked : AtomicBitmap → Meaning
tracked b = over b.byte_size (max 1 b.page_size) 64 b.map.now

-- what no call changes: the size in bytes that it was made for, and the storage that was lent
abbrev pub fixed : AtomicBitmap → List ℕ
fixed b = b.byte_size ∷ loan b.map

abbrev pub logged : ByteLog → Meaning
logged b = over b.byte_size 4096 8 b.log.now
