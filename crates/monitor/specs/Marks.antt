-- What the accesses of a trace make of a bitmap, page by page. Assumes nothing.
use Rattle.std.specs.Prelude.{◌≡◌, ℕ, Bool, not, ◌&&◌, List, [], ◌∷◌, map, filter, count_by, vec_items}
use Rattle.std.specs.List.{range_with_len}
use Rattle.bitmap.specs.Pages.{Meaning, dirty, marked, clean, ceiling, share}
use Rattle.bitmap.specs.Tracked.{over}
use Rattle.text.specs.PageMaps.{Shows}
use Rattle.monitor.specs.declared.account.Account.{Account}
use Rattle.monitor.specs.declared.account.Entry.{Entry}
use Rattle.monitor.specs.declared.account.Summary.{Summary}
use Rattle.monitor.specs.declared.memory.Memory.{Memory}
use Rattle.monitor.specs.declared.trace.Access.{Access}
use Rattle.monitor.specs.declared.trace.Trace.{Trace}

-- the numbers below n that pass a test, in rising order
abbrev pub those : (ℕ → Bool) → ℕ → List ℕ
those p n = filter p (range_with_len 0 n)

-- how many pages are dirty
abbrev pub dirty_count : Meaning → ℕ
dirty_count b = count_by (dirty b) (range_with_len 0 b.count)

-- the pages that are dirty in b' and clean in b
abbrev pub turned : Meaning → Meaning → List ℕ
turned b b' = those (λ n. dirty b' n && not (dirty b n)) b.count

-- a bitmap after an access
abbrev pub accessed : Meaning → Access → Meaning
accessed b a = marked b a.offset a.len

-- a bitmap after accesses
abbrev pub after : Meaning → List Access → Meaning
after b [] = b
after b (a ∷ more) = after (accessed b a) more

-- each access, with the pages that it turned
abbrev pub turns : Meaning → List Access → List (Access × List ℕ)
turns b [] = []
turns b (a ∷ more) = (a, turned b (accessed b a)) ∷ turns (accessed b a) more

abbrev pub told : List Entry → List (Access × List ℕ)
told es = map (λ e. (e.access, e.turned)) es

-- a summary that tells the dirty pages, all pages, and the dirty share
pub record Sums (b : Meaning) (s : Summary) : Type 0 where
  pub dirty_pages : s.dirty_pages ≡ dirty_count b
  pub pages : s.pages ≡ b.count
  pub dirty_share : s.share ≡ share (dirty_count b) b.count

-- a memory's pages, and its pages in the log, all clean
abbrev pub clean_map : Memory → Meaning
clean_map m = clean m.page_size.value (ceiling m.byte_size m.page_size.value)

abbrev pub clean_log : Memory → Meaning
clean_log m = clean 4096 (ceiling m.byte_size 4096)

-- what the bytes of a log mean
abbrev pub log_of : Memory → List ℕ → Meaning
log_of m bytes = over m.byte_size 4096 8 bytes

-- an account of all accesses of a trace, from clean pages on
pub record Accounts (t : Trace) (a : Account) : Type 0 where
  pub memory : a.memory ≡ t.memory
  pub entries : told (vec_items a.entries) ≡ turns (clean_map t.memory) (vec_items t.accesses)
  pub pages : Shows (after (clean_map t.memory) (vec_items t.accesses)) (vec_items a.pages.pages)
  pub log : log_of t.memory (vec_items a.log) ≡ after (clean_log t.memory) (vec_items t.accesses)
  pub summary : Sums (after (clean_map t.memory) (vec_items t.accesses)) a.summary
