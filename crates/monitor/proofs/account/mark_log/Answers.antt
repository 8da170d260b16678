use Rattle.std.proofs.Common.{◌≡◌, ℕ, ◌*◌, List, length, get_or, sym, ap, ◌∙◌, rules}
use Rattle.std.proofs.lemmas.List.{take_all}
use Rattle.bitmap.specs.Pages.{page_count}
use Rattle.bitmap.specs.Storage.{bit_of, stored}
use Rattle.bitmap.specs.Tracked.{over, logged}
use Rattle.monitor.specs.Marks.{after, log_of}
use Rattle.monitor.proofs.Turns.{after_more, after-count}
use Rattle.monitor.proofs.account.mark_log.Goals as goal

-- the size matters only for the page count
over_size : (size size' : ℕ) (xs ys : List ℕ) → length ys ≡ length xs → page_count size' 4096 (8 * length ys) ≡ page_count size 4096 (8 * length xs) → over size 4096 8 ys ≡ over size' 4096 8 ys
over_size size size' xs ys long same =
    ap (λ k. record { page = 4096; count = k; base = 0; bit = stored bit_of 8 ys }) (ap (λ l. page_count size 4096 (8 * l)) long ∙ sym same)

pub loop-access-preserved : goal.loop-access-preserved
loop-access-preserved c =
    let inv = c.loop-access.invariant in (
      after_more (logged c.new-log.result) (logged c.loop-access.log) (logged c.mark_dirty.new.self) c.args.accesses.now c.loop-access.access-index _ c.loop-access-test.true inv.0 c.mark_dirty.ensures.marks,
      c.mark_dirty.ensures.lent ∙ inv.1,
    )

pub returns : goal.returns
returns c =
    let size = c.args.memory.byte_size in
    let log = c.loop-access.log in
    let new = logged c.new-log.result in
    let xs = c.args.accesses.now in
    let lent = c.loop-access.invariant.1 ∙ c.new-log.ensures.lent in
    let named = ap (λ l. get_or l 0 0) lent in
    let long = ap (λ l. get_or l 1 0) lent in
    let all : logged log ≡ after new xs = c.loop-access.invariant.0 ∙ ap (after new) (take_all c.loop-access.access-index xs c.loop-access-test.false) in
    let count = ap (λ b. b.count) all ∙ after-count new xs ∙ ap (λ b. b.count) c.new-log.ensures.means in
    let done : log_of c.args.memory log.log.now ≡ after (log_of c.args.memory c.args.bytes.now) xs =
    over_size size log.byte_size c.args.bytes.now log.log.now long count ∙ all ∙ ap (λ b. after b xs) c.new-log.ensures.means in
    search rules
