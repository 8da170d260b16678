use Rattle.std.proofs.Common.{◌≡◌, ◌*◌, ◌≤◌, length, ap, ◌∙◌, arith}
use Rattle.bitmap.specs.Pages.{ceiling}
use Rattle.monitor.specs.Marks.{after, log_of}
use Rattle.monitor.proofs.Starts.{log_start, take_front}
use Rattle.monitor.proofs.account.log_bytes.Goals as goal

pub returns : goal.returns
returns c =
    let m = c.args.memory in
    let bytes = c.in_ok-bytes.bytes in
    let marked = c.mark_log.new.bytes in
    let xs = c.args.accesses.now in
    let zeros = c.as_mut_slice.ensures.value ∙ c.in_ok-bytes.ensures.items_if_clones_equal (λ y h. h) in
    let room : ceiling m.byte_size 4096 ≤ 8 * c.div_ceil.result = omega arith in
    let long : length marked ≡ bytes.len = c.mark_log.auto.bytes ∙ c.as_mut_slice.ensures.len in
    let start = ap (log_of m) zeros ∙ log_start m (omega arith) c.div_ceil.result room in
    ap (log_of m) (take_front bytes.len marked _ long) ∙ c.mark_log.ensures ∙ ap (λ b. after b xs) start
