use Rattle.std.proofs.Common.{◌≡◌, ◌*◌, ◌≤◌, length, vec_items, refl, ap, ◌∙◌, subst, arith}
use Rattle.bitmap.specs.Pages.{Meaning, ceiling}
use Rattle.bitmap.specs.Tracked.{tracked}
use Rattle.text.specs.PageMaps.{Shows}
use Rattle.monitor.specs.Marks.{Sums, after, turns, clean_map, clean_log}
use Rattle.monitor.proofs.Starts.{map_start}
use Rattle.monitor.proofs.Turns.{after-count}
use Rattle.monitor.proofs.account.Account.new.Goals as goal
use Rattle.monitor.proofs.account.Account.new.Goals.{In_ok-entries}

starts : (c : In_ok-entries) → tracked c.new-map.result ≡ clean_map c.args.trace.now.memory
starts c =
    let m = c.args.trace.now.memory in
    let room : ceiling m.byte_size m.page_size.value ≤ 64 * length c.as_mut_slice.result.now = omega (arith, c.as_mut_slice.ensures.len, c.in_ok-words.ensures.len, c.div_ceil.ensures, c.pages.ensures) in
    c.new-map.ensures.means ∙ map_start m (omega (arith, m.logged)) _ room

ends : (c : In_ok-entries) → tracked c.mark_all.new.map ≡ after (clean_map c.args.trace.now.memory) (vec_items c.args.trace.now.accesses)
ends c =
    let m = c.args.trace.now.memory in
    c.in_ok-entries.ensures.means ∙ ap (λ b. after b c.as_slice.result.now) (starts c) ∙ ap (after (clean_map m)) c.as_slice.ensures.value

pub new-summary-requires : goal.new-summary-requires
new-summary-requires c =
    let m = c.args.trace.now.memory in
    let xs = vec_items c.args.trace.now.accesses in
    let count = ap (λ b. b.count) (ends (goal.at.new-summary-requires c).In_ok-entries) ∙ after-count (clean_map m) xs in
    omega (arith, count, m.few)

pub returns : goal.returns
returns c =
    let at = (goal.at.returns c).In_ok-entries in
    let m = c.args.trace.now.memory in
    record {
      memory = refl;
      entries = c.in_ok-entries.ensures.turns ∙ ap (λ b. turns b c.as_slice.result.now) (starts at) ∙ ap (turns (clean_map m)) c.as_slice.ensures.value;
      pages = let P : Meaning → Type 0 = λ b. Shows b (vec_items c.in_ok-pages.pages.pages) in subst P (ends at) c.in_ok-pages.ensures;
      log = c.in_ok-log.ensures ∙ ap (after (clean_log m)) c.as_slice-2.ensures.value;
      summary = let P : Meaning → Type 0 = λ b. Sums b c.new-summary.result in subst P (ends at) c.new-summary.ensures;
    }
