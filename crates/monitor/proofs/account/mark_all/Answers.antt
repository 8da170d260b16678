use Rattle.std.proofs.Common.{vec_items, refl, ap, ◌∙◌}
use Rattle.bitmap.specs.Tracked.{tracked}
use Rattle.monitor.specs.Marks.{told}
use Rattle.monitor.proofs.Turns.{after_more, turns_more}
use Rattle.monitor.proofs.account.mark_all.Goals as goal

pub loop-access-preserved : goal.loop-access-preserved
loop-access-preserved c =
    let b = tracked c.args.map.now in
    let old = tracked c.loop-access.map in
    let new = tracked c.mark.new.map in
    let xs = c.args.accesses.now in
    let i = c.loop-access.access-index in
    let marks = c.in_ok-turned.ensures in
    let inv = c.loop-access.invariant in (
      ap told c.in_ok-push.ensures.items ∙ turns_more b old new xs i _ c.loop-access-test.true inv.1 marks.means (vec_items c.loop-access.entries) _ inv.0 refl marks.turned,
      after_more b old new xs i _ c.loop-access-test.true inv.1 marks.means,
    )
