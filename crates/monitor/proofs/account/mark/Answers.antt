use Rattle.std.proofs.Common.{sym, ap, ◌∙◌}
use Rattle.bitmap.specs.Tracked.{tracked}
use Rattle.monitor.specs.Marks.{turned}
use Rattle.monitor.proofs.Turns.{turned-marked}
use Rattle.monitor.proofs.account.mark.Goals as goal

pub returns-clause-turned : goal.returns-clause-turned
returns-clause-turned c =
    let b = tracked c.args.map.now in
    let access = c.args.access in
    c.in_ok-turned.ensures ∙ turned-marked b access.offset access.len ∙ ap (turned b) (sym c.mark_dirty.ensures.marks)
