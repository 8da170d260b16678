use Rattle.std.proofs.Common.{◌+◌, ap}
use Rattle.std.proofs.lemmas.Iterator.Consumers.{count_from_yields_List}
use Rattle.std.proofs.lemmas.Iterator.Splits.{YieldsList-from_lines}
use Rattle.text.specs.declared.line_error.LineError.TheVariants.{Line}
use Rattle.text.proofs.line_error.LineError.at_end.Goals as goal

pub returns : goal.returns
returns g c =
    let counted = count_from_yields_List _ c.count.result c.count.ensures.ran (YieldsList-from_lines c.args.text.now c.lines.ensures.rest) in
    ap (λ n. Line (n + 1) c.args.fault) counted
