use Rattle.std.proofs.Common.{sym, ap, ◌∙◌, length, arith}
use Rattle.volatile_memory.specs.Memory.{overlaid}
use Rattle.volatile_memory.proofs.LaidBytes.{overlaid_none}
use Rattle.parcel.specs.Parcels.{words}
use Rattle.parcel.proofs.WrittenPages.{number_next}
use Rattle.parcel.proofs.dirty_pages.DirtyPages.lay_numbers.Goals as goal

pub loop-page-preserved : goal.loop-page-preserved
loop-page-preserved g c =
    let next = c.in-Some.ensures.steps in record {
      place = omega (arith, c.loop-page.invariant.place, ap length next, c.lay_number-at.ensures.end);
      laid = c.loop-page.invariant.laid ∙ number_next c.loop-page.buf _ _ _ c.loop-page.at c.lay_number-at.result c.in-Some.page next c.lay_number-at.ensures.end c.lay_number-at.ensures.after (omega (arith, c.loop-page.invariant.place, c.requires));
    }

pub returns-clause-after : goal.returns-clause-after
returns-clause-after g c =
    let none = c.in-None.ensures.steps.0 in
    sym (c.loop-page.invariant.laid ∙ ap (λ ns. overlaid c.loop-page.buf c.loop-page.at (words ns)) none ∙ overlaid_none c.loop-page.buf c.loop-page.at)
