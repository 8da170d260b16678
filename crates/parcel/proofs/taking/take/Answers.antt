use Rattle.std.proofs.Common.{length, refl, sym, ◌∙◌, arith}
use Rattle.std.proofs.lemmas.Result.{err_from_is_err_and}
use Rattle.parcel.specs.Parcels.{dirty_pages, taken}
use Rattle.parcel.proofs.TakenSteps.{told_covered, left_alone, left_swept, swept-cleaned}
use Rattle.parcel.proofs.taking.take.Goals as goal

pub returns-in_err-taken : goal.returns-in_err-taken
returns-in_err-taken g c =
    let b = g.B.Bitmap.means c.args.bitmap.now in
    let memory = c.args.memory.now in
    let told = c.in_err-taken.ensures in
    let p = err_from_is_err_and c.from_residual.result c.from_residual.ensures.1 in
    let same = left_alone b memory (length (dirty_pages b memory)) (taken b memory (length c.args.buf.now)) _ told.answer in
    rw (p.1, p.2) (record { answer = told.answer; buffer = told.buffer; means = sym same; lent = refl })

pub returns : goal.returns
returns g c =
    let b = g.B.Bitmap.means c.args.bitmap.now in
    let memory = c.args.memory.now in
    let room = length c.args.buf.now in
    let k = length (dirty_pages b memory) in
    let told = c.in_ok-taken.ensures in
    let covers = told_covered b memory room k _ told.answer in
    let clean = swept-cleaned b memory (g.B.Bitmap.paged c.args.bitmap.now) covers (omega arith) in
    record {
      answer = told.answer;
      buffer = told.buffer;
      means = c.reset_addr_range.ensures.cleans ∙ clean ∙ sym (left_swept b memory k (taken b memory room) _ told.answer);
      lent = c.reset_addr_range.ensures.lent;
    }
