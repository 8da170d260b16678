use Rattle.std.proofs.Common.{arith}
use Rattle.std.proofs.lemmas.Result.{err_from_is_err_and}
use Rattle.volatile_memory.specs.Spans.{span}
use Rattle.mirror.specs.Program.{MakesRuns}
use Rattle.mirror.proofs.ProgramRuns.{calls_make_runs}
use Rattle.mirror.proofs.RefreshLaw.{Kind}
use Rattle.mirror.proofs.RefreshWays.{parcel_fits, untaken_owed, unapplied_owed, loaded_owed}
use Rattle.mirror.proofs.refresh.Given as given
use Rattle.mirror.proofs.refresh.Goals as goal

-- the kind of the element
abbrev kind : (g : given.Over) → Kind g.row.T.Denot
kind g =
    let k = g.T.ByteValued in
    let met = g.met.T.ByteValued in
    record { size = k.size; value = k.value; bytes = k.bytes; Holds = k.Holds; sized = λ x. (met.exact x).0; again = met.again }

abbrev calls : (g : given.Over) → MakesRuns g.T.ByteValued.size g.T.ByteValued.bytes
calls g = calls_make_runs g.T.ByteValued.size g.T.ByteValued.bytes (λ x. (g.met.T.ByteValued.exact x).0)

pub returns-in_err-taken : goal.returns-in_err-taken
returns-in_err-taken g c =
    let t = c.in_err-taken.ensures in
    let p = err_from_is_err_and c.from_residual.result c.from_residual.ensures.1 in
    let w = untaken_owed (kind g) (span c.args.element.now.slice) c.args.memory.now (g.B.Bitmap.means c.args.bitmap.now) c.args.buf.now c.args.copy.now c.numbers_fit.ensures (g.B.Bitmap.means c.take.new.bitmap) t.means _ t.answer in
    rw (p.1, p.2) (record { answer = w.answer; buffer = t.buffer; means = t.means; lent = t.lent; copy = w.copy_is; law = w.law; calls = calls g })

pub slice_bounds-apply-end : goal.slice_bounds-apply-end
slice_bounds-apply-end g c =
    let t = c.in_ok-taken.ensures in
    omega (arith, parcel_fits (g.B.Bitmap.means c.args.bitmap.now) c.args.memory.now c.args.buf.now c.take.new.buf _ c.in_ok-taken.taken.length c.in_ok-taken.taken.pages t.answer t.buffer)

pub returns-in_err-apply : goal.returns-in_err-apply
returns-in_err-apply g c =
    let t = c.in_ok-taken.ensures in
    let a = c.in_err-apply.ensures in
    let p = err_from_is_err_and c.from_residual-in_err-apply.result c.from_residual-in_err-apply.ensures.1 in
    let w = unapplied_owed (kind g) (span c.args.element.now.slice) c.args.memory.now (g.B.Bitmap.means c.args.bitmap.now) c.args.buf.now c.args.copy.now c.numbers_fit.ensures (g.B.Bitmap.means c.take.new.bitmap) t.means c.take.new.buf c.apply.new.copy c.in_ok-taken.taken.length c.in_ok-taken.taken.pages t.answer t.buffer a.after _ a.answer in
    rw (p.1, p.2) (record { answer = w.answer; buffer = t.buffer; means = t.means; lent = t.lent; copy = w.copy_is; law = w.law; calls = calls g })

pub returns-in_err-element : goal.returns-in_err-element
returns-in_err-element g c =
    let t = c.in_ok-taken.ensures in
    let a = c.in_ok-apply.ensures in
    let p = err_from_is_err_and c.from_residual-in_err-element.result c.from_residual-in_err-element.ensures.1 in
    let w = loaded_owed (kind g) (span c.args.element.now.slice) c.args.memory.now (g.B.Bitmap.means c.args.bitmap.now) c.args.buf.now c.args.copy.now c.numbers_fit.ensures (g.B.Bitmap.means c.take.new.bitmap) t.means c.take.new.buf c.apply.new.copy c.in_ok-taken.taken.length c.in_ok-taken.taken.pages t.answer t.buffer a.after a.answer _ c.in_err-element.ensures in
    rw (p.1, p.2) (record { answer = w.answer; buffer = t.buffer; means = t.means; lent = t.lent; copy = w.copy_is; law = w.law; calls = calls g })

pub returns : goal.returns
returns g c =
    let t = c.in_ok-taken.ensures in
    let a = c.in_ok-apply.ensures in
    let w = loaded_owed (kind g) (span c.args.element.now.slice) c.args.memory.now (g.B.Bitmap.means c.args.bitmap.now) c.args.buf.now c.args.copy.now c.numbers_fit.ensures (g.B.Bitmap.means c.take.new.bitmap) t.means c.take.new.buf c.apply.new.copy c.in_ok-taken.taken.length c.in_ok-taken.taken.pages t.answer t.buffer a.after a.answer _ c.in_ok-element.ensures in
    record { answer = w.answer; buffer = t.buffer; means = t.means; lent = t.lent; copy = w.copy_is; law = w.law; calls = calls g }
