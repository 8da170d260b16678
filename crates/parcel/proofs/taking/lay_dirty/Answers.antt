use Rattle.std.proofs.Common.{length, refl, ap₂, arith}
use Rattle.std.proofs.lemmas.Result.{err_from_is_err_and}
use Rattle.volatile_memory.specs.Faults.Answer.{gives}
use Rattle.parcel.proofs.TakenSteps.{taken-uncovered, taken_short, all_told, taken_gives}
use Rattle.parcel.proofs.taking.lay_dirty.Goals as goal

pub returns-in_err-check_cover : goal.returns-in_err-check_cover
returns-in_err-check_cover g c =
    let p = err_from_is_err_and c.from_residual.result c.from_residual.ensures.1 in
    let e = taken-uncovered (g.B.Bitmap.means c.args.bitmap.now) c.args.memory.now (length c.args.buf.now) _ c.in_err-check_cover.ensures in
    rw (p.1, p.2, e) (record { answer = refl; buffer = refl })

pub returns-then-buf-taken : goal.returns-then-buf-taken
returns-then-buf-taken g c =
    let e = taken_short (g.B.Bitmap.means c.args.bitmap.now) c.args.memory.now (length c.args.buf.now) c.in_ok-check_cover.ensures c.measure-taken.result.length c.measure-taken.ensures.length (omega arith) (omega arith) in
    rw e (record { answer = refl; buffer = refl })

pub lay_parcel-requires : goal.lay_parcel-requires
lay_parcel-requires g c = record {
  count = c.measure-taken.ensures.pages;
  room = omega (arith, all_told (g.B.Bitmap.means c.args.bitmap.now) c.args.memory.now (length c.args.buf.now) c.in_ok-check_cover.ensures c.measure-taken.result.length c.measure-taken.ensures.length (omega arith) (omega arith));
}

pub returns : goal.returns
returns g c =
    let b = g.B.Bitmap.means c.args.bitmap.now in
    let memory = c.args.memory.now in
    let long = all_told b memory (length c.args.buf.now) c.in_ok-check_cover.ensures c.measure-taken.result.length c.measure-taken.ensures.length (omega arith) (omega arith) in
    let e = taken_gives b memory (length c.args.buf.now) c.in_ok-check_cover.ensures c.measure-taken.result.length c.measure-taken.ensures.length (omega arith) (omega arith) in
    rw e (record { answer = ap₂ (λ n k. gives (n, k)) long c.measure-taken.ensures.pages; buffer = c.lay_parcel.ensures })
