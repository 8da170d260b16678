use Rattle.std.proofs.Common.{◌≡◌, ◌+◌, ◌-◌, ◌*◌, map, length, take, sym, refl, ap, ◌∙◌, arith, length-take}
use Rattle.std.proofs.lemmas.Result.{err_from_is_err_and}
use Rattle.bitmap.specs.Pages.{wrapped}
use Rattle.volatile_memory.specs.Memory.{joined}
use Rattle.volatile_memory.specs.Spans.{span, count}
use Rattle.volatile_memory.proofs.CallLaws.{did_nothing, copy_from_refused, copy_from_lays}
use Rattle.volatile_memory.proofs.LaidBytes.{overlaid_put, pieces, length-joined}
use Rattle.volatile_memory.proofs.volatile_slice.VolatileSlice.copy_from.Goals as goal

pub returns-in_err-check_memory : goal.returns-in_err-check_memory
returns-in_err-check_memory g c =
    let p = err_from_is_err_and c.from_residual.result c.from_residual.ensures.1 in
    let e = copy_from_refused (span c.args.self.now) (length c.args.memory.now) g.T.ByteValued.size (map g.T.ByteValued.bytes c.args.buf.now) _ c.in_err-check_memory.ensures in
    rw (p.1, p.2, e) (record { answer = refl; did = did_nothing _ _; lent = refl })

pub returns : goal.returns
returns g c =
    let k = g.T.ByteValued in
    let v = span c.args.self.now in
    let m = c.args.memory.now in
    let n = c.min-k.result * c.size_of-size.result in
    let e = copy_from_lays v (length m) k.size (map k.bytes c.args.buf.now) c.in_ok-check_memory.ensures in
    let bytes = joined (take (count v k.size) (map k.bytes c.args.buf.now)) in
    let same = pieces k.bytes c.args.buf.now (count v k.size) c.min-k.result (rw c.element_count.ensures at c.min-k.ensures) in
    let laid : c.lay_elements.new.bytes ≡ bytes = c.lay_elements.ensures ∙ same in
    let long : length bytes ≡ n =
    ap length (sym same) ∙ length-joined k.bytes k.size (λ x. (g.met.T.ByteValued.exact x).0) (take (c.min-k.result - 0) c.args.buf.now) ∙ rw c.size_of-size.ensures (ap (λ i. i * k.size) (simp length-take (omega arith))) in
    let start : v.start + 0 ≡ v.start = omega arith in
    let mark : wrapped v.mark 0 ≡ v.mark = omega (arith, c.args.self.now.ends, c.args.self.now.marks) in
    rw e (record {
      answer = refl;
      did = (rw (laid, start) (overlaid_put m bytes v.start (v.start + n - v.start) (omega arith)), rw (mark, long) c.mark_dirty.ensures.marks);
      lent = c.mark_dirty.ensures.lent;
    })
