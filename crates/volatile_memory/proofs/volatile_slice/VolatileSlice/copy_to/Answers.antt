use Rattle.std.proofs.Common.{◌≡◌, ◌-◌, min, length, take, sym, ap, ◌∙◌, arith, length-take}
use Rattle.std.proofs.lemmas.Result.{err_from_is_err_and}
use Rattle.volatile_memory.specs.Memory.{overlaid}
use Rattle.volatile_memory.specs.Spans.{span, count}
use Rattle.volatile_memory.proofs.CallLaws.{guard_refused, guarded, copies_refused, copies_some, copied_refused, copied_some}
use Rattle.volatile_memory.proofs.Elements.{counted_within}
use Rattle.volatile_memory.proofs.LaidBytes.{overlaid_put, elements-part}
use Rattle.volatile_memory.proofs.volatile_slice.VolatileSlice.copy_to.Goals as goal

pub returns-in_err-bytes : goal.returns-in_err-bytes
returns-in_err-bytes g c =
    let p = err_from_is_err_and c.from_residual.result c.from_residual.ensures.1 in
    let v = span c.args.self.now in
    let m = c.args.memory in
    let refused = copies_refused v (length m.now) g.T.ByteValued.size (length c.args.buf.now) _ (guard_refused v m.now m.ref_ptr _ c.in_err-bytes.ensures) in
    rw (p.1, p.2) (record { answer = refused; after = copied_refused g.T.ByteValued.value v m.now g.T.ByteValued.size c.args.buf.now _ refused })

pub load_elements-requires : goal.load_elements-requires
load_elements-requires g c =
    let v = span c.args.self.now in
    let size = g.T.ByteValued.size in
    let buf = c.args.buf.now in
    let k = c.min-k.result in
    let (held, same, view) = guarded v c.args.memory.now c.args.memory.ref_ptr _ _ c.in_ok-bytes.ensures in
    let some : length (take (k - 0) buf) ≡ k = simp length-take (omega arith) in
    rw (some, view) (counted_within v.size size k (length buf) (rw c.element_count.ensures at c.min-k.ensures))

pub returns : goal.returns
returns g c =
    let e = g.T.ByteValued in
    let v = span c.args.self.now in
    let m = c.args.memory in
    let buf = c.args.buf.now in
    let k = c.min-k.result in
    let (held, same, view) = guarded v m.now m.ref_ptr _ _ c.in_ok-bytes.ensures in
    let most : k ≡ min (length buf) (count v e.size) = rw c.element_count.ensures at c.min-k.ensures in
    let given = copies_some v (length m.now) e.size (length buf) k most held in
    let fits = counted_within v.size e.size k (length buf) most in
    let some : length (take (k - 0) buf) ≡ k = simp length-take (omega arith) in
    let loaded = rw (some, same) at c.load_elements.ensures ∙ elements-part e.value e.size m.now v.start v.size k fits in
    let long : length c.load_elements.new.values ≡ k - 0 = c.load_elements.auto.values ∙ simp length-take (omega arith) in
    record {
      answer = given;
      after = overlaid_put buf c.load_elements.new.values 0 (k - 0) long ∙ ap (overlaid buf 0) loaded ∙ sym (copied_some e.value v m.now e.size buf k given);
    }
