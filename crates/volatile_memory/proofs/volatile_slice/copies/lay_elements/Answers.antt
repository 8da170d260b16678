use Rattle.std.proofs.Common.{◌≡◌, ◌*◌, length, take, sym, ap, ◌∙◌, map, ◌≤◌, ◌+◌, arith, length-take}
use Rattle.std.proofs.lemmas.List.{take_all}
use Rattle.volatile_memory.specs.Memory.{overlaid, joined}
use Rattle.volatile_memory.proofs.Elements.{next_element}
use Rattle.volatile_memory.proofs.LaidBytes.{overlaid_none, overlaid_next, overlaid-whole, length-joined, joined_more}
use Rattle.volatile_memory.proofs.volatile_slice.copies.lay_elements.Goals as goal

pub loop-i-init : goal.loop-i-init
loop-i-init g c = sym (overlaid_none c.args.bytes.now 0)

pub loop-i-preserved : goal.loop-i-preserved
loop-i-preserved g c =
    let k = g.T.ByteValued in
    let i = c.loop-i.i in
    let bytes = k.bytes c.index-values-i.result in
    let exact : (x : g.row.T.Denot) → length (k.bytes x) ≡ k.size = λ x. (g.met.T.ByteValued.exact x).0 in
    let before = joined (map k.bytes (take i c.args.values.now)) in
    let some : length (take i c.args.values.now) ≡ i = simp length-take (omega (arith, c.loop-i-test.true)) in
    let behind : i * c.size_of-size.result ≡ 0 + length before = rw (length-joined k.bytes k.size exact (take i c.args.values.now), some, c.size_of-size.ensures) (omega arith) in
    let within : i * c.size_of-size.result + length bytes ≤ length c.args.bytes.now = rw (c.size_of-size.ensures, exact c.index-values-i.result) (omega (arith, next_element i (length c.args.values.now) k.size c.loop-i-test.true)) in
    c.put_element.ensures ∙ rw c.loop-i.invariant (overlaid_next c.args.bytes.now before bytes 0 (i * c.size_of-size.result) behind within) ∙ ap (overlaid c.args.bytes.now 0) (sym (joined_more k.bytes c.args.values.now i _ c.loop-i-test.true c.index-values-i.is))

pub returns : goal.returns
returns g c =
    let k = g.T.ByteValued in
    let all = take_all _ c.args.values.now c.loop-i-test.false in
    let long = length-joined k.bytes k.size (λ x. (g.met.T.ByteValued.exact x).0) c.args.values.now in
    c.loop-i.invariant ∙ ap (λ xs. overlaid c.args.bytes.now 0 (joined (map k.bytes xs))) all ∙ overlaid-whole c.args.bytes.now _ (long ∙ sym c.requires)
