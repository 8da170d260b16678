use Rattle.std.proofs.Common.{sym, refl, ◌∙◌}
use Rattle.std.proofs.lemmas.Result.{err_from_is_err_and}
use Rattle.volatile_memory.specs.Calls.{store}
use Rattle.volatile_memory.specs.Spans.{span}
use Rattle.volatile_memory.proofs.CallLaws.{did_nothing}
use Rattle.volatile_memory.proofs.ElementBytes.{store_refused, store-lays}
use Rattle.volatile_memory.proofs.volatile_slice.VolatileSlice.store.Goals as goal

pub returns-in_err-check_atomic : goal.returns-in_err-check_atomic
unfolding store
returns-in_err-check_atomic g c =
    let p = err_from_is_err_and c.from_residual.result c.from_residual.ensures.1 in
    let was = rw (c.alignment.ensures ∙ sym (g.met.T.ByteValued.exact c.args.value).0) at c.in_err-check_atomic.ensures in
    let e = store_refused (span c.args.self.now) c.args.addr (g.T.ByteValued.bytes c.args.value) _ _ was in
    rw (p.1, p.2, e) (record { answer = refl; did = did_nothing _ _; lent = refl })

pub returns : goal.returns
unfolding store
returns g c =
    let was = rw (c.alignment.ensures ∙ sym (g.met.T.ByteValued.exact c.args.value).0) at c.in_ok-check_atomic.ensures in
    let e = store-lays (span c.args.self.now) c.args.addr (g.T.ByteValued.bytes c.args.value) _ was in
    rw e (record { answer = refl; did = c.lay_element.ensures.did; lent = c.lay_element.ensures.lent })
