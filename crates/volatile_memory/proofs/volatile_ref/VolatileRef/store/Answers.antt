use Rattle.std.proofs.Common.{refl, sym}
use Rattle.std.proofs.lemmas.Result.{err_from_is_err_and}
use Rattle.volatile_memory.specs.Calls.{store_ref}
use Rattle.volatile_memory.specs.Spans.{span}
use Rattle.volatile_memory.proofs.CallLaws.{did_nothing}
use Rattle.volatile_memory.proofs.ElementBytes.{store_refused, store-lays}
use Rattle.volatile_memory.proofs.volatile_ref.VolatileRef.store.Goals as goal

pub returns-in_err-check_room : goal.returns-in_err-check_room
unfolding store_ref
returns-in_err-check_room g c =
    let p = err_from_is_err_and c.from_residual.result c.from_residual.ensures.1 in
    let was = rw (sym (g.met.T.ByteValued.exact c.args.value).0) at c.in_err-check_room.ensures in
    let e = store_refused (span c.args.self.now.slice) 0 (g.T.ByteValued.bytes c.args.value) _ _ was in
    rw (p.1, p.2, e) (record { answer = refl; did = did_nothing _ _; lent = refl })

pub returns : goal.returns
unfolding store_ref
returns g c =
    let was = rw (sym (g.met.T.ByteValued.exact c.args.value).0) at c.in_ok-check_room.ensures in
    let e = store-lays (span c.args.self.now.slice) 0 (g.T.ByteValued.bytes c.args.value) _ was in
    rw e (record { answer = refl; did = c.lay_element.ensures.did; lent = c.lay_element.ensures.lent })
