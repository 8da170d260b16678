use Rattle.std.proofs.Common.{◌*◌, length, refl, ◌∙◌}
use Rattle.std.proofs.lemmas.Result.{err_from_is_err_and}
use Rattle.volatile_memory.specs.Calls.{store_at, has_element}
use Rattle.volatile_memory.specs.Spans.{span}
use Rattle.volatile_memory.proofs.CallLaws.{did_nothing, foreign_first, held_first}
use Rattle.volatile_memory.proofs.ElementBytes.{store_refused, store-lays}
use Rattle.volatile_memory.proofs.volatile_array_ref.VolatileArrayRef.store.Goals as goal

pub returns-in_err-check_memory : goal.returns-in_err-check_memory
unfolding store_at
returns-in_err-check_memory g c =
    let p = err_from_is_err_and c.from_residual.result c.from_residual.ensures.1 in
    let v = span c.args.self.now.slice in
    let check = has_element v g.T.ByteValued.size c.args.index in
    let e = store_refused v (c.args.index * g.T.ByteValued.size) (g.T.ByteValued.bytes c.args.value) _ _ (foreign_first v (length c.args.memory.now) check _ c.in_err-check_memory.ensures) in
    rw (p.1, p.2, e) (record { answer = refl; did = did_nothing _ _; lent = refl })

pub returns-in_err-offset : goal.returns-in_err-offset
unfolding store_at
returns-in_err-offset g c =
    let p = err_from_is_err_and c.from_residual-in_err-offset.result c.from_residual-in_err-offset.ensures.1 in
    let v = span c.args.self.now.slice in
    let was = c.in_err-offset.ensures.answer ∙ held_first v (length c.args.memory.now) _ c.in_ok-check_memory.ensures in
    let e = store_refused v (c.args.index * g.T.ByteValued.size) (g.T.ByteValued.bytes c.args.value) _ _ was in
    rw (p.1, p.2, e) (record { answer = refl; did = did_nothing _ _; lent = refl })

pub returns : goal.returns
unfolding store_at
returns g c =
    let v = span c.args.self.now.slice in
    let was = c.in_ok-offset.ensures.answer ∙ held_first v (length c.args.memory.now) _ c.in_ok-check_memory.ensures in
    let e = store-lays v (c.args.index * g.T.ByteValued.size) (g.T.ByteValued.bytes c.args.value) _ was in
    rw e (record { answer = refl; did = rw c.in_ok-offset.ensures.made.0 at c.lay_element.ensures.did; lent = c.lay_element.ensures.lent })
