use Rattle.std.proofs.Common.{◌≡◌, ◌-◌, ◌≤◌, length, take, replicate, sym, ap, ◌∙◌, arith}
use Rattle.volatile_memory.proofs.ElementBytes.{laid_start}
use Rattle.volatile_memory.proofs.volatile_slice.VolatileSlice.write_obj.Goals as goal

pub returns : goal.returns
returns g c =
    let bytes = g.T.ByteValued.bytes c.args.value in
    let size = c.size_of.result in
    let long : length bytes ≡ size = (g.met.T.ByteValued.exact c.args.value).0 ∙ sym c.size_of.ensures in
    let room : length bytes ≤ 64 = omega (arith, (g.met.T.ByteValued.exact c.args.value).0, g.met.T.ByteValued.sized.1) in
    let same : take (size - 0) c.write_to.new.buf ≡ bytes = ap (take (size - 0)) c.write_to.ensures.after ∙ laid_start bytes (replicate 64 0) size room long in
    rw same at c.write_slice.ensures
