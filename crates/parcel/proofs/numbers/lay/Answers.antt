use Rattle.std.proofs.Common.{refl, arith}
use Rattle.volatile_memory.proofs.LaidBytes.{overlaid_put}
use Rattle.parcel.proofs.numbers.lay.Goals as goal

pub returns : goal.returns
returns c = record {
  end = refl;
  after = rw c.copy_from_slice.ensures.after (overlaid_put c.args.buf.now c.args.bytes.now c.args.at _ (omega arith));
}
