use Rattle.std.proofs.Common.{◌*◌, arith}
use Rattle.bitmap.proofs.LentStorage.{over_assigned_page, past_assigned_page}
use Rattle.bitmap.proofs.page_bits.put.Goals as goal

pub returns-then-index-len : goal.returns-then-index-len
returns-then-index-len g c =
    let e = c.args.extent in
    over_assigned_page g.W.Integer.bits_of e.byte_size e.page_size.value (8 * g.W.Integer.WIDTH) c.args.words.now c.put.new.words c.put.auto.words c.args.on c.args.index (omega arith) c.put.ensures

pub returns-else-index-len : goal.returns-else-index-len
returns-else-index-len g c = past_assigned_page c.args.on _ c.args.index (omega arith)
