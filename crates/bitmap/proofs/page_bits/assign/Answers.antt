use Rattle.std.proofs.Common.{◌*◌, arith}
use Rattle.bitmap.proofs.LentStorage.{over-assigned}
use Rattle.bitmap.proofs.page_bits.assign.Goals as goal

pub returns : goal.returns
returns g c =
    let e = c.args.extent in
    let pages = c.page_range-pages in
    over-assigned g.W.Integer.bits_of e.byte_size e.page_size.value (8 * g.W.Integer.WIDTH) c.args.words.now c.assign.new.words c.assign.auto.words c.args.on c.args.start_addr c.args.bytes pages.result.start pages.result.end (omega arith) (rw c.len.ensures at pages.ensures.pages) c.assign.ensures
