use Rattle.std.proofs.Common.{◌≡◌, ◌*◌, min, length, ◌∙◌, mul_comm, arith}
use Rattle.bitmap.specs.Pages.{top}
use Rattle.bitmap.proofs.LentStorage.{page_count_capped}
use Rattle.bitmap.proofs.page_bits.len.Goals as goal

pub returns : goal.returns
returns g c =
    let count = length c.args.words.now in
    let width = 8 * g.W.Integer.WIDTH in
    let bits : c.saturating_mul.result ≡ min (width * count) top = rw (← c.bits.ensures) (omega (arith, mul_comm count c.bits.result)) in
    rw bits at c.page_count.ensures ∙ page_count_capped c.args.extent.byte_size _ (width * count) c.args.extent.page_size.nonzero
