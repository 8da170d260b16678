use Rattle.std.proofs.Common.{◌≡◌, max, ◌∷◌, length, replicate, ap, ◌∙◌, arith, rules}
use Rattle.bitmap.specs.Tracked.{over}
use Rattle.bitmap.proofs.LentStorage.{over_cleared, loan-kept}
use Rattle.bitmap.proofs.atomic_bitmap.AtomicBitmap.new.Goals as goal

pub returns : goal.returns
returns c =
    let cleared : c.fill.new.self ≡ replicate (length c.args.map.now) 0 = search rules in
    let page : max 1 c.get.result ≡ c.args.page_size.value = omega (arith, c.args.page_size.nonzero) in
    record {
      means = ap (λ p. over c.args.byte_size p 64 c.fill.new.self) page ∙ ap (over c.args.byte_size c.args.page_size.value 64) cleared ∙ over_cleared c.args.byte_size c.args.page_size.value 64 (length c.args.map.now);
      words = cleared;
      fixed = ap (λ l. c.args.byte_size ∷ l) (loan-kept c.args.map c.fill.new.self c.fill.ensures.len);
    }
