use Rattle.std.proofs.Common.{◌≡◌, max, ◌∷◌, length, replicate, ap, ◌∙◌, rules}
use Rattle.bitmap.specs.Tracked.{over}
use Rattle.bitmap.proofs.LentStorage.{over_cleared, loan-kept}
use Rattle.bitmap.proofs.atomic_bitmap.AtomicBitmap.reset.Goals as goal

pub returns : goal.returns
returns c =
    let b = c.args.self.now in
    let cleared : c.fill.new.self ≡ replicate (length b.map.now) 0 = search rules in
    record {
      means = ap (over b.byte_size (max 1 b.page_size) 64) cleared ∙ over_cleared b.byte_size (max 1 b.page_size) 64 (length b.map.now);
      words = cleared;
      fixed = ap (λ l. b.byte_size ∷ l) (loan-kept b.map c.fill.new.self c.fill.ensures.len);
    }
