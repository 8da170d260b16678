use Rattle.std.proofs.Common.{◌≡◌, ap, rules}
use Rattle.bitmap.specs.Pages.{marked}
use Rattle.bitmap.specs.Storage.{bit_of, stored}
use Rattle.bitmap.specs.Tracked.{over}
use Rattle.trials.proofs.mark_first_and_last.Goals as goal

pub returns : goal.returns
returns c =
    let first = rw c.new-log.ensures.means at c.mark_dirty.ensures.marks in
    let second = rw first at c.mark_dirty-2.ensures.marks in
    record {
      fits = λ i. search (rules, c.type_inv.log i);
      bits = λ n.
          let bit : stored bit_of 8 c.mark_dirty-2.new.self.log.now n ≡ (marked (marked (over 40960 4096 8 c.args.log.now) 0 1) 36864 1).bit n = ap (λ b. b.bit n) second in
          search rules;
    }
