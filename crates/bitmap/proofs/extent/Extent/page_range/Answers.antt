use Rattle.std.proofs.Common.{◌≡◌, ◌+◌, ◌-◌, ◌/◌, min, ap, arith}
use Rattle.bitmap.specs.Pages.{top}
use Rattle.bitmap.proofs.PageLaws.{spans_nothing, spans_range}
use Rattle.bitmap.proofs.extent.Extent.page_range.Goals as goal

pub returns-then-len-eq0 : goal.returns-then-len-eq0
returns-then-len-eq0 c = record {
  within = omega arith;
  pages = λ n. rw c.if-len-eq0.true (spans_nothing c.args.self.page_size.value c.args.count c.args.start n);
}

pub returns : goal.returns
returns c =
    let page = c.args.self.page_size.value in
    let first : c.args.start / c.get.result ≡ c.args.start / page = ap (λ x. c.args.start / x) c.get.ensures in
    let last : c.last_byte.result / c.get-2.result ≡ min (c.args.start + (c.args.len - 1)) top / page = rw c.get-2.ensures (ap (λ x. x / page) c.last_byte.ensures) in
    record {
      within = omega arith;
      pages = λ n. spans_range page c.args.count c.args.start c.args.len n _ _ c.min.result (omega arith) (omega arith) first last (omega arith);
    }
