use Rattle.std.proofs.Common.{rules, ◌/◌, length, sym, ap, ◌∙◌, arith}
use Rattle.parcel.proofs.PageNumbers.{length-numbers, right_above, next_within}
use Rattle.parcel.proofs.carried.Carried.check_numbers.Goals as goal

pub loop-index-init-derived : goal.loop-index-init-derived
loop-index-init-derived c =
    let few = length-numbers c.args.self.now.numbers.now 0 (length c.args.self.now.numbers.now / 8) in
    search rules

pub overflow_add-index : goal.overflow_add-index
overflow_add-index c =
    let few = length-numbers c.args.self.now.numbers.now 0 (length c.args.self.now.numbers.now / 8) in
    omega (arith, few, c.loop-index.invariant.listed, ap length c.in-Some.ensures.steps.0, c.in-Some.ensures.steps.1)

pub overflow_mul-index : goal.overflow_mul-index
overflow_mul-index c =
    let few = length-numbers c.args.self.now.numbers.now 0 (length c.args.self.now.numbers.now / 8) in
    omega (arith, few, c.loop-index.invariant.listed, ap length c.in-Some.ensures.steps.0, c.in-Some.ensures.steps.1)

pub overflow_add-bytes : goal.overflow_add-bytes
overflow_add-bytes c =
    let above = right_above c.in-Some.page c.loop-index.low c.count-count.result (sym c.is_right.ensures ∙ c.if-not-is_right.false) in
    omega (arith, next_within c.args.self.now.layout.page_size.value c.args.self.now.layout.total c.loop-index.low c.in-Some.page c.loop-index.bytes c.loop-index.invariant.within above)
