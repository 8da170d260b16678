use Rattle.std.proofs.Common.{◌≡◌, ◌+◌, ◌*◌, ◌≤◌, min, length}
use Rattle.parcel.specs.Parcels.{page_length, numbers_of, sum_of, wrong_among}
use Rattle.parcel.proofs.carried.Carried.check_numbers.Given as goal

abbrev pub invariant-loop-index : goal.invariant-loop-index
invariant-loop-index l =
    let all = numbers_of l.self.numbers.now in
    let left = numbers_of l.index-iterator.iter.bytes.now in
    let p = l.self.layout.page_size.value in
    let size = page_length p l.self.layout.total in record {
      listed : l.index-iterator.count + length left ≡ length all;
      right : wrong_among l.count 0 3 all ≡ wrong_among l.count l.low (3 + l.index-iterator.count) left;
      summed : sum_of size all ≡ l.bytes + sum_of size left;
      within : l.bytes ≤ min (l.low * p) l.self.layout.total;
    }
