use Rattle.std.proofs.Common.{rules, ℕ, List, ◌∷◌, length, take, sym, ap, ◌∙◌}
use Rattle.byte_valued.specs.LittleEndian.{number_of}
use Rattle.parcel.specs.Parcels.{numbers_of}
use Rattle.parcel.proofs.PageNumbers.{numbers_first, number_made}
use Rattle.parcel.proofs.numbers.NumbersIterator.next.Goals as goal

pub returns-clause-steps : goal.returns-clause-steps
returns-clause-steps c =
    let bs : List ℕ = c.args.self.now.bytes.now in
    let (fits, first, rest, long, _) = c.in_ok-first.ensures.cases in
    let made = number_made bs c.in_ok-first.first.now c.from_slice.result first long c.from_slice.ensures.value in
    rw made (numbers_first bs fits ∙ ap (λ xs. number_of (take 8 bs) ∷ numbers_of xs) (sym rest))

pub returns-clause-goes : goal.returns-clause-goes
returns-clause-goes c =
    let bs : List ℕ = c.args.self.now.bytes.now in
    let (fits, first, rest, long, _) = c.in_ok-first.ensures.cases in
    let made = number_made bs c.in_ok-first.first.now c.from_slice.result first long c.from_slice.ensures.value in
    let left = ap length (numbers_first bs fits ∙ ap (λ xs. number_of (take 8 bs) ∷ numbers_of xs) (sym rest)) in
    rw made (search rules)
