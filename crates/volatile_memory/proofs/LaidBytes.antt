-- Bytes laid over bytes, as a slice's part is written. Assumes nothing.
use Rattle.std.proofs.Common.{◌≡◌, ℕ, zero, suc, ◌+◌, ◌-◌, ◌*◌, ◌<◌, ◌≤◌, min, List, [], ◌∷◌, ◌++◌, map, length, get_or, take, drop, sym, refl, ap, ◌∙◌, inl, inr, append_assoc, append-nil, suc-mul, zero-mul, arith, length-append, length-drop, length-take}
use borrow.Rule.Slice.PartMut.{put_mid}
use Rattle.std.proofs.lemmas.List.{drop-drop, drop-take, take-take, take-append-drop, take_at, drop_at, drop_all, take_all, take-map, map_more}
use Rattle.std.proofs.lemmas.Bool.{cases_lt}
use Rattle.std.specs.List.{AllByRecursion, copy_within}
use Rattle.volatile_memory.specs.Memory.{part, overlaid, joined, elements}

-- a part of a slice written whole
pub overlaid_put : {X : Type 0} (xs ys : List X) (i k : ℕ) → length ys ≡ k → put_mid i k xs ys ≡ overlaid xs i ys
unfolding overlaid
overlaid_put xs ys i k is = ap (λ n. take i xs ++ (ys ++ n)) (drop-drop k i xs ∙ ap (λ n. drop (i + n) xs) (sym is))

-- a part of no bytes laid at the start
pub overlaid-part : {X : Type 0} (xs ys : List X) (i : ℕ) → overlaid ys 0 (part xs i 0) ≡ ys
unfolding part overlaid
overlaid-part xs ys i = refl

-- the part of a slice
pub part_of : {X : Type 0} (xs : List X) (i k : ℕ) → take (i + k - i) (drop i xs) ≡ part xs i k
unfolding part
part_of xs i k = let e : i + k - i ≡ k = omega arith in rw e

-- how long it is
pub length_part : {X : Type 0} (xs : List X) (i k : ℕ) → length (part xs i k) ≡ min k (length xs - i)
unfolding part
length_part xs i k = simp (length-take, length-drop)

-- a part of a part
part-part : {X : Type 0} (xs : List X) (s n i k : ℕ) → i + k ≤ n → part (part xs s n) i k ≡ part xs (s + i) k
unfolding part
part-part xs s n i k fits =
    let more : i + (n - i) ≡ n = omega arith in
    let front : drop i (take n (drop s xs)) ≡ take (n - i) (drop i (drop s xs)) = ap (λ m. drop i (take m (drop s xs))) (sym more) ∙ drop-take i (n - i) (drop s xs) in
    ap (take k) front ∙ take-take k (n - i) (drop i (drop s xs)) (omega arith) ∙ ap (take k) (drop-drop i s xs)

-- the start of a part
pub take-part : {X : Type 0} (xs : List X) (i n k : ℕ) → k ≤ n → take (k - 0) (part xs i n) ≡ part xs i k
unfolding part
take-part xs i n k fits = let all : k - 0 ≡ k = omega arith in rw all (take-take k n (drop i xs) fits)

-- elements of a part
pub elements-part : {X : Type 0} (value : List ℕ → X) (z : ℕ) (xs : List ℕ) (s n k : ℕ) → k * z ≤ n → elements value z (part xs s n) 0 k ≡ elements value z xs s k
elements-part value z xs s n zero fits = refl
elements-part value z xs s n (suc k) fits =
    let within : k * z + z ≤ n = omega (arith, suc-mul k z) in
    let front : elements value z (part xs s n) 0 k ≡ elements value z xs s k = elements-part value z xs s n k (omega arith) in
    let last : part (part xs s n) (0 + k * z) z ≡ part xs (s + k * z) z = part-part xs s n (0 + k * z) z (omega arith) ∙ ap (λ i. part xs i z) (omega arith) in
    ap (λ ys. ys ++ (value (part (part xs s n) (0 + k * z) z) ∷ [])) front ∙ ap (λ y. elements value z xs s k ++ (value y ∷ [])) last

-- bytes moved within a list
pub moved : {X : Type 0} (xs : List X) (i k to : ℕ) → i + k ≤ length xs → copy_within xs i (i + k) to ≡ overlaid xs to (part xs i k)
unfolding part overlaid
moved xs i k to fits =
    let none : i + k - i ≡ k = omega arith in
    let long : length (take k (drop i xs)) ≡ k = simp (length-take, length-drop) (omega arith) in
    rw (none, long) (append_assoc (take to xs) (take k (drop i xs)) (drop (to + k) xs))

-- no bytes laid anywhere
pub overlaid_none : {X : Type 0} (xs : List X) (i : ℕ) → overlaid xs i [] ≡ xs
unfolding overlaid
overlaid_none xs i = let e : i + 0 ≡ i = omega arith in rw e (take-append-drop i xs)

-- and none at the start
pub overlaid_nil : {X : Type 0} (xs : List X) → overlaid xs 0 [] ≡ xs
overlaid_nil xs = overlaid_none xs 0

-- as many bytes as there are
pub overlaid-whole : {X : Type 0} (xs ys : List X) → length ys ≡ length xs → overlaid xs 0 ys ≡ ys
unfolding overlaid
overlaid-whole xs ys same = ap (λ n. ys ++ n) (drop_all (0 + length ys) xs (omega arith)) ∙ append-nil ys

-- bytes laid behind bytes
pub overlaid_next : {X : Type 0} (m xs ys : List X) (s at : ℕ) → at ≡ s + length xs → at + length ys ≤ length m → overlaid (overlaid m s xs) at ys ≡ overlaid m s (xs ++ ys)
unfolding overlaid
overlaid_next {X} m xs ys s at is fits =
    let front : length (take s m ++ xs) ≡ at = simp (length-append, length-take) (omega arith) in
    let tail : List X = drop (s + length xs) m in
    let whole : take s m ++ (xs ++ tail) ≡ (take s m ++ xs) ++ tail = sym (append_assoc (take s m) xs tail) in
    let kept : take at (take s m ++ (xs ++ tail)) ≡ take s m ++ xs = ap (take at) whole ∙ take_at (take s m ++ xs) tail at front in
    let sums : s + length xs + length ys ≡ s + length (xs ++ ys) = simp length-append (omega arith) in
    let left : drop (at + length ys) (take s m ++ (xs ++ tail)) ≡ drop (s + length (xs ++ ys)) m =
    ap (drop (at + length ys)) whole ∙ sym (drop-drop (length ys) at ((take s m ++ xs) ++ tail)) ∙ ap (drop (length ys)) (drop_at (take s m ++ xs) tail at front) ∙ drop-drop (length ys) (s + length xs) m ∙ ap (λ n. drop n m) sums in
    rw (kept, left) (append_assoc (take s m) xs (ys ++ drop (s + length (xs ++ ys)) m) ∙ ap (λ n. take s m ++ n) (sym (append_assoc xs ys (drop (s + length (xs ++ ys)) m))))

-- one more piece
pub joined_push : (xss : List (List ℕ)) (ys : List ℕ) → joined (xss ++ (ys ∷ [])) ≡ joined xss ++ ys
joined_push [] ys = append-nil ys
joined_push (xs ∷ xss) ys = ap (λ n. xs ++ n) (joined_push xss ys) ∙ sym (append_assoc xs (joined xss) ys)

-- pieces of one length, each by what it was made of; by length_pieces it is no plainer, which asks for a fact of each piece of the map
pub length-joined : {X : Type 0} (f : X → List ℕ) (z : ℕ) → ((x : X) → length (f x) ≡ z) → (xs : List X) → length (joined (map f xs)) ≡ length xs * z
length-joined f z each [] = sym (zero-mul z)
length-joined f z each (x ∷ xs) = length-append (f x) (joined (map f xs)) ∙ rw (each x, length-joined f z each xs) (omega (arith, suc-mul (length xs) z))

-- the bytes of one element more
pub joined_more : {X : Type 0} (f : X → List ℕ) (xs : List X) (i : ℕ) (x : X) → i < length xs → x ≡ get_or xs i x → joined (map f (take (i + 1) xs)) ≡ joined (map f (take i xs)) ++ f x
joined_more f xs i x h is = ap joined (map_more f xs i x h) ∙ joined_push (map f (take i xs)) (f (get_or xs i x)) ∙ ap (λ y. joined (map f (take i xs)) ++ f y) (sym is)

-- as many as there are, of at most n
take_capped : {X : Type 0} (xs : List X) (n k : ℕ) → k ≡ min (length xs) n → take (k - 0) xs ≡ take n xs
take_capped xs n k is =
    elim (cases_lt n (length xs)) [
      | inl fewer ↦ let e : k - 0 ≡ n = omega arith in rw e
      | inr more ↦ take_all (k - 0) xs (omega arith) ∙ sym (take_all n xs more)
    ]

pub pieces : {X : Type 0} (f : X → List ℕ) (xs : List X) (n k : ℕ) → k ≡ min (length xs) n → joined (map f (take (k - 0) xs)) ≡ joined (take n (map f xs))
pieces f xs n k is = ap (λ ys. joined (map f ys)) (take_capped xs n k is) ∙ ap joined (sym (take-map f n xs))

-- pieces that are each z bytes long
pub length_pieces : (z : ℕ) (xss : List (List ℕ)) → AllByRecursion (λ xs. length xs ≡ z) xss → length (joined xss) ≡ length xss * z
length_pieces z [] each = sym (zero-mul z)
length_pieces z (xs ∷ xss) (one, more) = length-append xs (joined xss) ∙ rw (one, length_pieces z xss more) (omega (arith, suc-mul (length xss) z))
