-- The pages of ranges, with one more page behind them. Assumes nothing.
use Rattle.std.proofs.Common.{◌≡◌, ℕ, zero, suc, ◌+◌, ◌-◌, ◌≤◌, List, [], ◌∷◌, ◌++◌, length, get_or, set, sym, ap, ◌∙◌, append_assoc, append-nil, add-zero, arith}
use Rattle.std.specs.List.{range_with_len}
use Rattle.text.specs.PageRanges.{spread}
use Rattle.text.specs.declared.page_range.PageRange.{PageRange}

counting_more : (a n : ℕ) → range_with_len a (suc n) ≡ range_with_len a n ++ ((a + n) ∷ [])
counting_more a zero = ap (λ x. x ∷ []) (sym (add-zero a))
counting_more a (suc n) =
    let e : a + 1 + n ≡ a + suc n = omega arith in
    ap (λ l. a ∷ l) (counting_more (a + 1) n ∙ ap (λ x. range_with_len (a + 1) n ++ (x ∷ [])) e)

-- a range that ends before a page, with that page
longer : (first last page : ℕ) → first ≤ last → last + 1 ≡ page → range_with_len first (page + 1 - first) ≡ range_with_len first (last + 1 - first) ++ (page ∷ [])
longer first last page rising next =
    let n = last + 1 - first in
    let more : page + 1 - first ≡ suc n = omega arith in
    let end : first + n ≡ page = omega arith in
    ap (range_with_len first) more ∙ counting_more first n ∙ ap (λ x. range_with_len first n ++ (x ∷ [])) end

-- i is the last place
pub spread_longer : (rs : List PageRange) (i page : ℕ) (x y : PageRange) → i + 1 ≡ length rs → x ≡ get_or rs i x → x.last + 1 ≡ page → y.first ≡ x.first → y.last ≡ page → spread (set rs i y) ≡ spread rs ++ (page ∷ [])
spread_longer [] i page x y long is next same to = absurd (omega arith)
spread_longer (r ∷ []) zero page x y long is next same to =
    let new : range_with_len y.first (y.last + 1 - y.first) ≡ range_with_len r.first (r.last + 1 - r.first) ++ (page ∷ []) = rw (to, same, ← is) (longer x.first x.last page x.rising next) in
    append-nil _ ∙ new ∙ ap (λ l. l ++ (page ∷ [])) (sym (append-nil (range_with_len r.first (r.last + 1 - r.first))))
spread_longer (r ∷ []) (suc i) page x y long is next same to = absurd (omega arith)
spread_longer (r ∷ (s ∷ rs)) zero page x y long is next same to = absurd (omega arith)
spread_longer (r ∷ (s ∷ rs)) (suc i) page x y long is next same to =
    ap (λ l. range_with_len r.first (r.last + 1 - r.first) ++ l) (spread_longer (s ∷ rs) i page x y (omega arith) is next same to) ∙ sym (append_assoc (range_with_len r.first (r.last + 1 - r.first)) (spread (s ∷ rs)) (page ∷ []))

pub spread_push : (rs : List PageRange) (page : ℕ) (y : PageRange) → y.first ≡ page → y.last ≡ page → spread (rs ++ (y ∷ [])) ≡ spread rs ++ (page ∷ [])
spread_push [] page y from to =
    let e : page + 1 - page ≡ 1 = omega arith in
    append-nil _ ∙ rw (from, to, e)
spread_push (r ∷ rs) page y from to =
    ap (λ l. range_with_len r.first (r.last + 1 - r.first) ++ l) (spread_push rs page y from to) ∙ sym (append_assoc (range_with_len r.first (r.last + 1 - r.first)) (spread rs) (page ∷ []))
