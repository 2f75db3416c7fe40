-- Ranges of a list.
use Rattle.std.proofs.Common.{◌≡◌, ℕ, ◌+◌, ◌-◌, ◌≤◌, List, [], ◌∷◌, ◌++◌, length, take, drop, slice_range, refl, sym, ap, ◌∙◌, arith}
use Rattle.std.proofs.lemmas.List.{drop-take, drop-drop}
use Rattle.std.proofs.Math.Seq.{take-add}
use Rattle.std.proofs.lemmas.List.{length-drop, length-take-le}

-- without its first n elements a range begins n later
pub range_later : {X : Type 0} (xs : List X) (s n e : ℕ) → s + n ≤ e → slice_range xs (s + n) e ≡ drop n (slice_range xs s e)
range_later xs s n e fits =
    let sum : e - s ≡ n + (e - (s + n)) = omega arith in
    sym (ap (λ k. drop n (take k (drop s xs))) sum ∙ drop-take n (e - (s + n)) (drop s xs) ∙ ap (take (e - (s + n))) (drop-drop n s xs))

-- two ranges, one after the other
pub range_more : {X : Type 0} (xs : List X) (s e n : ℕ) → s ≤ e → slice_range xs s (e + n) ≡ slice_range xs s e ++ slice_range xs e (e + n)
range_more xs s e n fits =
    let whole : (e + n) - s ≡ (e - s) + n = omega arith in
    let part : (e + n) - e ≡ n = omega arith in
    let reach : s + (e - s) ≡ e = omega arith in
    ap (λ k. take k (drop s xs)) whole ∙ take-add (e - s) n (drop s xs)
    ∙ ap (λ xs'. take (e - s) (drop s xs) ++ take n xs') (drop-drop (e - s) s xs ∙ ap (λ k. drop k xs) reach)
    ∙ ap (λ k. take (e - s) (drop s xs) ++ take k (drop e xs)) (sym part)

-- a range before a place is that of the elements before the place
pub range_front : {X : Type 0} (xs ys : List X) (s e : ℕ) → s ≤ e → take e xs ≡ take e ys → slice_range xs s e ≡ slice_range ys s e
range_front xs ys s e fits same =
    let reach : s + (e - s) ≡ e = omega arith in
    sym (drop-take s (e - s) xs) ∙ ap (λ k. drop s (take k xs)) reach ∙ ap (drop s) same
    ∙ ap (λ k. drop s (take k ys)) (sym reach) ∙ drop-take s (e - s) ys

pub range_length : {X : Type 0} (xs : List X) (s e : ℕ) → e ≤ length xs → length (slice_range xs s e) ≡ e - s
range_length xs s e fits =
    let there : e - s ≤ length (drop s xs) = simp length-drop (omega arith) in
    length-take-le (e - s) (drop s xs) there

-- A range was moved, and then the buffer was written to from its end on: the range is what it was.
pub still_held : {X : Type 0} (items moved filled after held : List X) (s e start end : ℕ)
    → slice_range items s e ≡ held → slice_range moved start end ≡ slice_range items s e → start ≤ end
    → take end filled ≡ take end moved → after ≡ filled → slice_range after start end ≡ held
still_held items moved filled after held s e start end was kept order front same =
    ap (λ xs. slice_range xs start end) same ∙ range_front filled moved start end order front ∙ kept ∙ was

-- so many elements of the buffer stand behind it
pub held_with_more : {X : Type 0} (items moved filled after held : List X) (s e start end n : ℕ)
    → slice_range items s e ≡ held → slice_range moved start end ≡ slice_range items s e → start ≤ end
    → take end filled ≡ take end moved → after ≡ filled
    → slice_range after start (end + n) ≡ held ++ slice_range filled end (end + n)
held_with_more items moved filled after held s e start end n was kept order front same =
    range_more after start end n order
    ∙ ap (λ xs. xs ++ slice_range after end (end + n)) (still_held items moved filled after held s e start end was kept order front same)
    ∙ ap (λ xs. held ++ slice_range xs end (end + n)) same

-- the front of two lists in a row, and what follows it
pub take_front : {X : Type 0} (xs ys : List X) → take (length xs) (xs ++ ys) ≡ xs
take_front [] ys = refl
take_front (x ∷ xs) ys = ap (λ zs. x ∷ zs) (take_front xs ys)

pub drop_front : {X : Type 0} (xs ys : List X) → drop (length xs) (xs ++ ys) ≡ ys
drop_front [] ys = refl
drop_front (x ∷ xs) ys = drop_front xs ys
