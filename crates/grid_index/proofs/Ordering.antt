-- Boxes looked up in another order.
use Rattle.std.proofs.Common.{◌≡◌, ℕ, ◌<◌, Bool, true, false, cond, List, [], ◌∷◌, length, get_or, map, filter, All, IsPermutation, refl, sym, ap, ◌∙◌, subst₂, arith}
use Rattle.std.specs.List.{range_with_len}
use Rattle.std.proofs.lemmas.List.{length-map, get_or-map}
use Rattle.std.proofs.lemmas.List.Elements.{All-head, All-tail}
use Rattle.std.proofs.lemmas.List.FromFn.{fill_by_all, length-range_with_len}
use Rattle.std.proofs.lemmas.List.Sorted.{All-permutation, length_permutation}
use Rattle.tgap_model.specs.declared.geometry.Window.{Window}
use Rattle.lemmas.proofs.Permutations.{IsPermutation-filter}
use Rattle.grid_index.specs.Boxes.{meets}
use Rattle.grid_index.specs.Near.{near_boxes}
use Rattle.grid_index.specs.Tower.{meets_at}
use Rattle.grid_index.specs.Picked.{no_box, box_at, IsOrdered}
use Rattle.grid_index.proofs.Ranges.{range_below}
use Rattle.grid_index.proofs.Meeting.{meets_at-within, near_filtered}

-- a test of the values is a test of what they are made of
pub map-filter : {A B : Type 0} (f : A → B) (p : A → Bool) (q : B → Bool) (xs : List A) → All (λ x. p x ≡ q (f x)) xs → map f (filter p xs) ≡ filter q (map f xs)
map-filter f p q [] same = refl
map-filter {A} {B} f p q (x ∷ xs) same = by (p x) (q (f x)) (All-head (λ x. p x ≡ q (f x)) x xs same) (map-filter f p q xs (All-tail (λ x. p x ≡ q (f x)) x xs same))
  where
    by : (a b : Bool) → a ≡ b → map f (filter p xs) ≡ filter q (map f xs) → map f (cond a (x ∷ filter p xs) (filter p xs)) ≡ cond b (f x ∷ filter q (map f xs)) (filter q (map f xs))
    by a b e h = rw (← e) (same_cond a h)
      where
        same_cond : (a : Bool) → map f (filter p xs) ≡ filter q (map f xs) → map f (cond a (x ∷ filter p xs) (filter p xs)) ≡ cond a (f x ∷ filter q (map f xs)) (filter q (map f xs))
        same_cond true h = ap (λ ys. f x ∷ ys) h
        same_cond false h = h

-- each place of the order is the place of a box
pub order_below : (n : ℕ) (order : List ℕ) → IsPermutation (range_with_len 0 n) order → All (λ i. i < n) order
order_below n order h = All-permutation (λ i. i < n) (range_with_len 0 n) order h (range_below 0 n n (omega arith))

pub order_length : (n : ℕ) (order : List ℕ) → IsPermutation (range_with_len 0 n) order → length order ≡ n
order_length n order h = length_permutation (range_with_len 0 n) order h ∙ length-range_with_len 0 n

-- what meets the area, in the order of the row, is what meets it, in another order
pub near_ordered : (area : Window) (boxes : List Window) (order : List ℕ) (row : List Window) → IsOrdered boxes order row
    → IsPermutation (near_boxes area boxes) (map (λ i. get_or order i 0) (near_boxes area row))
near_ordered area boxes order row o =
    subst₂ IsPermutation (near_filtered area boxes (length boxes) (omega arith)) (sym picked)
    (IsPermutation-filter (meets_at area boxes) (range_with_len 0 (length boxes)) order o.places)
  where
    at : ℕ → ℕ
    at i = get_or order i 0

    long : length row ≡ length order
    long = ap length o.row_is ∙ length-map order (box_at boxes)

    same : All (λ j. meets_at area row j ≡ meets_at area boxes (at j)) (range_with_len 0 (length order))
    same k d l =
        let j = get_or (range_with_len 0 (length order)) k d in
        let within : j < length order = range_below 0 (length order) (length order) (omega arith) k d l in
        let below : at j < length boxes = order_below (length boxes) order o.places j 0 within in
        meets_at-within area row j no_box (omega (arith, long))
        ∙ ap (λ b. meets area b) (ap (λ bs. get_or bs j no_box) o.row_is ∙ get_or-map (box_at boxes) order j 0 no_box within)
        ∙ sym (meets_at-within area boxes (at j) no_box below)

    picked : map at (near_boxes area row) ≡ filter (meets_at area boxes) order
    picked =
        ap (map at) (sym (near_filtered area row (length order) (omega (arith, long))))
        ∙ map-filter at (meets_at area row) (meets_at area boxes) (range_with_len 0 (length order)) same
        ∙ ap (filter (meets_at area boxes)) (sym (fill_by_all at order (length order) 0 refl (λ k l. refl)))
