-- The places of the boxes that meet an area are those of all places that pass a test.
use Rattle.std.proofs.Common.{◌≡◌, ◌⊎◌, inl, inr, ℕ, zero, suc, ◌+◌, ◌-◌, ◌<◌, ◌≤◌, Bool, true, false, cond, List, [], ◌∷◌, ◌++◌, length, filter, get_or, All, refl, sym, ap, ◌∙◌, true≢false, arith}
use Rattle.std.specs.List.{range_with_len}
use Rattle.std.proofs.lemmas.List.{append-nil}
use Rattle.std.proofs.lemmas.List.Elements.{filter-append, All-filter}
use Rattle.std.proofs.lemmas.List.FromFn.{get_or-range_with_len, length-range_with_len}
use Rattle.tgap_model.specs.declared.geometry.Window.{Window}
use Rattle.lemmas.proofs.Members.{filter_none}
use Rattle.grid_index.specs.Boxes.{meets}
use Rattle.grid_index.specs.Near.{cons_if, boxes_near, near_boxes}
use Rattle.grid_index.specs.Tower.{meets_at}
use Rattle.grid_index.proofs.Ranges.{range-append, range_push, range_below}

-- an element in front where two equal tests pass
pub cons_if_is : {A : Type 0} (c d : Bool) (x : A) (xs ys : List A) → c ≡ d → xs ≡ ys → cond c (x ∷ xs) xs ≡ cons_if d x ys
cons_if_is true true x xs ys e h = ap (λ zs. x ∷ zs) h
cons_if_is true false x xs ys e h = absurd (true≢false e)
cons_if_is false true x xs ys e h = absurd (true≢false (sym e))
cons_if_is false false x xs ys e h = h

-- what the test says of a place
pub meets_at_is : (area : Window) (boxes : List Window) (i : ℕ) → meets_at area boxes i ≡ true → (i < length boxes) × ((d : Window) → meets area (get_or boxes i d) ≡ true)
meets_at_is area [] i e = absurd (true≢false (sym e))
meets_at_is area (b ∷ boxes) zero e = (omega arith, λ d. e)
meets_at_is area (b ∷ boxes) (suc i) e = let h = meets_at_is area boxes i e in (omega (arith, h.0), h.1)

pub meets_at-within : (area : Window) (boxes : List Window) (i : ℕ) (d : Window) → i < length boxes → meets_at area boxes i ≡ meets area (get_or boxes i d)
meets_at-within area [] i d l = absurd (omega arith)
meets_at-within area (b ∷ boxes) zero d l = refl
meets_at-within area (b ∷ boxes) (suc i) d l = meets_at-within area boxes i d (omega arith)

pub meets_at-past : (area : Window) (boxes : List Window) (i : ℕ) → length boxes ≤ i → meets_at area boxes i ≡ false
meets_at-past area [] i l = refl
meets_at-past area (b ∷ boxes) zero l = absurd (omega arith)
meets_at-past area (b ∷ boxes) (suc i) l = meets_at-past area boxes i (omega arith)

-- the places of the boxes from place k on, among so many places or more
filtered_from : (area : Window) (whole boxes : List Window) (k n : ℕ) → length boxes ≤ n → ((i : ℕ) → meets_at area whole (k + i) ≡ meets_at area boxes i)
    → filter (meets_at area whole) (range_with_len k n) ≡ boxes_near area k boxes
filtered_from area whole [] k zero le same = refl
filtered_from area whole (b ∷ boxes) k zero le same = absurd (omega arith)
filtered_from area whole [] k (suc n) le same =
    let e : k ≡ k + 0 = omega arith in
    cons_if_is (meets_at area whole k) false k (filter (meets_at area whole) (range_with_len (k + 1) n)) [] (ap (meets_at area whole) e ∙ same 0)
    (filtered_from area whole [] (k + 1) n (omega arith) (λ i. let f : k + 1 + i ≡ k + suc i = omega arith in ap (meets_at area whole) f ∙ same (suc i)))
filtered_from area whole (b ∷ boxes) k (suc n) le same =
    let e : k ≡ k + 0 = omega arith in
    cons_if_is (meets_at area whole k) (meets area b) k (filter (meets_at area whole) (range_with_len (k + 1) n)) (boxes_near area (k + 1) boxes) (ap (meets_at area whole) e ∙ same 0)
    (filtered_from area whole boxes (k + 1) n (omega arith) (λ i. let f : k + 1 + i ≡ k + suc i = omega arith in ap (meets_at area whole) f ∙ same (suc i)))

pub near_filtered : (area : Window) (boxes : List Window) (n : ℕ) → length boxes ≤ n → filter (meets_at area boxes) (range_with_len 0 n) ≡ near_boxes area boxes
near_filtered area boxes n le = filtered_from area boxes boxes 0 n le (λ i. let e : 0 + i ≡ i = omega arith in ap (meets_at area boxes) e)

-- each is the place of a box
pub near_below : (area : Window) (boxes : List Window) → All (λ i. i < length boxes) (near_boxes area boxes)
near_below area boxes =
    rw (← near_filtered area boxes (length boxes) (omega arith))
    (All-filter (meets_at area boxes) (λ i. i < length boxes) (range_with_len 0 (length boxes)) (range_below 0 (length boxes) (length boxes) (omega arith)))

-- places past the last box may be left out
pub filter_short : (area : Window) (boxes : List Window) (k n m : ℕ) → (n ≡ m) ⊎ ((n ≤ m) × (length boxes ≤ k + n)) → filter (meets_at area boxes) (range_with_len k n) ≡ filter (meets_at area boxes) (range_with_len k m)
filter_short area boxes k n m (inl e) = ap (λ l. filter (meets_at area boxes) (range_with_len k l)) e
filter_short area boxes k n m (inr (le, past)) =
    let p = meets_at area boxes in
    let e : n + (m - n) ≡ m = omega arith in
    let rest = range_with_len (k + n) (m - n) in
    let none : filter p rest ≡ [] = filter_none p rest (λ j d l.
    let short : j < m - n = omega (arith, length-range_with_len (k + n) (m - n)) in
    ap p (get_or-range_with_len (k + n) (m - n) j d short) ∙ meets_at-past area boxes (k + n + j) (omega arith)) in
    sym (append-nil (filter p (range_with_len k n))) ∙ ap (λ ys. filter p (range_with_len k n) ++ ys) (sym none) ∙ sym (filter-append p (range_with_len k n) rest)
    ∙ ap (filter p) (sym (range-append k n (m - n)) ∙ ap (range_with_len k) e)

-- one place more
pub filter_push : (area : Window) (boxes : List Window) (k n i : ℕ) (d : Window) → k + n ≡ i → i < length boxes
    → filter (meets_at area boxes) (range_with_len k (n + 1)) ≡ filter (meets_at area boxes) (range_with_len k n) ++ cond (meets area (get_or boxes i d)) (i ∷ []) []
filter_push area boxes k n i d e l =
    let p = meets_at area boxes in
    ap (filter p) (range_push k n ∙ ap (λ j. range_with_len k n ++ j ∷ []) e) ∙ filter-append p (range_with_len k n) (i ∷ [])
    ∙ ap (λ (b : Bool). filter p (range_with_len k n) ++ cond b (i ∷ []) []) (meets_at-within area boxes i d l)
