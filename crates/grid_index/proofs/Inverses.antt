-- Numbers in an order, and at which place of it each one stands.
use Rattle.std.proofs.Common.{◌≡◌, ◌≢◌, inl, inr, ℕ, ◌+◌, ◌<◌, List, length, map, get_or, set, All, AllPairs, Contains, IsPermutation, sym, ap, ◌∙◌, subst, subst₂, arith}
use Rattle.std.specs.List.{range_with_len}
use Rattle.std.proofs.lemmas.Bool.{cases_eq, cases_lt}
use Rattle.std.proofs.lemmas.List.{length-map, length-set, get_or-map, get_or-set_same, get_or-set_other, get_or_default, ext_get_or}
use Rattle.std.proofs.lemmas.List.Elements.{Contains-get_or}
use Rattle.std.proofs.lemmas.List.FromFn.{get_or-range_with_len, length-range_with_len}
use Rattle.std.proofs.lemmas.List.Sorted.{Contains-permutation}
use Rattle.tgap_model.specs.declared.geometry.Window.{Window}
use Rattle.lemmas.proofs.Sorting.{AllPairs-permutation}
use Rattle.grid_index.specs.Picked.{no_box, box_at, IsOrdered, AreInverse, boxes_by_key, AreKeyed}
use Rattle.grid_index.specs.Near.{near_boxes}
use Rattle.grid_index.proofs.Meeting.{near_below}
use Rattle.grid_index.proofs.Ordering.{order_below, order_length, near_ordered}

-- ---- an order of all numbers below so many

module _ (n : ℕ) (order : List ℕ) (all : IsPermutation (range_with_len 0 n) order) where
  pub one_below : (i : ℕ) → i < n → get_or order i 0 < n
  one_below i l = order_below n order all i 0 (omega (arith, order_length n order all))

  -- no number stands at two places
  pub one_apart : (i j : ℕ) → i < j → j < n → get_or order i 0 ≢ get_or order j 0
  one_apart i j less short =
      AllPairs-permutation (λ (i j : ℕ). i ≢ j) (λ i j ne e. ne (sym e)) (range_with_len 0 n) order all apart i j 0 less (omega (arith, order_length n order all))
    where
      apart : AllPairs (λ (i j : ℕ). i ≢ j) (range_with_len 0 n)
      apart i j d less short e =
          omega (arith, e, length-range_with_len 0 n, get_or-range_with_len 0 n i d (omega (arith, length-range_with_len 0 n)), get_or-range_with_len 0 n j d (omega (arith, length-range_with_len 0 n)))

  -- one number more gets its place
  pub placed_more : (places : List ℕ) (i : ℕ) → length places ≡ n → i < n → ((j : ℕ) → j < i → get_or places (get_or order j 0) 0 ≡ j)
      → (j : ℕ) → j < i + 1 → get_or (set places (get_or order i 0) i) (get_or order j 0) 0 ≡ j
  placed_more places i long within h j l = elim (cases_lt j i) [
    | inl less ↦ get_or-set_other places (get_or order i 0) (get_or order j 0) i 0 (one_apart j i less within) ∙ h j less
    | inr more ↦
        (let same : i ≡ j = omega (arith, l, more) in
        subst (λ (k : ℕ). get_or (set places (get_or order i 0) i) (get_or order k 0) 0 ≡ k) same
        (get_or-set_same places (get_or order i 0) i 0 (omega (arith, long, one_below i within))))
  ]

-- ---- and the places

module _ (n : ℕ) (order places : List ℕ) (h : AreInverse n order places) where
  -- each number stands at its place
  pub there : (k : ℕ) → k < n → (get_or places k 0 < n) × (get_or order (get_or places k 0) 0 ≡ k)
  there k l =
      let c = Contains-permutation (range_with_len 0 n) order k h.all in_range in
      let here : get_or order c.0 0 ≡ k = get_or_default order c.0 0 k c.1 ∙ c.2 in
      let within : c.0 < n = omega (arith, c.1, order_length n order h.all) in
      let place : get_or places k 0 ≡ c.0 = ap (λ (j : ℕ). get_or places j 0) (sym here) ∙ h.back c.0 within in
      (omega (arith, place, within), ap (λ (i : ℕ). get_or order i 0) place ∙ here)
    where
      in_range : Contains (range_with_len 0 n) k
      in_range = subst (Contains (range_with_len 0 n)) (get_or-range_with_len 0 n k 0 l ∙ omega arith) (Contains-get_or (range_with_len 0 n) k 0 (omega (arith, l, length-range_with_len 0 n)))

  -- no two numbers have one place
  pub places_apart : (j k : ℕ) → j < n → k < n → j ≢ k → get_or places j 0 ≢ get_or places k 0
  places_apart j k a b ne e = ne (sym (there j a).1 ∙ ap (λ (i : ℕ). get_or order i 0) e ∙ (there k b).1)

-- ---- the boxes by their keys

-- the box of a key is that of its slot
pub box_of_key : (slots : List ℕ) (row : List Window) (k : ℕ) → k < length slots → box_at (boxes_by_key slots row) k ≡ box_at row (get_or slots k 0)
box_of_key slots row k l = get_or-map (box_at row) slots k 0 no_box l

module _ (keys slots : List ℕ) (row : List Window) (h : AreKeyed keys slots row) where
  pub count : length (boxes_by_key slots row) ≡ length row
  count = length-map slots (box_at row) ∙ h.inverse.long

  pub ordered : IsOrdered (boxes_by_key slots row) keys row
  ordered = record {
    places = subst (λ (n : ℕ). IsPermutation (range_with_len 0 n) keys) (sym count) h.inverse.all;
    row_is = ext_get_or no_box row (map (box_at (boxes_by_key slots row)) keys) (sym (length-map keys (box_at (boxes_by_key slots row)) ∙ long)) (λ i l.
        let below = one_below (length row) keys h.inverse.all i l in
        sym (get_or-map (box_at (boxes_by_key slots row)) keys i 0 no_box (omega (arith, l, long))
        ∙ box_of_key slots row (get_or keys i 0) (omega (arith, below, h.inverse.long))
        ∙ ap (box_at row) (h.inverse.back i l)));
  }
    where
      long : length keys ≡ length row
      long = order_length (length row) keys h.inverse.all

  -- another box stands in the place of that of a key
  pub box_set : (k : ℕ) (area : Window) → k < length row → boxes_by_key slots (set row (get_or slots k 0) area) ≡ set (boxes_by_key slots row) k area
  box_set k area l =
      ext_get_or no_box (boxes_by_key slots after) (set (boxes_by_key slots row) k area)
      (length-map slots (box_at after) ∙ sym (length-set (boxes_by_key slots row) k area ∙ length-map slots (box_at row))) (λ j m.
      let within : j < length slots = omega (arith, m, length-map slots (box_at after)) in
      box_of_key slots after j within ∙ each j within)
    where
      slot : ℕ
      slot = get_or slots k 0

      after : List Window
      after = set row slot area

      each : (j : ℕ) → j < length slots → box_at after (get_or slots j 0) ≡ box_at (set (boxes_by_key slots row) k area) j
      each j within = elim (cases_eq j k) [
        | inl e ↦
            ap (λ (i : ℕ). box_at after (get_or slots i 0)) e
            ∙ get_or-set_same row slot area no_box (there (length row) keys slots h.inverse k l).0
            ∙ sym (ap (box_at (set (boxes_by_key slots row) k area)) e ∙ get_or-set_same (boxes_by_key slots row) k area no_box (omega (arith, l, count)))
        | inr ne ↦
            get_or-set_other row slot (get_or slots j 0) area no_box
            (places_apart (length row) keys slots h.inverse j k (omega (arith, within, h.inverse.long)) l ne)
            ∙ sym (get_or-set_other (boxes_by_key slots row) k j area no_box ne ∙ box_of_key slots row j within)
      ]

  -- what meets an area in the slots has keys
  pub slots_near : (area : Window) (given places : List ℕ) → given ≡ keys → places ≡ near_boxes area row → All (λ i. i < length given) places
  slots_near area given places is are =
      subst₂ (λ (n : ℕ) (xs : List ℕ). All (λ i. i < n) xs) (sym (ap length is ∙ order_length (length row) keys h.inverse.all)) (sym are) (near_below area row)

  -- and those are the places of what meets it, in another order
  pub keys_near : (area : Window) → IsPermutation (near_boxes area (boxes_by_key slots row)) (map (λ i. get_or keys i 0) (near_boxes area row))
  keys_near area = near_ordered area (boxes_by_key slots row) keys row ordered

  -- the slot of a key is one of the row
  pub slot_within : (k : ℕ) → k < length (boxes_by_key slots row) → get_or slots k 0 < length row
  slot_within k l = (there (length row) keys slots h.inverse k (omega (arith, l, count))).0

  -- and it is read with any default
  pub slot_of : (k d : ℕ) → k < length (boxes_by_key slots row) → get_or slots k d ≡ get_or slots k 0
  slot_of k d l = get_or_default slots k d 0 (omega (arith, l, length-map slots (box_at row)))

-- boxes that were put in an order are there by their keys
pub boxes_back : (boxes : List Window) (keys slots : List ℕ) → AreInverse (length boxes) keys slots → boxes_by_key slots (map (box_at boxes) keys) ≡ boxes
boxes_back boxes keys slots h = ext_get_or no_box (boxes_by_key slots row) boxes (length-map slots (box_at row) ∙ h.long) (λ k l.
    let within : k < length slots = omega (arith, l, length-map slots (box_at row)) in
    let at = there (length boxes) keys slots h k (omega (arith, within, h.long)) in
    box_of_key slots row k within
    ∙ get_or-map (box_at boxes) keys (get_or slots k 0) 0 no_box (omega (arith, at.0, order_length (length boxes) keys h.all))
    ∙ ap (box_at boxes) at.1)
  where
    row : List Window
    row = map (box_at boxes) keys
