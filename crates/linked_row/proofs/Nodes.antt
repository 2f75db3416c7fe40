-- The nodes of a row and their neighbours.
use Rattle.std.proofs.Common.{◌≡◌, ⊎_elim, inl, inr, ℕ, zero, suc, ◌+◌, ◌-◌, ◌<◌, ◌≤◌, ◌^◌, not, IsTrue, eqb, List, [], ◌∷◌, map, length, get_or, Contains, refl, sym, ap, ◌∙◌, subst, arith}
use Rattle.std.specs.List.{IsDistinct, range_with_len}
use Rattle.std.proofs.lemmas.Bool.{cases_lt, eq-eqb, ne_eqb, true≢false}
use Rattle.std.proofs.lemmas.List.{get_or_default, get_or_append_left, get_or_push, length_push, get_or-map, length-map}
use Rattle.std.proofs.lemmas.List.Edits.{insert_end}
use Rattle.std.proofs.lemmas.List.FromFn.{length-map-range_with_len, get_or-map-range_with_len}
use Rattle.linked_row.specs.declared.links.Node.{Node}
use Rattle.linked_row.specs.Linked.{Linked, AreLinks, IsNode, uppers, lowers, next_below, linked_by, lone, aboves, belows}
use Rattle.linked_row.proofs.Neighbours.{AreApart, IsNew}
use Rattle.linked_row.proofs.Distinct.{are_apart, distinct_cons, distinct_insert}

-- ---- the row that begins below the end

below_is : (below row : List ℕ) (n : ℕ) → ((k : ℕ) → k < length row → get_or below (get_or (n ∷ row) k 0) 0 ≡ get_or row k 0) → next_below below (length row) n ≡ row
unfolding next_below
below_is below [] n is = refl
below_is below (m ∷ row) n is =
    let first : get_or below n 0 ≡ m = is 0 (omega arith) in
    ap (λ j. j ∷ next_below below (length row) j) first ∙ ap (λ zs. m ∷ zs) (below_is below row m (λ k l. is (suc k) (omega (arith, l))))

below_length : (below : List ℕ) (k n : ℕ) → length (next_below below k n) ≡ k
unfolding next_below
below_length below zero n = refl
below_length below (suc k) n = ap suc (below_length below k (get_or below n 0))

linked_eq : (n m : ℕ) (xs ys : List ℕ) → n ≡ m → xs ≡ ys → ◌≡◌ {A = Linked} (record { count = n; row = xs }) (record { count = m; row = ys })
linked_eq n m xs ys e f = ap (λ k. record { count = k; row = xs }) e ∙ ap (λ zs. record { count = m; row = zs }) f

-- what is known of the fields is known of the row that they show
pub opened : (above below : List ℕ) (len : ℕ) (l : Linked) → AreLinks above below (linked_by below len) → linked_by below len ≡ l → AreLinks above below l × (len ≡ length l.row)
opened above below len l is view = (subst (AreLinks above below) view is, sym (below_length below len (length below - 1)) ∙ ap (λ (t : Linked). length t.row) view)

module _ (above below : List ℕ) (l : Linked) (is : AreLinks above below l) where
  pub linked_is : (len : ℕ) → len ≡ length l.row → linked_by below len ≡ l
  linked_is len long =
      let count : length below - 1 ≡ l.count = omega (arith, is.below_length) in
      linked_eq (length below - 1) l.count (next_below below len (length below - 1)) l.row count
      (ap (λ k. next_below below k (length below - 1)) long ∙ ap (next_below below (length l.row)) count
      ∙ below_is below l.row l.count (λ k less. is.down k (omega (arith, less)) ∙ get_or_append_left l.row (l.count ∷ []) 0 k less))

  -- ---- places

  pub lowers_length : length (lowers l) ≡ length l.row + 1
  lowers_length = length_push l.row l.count

  pub end_is_new : IsNew l.row l.count
  end_is_new j less e = absurd (omega (arith, is.known j 0 less, e))

  pub uppers_apart : AreApart (uppers l)
  uppers_apart = are_apart (uppers l) (distinct_cons l.count l.row end_is_new is.differ)

  pub lowers_distinct : IsDistinct eqb (lowers l)
  lowers_distinct = subst (λ zs. IsDistinct eqb zs) (insert_end l.row l.count) (distinct_insert l.row (length l.row) l.count end_is_new is.differ)

  pub lowers_apart : AreApart (lowers l)
  lowers_apart = are_apart (lowers l) lowers_distinct

  pub upper_within : (k : ℕ) → k ≤ length l.row → get_or (uppers l) k 0 ≤ l.count
  upper_within zero le = omega arith
  upper_within (suc k) le = omega (arith, is.known k 0 (omega (arith, le)))

  pub lower_row : (k : ℕ) → k < length l.row → get_or (lowers l) k 0 ≡ get_or l.row k 0
  lower_row k less = get_or_append_left l.row (l.count ∷ []) 0 k less

  pub lower_end : (k : ℕ) → k ≡ length l.row → get_or (lowers l) k 0 ≡ l.count
  lower_end k e = get_or_push l.row l.count 0 k (sym e)

  pub lower_within : (k : ℕ) → k ≤ length l.row → get_or (lowers l) k 0 ≤ l.count
  lower_within k le = ⊎_elim
      (λ less. omega (arith, lower_row k less, is.known k 0 less))
      (λ past. omega (arith, lower_end k (omega (arith, le, past))))
      (cases_lt k (length l.row))

  -- ---- a node has a place among the uppers, and one among the lowers

  pub upper_place : (n : ℕ) → IsNode l n → (k : ℕ) × (k ≤ length l.row) × (get_or (uppers l) k 0 ≡ n)
  upper_place n (inl e) = (0, omega arith, sym e)
  upper_place n (inr h) = (suc h.0, omega (arith, h.1), get_or_default l.row h.0 0 n h.1 ∙ h.2)

  pub lower_place : (n : ℕ) → IsNode l n → (k : ℕ) × (k ≤ length l.row) × (get_or (lowers l) k 0 ≡ n)
  lower_place n (inl e) = (length l.row, omega arith, lower_end (length l.row) refl ∙ sym e)
  lower_place n (inr h) = (h.0, omega (arith, h.1), lower_row h.0 h.1 ∙ get_or_default l.row h.0 0 n h.1 ∙ h.2)

  row_node : (k : ℕ) → k < length l.row → IsNode l (get_or l.row k 0)
  row_node k less = inr (k, less, get_or_default l.row k (get_or l.row k 0) 0 less)

  pub upper_node : (k : ℕ) → k ≤ length l.row → IsNode l (get_or (uppers l) k 0)
  upper_node zero le = inl refl
  upper_node (suc k) le = row_node k (omega (arith, le))

  pub lower_node : (k : ℕ) → k ≤ length l.row → IsNode l (get_or (lowers l) k 0)
  lower_node k le = ⊎_elim
      (λ less. subst (IsNode l) (sym (lower_row k less)) (row_node k less))
      (λ past. inl (lower_end k (omega (arith, le, past))))
      (cases_lt k (length l.row))

  pub node_row : (n : ℕ) → IsNode l n → n < l.count → Contains l.row n
  node_row n (inl e) less = absurd (omega arith)
  node_row n (inr h) less = h

  pub node_within : (n : ℕ) → IsNode l n → n ≤ l.count
  node_within n h = let p = upper_place n h in omega (arith, upper_within p.0 p.1, p.2)

  -- below a node stands a node, and above it too
  pub below_node : (n : ℕ) → IsNode l n → IsNode l (get_or below n 0)
  below_node n h =
      let p = upper_place n h in
      subst (IsNode l) (sym (is.down p.0 p.1) ∙ ap (λ (m : ℕ). get_or below m 0) p.2) (lower_node p.0 p.1)

  pub above_node : (n : ℕ) → IsNode l n → IsNode l (get_or above n 0)
  above_node n h =
      let p = lower_place n h in
      subst (IsNode l) (sym (is.up p.0 p.1) ∙ ap (λ (m : ℕ). get_or above m 0) p.2) (upper_node p.0 p.1)

  -- a number is in the row where it does not stand below itself
  pub linked_inside : (n : ℕ) → n < l.count → (get_or below n 0 ≡ n → ⊥) → Contains l.row n
  linked_inside n less ne = ⊎_elim (λ h. h) (λ e. absurd (ne e)) (is.free n less)

  pub inside_linked : (n : ℕ) → Contains l.row n → get_or below n 0 ≡ n → ⊥
  inside_linked n h e =
      let k = h.0 in
      let here : get_or l.row k 0 ≡ n = get_or_default l.row k 0 n h.1 ∙ h.2 in
      let next : get_or (lowers l) (suc k) 0 ≡ n = sym (is.down (suc k) (omega (arith, h.1))) ∙ ap (λ (m : ℕ). get_or below m 0) here ∙ e in
      lowers_apart k (suc k) (omega (arith, h.1, lowers_length)) (omega (arith, h.1, lowers_length)) (λ f. absurd (omega (arith, f)))
      (lower_row k h.1 ∙ here ∙ sym next)

  -- the test of the code tells it
  pub inside_told : (n m : ℕ) → n < l.count → m ≡ get_or below n m → (IsTrue (not (eqb m n)) → Contains l.row n) × (Contains l.row n → IsTrue (not (eqb m n)))
  inside_told n m less read =
      let next : m ≡ get_or below n 0 = read ∙ get_or_default below n m 0 (omega (arith, less, is.below_length)) in
      (λ t. linked_inside n less (λ e. true≢false (sym t ∙ ap not (eq-eqb m n (next ∙ e)))), λ h. ap not (ne_eqb m n (λ e. inside_linked n h (sym next ∙ e))))

  -- what is read at a node
  pub read_below : (n m : ℕ) → IsNode l n → m ≡ get_or below n m → IsNode l m
  read_below n m node read =
      let next : m ≡ get_or below n 0 = read ∙ get_or_default below n m 0 (omega (arith, node_within n node, is.below_length)) in
      subst (IsNode l) (sym next) (below_node n node)

  pub read_above : (n m : ℕ) → IsNode l n → m ≡ get_or above n m → IsNode l m
  read_above n m node read =
      let next : m ≡ get_or above n 0 = read ∙ get_or_default above n m 0 (omega (arith, node_within n node, is.above_length)) in
      subst (IsNode l) (sym next) (above_node n node)

-- ---- no number

pub empty_links : (nodes : List Node) (count : ℕ) → count < 2 ^ 32 → nodes ≡ map (lone count) (range_with_len 0 (count + 1)) → AreLinks (aboves nodes) (belows nodes) (record { count = count; row = [] })
unfolding IsDistinct
empty_links nodes count few are = record {
  above_length = size (λ (n : Node). n.above);
  below_length = size (λ (n : Node). n.below);
  few = few;
  differ = tt;
  known = λ k d less. absurd (omega arith);
  down = down;
  up = up;
  free = λ n less. inr (entry (λ (m : Node). m.below) n 0 (omega (arith, less)));
  bound = λ k d less. omega (arith, entry (λ (n : Node). n.above) k d (omega (arith, less, size (λ (n : Node). n.above))));
}
  where
    size : (f : Node → ℕ) → length (map f nodes) ≡ count + 1
    size f = length-map nodes f ∙ ap length are ∙ length-map-range_with_len (lone count) 0 (count + 1)

    entry : (f : Node → ℕ) (k d : ℕ) → k < count + 1 → get_or (map f nodes) k d ≡ f (lone count k)
    entry f k d less = get_or-map f nodes k (lone count 0) d (omega (arith, less, length-map nodes f, size f))
        ∙ ap (λ (ns : List Node). f (get_or ns k (lone count 0))) are
        ∙ ap f (get_or-map-range_with_len (lone count) 0 (count + 1) k k (lone count 0) less (omega arith))

    down : (k : ℕ) → k ≤ 0 → get_or (belows nodes) (get_or (count ∷ []) k 0) 0 ≡ get_or (count ∷ []) k 0
    down zero le = entry (λ (n : Node). n.below) count 0 (omega arith)
    down (suc k) le = absurd (omega arith)

    up : (k : ℕ) → k ≤ 0 → get_or (aboves nodes) (get_or (count ∷ []) k 0) 0 ≡ get_or (count ∷ []) k 0
    up zero le = entry (λ (n : Node). n.above) count 0 (omega arith)
    up (suc k) le = absurd (omega arith)
