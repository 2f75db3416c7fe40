-- The generated map is a base map for n from 1 to 147, with n * n faces, 2 * n * (n + 1) arcs and 6 * n * (n + 1) points.
use Rattle.std.proofs.Common.{◌≡◌, ◌≢◌, ◌⊎◌, inl, inr, ℕ, ◌+◌, ◌-◌, ◌*◌, ◌/◌, ◌%◌, ◌<◌, ◌≤◌, ◌==◌, Bool, true, cond, not, ◌&&◌, nat_lt, pos, neg_ℤ, int_le, List, [], ◌∷◌, ◌++◌, length, length-append, All, Contains, Some, None, refl, sym, ap, ◌∙◌, subst, eq-eqb, arith}
use Rattle.std.specs.List.{range_with_len, list_all, list_any}
use Rattle.std.proofs.lemmas.Int.{ints}
use Rattle.std.proofs.lemmas.Nat.{mul-le}
use Rattle.std.proofs.lemmas.Bool.{and_from, or_left, cases_lt, cases_eq, ne_eqb, false_from_ne_true, le-leb, lt-ltb}
use Rattle.std.proofs.lemmas.List.FromFn.{length-map-range_with_len, get_or-range_with_len, length-range_with_len}
use Rattle.std.proofs.lemmas.List.Elements.{All-append, All-head, All-tail, Contains-append_left}
use Rattle.std.proofs.lemmas.List.Sums.{list_all-from_AllPass, sum_by-cons}
use Rattle.std.proofs.lemmas.List.Folds.{list_any_at}
use Rattle.lemmas.proofs.Signs.{Decides-int_le}
use Rattle.lemmas.proofs.Members.{Contains-flat_map, Contains-map}
use Rattle.tgap_model.specs.declared.geometry.Point.{Point}
use Rattle.tgap_model.specs.declared.base.Rules.{Rules}
use Rattle.tgap_model.specs.declared.base.BaseArc.{BaseArc}
use Rattle.tgap_model.specs.declared.limits.TheConstants.{MAX_COORDINATE, MAX_POINTS, MAX_ARCS, MAX_FACES}
use Rattle.tgap_model.specs.Base.{BaseMap, is_transform, is_rules, is_arc, is_base, in_limits, same_point, borders_face, all_faces_bordered, count_points, checked}
use Rattle.grid_geo.proofs.PointOrder.{points}
use Rattle.generator.specs.GridMap.{mix, node_x, node_y, bend_x, bend_y, grid_point, node, level_bend, upright_bend, cell_face, cell_class, face_above, face_below, face_before, face_behind, level_arc, upright_arc, level_row, upright_column, level_arcs, upright_arcs, row_classes, grid_classes, grid_rules, grid_transform, grid_base}
use Rattle.generator.proofs.Ranges.{All-made, All-mapped, in_range, length_of_lists}

-- ---- how many there are

pub count_classes : (n : ℕ) → length (grid_classes n) ≡ n * n
count_classes n = length_of_lists (row_classes n) n 0 n (λ j. length-map-range_with_len (λ i. cell_class i j) 0 n)

count_levels : (n : ℕ) → length (level_arcs n) ≡ (n + 1) * n
count_levels n = length_of_lists (level_row n) n 0 (n + 1) (λ j. length-map-range_with_len (λ i. level_arc n i j) 0 n)

count_uprights : (n : ℕ) → length (upright_arcs n) ≡ (n + 1) * n
count_uprights n = length_of_lists (upright_column n) n 0 (n + 1) (λ i. length-map-range_with_len (λ j. upright_arc n i j) 0 n)

abbrev grid_arcs : ℕ → List BaseArc
grid_arcs n = level_arcs n ++ upright_arcs n

pub count_arcs : (n : ℕ) → length (grid_arcs n) ≡ 2 * ((n + 1) * n)
count_arcs n = length-append (level_arcs n) (upright_arcs n) ∙ omega (arith, count_levels n, count_uprights n)

-- what holds of each arc
each_grid_arc : (P : BaseArc → Type 0) (n : ℕ) → ((i j : ℕ) → i < n → j ≤ n → P (level_arc n i j)) → ((i j : ℕ) → i ≤ n → j < n → P (upright_arc n i j)) → All P (grid_arcs n)
each_grid_arc P n f g = All-append P (level_arcs n) (upright_arcs n)
    (All-made P (level_row n) (n + 1) (λ j h. All-mapped P (λ i. level_arc n i j) n (λ i k. f i j k (omega arith))))
    (All-made P (upright_column n) (n + 1) (λ i h. All-mapped P (λ j. upright_arc n i j) n (λ j k. g i j (omega arith) k)))

of_three : (arcs : List BaseArc) → All (λ a. length a.points ≡ 3) arcs → count_points arcs ≡ 3 * length arcs
of_three [] h = refl
of_three (a ∷ arcs) h =
    let first = All-head (λ (b : BaseArc). length b.points ≡ 3) a arcs h in
    let later = of_three arcs (All-tail (λ (b : BaseArc). length b.points ≡ 3) a arcs h) in
    sum_by-cons (λ (b : BaseArc). length b.points) a arcs ∙ omega arith

pub count_all_points : (n : ℕ) → count_points (grid_arcs n) ≡ 6 * ((n + 1) * n)
count_all_points n =
    let three = of_three (grid_arcs n) (each_grid_arc (λ a. length a.points ≡ 3) n (λ i j h k. refl) (λ i j h k. refl)) in
    omega (arith, three, count_arcs n)

-- ---- the form of an arc

-- a whole number that is not large is within the limits
near : (x : ℕ) → x ≤ 4000 → (int_le (neg_ℤ MAX_COORDINATE) (pos x) && int_le (pos x) MAX_COORDINATE) ≡ true
near x h = and_from _ _ ((Decides-int_le (neg_ℤ MAX_COORDINATE) (pos x)).1 (omega (arith, ints))) ((Decides-int_le (pos x) MAX_COORDINATE).1 (omega (arith, ints)))

near_point : (x y : ℕ) → x ≤ 4000 → y ≤ 4000 → in_limits (grid_point x y) ≡ true
near_point x y h k = and_from _ _ (near x h) (near y k)

-- nodes and bends, which are moved by a remainder
moved_near : (i m : ℕ) → i ≤ 148 → 16 * i + m % 4 ≤ 4000
moved_near i m h = omega arith

before_bend : (i m : ℕ) → pos (16 * i + m % 4) ≢ pos (16 * i + 8)
before_bend i m e = omega (arith, ints)

behind_bend : (i m : ℕ) → pos (16 * i + 8) ≢ pos (16 * (i + 1) + m % 4)
behind_bend i m e = omega (arith, ints)

points_apart : (a b : Point) → (a.x ≡ b.x → a.y ≡ b.y → ⊥) → not (same_point a b) ≡ true
points_apart a b h = ap not (false_from_ne_true (same_point a b) (λ e. let p = points.same a b e in h (ap (λ (q : Point). q.x) p) (ap (λ (q : Point). q.y) p)))

arc_form : (n l r : ℕ) (p q s : Point) → l ≤ n → r ≤ n → l ≢ r → in_limits p ≡ true → in_limits q ≡ true → in_limits s ≡ true → not (same_point p q) ≡ true → not (same_point q s) ≡ true
    → is_arc n (record { left = l; right = r; points = p ∷ q ∷ s ∷ [] }) ≡ true
unfolding is_arc
arc_form n l r p q s hl hr differ ip iq is pq qs =
    and_from _ _ (and_from _ _ (and_from _ _ (and_from _ _ (and_from _ _ (le-leb l n hl) (le-leb r n hr)) (ap not (ne_eqb l r differ))) refl)
    (and_from _ _ ip (and_from _ _ iq (and_from _ _ is refl)))) (and_from _ _ pq (and_from _ _ qs refl))

-- ---- faces

-- a face, or the outside where a test holds
face_cases : (x y z : ℕ) → ((y ≡ z) × (cond (y == z) 0 x ≡ 0)) ⊎ ((y ≢ z) × (cond (y == z) 0 x ≡ x))
face_cases x y z = elim (cases_eq y z) [
  | inl e ↦ inl (e, ap (λ (b : Bool). cond b 0 x) (eq-eqb y z e))
  | inr e ↦ inr (e, ap (λ (b : Bool). cond b 0 x) (ne_eqb y z e))
]

cell_small : (n i j : ℕ) → i < n → j < n → cell_face n i j ≤ n * n
cell_small n i j h k = let product = mul-le (j + 1) n n n (omega arith) (omega arith) in omega arith

row_before : (n j : ℕ) → 0 < j → j * n ≡ (j - 1) * n + n
row_before n j h = let one : j ≡ j - 1 + 1 = omega arith in ap (λ (a : ℕ). a * n) one ∙ row_after (j - 1)
  where
    row_after : (m : ℕ) → (m + 1) * n ≡ m * n + n
    row_after m = omega arith

module _ (n : ℕ) where
  above_small : (i j : ℕ) → i < n → j ≤ n → face_above n i j ≤ n * n
  above_small i j h k = elim (face_cases (cell_face n i j) j n) [
    | inl e ↦ omega (arith, e.1)
    | inr e ↦ omega (arith, e.1, cell_small n i j h (omega (arith, e.0)))
  ]

  below_small : (i j : ℕ) → i < n → j ≤ n → face_below n i j ≤ n * n
  below_small i j h k = elim (face_cases (cell_face n i (j - 1)) j 0) [
    | inl e ↦ omega (arith, e.1)
    | inr e ↦ omega (arith, e.1, cell_small n i (j - 1) h (omega (arith, e.0)))
  ]

  before_small : (i j : ℕ) → i ≤ n → j < n → face_before n i j ≤ n * n
  before_small i j h k = elim (face_cases (cell_face n (i - 1) j) i 0) [
    | inl e ↦ omega (arith, e.1)
    | inr e ↦ omega (arith, e.1, cell_small n (i - 1) j (omega (arith, e.0)) k)
  ]

  behind_small : (i j : ℕ) → i ≤ n → j < n → face_behind n i j ≤ n * n
  behind_small i j h k = elim (face_cases (cell_face n i j) i n) [
    | inl e ↦ omega (arith, e.1)
    | inr e ↦ omega (arith, e.1, cell_small n i j (omega (arith, e.0)) k)
  ]

  level_differ : (i j : ℕ) → i < n → j ≤ n → face_above n i j ≢ face_below n i j
  level_differ i j h k same = by (face_cases (cell_face n i j) j n) (face_cases (cell_face n i (j - 1)) j 0)
    where
      by : ((j ≡ n) × (face_above n i j ≡ 0)) ⊎ ((j ≢ n) × (face_above n i j ≡ cell_face n i j))
          → ((j ≡ 0) × (face_below n i j ≡ 0)) ⊎ ((j ≢ 0) × (face_below n i j ≡ cell_face n i (j - 1))) → ⊥
      by (inl e) (inl f) = omega (arith, e.0, f.0)
      by (inl e) (inr f) = omega (arith, e.1, f.1, same)
      by (inr e) (inl f) = omega (arith, e.1, f.1, same)
      by (inr e) (inr f) = omega (arith, e.1, f.1, same, row_before n j (omega (arith, f.0)))

  upright_differ : (i j : ℕ) → i ≤ n → j < n → face_before n i j ≢ face_behind n i j
  upright_differ i j h k same = by (face_cases (cell_face n (i - 1) j) i 0) (face_cases (cell_face n i j) i n)
    where
      by : ((i ≡ 0) × (face_before n i j ≡ 0)) ⊎ ((i ≢ 0) × (face_before n i j ≡ cell_face n (i - 1) j))
          → ((i ≡ n) × (face_behind n i j ≡ 0)) ⊎ ((i ≢ n) × (face_behind n i j ≡ cell_face n i j)) → ⊥
      by (inl e) (inl f) = omega (arith, e.0, f.0)
      by (inl e) (inr f) = omega (arith, e.1, f.1, same)
      by (inr e) (inl f) = omega (arith, e.1, f.1, same)
      by (inr e) (inr f) = omega (arith, e.1, f.1, same, e.0)

  module _ (few : n ≤ 147) where
    level_form : (i j : ℕ) → i < n → j ≤ n → is_arc (n * n) (level_arc n i j) ≡ true
    level_form i j h k = arc_form (n * n) (face_above n i j) (face_below n i j) (node i j) (level_bend i j) (node (i + 1) j)
        (above_small i j h k) (below_small i j h k) (level_differ i j h k)
        (near_point (node_x i j) (node_y i j) (moved_near i (mix i j 0) (omega arith)) (moved_near j (mix i j 0 / 4) (omega arith)))
        (near_point (16 * i + 8) (bend_y i j) (omega arith) (moved_near j (mix i j 1) (omega arith)))
        (near_point (node_x (i + 1) j) (node_y (i + 1) j) (moved_near (i + 1) (mix (i + 1) j 0) (omega arith)) (moved_near j (mix (i + 1) j 0 / 4) (omega arith)))
        (points_apart (node i j) (level_bend i j) (λ e f. before_bend i (mix i j 0) e))
        (points_apart (level_bend i j) (node (i + 1) j) (λ e f. behind_bend i (mix (i + 1) j 0) e))

    upright_form : (i j : ℕ) → i ≤ n → j < n → is_arc (n * n) (upright_arc n i j) ≡ true
    upright_form i j h k = arc_form (n * n) (face_before n i j) (face_behind n i j) (node i j) (upright_bend i j) (node i (j + 1))
        (before_small i j h k) (behind_small i j h k) (upright_differ i j h k)
        (near_point (node_x i j) (node_y i j) (moved_near i (mix i j 0) (omega arith)) (moved_near j (mix i j 0 / 4) (omega arith)))
        (near_point (bend_x i j) (16 * j + 8) (moved_near i (mix i j 2) (omega arith)) (omega arith))
        (near_point (node_x i (j + 1)) (node_y i (j + 1)) (moved_near i (mix i (j + 1) 0) (omega arith)) (moved_near (j + 1) (mix i (j + 1) 0 / 4) (omega arith)))
        (points_apart (node i j) (upright_bend i j) (λ e f. before_bend j (mix i j 0 / 4) f))
        (points_apart (upright_bend i j) (node i (j + 1)) (λ e f. behind_bend j (mix i (j + 1) 0 / 4) f))

    pub arcs_form : All (λ a. is_arc (n * n) a ≡ true) (grid_arcs n)
    arcs_form = each_grid_arc (λ a. is_arc (n * n) a ≡ true) n level_form upright_form

-- ---- each face has a border: the level arc below its cell

level_there : (n i j : ℕ) → i < n → j ≤ n → Contains (grid_arcs n) (level_arc n i j)
level_there n i j h k = Contains-append_left (level_arcs n) (upright_arcs n) (level_arc n i j)
    (Contains-flat_map (level_row n) (range_with_len 0 (n + 1)) j (level_arc n i j) (in_range (n + 1) j (omega arith))
    (Contains-map (λ a. level_arc n a j) (range_with_len 0 n) i (in_range n i h)))

below_cell : (n i j : ℕ) → i < n → j < n → list_any (borders_face (cell_face n i j)) (grid_arcs n) ≡ true
below_cell n i j h k =
    let there = level_there n i j h (omega arith) in
    let left : face_above n i j ≡ cell_face n i j = ap (λ (b : Bool). cond b 0 (cell_face n i j)) (ne_eqb j n (λ e. omega arith)) in
    let arc = level_arc n i j in
    let border : borders_face (cell_face n i j) arc ≡ true = or_left (arc.left == cell_face n i j) (arc.right == cell_face n i j) (eq-eqb arc.left (cell_face n i j) left) in
    list_any_at (borders_face (cell_face n i j)) (grid_arcs n) there.0 arc there.1 (subst (λ (a : BaseArc). borders_face (cell_face n i j) a ≡ true) (sym there.2) border)

face_has_border : (n m : ℕ) → 1 ≤ n → m < n * n → list_any (borders_face (1 + m)) (grid_arcs n) ≡ true
face_has_border n m some less =
    let whole : n * (m / n) + m % n ≡ m = omega arith in
    let i_less : m % n < n = omega arith in
    let j_less : m / n < n = elim (cases_lt (m / n) n) [ inl h ↦ h | inr h ↦ let product = mul-le n n n (m / n) (omega arith) h in absurd (omega arith) ] in
    subst (λ (f : ℕ). list_any (borders_face f) (grid_arcs n) ≡ true) (omega arith) (below_cell n (m % n) (m / n) i_less j_less)

pub faces_have_borders : (n : ℕ) → 1 ≤ n → all_faces_bordered (n * n) (grid_arcs n) ≡ true
faces_have_borders n some = list_all-from_AllPass (λ f. list_any (borders_face f) (grid_arcs n)) (range_with_len 1 (n * n)) (λ k d lt.
    let long = length-range_with_len 1 (n * n) in
    subst (λ (f : ℕ). list_any (borders_face f) (grid_arcs n) ≡ true) (sym (get_or-range_with_len 1 (n * n) k d (omega arith))) (face_has_border n k some (omega arith)))

-- ---- the map

classes_below : (n : ℕ) → list_all (λ c. nat_lt c 4) (grid_classes n) ≡ true
classes_below n = list_all-from_AllPass (λ c. nat_lt c 4) (grid_classes n)
    (All-made (λ c. nat_lt c 4 ≡ true) (row_classes n) n (λ j h. All-mapped (λ c. nat_lt c 4 ≡ true) (λ i. cell_class i j) n (λ i k. lt-ltb (cell_class i j) 4 (omega arith))))

transform_form : is_transform grid_transform ≡ true
unfolding is_transform
transform_form = refl

rules_form : is_rules grid_rules ≡ true
unfolding is_rules
rules_form = refl

pub grid_is_base : (n : ℕ) → 1 ≤ n → n ≤ 147 → is_base (grid_base n) ≡ true
unfolding is_base grid_base
grid_is_base n some few =
    let square = mul-le n n 147 147 few few in
    let oblong = mul-le (n + 1) n 148 147 (omega arith) few in
    and_from _ _ (and_from _ _ (and_from _ _ (and_from _ _ (and_from _ _ (and_from _ _ (and_from _ _ transform_form rules_form)
    (le-leb (length (grid_classes n)) MAX_FACES (omega (arith, count_classes n))))
    (classes_below n))
    (le-leb (length (grid_arcs n)) MAX_ARCS (omega (arith, count_arcs n))))
    (le-leb (count_points (grid_arcs n)) MAX_POINTS (omega (arith, count_all_points n))))
    (subst (λ (m : ℕ). list_all (is_arc m) (grid_arcs n) ≡ true) (sym (count_classes n)) (list_all-from_AllPass (is_arc (n * n)) (grid_arcs n) (arcs_form n few))))
    (subst (λ (m : ℕ). all_faces_bordered m (grid_arcs n) ≡ true) (sym (count_classes n)) (faces_have_borders n some))

-- its parts make it, and it is not refused
made_of : (n : ℕ) (rules : Rules) (classes : List ℕ) (arcs : List BaseArc) → rules ≡ grid_rules → classes ≡ grid_classes n → arcs ≡ grid_arcs n
    → ◌≡◌ {A = BaseMap} (record { transform = grid_transform; rules = rules; classes = classes; arcs = arcs }) (grid_base n)
unfolding grid_base
made_of n rules classes arcs e f g =
    ap (λ (r : Rules). record { transform = grid_transform; rules = r; classes = classes; arcs = arcs }) e
    ∙ ap (λ (ks : List ℕ). record { transform = grid_transform; rules = grid_rules; classes = ks; arcs = arcs }) f
    ∙ ap (λ (bs : List BaseArc). record { transform = grid_transform; rules = grid_rules; classes = grid_classes n; arcs = bs }) g

pub made_of_parts : (n : ℕ) (rules : Rules) (classes : List ℕ) (arcs : List BaseArc) → 1 ≤ n → n ≤ 147 → rules ≡ grid_rules → classes ≡ grid_classes n → arcs ≡ grid_arcs n
    → checked (record { transform = grid_transform; rules = rules; classes = classes; arcs = arcs }) ≡ Some (grid_base n)
made_of_parts n rules classes arcs some few e f g =
    ap checked (made_of n rules classes arcs e f g) ∙ ap (λ (b : Bool). cond b (Some (grid_base n)) None) (grid_is_base n some few)
