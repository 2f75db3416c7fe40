-- The segments of the generated map are those of a layout.
use Rattle.std.proofs.Common.{◌≡◌, ◌≢◌, ◌⊎◌, inl, inr, ℕ, zero, suc, ◌+◌, ◌-◌, ◌*◌, ◌/◌, ◌%◌, ◌<◌, ◌≤◌, ◌==◌, Bool, cond, List, [], ◌∷◌, ◌++◌, map, flat_map, length, refl, sym, ap, ap₂, ◌∙◌, eq-eqb, arith}
use Rattle.std.specs.List.{range_with_len}
use Rattle.std.proofs.lemmas.Bool.{cases_lt, cases_eq, ne_eqb}
use Rattle.std.proofs.lemmas.List.{append_assoc}
use Rattle.std.proofs.lemmas.List.FromFn.{length-map-range_with_len}
use Rattle.tgap_model.specs.declared.base.BaseArc.{BaseArc}
use Rattle.tgap_model.specs.declared.segment.LabelledSegment.{LabelledSegment}
use Rattle.tgap_model.specs.Partition.{path_segments, arc_segments, base_segments}
use Rattle.generator.specs.GridMap.{mix, node_x, node_y, bend_x, bend_y, node, level_bend, upright_bend, cell_face, face_above, face_below, face_before, face_behind, level_arc, upright_arc, level_row, upright_column, level_arcs, upright_arcs, grid_base}
use Rattle.generator.proofs.Ranges.{flat_map_same}
use Rattle.generator.proofs.Layouts.{Layout, IsLayout, IsBeyond, level_halves, upright_halves, row_halves, column_halves, all_halves}

-- ---- the faces of the cells, and the outside round them

abbrev region_by : (n a b : ℕ) → (0 < a) ⊎ (a ≤ 0) → (n < a) ⊎ (a ≤ n) → (0 < b) ⊎ (b ≤ 0) → (n < b) ⊎ (b ≤ n) → ℕ
region_by n a b (inl p) (inl q) r s = 0
region_by n a b (inl p) (inr q) (inl r) (inl s) = 0
region_by n a b (inl p) (inr q) (inl r) (inr s) = cell_face n (a - 1) (b - 1)
region_by n a b (inl p) (inr q) (inr r) s = 0
region_by n a b (inr p) q r s = 0

pub region_of : ℕ → ℕ → ℕ → ℕ
region_of n a b = region_by n a b (cases_lt 0 a) (cases_lt n a) (cases_lt 0 b) (cases_lt n b)

is_outside : (n a b : ℕ) → (a ≡ 0) ⊎ ((n < a) ⊎ ((b ≡ 0) ⊎ (n < b))) → (p : (0 < a) ⊎ (a ≤ 0)) (q : (n < a) ⊎ (a ≤ n)) (r : (0 < b) ⊎ (b ≤ 0)) (s : (n < b) ⊎ (b ≤ n))
    → region_by n a b p q r s ≡ 0
is_outside n a b h (inl p) (inl q) r s = refl
is_outside n a b h (inl p) (inr q) (inl r) (inl s) = refl
is_outside n a b (inl h) (inl p) (inr q) (inl r) (inr s) = absurd (omega arith)
is_outside n a b (inr (inl h)) (inl p) (inr q) (inl r) (inr s) = absurd (omega arith)
is_outside n a b (inr (inr (inl h))) (inl p) (inr q) (inl r) (inr s) = absurd (omega arith)
is_outside n a b (inr (inr (inr h))) (inl p) (inr q) (inl r) (inr s) = absurd (omega arith)
is_outside n a b h (inl p) (inr q) (inr r) s = refl
is_outside n a b h (inr p) q r s = refl

is_inside : (n a b : ℕ) → 0 < a → a ≤ n → 0 < b → b ≤ n → (p : (0 < a) ⊎ (a ≤ 0)) (q : (n < a) ⊎ (a ≤ n)) (r : (0 < b) ⊎ (b ≤ 0)) (s : (n < b) ⊎ (b ≤ n))
    → region_by n a b p q r s ≡ cell_face n (a - 1) (b - 1)
is_inside n a b f g h k (inl p) (inl q) r s = absurd (omega arith)
is_inside n a b f g h k (inl p) (inr q) (inl r) (inl s) = absurd (omega arith)
is_inside n a b f g h k (inl p) (inr q) (inl r) (inr s) = refl
is_inside n a b f g h k (inl p) (inr q) (inr r) s = absurd (omega arith)
is_inside n a b f g h k (inr p) q r s = absurd (omega arith)

outside : (n a b : ℕ) → (a ≡ 0) ⊎ ((n < a) ⊎ ((b ≡ 0) ⊎ (n < b))) → region_of n a b ≡ 0
unfolding region_of
outside n a b h = is_outside n a b h (cases_lt 0 a) (cases_lt n a) (cases_lt 0 b) (cases_lt n b)

inside : (n a b i j : ℕ) → 0 < a → a ≤ n → 0 < b → b ≤ n → a ≡ i + 1 → b ≡ j + 1 → region_of n a b ≡ cell_face n i j
unfolding region_of
inside n a b i j f g h k e d =
    is_inside n a b f g h k (cases_lt 0 a) (cases_lt n a) (cases_lt 0 b) (cases_lt n b)
    ∙ ap₂ (cell_face n) (omega arith) (omega arith)

-- a number where a test fails, and 0 where it does not
chosen : (x y z : ℕ) → ((y ≡ z) ⊎ (y ≢ z)) → {w : ℕ} → (y ≡ z → w ≡ 0) → (y ≢ z → w ≡ x) → cond (y == z) 0 x ≡ w
chosen x y z (inl e) f g = ap (λ (b : Bool). cond b 0 x) (eq-eqb y z e) ∙ sym (f e)
chosen x y z (inr e) f g = ap (λ (b : Bool). cond b 0 x) (ne_eqb y z e) ∙ sym (g e)

module _ (n : ℕ) where
  above_is : (i j : ℕ) → i < n → j ≤ n → face_above n i j ≡ region_of n (i + 1) (j + 1)
  above_is i j h k = chosen (cell_face n i j) j n (cases_eq j n) (λ e. outside n (i + 1) (j + 1) (inr (inr (inr (omega arith)))))
      (λ e. inside n (i + 1) (j + 1) i j (omega arith) (omega arith) (omega arith) (omega arith) refl refl)

  below_is : (i j : ℕ) → i < n → j ≤ n → face_below n i j ≡ region_of n (i + 1) j
  below_is i j h k = chosen (cell_face n i (j - 1)) j 0 (cases_eq j 0) (λ e. outside n (i + 1) j (inr (inr (inl e))))
      (λ e. inside n (i + 1) j i (j - 1) (omega arith) (omega arith) (omega arith) (omega arith) refl (omega arith))

  before_is : (i j : ℕ) → i ≤ n → j < n → face_before n i j ≡ region_of n i (j + 1)
  before_is i j h k = chosen (cell_face n (i - 1) j) i 0 (cases_eq i 0) (λ e. outside n i (j + 1) (inl e))
      (λ e. inside n i (j + 1) (i - 1) j (omega arith) (omega arith) (omega arith) (omega arith) (omega arith) refl)

  behind_is : (i j : ℕ) → i ≤ n → j < n → face_behind n i j ≡ region_of n (i + 1) (j + 1)
  behind_is i j h k = chosen (cell_face n i j) i n (cases_eq i n) (λ e. outside n (i + 1) (j + 1) (inr (inl (omega arith))))
      (λ e. inside n (i + 1) (j + 1) i j (omega arith) (omega arith) (omega arith) (omega arith) refl refl)

-- ---- the layout

-- how many arcs stand before the upright ones
abbrev first_upright : ℕ → ℕ
first_upright n = 0 + length (level_arcs n)

abbrev pub grid_layout : ℕ → Layout
grid_layout n = record {
  size = n;
  node_x = node_x;
  node_y = node_y;
  bend_x = bend_x;
  bend_y = bend_y;
  region = region_of n;
  level_number = λ i j. 0 + j * n + i;
  upright_number = λ i j. first_upright n + i * n + j;
}

beyond : (i m : ℕ) → IsBeyond i (16 * i + m % 4)
beyond i m = record { low = omega arith; high = omega arith }

pub grid_is_layout : (n : ℕ) → IsLayout (grid_layout n)
grid_is_layout n = record {
  node_x = λ i j. beyond i (mix i j 0);
  node_y = λ i j. beyond j (mix i j 0 / 4);
  bend_x = λ i j. beyond i (mix i j 2);
  bend_y = λ i j. beyond j (mix i j 1);
  before_all = λ b. outside n 0 b (inl refl);
  behind_all = λ a b h. outside n a b (inr (inl h));
  below_all = λ a. outside n a 0 (inr (inr (inl refl)));
  above_all = λ a b h. outside n a b (inr (inr (inr h)));
}

-- ---- the segments of lists of arcs

abbrev path_of : ℕ → BaseArc → List LabelledSegment
path_of k a = path_segments k a.left a.right 0 a.points

arc_segments-append : (k : ℕ) (xs ys : List BaseArc) → arc_segments k (xs ++ ys) ≡ arc_segments k xs ++ arc_segments (k + length xs) ys
arc_segments-append k [] ys = ap (λ (m : ℕ). arc_segments m ys) (omega arith)
arc_segments-append k (x ∷ xs) ys =
    ap (λ ss. path_of k x ++ ss) (arc_segments-append (k + 1) xs ys)
    ∙ sym (append_assoc (path_of k x) (arc_segments (k + 1) xs) (arc_segments (k + 1 + length xs) ys))
    ∙ ap (λ (m : ℕ). (path_of k x ++ arc_segments (k + 1) xs) ++ arc_segments m ys) (omega arith)

arcs_of_range : (f : ℕ → BaseArc) (k m a n : ℕ) → m ≡ k + a → arc_segments m (map f (range_with_len a n)) ≡ flat_map (λ x. path_of (k + x) (f x)) (range_with_len a n)
arcs_of_range f k m a zero e = refl
arcs_of_range f k m a (suc n) e =
    ap₂ (λ xs ys. xs ++ ys) (ap (λ (p : ℕ). path_of p (f a)) e) (arcs_of_range f k (m + 1) (a + 1) n (omega arith))

arcs_of_lists : (f : ℕ → List BaseArc) (w : ℕ) → ((x : ℕ) → length (f x) ≡ w) → (k m a n : ℕ) → m ≡ k + a * w
    → arc_segments m (flat_map f (range_with_len a n)) ≡ flat_map (λ x. arc_segments (k + x * w) (f x)) (range_with_len a n)
arcs_of_lists f w h k m a zero e = refl
arcs_of_lists f w h k m a (suc n) e =
    let long = h a in
    arc_segments-append m (f a) (flat_map f (range_with_len (a + 1) n))
    ∙ ap₂ (λ xs ys. xs ++ ys) (ap (λ (p : ℕ). arc_segments p (f a)) e) (arcs_of_lists f w h k (m + length (f a)) (a + 1) n (omega arith))

-- ---- the two are one

module _ (n : ℕ) where
  row_is : (j : ℕ) → j < n + 1 → arc_segments (0 + j * n) (level_row n j) ≡ row_halves (grid_layout n) j
  row_is j h =
      arcs_of_range (λ i. level_arc n i j) (0 + j * n) (0 + j * n) 0 n (omega arith)
      ∙ flat_map_same (λ i. path_of (0 + j * n + i) (level_arc n i j)) (λ i. level_halves (grid_layout n) i j) n (λ i less.
      ap₂ (λ (l r : ℕ). path_segments (0 + j * n + i) l r 0 (node i j ∷ level_bend i j ∷ node (i + 1) j ∷ [])) (above_is n i j less (omega arith)) (below_is n i j less (omega arith)))

  column_is : (i : ℕ) → i < n + 1 → arc_segments (first_upright n + i * n) (upright_column n i) ≡ column_halves (grid_layout n) i
  column_is i h =
      arcs_of_range (λ j. upright_arc n i j) (first_upright n + i * n) (first_upright n + i * n) 0 n (omega arith)
      ∙ flat_map_same (λ j. path_of (first_upright n + i * n + j) (upright_arc n i j)) (λ j. upright_halves (grid_layout n) i j) n (λ j less.
      ap₂ (λ (l r : ℕ). path_segments (first_upright n + i * n + j) l r 0 (node i j ∷ upright_bend i j ∷ node i (j + 1) ∷ [])) (before_is n i j (omega arith) less) (behind_is n i j (omega arith) less))

  pub segments_are_halves : base_segments (grid_base n) ≡ all_halves (grid_layout n)
  unfolding grid_base
  segments_are_halves =
      arc_segments-append 0 (level_arcs n) (upright_arcs n)
      ∙ ap₂ (λ xs ys. xs ++ ys)
      (arcs_of_lists (level_row n) n (λ j. length-map-range_with_len (λ i. level_arc n i j) 0 n) 0 0 0 (n + 1) (omega arith)
      ∙ flat_map_same (λ j. arc_segments (0 + j * n) (level_row n j)) (row_halves (grid_layout n)) (n + 1) row_is)
      (arcs_of_lists (upright_column n) n (λ i. length-map-range_with_len (λ j. upright_arc n i j) 0 n) (first_upright n) (first_upright n) 0 (n + 1) (omega arith)
      ∙ flat_map_same (λ i. arc_segments (first_upright n + i * n) (upright_column n i)) (column_halves (grid_layout n)) (n + 1) column_is)
