-- Edges with other labels, less those between faces that became one: down each line the faces still agree, and the label reached
-- from above at a point is the other label of the one before.
use Rattle.std.proofs.Common.{◌≡◌, ◌≢◌, ℕ, ◌+◌, Bool, true, false, not, cond, ◌&&◌, ◌==◌, List, [], ◌∷◌, ◌++◌, map, filter, AllPairs, refl, sym, ap, ap₂, ◌∙◌, eq-eqb, ne_eqb, count_by, get_or}
use Rattle.std.proofs.lemmas.Bool.{eqb-true, eqb-false}
use Rattle.std.proofs.lemmas.List.{map-append}
use Rattle.std.proofs.lemmas.List.Elements.{filter-append, filter_passes}
use Rattle.lemmas.specs.Parity.{is_odd, either_alone}
use Rattle.lemmas.specs.Sorting.{sort_by}
use Rattle.lemmas.proofs.Counts.{sum_by-map, count_by-filter, count_by-agree}
use Rattle.lemmas.proofs.Sorting.{filter-sort_by}
use Rattle.tgap_model.specs.declared.geometry.Point.{Point}
use Rattle.tgap_model.specs.declared.geometry.Fraction.{Fraction}
use Rattle.tgap_model.specs.declared.slice.Edge.{Edge}
use Rattle.tgap_model.specs.declared.segment.LabelledSegment.{LabelledSegment}
use Rattle.tgap_model.specs.Segment.{Line, IsBetweenColumns, line_through, goes_right, is_above}
use Rattle.tgap_model.specs.Partition.{Sides, is_empty, path_segments, sides, stack, agree_from, edge_segments, AreApart}
use Rattle.map_laws.specs.Inside.{borders, crosses_ray, is_inside}
use Rattle.removal_laws.specs.StackLaws.{AgreeOn}
use Rattle.map_laws.specs.PlaneLaws.{relabelled}
use Rattle.map_laws.proofs.Labels.{labels_agree}
use Rattle.map_laws.proofs.Inside.{reached, inside_parity}
use Rattle.planar_stack.proofs.Heights.{crossed, higher, order_of_heights, crossing_decided}
use Rattle.slice_laws.proofs.Mirrored.{borders_none}
use Rattle.slice_laws.proofs.EdgeSums.{row_of}
use Rattle.slice_laws.proofs.Relabelled.{with_labels, other_sides, sides_with_labels, stack_with_labels, agree_with_labels, reached_with_labels}
use Rattle.step_laws.proofs.StepEdges.{relabelled_edge, merged_edges}

-- the label reached from above at a point is b
abbrev pub IsBelow : List Edge → Fraction → ℕ → Type 0
IsBelow es p b = (f : ℕ) → f ≢ 0 → is_inside (edge_segments es) f p ≡ (b == f)

-- ---- lists and tests

-- two filters in either order
filters_swapped : {A : Type 0} (p q : A → Bool) (xs : List A) → filter p (filter q xs) ≡ filter q (filter p xs)
filters_swapped p q [] = refl
filters_swapped p q (x ∷ xs) = by (p x) refl (q x) refl (filters_swapped p q xs)
  where
    by : (b : Bool) → p x ≡ b → (c : Bool) → q x ≡ c → filter p (filter q xs) ≡ filter q (filter p xs)
        → filter p (cond c (x ∷ filter q xs) (filter q xs)) ≡ filter q (cond b (x ∷ filter p xs) (filter p xs))
    by true e true f h =
        ap (λ (b : Bool). cond b (x ∷ filter p (filter q xs)) (filter p (filter q xs))) e ∙ ap (λ zs. x ∷ zs) h
        ∙ sym (ap (λ (b : Bool). cond b (x ∷ filter q (filter p xs)) (filter q (filter p xs))) f)
    by true e false f h = h ∙ sym (ap (λ (b : Bool). cond b (x ∷ filter q (filter p xs)) (filter q (filter p xs))) f)
    by false e true f h = ap (λ (b : Bool). cond b (x ∷ filter p (filter q xs)) (filter p (filter q xs))) e ∙ h
    by false e false f h = h

-- an equality of numbers is tested from either side
pub test_swapped : (a b : ℕ) → (a == b) ≡ (b == a)
test_swapped a b = by (a == b) refl
  where
    by : (t : Bool) → (a == b) ≡ t → t ≡ (b == a)
    by true e = sym (eq-eqb b a (sym (eqb-true a b e)))
    by false e = sym (ne_eqb b a (λ k. eqb-false a b e (sym k)))

module _ (g : ℕ → ℕ) where
  -- ---- the segments

  -- the labels of the faces of a segment differ
  abbrev pub stays : LabelledSegment → Bool
  stays s = not (g s.left == g s.right)

  -- the segments of an edge get the other labels, or go all together
  row_merged : (key l r place : ℕ) (points : List Point) (b : Bool) → (g l == g r) ≡ b
      → map (with_labels g) (filter stays (path_segments key l r place points)) ≡ cond b [] (path_segments key (g l) (g r) place points)
  row_merged key l r place [] true e = refl
  row_merged key l r place [] false e = refl
  row_merged key l r place (p ∷ []) true e = refl
  row_merged key l r place (p ∷ []) false e = refl
  row_merged key l r place (p ∷ q ∷ points) b e =
      ap (λ (t : Bool). map (with_labels g) (cond (not t) (row_of key l r place (record { a = p; b = q }) (is_empty points) ∷ rest) rest)) e
      ∙ by b (row_merged key l r (place + 1) (q ∷ points) b e)
    where
      rest : List LabelledSegment
      rest = filter stays (path_segments key l r (place + 1) (q ∷ points))

      by : (b : Bool) → map (with_labels g) rest ≡ cond b [] (path_segments key (g l) (g r) (place + 1) (q ∷ points))
          → map (with_labels g) (cond (not b) (row_of key l r place (record { a = p; b = q }) (is_empty points) ∷ rest) rest)
          ≡ cond b [] (path_segments key (g l) (g r) place (p ∷ q ∷ points))
      by true h = h
      by false h = ap (λ ss. row_of key (g l) (g r) place (record { a = p; b = q }) (is_empty points) ∷ ss) h

  -- the segments of the merged edges
  pub merged_segments : (es : List Edge) → edge_segments (merged_edges g es) ≡ map (with_labels g) (filter stays (edge_segments es))
  merged_segments [] = refl
  merged_segments (e ∷ es) =
      by (g e.left == g e.right) refl (merged_segments es)
      ∙ sym (map-append (with_labels g) (filter stays row) (filter stays (edge_segments es)))
      ∙ sym (ap (map (with_labels g)) (filter-append stays row (edge_segments es)))
    where
      row : List LabelledSegment
      row = path_segments e.key e.left e.right 0 e.points

      kept : List Edge
      kept = filter (λ f. not (g f.left == g f.right)) es

      by : (b : Bool) → (g e.left == g e.right) ≡ b → edge_segments (merged_edges g es) ≡ map (with_labels g) (filter stays (edge_segments es))
          → edge_segments (map (relabelled_edge g) (cond (not b) (e ∷ kept) kept))
          ≡ map (with_labels g) (filter stays row) ++ map (with_labels g) (filter stays (edge_segments es))
      by true t h = h ∙ ap (λ xs. xs ++ map (with_labels g) (filter stays (edge_segments es))) (sym (row_merged e.key e.left e.right 0 e.points true t))
      by false t h = ap₂ (λ xs ys. xs ++ ys) (sym (row_merged e.key e.left e.right 0 e.points false t)) h

  -- ---- down a line

  -- down a line the same segments go
  stack_stays : (l : Line) → IsBetweenColumns l → (ss : List LabelledSegment) → AllPairs AreApart ss → stack l (filter stays ss) ≡ filter stays (stack l ss)
  stack_stays l between ss apart =
      ap (sort_by (higher l)) (filters_swapped (crossed l) stays ss)
      ∙ sym (filter-sort_by (order_of_heights l between.rational) stays (filter (crossed l) ss) (filter_passes (crossed l) ss)
      (crossing_decided l between.rational ss apart))

  -- the labels above and below a segment are one where those of its faces are
  stays_by_sides : (s : LabelledSegment) → (g (sides s).upper == g (sides s).lower) ≡ (g s.left == g s.right)
  stays_by_sides s = by (goes_right s.segment)
    where
      sides_by : Bool → Sides
      sides_by b = cond b (record { upper = s.left; lower = s.right }) (record { upper = s.right; lower = s.left })

      by : (b : Bool) → (g (sides_by b).upper == g (sides_by b).lower) ≡ (g s.left == g s.right)
      by true = refl
      by false = test_swapped (g s.right) (g s.left)

  -- the faces of the segments that stay
  stays_relabelled : (ss : List LabelledSegment) → map sides (map (with_labels g) (filter stays ss)) ≡ relabelled g (map sides ss)
  stays_relabelled [] = refl
  stays_relabelled (s ∷ ss) =
      by (g s.left == g s.right) (stays_relabelled ss)
      ∙ ap either (sym (stays_by_sides s))
    where
      either : Bool → List Sides
      either b = elim b [ true ↦ relabelled g (map sides ss) | false ↦ other_sides g (sides s) ∷ relabelled g (map sides ss) ]

      by : (b : Bool) → map sides (map (with_labels g) (filter stays ss)) ≡ relabelled g (map sides ss)
          → map sides (map (with_labels g) (cond (not b) (s ∷ filter stays ss) (filter stays ss))) ≡ either b
      by true h = h
      by false h = ap₂ (λ x xs. x ∷ xs) (sides_with_labels g s) h

  merged_sides : (es : List Edge) → AllPairs AreApart (edge_segments es) → (l : Line) → IsBetweenColumns l
      → map sides (stack l (edge_segments (merged_edges g es))) ≡ relabelled g (map sides (stack l (edge_segments es)))
  merged_sides es apart l between =
      ap (λ ss. map sides (stack l ss)) (merged_segments es)
      ∙ ap (map sides) (stack_with_labels g l (filter stays (edge_segments es)) ∙ ap (map (with_labels g)) (stack_stays l between (edge_segments es) apart))
      ∙ stays_relabelled (stack l (edge_segments es))

  -- so the faces still agree
  pub merged_agree : g 0 ≡ 0 → (es : List Edge) → AllPairs AreApart (edge_segments es) → (l : Line) → IsBetweenColumns l
      → AgreeOn l es → AgreeOn l (merged_edges g es)
  merged_agree zero_stays es apart l between h =
      ap (agree_from 0) (merged_sides es apart l between)
      ∙ ap (λ u. agree_from u (relabelled g (map sides (stack l (edge_segments es))))) (sym zero_stays)
      ∙ labels_agree g 0 (map sides (stack l (edge_segments es))) zero_stays h

  -- ---- points inside

  -- what goes borders no face
  gone_borders_none : (f : ℕ) (c : Bool) (l r : ℕ) → (not (g l == g r) && (c && borders f (g l) (g r))) ≡ (c && borders f (g l) (g r))
  gone_borders_none f c l r = by (g l == g r) refl
    where
      never : (c : Bool) → false ≡ (c && false)
      never true = refl
      never false = refl

      by : (b : Bool) → (g l == g r) ≡ b → (not b && (c && borders f (g l) (g r))) ≡ (c && borders f (g l) (g r))
      by true e = never c ∙ ap (λ (x : Bool). c && x) (sym (ap (λ (x : ℕ). borders f (g l) x) (sym (eqb-true _ _ e)) ∙ borders_none f (g l)))
      by false e = refl

  -- so the same points are inside with all segments relabelled
  inside_merged : (es : List Edge) (f : ℕ) (p : Fraction)
      → is_inside (edge_segments (merged_edges g es)) f p ≡ is_inside (map (with_labels g) (edge_segments es)) f p
  unfolding is_inside
  inside_merged es f p =
      ap is_odd
      (ap (count_by counts) (merged_segments es) ∙ sum_by-map (λ s. cond (counts s) 1 0) (with_labels g) (filter stays (edge_segments es))
      ∙ count_by-filter (λ s. counts (with_labels g s)) stays (edge_segments es)
      ∙ count_by-agree (λ s. stays s && counts (with_labels g s)) (λ s. counts (with_labels g s)) (edge_segments es)
      (λ i d n. let s = get_or (edge_segments es) i d in gone_borders_none f (crosses_ray p s) s.left s.right)
      ∙ sym (sum_by-map (λ s. cond (counts s) 1 0) (with_labels g) (edge_segments es)))
    where
      counts : LabelledSegment → Bool
      counts s = crosses_ray p s && borders f s.left s.right

  module _ (zero_stays : g 0 ≡ 0) (es : List Edge) (p : Fraction) (between : IsBetweenColumns (line_through p)) (agree : AgreeOn (line_through p) es) where
    above : LabelledSegment → Bool
    above s = is_above s.segment p

    -- the label that is reached above the point
    label : ℕ
    label = reached above 0 (stack (line_through p) (edge_segments es))

    inside_label : (f : ℕ) → f ≢ 0 → is_inside (edge_segments es) f p ≡ (label == f)
    unfolding label above
    inside_label f n =
        inside_parity (edge_segments es) p f between.rational agree
        ∙ ap (λ (b : Bool). either_alone b (label == f)) (ne_eqb 0 f (λ e. n (sym e)))

    -- and with other labels the other one
    inside_other : (f : ℕ) → f ≢ 0 → is_inside (map (with_labels g) (edge_segments es)) f p ≡ (g label == f)
    unfolding label above
    inside_other f n =
        let l : Line = line_through p in
        let ss : List LabelledSegment = stack l (edge_segments es) in
        let others : agree_from 0 (map sides (stack l (map (with_labels g) (edge_segments es)))) ≡ true
        = ap (λ xs. agree_from 0 (map sides xs)) (stack_with_labels g l (edge_segments es))
        ∙ ap (λ u. agree_from u (map sides (map (with_labels g) ss))) (sym zero_stays)
        ∙ agree_with_labels g zero_stays 0 ss agree in
        inside_parity (map (with_labels g) (edge_segments es)) p f between.rational others
        ∙ ap (λ (b : Bool). either_alone b (reached above 0 (stack l (map (with_labels g) (edge_segments es))) == f)) (ne_eqb 0 f (λ e. n (sym e)))
        ∙ ap (λ xs. reached above 0 xs == f) (stack_with_labels g l (edge_segments es))
        ∙ ap (λ u. reached above u (map (with_labels g) ss) == f) (sym zero_stays)
        ∙ ap (λ (x : ℕ). x == f) (reached_with_labels g above (λ s. refl) 0 ss)

    -- the label below which the point lies is the one that is reached
    below_is_label : (b : ℕ) → IsBelow es p b → b ≡ label
    below_is_label b h = by (b == 0) refl (label == 0) refl
      where
        by : (t : Bool) → (b == 0) ≡ t → (u : Bool) → (label == 0) ≡ u → b ≡ label
        by true e true k = eqb-true b 0 e ∙ sym (eqb-true label 0 k)
        by t e false k =
            let n : label ≢ 0 = eqb-false label 0 k in
            eqb-true b label (sym (h label n) ∙ inside_label label n ∙ eq-eqb label label refl)
        by false e true k =
            let n : b ≢ 0 = eqb-false b 0 e in
            sym (eqb-true label b (sym (inside_label b n) ∙ h b n ∙ eq-eqb b b refl))

  pub merged_below : g 0 ≡ 0 → (es : List Edge) → AllPairs AreApart (edge_segments es) → (p : Fraction) → IsBetweenColumns (line_through p)
      → AgreeOn (line_through p) es → (b : ℕ) → IsBelow es p b → IsBelow (merged_edges g es) p (g b)
  merged_below zero_stays es apart p between agree b h f n =
      inside_merged es f p ∙ inside_other zero_stays es p between agree f n
      ∙ ap (λ (x : ℕ). g x == f) (sym (below_is_label zero_stays es p between agree b h))
