-- The edges that a window has: each with a point in its area, and each with a segment over a point from which the area goes up.
use Rattle.std.proofs.Common.{◌≡◌, ◌⊎◌, inl, inr, ⊎_elim, ◌&&◌, Bool, true, false, cond, List, filter, ℤ, pos, ◌+ℤ◌, ◌-ℤ◌, ◌*ℤ◌, ◌<ℤ◌, ◌≤ℤ◌, neg_ℤ, int_le, int_lt, [], ◌∷◌, Contains, refl, sym, ap, ◌∙◌, subst, true≢false, arith}
use Rattle.std.specs.Prelude.{flat_map}
use Rattle.std.specs.List.{list_any}
use Rattle.std.specs.Int.Signed.{clash_ℤ}
use Rattle.std.proofs.lemmas.Int.{ints, by_lt_z}
use Rattle.std.proofs.lemmas.Bool.{and_parts, and_from, or_cases, false_from_ne_true}
use Rattle.lemmas.proofs.Members.{Contains-filter}
use Rattle.lemmas.proofs.Polynomials.{same_value, var, ◌⊕◌, ◌⊖◌, ◌⊗◌}
use Rattle.lemmas.proofs.Signs.{Decides-int_lt, Decides-int_le, le_lt_trans, lt_le_trans, le_le_trans, le_from_lt, lt_from_mul_left, le_from_mul_left, mul_le_right, mul_positive, mul_not_negative, sub_positive, sub_not_negative}
use Rattle.tgap_model.specs.declared.geometry.Point.{Point}
use Rattle.tgap_model.specs.declared.geometry.Fraction.{Fraction}
use Rattle.tgap_model.specs.declared.geometry.Seg.{Seg}
use Rattle.tgap_model.specs.declared.geometry.Window.{Window}
use Rattle.tgap_model.specs.declared.limits.TheConstants.{MAX_COORDINATE}
use Rattle.tgap_model.specs.declared.segment.LabelledSegment.{LabelledSegment}
use Rattle.tgap_model.specs.declared.slice.Edge.{Edge}
use Rattle.tgap_model.specs.Base.{BaseMap, is_base, within, in_limits}
use Rattle.tgap_model.specs.Partition.{path_segments, edge_segments}
use Rattle.tgap_model.specs.Segment.{is_on, lies_between, line_through, rightward, run, height}
use Rattle.tgap_model.specs.Slice.{slice, meets_window, window_of}
use Rattle.grid_geo.proofs.Disjoint.{on_x, on_y}
use Rattle.map_laws.proofs.ChainMembers.{Among}
use Rattle.map_laws.proofs.Lists.{any_from}
use Rattle.removal_laws.proofs.ChainEnds.{among_contained}
use Rattle.window_laws.proofs.Filters.{filter-flat_map, flat_map-filter, flat_map-agree, filter_nothing}
use Rattle.picture_laws.specs.FaceAt.{has_abscissa, is_level_or_above, passes_over, lowest, lowest_over}
use Rattle.picture_laws.specs.PlaceLaws.{IsWithin, WindowHasEdgesWithin, GoesUpFrom, WindowHasLowestEdge}
use Rattle.picture_laws.proofs.Ends.{ends_of_path, rightward_ends, slice_point}

-- ---- the box of points against an area, one coordinate at a time

-- one of two points is no later than the end of a range, and one is no earlier than its start
abbrev Reaches : (Point → ℤ) → ℤ → ℤ → List Point → Type 0
Reaches c low high points = (list_any (λ p. int_le (c p) high) points ≡ true) × (list_any (λ p. int_le low (c p)) points ≡ true)

reaches : (c : Point → ℤ) (low high : ℤ) (points : List Point) (u v : Point) → Among u points → Among v points → c u ≤ℤ high → low ≤ℤ c v → Reaches c low high points
reaches c low high points u v n o h k =
    (any_from (λ p. int_le (c p) high) points u n ((Decides-int_le (c u) high).1 h), any_from (λ p. int_le low (c p)) points v o ((Decides-int_le low (c v)).1 k))

meets_from : (area : Window) (e : Edge) → Reaches (λ p. p.x) area.x0 area.x1 e.points → Reaches (λ p. p.y) area.y0 area.y1 e.points → meets_window area e ≡ true
meets_from area e x y = and_from _ _ (and_from _ _ (and_from _ _ x.0 x.1) y.0) y.1

-- ---- an edge with a point in the area

-- a number over d that is no less than the start of a range, and whose whole part is no greater than its end
module _ (d n low high : ℤ) (positive : pos 0 <ℤ d) (from : (d *ℤ low) ≤ℤ n) (before : (u : ℤ) → (d *ℤ u) ≤ℤ n → u ≤ℤ high) where
  after : (u : ℤ) → n ≤ℤ (d *ℤ u) → low ≤ℤ u
  after u h = le_from_mul_left d positive (le_le_trans from h)

  reached_between : (c : Point → ℤ) (points : List Point) (u v : Point) → Among u points → Among v points → lies_between (c u) (c v) n d ≡ true → Reaches c low high points
  reached_between c points u v p q e = by (or_cases (int_le (d *ℤ c u) n && int_le n (d *ℤ c v)) (int_le (d *ℤ c v) n && int_le n (d *ℤ c u)) e)
    where
      between : (a b : Point) → Among a points → Among b points → (int_le (d *ℤ c a) n && int_le n (d *ℤ c b)) ≡ true → Reaches c low high points
      between a b p q h =
          let parts = and_parts (int_le (d *ℤ c a) n) (int_le n (d *ℤ c b)) h in
          reaches c low high points a b p q (before (c a) ((Decides-int_le (d *ℤ c a) n).0 parts.0)) (after (c b) ((Decides-int_le n (d *ℤ c b)).0 parts.1))

      by : ((int_le (d *ℤ c u) n && int_le n (d *ℤ c v)) ≡ true) ⊎ ((int_le (d *ℤ c v) n && int_le n (d *ℤ c u)) ≡ true) → Reaches c low high points
      by (inl h) = between u v p q h
      by (inr h) = between v u q p h

pub window_has_edges_within : WindowHasEdgesWithin
unfolding window_of
window_has_edges_within m k area e n s o p w on =
    let ends = ends_of_path e.key e.left e.right 0 e.points s (among_contained (path_segments e.key e.left e.right 0 e.points) s o) in
    Contains-filter (meets_window area) (slice m k).edges e n
    (meets_from area e
    (reached_between p.d p.nx area.x0 area.x1 w.rational w.left (λ u h. le_from_mul_left p.d w.rational (le_le_trans h w.right)) (λ v. v.x) e.points s.segment.a s.segment.b ends.0 ends.1 (on_x p s.segment on))
    (reached_between p.d p.ny area.y0 area.y1 w.rational w.lower (λ u h. le_from_mul_left p.d w.rational (le_le_trans h w.upper)) (λ v. v.y) e.points s.segment.a s.segment.b ends.0 ends.1 (on_y p s.segment on)))

-- ---- an edge over a point from which the area goes up

-- a height between those of two ends, each with its weight, is no higher than one of them
some_end : (w v y z g : ℤ) → pos 0 <ℤ w → pos 0 ≤ℤ v → ((w +ℤ v) *ℤ g) ≤ℤ (w *ℤ y +ℤ v *ℤ z) → (g ≤ℤ y) ⊎ (g ≤ℤ z)
some_end w v y z g i j h = by_lt_z y g
    (λ less. by_lt_z z g
    (λ other. absurd (both (mul_positive i (sub_positive less)) (mul_not_negative j (le_from_lt (sub_positive other)))))
    inr)
    inl
  where
    parts : w *ℤ (g -ℤ y) +ℤ v *ℤ (g -ℤ z) ≡ (w +ℤ v) *ℤ g -ℤ (w *ℤ y +ℤ v *ℤ z)
    parts = same_value (w ∷ v ∷ y ∷ z ∷ g ∷ []) (var 0 ⊗ (var 4 ⊖ var 2) ⊕ var 1 ⊗ (var 4 ⊖ var 3)) ((var 0 ⊕ var 1) ⊗ var 4 ⊖ (var 0 ⊗ var 2 ⊕ var 1 ⊗ var 3)) refl

    opposed : (a b c d : ℤ) → pos 0 <ℤ a → pos 0 ≤ℤ b → a +ℤ b ≡ c -ℤ d → c ≤ℤ d → ⊥
    opposed a b c d x y e l = omega (arith, ints)

    both : pos 0 <ℤ (w *ℤ (g -ℤ y)) → pos 0 ≤ℤ (v *ℤ (g -ℤ z)) → ⊥
    both a b = opposed (w *ℤ (g -ℤ y)) (v *ℤ (g -ℤ z)) ((w +ℤ v) *ℤ g) (w *ℤ y +ℤ v *ℤ z) a b parts h

-- a segment that goes to the right, and a point that it is over
module _ (p : Fraction) (r : Seg) (positive : pos 0 <ℤ p.d) (from : (p.d *ℤ r.a.x) ≤ℤ p.nx) (to : p.nx <ℤ (p.d *ℤ r.b.x)) (over : (p.ny *ℤ run r) ≤ℤ height (line_through p) r) where
  runs : pos 0 ≤ℤ run r
  runs = sub_not_negative (le_from_lt (lt_from_mul_left p.d positive (le_lt_trans from to)))

  weighted : height (line_through p) r ≡ (p.d *ℤ r.b.x -ℤ p.nx) *ℤ r.a.y +ℤ (p.nx -ℤ p.d *ℤ r.a.x) *ℤ r.b.y
  weighted = same_value (p.nx ∷ p.d ∷ r.a.x ∷ r.a.y ∷ r.b.x ∷ r.b.y ∷ [])
      (var 0 ⊗ (var 5 ⊖ var 3) ⊖ var 1 ⊗ (var 2 ⊗ var 5 ⊖ var 4 ⊗ var 3))
      ((var 1 ⊗ var 4 ⊖ var 0) ⊗ var 3 ⊕ (var 0 ⊖ var 1 ⊗ var 2) ⊗ var 5) refl

  weights : (g : ℤ) → (p.d *ℤ g) *ℤ run r ≡ ((p.d *ℤ r.b.x -ℤ p.nx) +ℤ (p.nx -ℤ p.d *ℤ r.a.x)) *ℤ g
  weights g = same_value (p.nx ∷ p.d ∷ r.a.x ∷ r.b.x ∷ g ∷ []) ((var 1 ⊗ var 4) ⊗ (var 3 ⊖ var 2)) (((var 1 ⊗ var 3 ⊖ var 0) ⊕ (var 0 ⊖ var 1 ⊗ var 2)) ⊗ var 4) refl

  -- an end is no lower than what the point is not below
  end_above : (g : ℤ) → (p.d *ℤ g) ≤ℤ p.ny → (g ≤ℤ r.a.y) ⊎ (g ≤ℤ r.b.y)
  end_above g h =
      some_end (p.d *ℤ r.b.x -ℤ p.nx) (p.nx -ℤ p.d *ℤ r.a.x) r.a.y r.b.y g (sub_positive to) (sub_not_negative from)
      (subst (λ (z : ℤ). z ≤ℤ ((p.d *ℤ r.b.x -ℤ p.nx) *ℤ r.a.y +ℤ (p.nx -ℤ p.d *ℤ r.a.x) *ℤ r.b.y)) (weights g)
      (subst (λ (z : ℤ). ((p.d *ℤ g) *ℤ run r) ≤ℤ z) weighted (le_le_trans (mul_le_right runs h) over)))

limit_y : (v : Point) → in_limits v ≡ true → v.y ≤ℤ MAX_COORDINATE
limit_y v e =
    let y = (and_parts (within (neg_ℤ MAX_COORDINATE) MAX_COORDINATE v.x) (within (neg_ℤ MAX_COORDINATE) MAX_COORDINATE v.y) e).1 in
    (Decides-int_le v.y MAX_COORDINATE).0 (and_parts (int_le (neg_ℤ MAX_COORDINATE) v.y) (int_le v.y MAX_COORDINATE) y).1

module _ (area : Window) (p : Fraction) (up : GoesUpFrom area p) (e : Edge) (limits : (v : Point) → Among v e.points → in_limits v ≡ true) where
  -- a whole abscissa at the point or left of it
  first_abscissa : (u : ℤ) → (p.d *ℤ u) ≤ℤ p.nx → u ≤ℤ area.x1
  first_abscissa u h = within_last u area.x1 (lt_from_mul_left p.d up.rational (le_lt_trans h up.right))
    where
      within_last : (u v : ℤ) → u <ℤ (v +ℤ pos 1) → u ≤ℤ v
      within_last u v h = omega (arith, ints)

  -- a point of the edge that is no lower than the area
  upright : (v : Point) → Among v e.points → area.y0 ≤ℤ v.y → Reaches (λ v. v.y) area.y0 area.y1 e.points
  upright v o k = reaches (λ v. v.y) area.y0 area.y1 e.points v v o o (le_le_trans (limit_y v (limits v o)) up.upper) k

  -- a segment of the edge that is over the point
  over_meets : (s : LabelledSegment) → Among s (path_segments e.key e.left e.right 0 e.points) → passes_over p s ≡ true → meets_window area e ≡ true
  over_meets s n h =
      let parts = and_parts (has_abscissa p s.segment) (is_level_or_above p s.segment) h in
      let across = and_parts (int_le (p.d *ℤ r.a.x) p.nx) (int_lt p.nx (p.d *ℤ r.b.x)) parts.0 in
      let from = (Decides-int_le (p.d *ℤ r.a.x) p.nx).0 across.0 in
      let to = (Decides-int_lt p.nx (p.d *ℤ r.b.x)).0 across.1 in
      let over = (Decides-int_le (p.ny *ℤ run r) (height (line_through p) r)).0 parts.1 in
      meets_from area e
      (reaches (λ v. v.x) area.x0 area.x1 e.points r.a r.b ends.0 ends.1 (first_abscissa r.a.x from)
      (le_from_lt (lt_from_mul_left p.d up.rational (le_lt_trans up.left to))))
      (⊎_elim (λ k. upright r.a ends.0 k) (λ k. upright r.b ends.1 k) (end_above p r up.rational from to over area.y0 up.lower))
    where
      r : Seg
      r = rightward s.segment

      ends : Among r.a e.points × Among r.b e.points
      ends = let both = ends_of_path e.key e.left e.right 0 e.points s n in rightward_ends (λ v. Among v e.points) s.segment both.0 both.1

  -- or that goes through it
  pub through_meets : (s : LabelledSegment) → Among s (path_segments e.key e.left e.right 0 e.points) → is_on p s.segment ≡ true → meets_window area e ≡ true
  through_meets s n on =
      meets_from area e
      (reached_between p.d p.nx area.x0 area.x1 up.rational up.left first_abscissa (λ v. v.x) e.points a b ends.0 ends.1 (on_x p s.segment on))
      (by (or_cases (int_le (p.d *ℤ a.y) p.ny && int_le p.ny (p.d *ℤ b.y)) (int_le (p.d *ℤ b.y) p.ny && int_le p.ny (p.d *ℤ a.y)) (on_y p s.segment on)))
    where
      a : Point
      a = s.segment.a

      b : Point
      b = s.segment.b

      ends : Among a e.points × Among b e.points
      ends = ends_of_path e.key e.left e.right 0 e.points s n

      no_lower : (v : Point) → Among v e.points → int_le p.ny (p.d *ℤ v.y) ≡ true → Reaches (λ v. v.y) area.y0 area.y1 e.points
      no_lower v o h = upright v o (le_from_mul_left p.d up.rational (le_le_trans up.lower ((Decides-int_le p.ny (p.d *ℤ v.y)).0 h)))

      by : ((int_le (p.d *ℤ a.y) p.ny && int_le p.ny (p.d *ℤ b.y)) ≡ true) ⊎ ((int_le (p.d *ℤ b.y) p.ny && int_le p.ny (p.d *ℤ a.y)) ≡ true)
          → Reaches (λ v. v.y) area.y0 area.y1 e.points
      by (inl h) = no_lower b ends.1 (and_parts (int_le (p.d *ℤ a.y) p.ny) (int_le p.ny (p.d *ℤ b.y)) h).1
      by (inr h) = no_lower a ends.0 (and_parts (int_le (p.d *ℤ b.y) p.ny) (int_le p.ny (p.d *ℤ a.y)) h).1

  -- so of an edge that is not in the window no segment is over the point
  none_over : (b : Bool) → meets_window area e ≡ b
      → cond b (filter (passes_over p) (path_segments e.key e.left e.right 0 e.points)) [] ≡ filter (passes_over p) (path_segments e.key e.left e.right 0 e.points)
  none_over true h = refl
  none_over false h =
      sym (filter_nothing (passes_over p) (path_segments e.key e.left e.right 0 e.points) (λ s n.
      false_from_ne_true (passes_over p s) (λ t. true≢false (sym (over_meets s n t) ∙ h))))

pub window_has_lowest_edge : WindowHasLowestEdge
unfolding window_of
window_has_lowest_edge m base k area p up =
    ap (lowest (line_through p))
    (filter-flat_map (passes_over p) segments (filter (meets_window area) (slice m k).edges)
    ∙ sym (flat_map-filter (meets_window area) (λ e. filter (passes_over p) (segments e)) (slice m k).edges)
    ∙ flat_map-agree (λ e. cond (meets_window area e) (filter (passes_over p) (segments e)) []) (λ e. filter (passes_over p) (segments e)) (slice m k).edges
    (λ e n. none_over area p up e (slice_point m base k e n) (meets_window area e) refl)
    ∙ sym (filter-flat_map (passes_over p) segments (slice m k).edges))
  where
    segments : Edge → List LabelledSegment
    segments e = path_segments e.key e.left e.right 0 e.points
