-- The lowest segment over a point tells the face: at the point where its abscissa is not whole, and just right of it at any.
use Rattle.std.proofs.Common.{◌≡◌, ◌≢◌, ◌⊎◌, inl, inr, ⊎_elim, ℕ, ◌+◌, ◌≤◌, ◌&&◌, ◌||◌, Bool, true, false, cond, List, [], ◌∷◌, All, AllPairs, length, ℤ, pos, ◌+ℤ◌, ◌-ℤ◌, ◌*ℤ◌, ◌<ℤ◌, ◌≤ℤ◌, int_le, int_lt, refl, sym, ap, ap₂, ◌∙◌, subst, true≢false, arith}
use Rattle.std.specs.Ordering.{int_eq}
use Rattle.std.specs.Int.Signed.{clash_ℤ}
use Rattle.std.specs.Cmp.{both_ways}
use Rattle.std.proofs.lemmas.Int.{ints, by_lt_z}
use Rattle.std.proofs.lemmas.Bool.{and_parts, and_from, and_left, and_right, false_from_ne_true}
use Rattle.std.proofs.lemmas.Bool.Decides.{Decides-int_eq}
use Rattle.lemmas.proofs.Members.{related_members}
use Rattle.lemmas.proofs.Polynomials.{same_value, var, ◌⊖◌, ◌⊗◌}
use Rattle.lemmas.proofs.Signs.{Decides-int_lt, Decides-int_le, int_lt-from_le, by_order, le_lt_trans, le_from_lt, le_from_same, apart_from_lt, same_from_le, same_from_mul_right, lt_from_mul_left, sub_positive}
use Rattle.tgap_model.specs.declared.geometry.Point.{Point}
use Rattle.tgap_model.specs.declared.geometry.Fraction.{Fraction}
use Rattle.tgap_model.specs.declared.geometry.Seg.{Seg}
use Rattle.tgap_model.specs.declared.segment.LabelledSegment.{LabelledSegment}
use Rattle.tgap_model.specs.declared.slice.Edge.{Edge}
use Rattle.tgap_model.specs.Base.{BaseMap, is_base, in_limits}
use Rattle.tgap_model.specs.History.{history_of}
use Rattle.tgap_model.specs.Partition.{AreApart, IsPartition, base_segments, edge_segments, path_segments}
use Rattle.tgap_model.specs.Segment.{Line, IsBetweenColumns, line_through, crosses, goes_right, rightward, run, rise, height, is_at, is_on, is_above, is_higher}
use Rattle.tgap_model.specs.Slice.{slice}
use Rattle.tgap_model.proofs.Points.{near_point}
use Rattle.map_laws.specs.Inside.{crosses_ray}
use Rattle.map_laws.proofs.ChainMembers.{Among}
use Rattle.map_laws.proofs.Lists.{members_all}
use Rattle.planar_stack.proofs.Crossings.{Spans, spans_from_crosses, crosses_from_spans, on_segment, heights_differ}
use Rattle.removal_laws.proofs.Apart.{at_first, at_last}
use Rattle.removal_laws.proofs.ChainEnds.{contained}
use Rattle.record_laws.proofs.StepRuns.{among_from}
use Rattle.step_laws.specs.StepLaws.{SlicesStayPartitions}
use Rattle.picture_laws.specs.FaceAt.{has_abscissa, is_level_or_above, passes_over, is_lower, lowest_over, face_told, IsOff}
use Rattle.picture_laws.specs.PlaceLaws.{LowestEdgeTellsFace, IsJustRightOf, LowestEdgeTellsFaceBeside}
use Rattle.picture_laws.proofs.Ends.{ends_of_path, rightward_ends, slice_point}
use Rattle.picture_laws.proofs.JustRight.{IsSmall, between_columns, abscissa_there, above_there, order_there}
use Rattle.picture_laws.proofs.Lowest.{inside_told, lowest_over_other}

-- ---- a point at the height of a segment is on it

module _ (p : Fraction) (s : Seg) (positive : pos 0 <ℤ p.d) (across : has_abscissa p s ≡ true) (level : p.ny *ℤ run (rightward s) ≡ height (line_through p) (rightward s)) where
  abbrev r : Seg
  r = rightward s

  from : (p.d *ℤ r.a.x) ≤ℤ p.nx
  from = (Decides-int_le (p.d *ℤ r.a.x) p.nx).0 (and_parts (int_le (p.d *ℤ r.a.x) p.nx) (int_lt p.nx (p.d *ℤ r.b.x)) across).0

  to : p.nx <ℤ (p.d *ℤ r.b.x)
  to = (Decides-int_lt p.nx (p.d *ℤ r.b.x)).0 (and_parts (int_le (p.d *ℤ r.a.x) p.nx) (int_lt p.nx (p.d *ℤ r.b.x)) across).1

  runs : pos 0 <ℤ run r
  runs = sub_positive (lt_from_mul_left p.d positive (le_lt_trans from to))

  -- at the abscissa of its left end the height is that of the end
  end_height : p.nx ≡ p.d *ℤ r.a.x → height (line_through p) r ≡ (p.d *ℤ r.a.y) *ℤ run r
  end_height e =
      ap (λ (x : ℤ). x *ℤ rise r -ℤ p.d *ℤ (r.a.x *ℤ r.b.y -ℤ r.b.x *ℤ r.a.y)) e
      ∙ same_value (p.d ∷ r.a.x ∷ r.a.y ∷ r.b.x ∷ r.b.y ∷ [])
      ((var 0 ⊗ var 1) ⊗ (var 4 ⊖ var 2) ⊖ var 0 ⊗ (var 1 ⊗ var 4 ⊖ var 3 ⊗ var 2)) ((var 0 ⊗ var 2) ⊗ (var 3 ⊖ var 1)) refl

  at_end : p.nx ≡ p.d *ℤ r.a.x → is_at p r.a ≡ true
  at_end e = and_from (int_eq p.nx (p.d *ℤ r.a.x)) (int_eq p.ny (p.d *ℤ r.a.y)) ((Decides-int_eq p.nx (p.d *ℤ r.a.x)).1 e)
      ((Decides-int_eq p.ny (p.d *ℤ r.a.y)).1 (same_from_mul_right (run r) (λ z. apart_from_lt runs (sym z)) (level ∙ end_height e)))

  from_end : is_at p r.a ≡ true → is_on p s ≡ true
  from_end e = by (goes_right s) e
    where
      by : (b : Bool) → is_at p (cond b s (record { a = s.b; b = s.a })).a ≡ true → is_on p s ≡ true
      by true h = at_first p s.a s.b positive h
      by false h = at_last p s.a s.b positive h

  on_level : is_on p s ≡ true
  on_level = by_order (p.d *ℤ r.a.x) p.nx
      (λ h. on_segment p s positive (record { left = h; right = to }) level)
      (λ e. from_end (at_end (sym e)))
      (λ h. clash_ℤ h from)

-- so off the segment it is above or below
off_level : (p : Fraction) (s : Seg) → pos 0 <ℤ p.d → is_on p s ≡ false → has_abscissa p s ≡ true → p.ny *ℤ run (rightward s) ≢ height (line_through p) (rightward s)
off_level p s positive off across level = true≢false (sym (on_level p s positive across level) ∙ off)

-- ---- at a point between whole abscissas

module _ (segments : List LabelledSegment) (apart : AllPairs AreApart segments) (p : Fraction) (between : IsBetweenColumns (line_through p))
    (off : (s : LabelledSegment) → Among s segments → is_on p s.segment ≡ false) where
  abbrev l : Line
  l = line_through p

  seen : (s : LabelledSegment) → Among s segments → passes_over p s ≡ crosses_ray p s
  unfolding is_above
  seen s n = both_ways (passes_over p s) (crosses_ray p s) there back
    where
      r : Seg
      r = rightward s.segment

      there : passes_over p s ≡ true → crosses_ray p s ≡ true
      there e =
          let parts = and_parts (has_abscissa p s.segment) (is_level_or_above p s.segment) e in
          let across = and_parts (int_le (p.d *ℤ r.a.x) p.nx) (int_lt p.nx (p.d *ℤ r.b.x)) parts.0 in
          and_from (crosses l s.segment) (int_lt (p.ny *ℤ run r) (height l r))
          (crosses_from_spans l s.segment (record {
            left = strictly (p.d *ℤ r.a.x) p.nx ((Decides-int_le (p.d *ℤ r.a.x) p.nx).0 across.0) (λ z. between.apart r.a.x (sym z));
            right = (Decides-int_lt p.nx (p.d *ℤ r.b.x)).0 across.1;
          }))
          ((Decides-int_lt (p.ny *ℤ run r) (height l r)).1
          (strictly (p.ny *ℤ run r) (height l r) ((Decides-int_le (p.ny *ℤ run r) (height l r)).0 parts.1) (off_level p s.segment between.rational (off s n) parts.0)))
        where
          strictly : (a b : ℤ) → a ≤ℤ b → a ≢ b → a <ℤ b
          strictly a b h d = by_lt_z a b (λ k. k) (λ k. absurd (d (same_from_le h k)))

      back : crosses_ray p s ≡ true → passes_over p s ≡ true
      back e =
          let parts = and_parts (crosses l s.segment) (int_lt (p.ny *ℤ run r) (height l r)) e in
          let spans = spans_from_crosses l s.segment between.rational parts.0 in
          and_from (has_abscissa p s.segment) (is_level_or_above p s.segment)
          (and_from (int_le (p.d *ℤ r.a.x) p.nx) (int_lt p.nx (p.d *ℤ r.b.x))
          ((Decides-int_le (p.d *ℤ r.a.x) p.nx).1 (le_from_lt spans.left)) ((Decides-int_lt p.nx (p.d *ℤ r.b.x)).1 spans.right))
          ((Decides-int_le (p.ny *ℤ run r) (height l r)).1 (le_from_lt ((Decides-int_lt (p.ny *ℤ run r) (height l r)).0 parts.1)))

  -- two segments that are apart have no height in common, so the slopes are not asked for
  order : (s t : LabelledSegment) → Among s segments → Among t segments → crosses l s.segment ≡ true → crosses l t.segment ≡ true
      → is_lower l s.segment t.segment ≡ is_higher l t.segment s.segment
  unfolding is_higher
  order s t n o c d = first_alone (int_lt (height l u *ℤ run v) (height l v *ℤ run u)) (tie (related_members AreApart segments apart s t (contained segments s n) (contained segments t o)))
    where
      u : Seg
      u = rightward s.segment

      v : Seg
      v = rightward t.segment

      first_alone : (a : Bool) {b : Bool} → b ≡ false → (a || b) ≡ a
      first_alone true e = refl
      first_alone false e = e

      level : height l u *ℤ run v ≡ height l v *ℤ run u → (AreApart s t ⊎ AreApart t s) → ⊥
      level e (inl a) = heights_differ l s t between.rational c d a e
      level e (inr a) = heights_differ l t s between.rational d c a (sym e)

      tie : (s ≡ t) ⊎ (AreApart s t ⊎ AreApart t s)
          → (int_eq (height l u *ℤ run v) (height l v *ℤ run u) && int_lt (rise u *ℤ run v) (rise v *ℤ run u)) ≡ false
      tie (inl e) = and_right (int_eq (height l u *ℤ run v) (height l v *ℤ run u)) (int_lt (rise u *ℤ run v) (rise v *ℤ run u))
          (int_lt-from_le (le_from_same (ap₂ (λ (x y : LabelledSegment). rise (rightward x.segment) *ℤ run (rightward y.segment)) (sym e) e)))
      tie (inr a) = and_left (int_eq (height l u *ℤ run v) (height l v *ℤ run u)) (int_lt (rise u *ℤ run v) (rise v *ℤ run u))
          (false_from_ne_true (int_eq (height l u *ℤ run v) (height l v *ℤ run u)) (λ z. level ((Decides-int_eq (height l u *ℤ run v) (height l v *ℤ run u)).0 z) a))

-- ---- the laws

-- the ends of the segments of a slice are within the limits
small_segment : (m : BaseMap) → is_base m ≡ true → (k : ℕ) (s : LabelledSegment) → Among s (edge_segments (slice m k).edges) → IsSmall (rightward s.segment)
small_segment m base k s n =
    let e = among_from (λ (e : Edge). path_segments e.key e.left e.right 0 e.points) (slice m k).edges s n in
    let ends = ends_of_path e.0.key e.0.left e.0.right 0 e.0.points s e.2 in
    let both = rightward_ends (λ v. in_limits v ≡ true) s.segment (slice_point m base k e.0 e.1 s.segment.a ends.0) (slice_point m base k e.0 e.1 s.segment.b ends.1) in
    record { a = near_point (rightward s.segment).a both.0; b = near_point (rightward s.segment).b both.1 }

pub lowest_edge_tells_face_by : SlicesStayPartitions → LowestEdgeTellsFace
lowest_edge_tells_face_by stay m base planar k last p between off f other =
    let segments : List LabelledSegment = edge_segments (slice m k).edges in
    let partition = stay m base planar k last in
    let apart : AllPairs AreApart segments = partition.arcs.apart in
    let each : (s : LabelledSegment) → Among s segments → is_on p s.segment ≡ false = λ s n. members_all (λ s. is_on p s.segment ≡ false) segments s off n in
    inside_told segments apart p between.rational (partition.stacks (line_through p) between) f other (lowest_over p (slice m k).edges)
    (lowest_over_other segments apart p between.rational p (seen segments apart p between each) (order segments apart p between each))

module _ (m : BaseMap) (base : is_base m ≡ true) (k : ℕ) (p : Fraction) (positive : pos 0 <ℤ p.d) (off : IsOff p (slice m k).edges) (q : Fraction) (near : IsJustRightOf q p) where
  abbrev all_segments : List LabelledSegment
  all_segments = edge_segments (slice m k).edges

  seen_beside : (s : LabelledSegment) → Among s all_segments → passes_over p s ≡ crosses_ray q s
  seen_beside s n = both_ways (passes_over p s) (crosses_ray q s)
      (λ e. let parts = and_parts (has_abscissa p s.segment) (is_level_or_above p s.segment) e in
      and_from (crosses (line_through q) s.segment) (is_above s.segment q) (sym (abscissa_there p q positive near s.segment) ∙ parts.0)
      (sym (above parts.0) ∙ parts.1))
      (λ e. let parts = and_parts (crosses (line_through q) s.segment) (is_above s.segment q) e in
      let across = abscissa_there p q positive near s.segment ∙ parts.0 in
      and_from (has_abscissa p s.segment) (is_level_or_above p s.segment) across (above across ∙ parts.1))
    where
      above : has_abscissa p s.segment ≡ true → is_level_or_above p s.segment ≡ is_above s.segment q
      above across = above_there p q positive near s.segment (small_segment m base k s n)
          (off_level p s.segment positive (members_all (λ s. is_on p s.segment ≡ false) all_segments s off n) across)

  order_beside : (s t : LabelledSegment) → Among s all_segments → Among t all_segments → crosses (line_through q) s.segment ≡ true → crosses (line_through q) t.segment ≡ true
      → is_lower (line_through p) s.segment t.segment ≡ is_higher (line_through q) t.segment s.segment
  order_beside s t n o c d = order_there p q positive near s.segment t.segment (small_segment m base k s n) (small_segment m base k t o)

pub lowest_edge_tells_face_beside_by : SlicesStayPartitions → LowestEdgeTellsFaceBeside
lowest_edge_tells_face_beside_by stay m base planar k last p positive off q near f other =
    let partition = stay m base planar k last in
    let segments : List LabelledSegment = edge_segments (slice m k).edges in
    inside_told segments partition.arcs.apart q near.rational (partition.stacks (line_through q) (between_columns p q positive near)) f other (lowest_over p (slice m k).edges)
    (lowest_over_other segments partition.arcs.apart q near.rational p (seen_beside m base k p positive off q near) (order_beside m base k p positive off q near))
