-- Along an edge a ring that has none of its sides goes round each point equally often.
use Rattle.std.proofs.Common.{◌≡◌, ◌≢◌, ◌⊎◌, inl, inr, ℕ, ◌+◌, ◌<◌, ◌≤◌, ◌==◌, ◌&&◌, ◌||◌, true, false, List, [], ◌∷◌, map, reverse, get_or, length, Contains, ℤ, pos, ◌-ℤ◌, ◌*ℤ◌, ◌<ℤ◌, ◌≤ℤ◌, refl, sym, ap, ap₂, ◌∙◌, subst, eqb-true, true≢false, arith}
use Rattle.std.specs.Ordering.{int_eq}
use Rattle.std.proofs.lemmas.Int.{ints, by_lt_z}
use Rattle.std.proofs.lemmas.Bool.{and_parts, and_from, or_cases, cases_lt}
use Rattle.std.proofs.lemmas.Bool.Decides.{Decides-int_eq}
use Rattle.std.proofs.lemmas.List.Elements.{All-contains, Contains-get_or}
use Rattle.lemmas.proofs.Integers.{one-*ℤ}
use Rattle.lemmas.proofs.Members.{All-from_members, related_members, Contains-flat_map, Contains-from_flat_map}
use Rattle.lemmas.proofs.Polynomials.{same_value, var, ◌⊕◌, ◌⊖◌, ◌⊗◌}
use Rattle.lemmas.proofs.Signs.{le_from_lt, le_from_same, same_from_le, le_from_sub, sub_not_negative, not_negative_from_mul, mul_not_negative, le_from_mul_right}
use Rattle.tgap_model.specs.declared.geometry.Fraction.{Fraction}
use Rattle.tgap_model.specs.declared.geometry.Point.{Point}
use Rattle.tgap_model.specs.declared.geometry.Seg.{Seg}
use Rattle.tgap_model.specs.declared.segment.LabelledSegment.{LabelledSegment}
use Rattle.tgap_model.specs.declared.slice.Edge.{Edge}
use Rattle.tgap_model.specs.Base.{BaseMap, is_base, same_point}
use Rattle.tgap_model.specs.History.{history_of}
use Rattle.tgap_model.specs.Partition.{AreApart, IsPartition, base_segments, is_empty, shared_ends, follows, path_segments, edge_segments}
use Rattle.tgap_model.specs.Segment.{IsBetweenColumns, line_through, is_at, is_on}
use Rattle.tgap_model.specs.Slice.{slice}
use Rattle.map_laws.proofs.ChainMembers.{Among, append_among}
use Rattle.map_laws.proofs.Lists.{map_among}
use Rattle.removal_laws.proofs.Apart.{apart_turned, permitted_common, at_first, at_last}
use Rattle.removal_laws.proofs.Between.{is_between}
use Rattle.removal_laws.proofs.ChainEnds.{contained}
use Rattle.slice_laws.proofs.Paths.{flip, path_reversed, reverse_cons}
use Rattle.tgap_model.specs.Removals.{path}
use Rattle.tgap_model.specs.declared.geometry.Shared.{Shared}
use Rattle.slice_laws.proofs.Meetings.{on_flip}
use Rattle.step_laws.proofs.EachSlice.{slices_stay_planar, slices_stay_partitions}
use Rattle.slice_read.specs.Ends.{slice_ends}
use Rattle.ring_walk.specs.declared.side.Side.{Side}
use Rattle.ring_walk.specs.declared.side.Way.{Way}
use Rattle.ring_walk.specs.declared.side.Way.TheVariants.{Along, Against}
use Rattle.ring_walk.specs.Areas.{points_of, segments_of, ring_segments}
use Rattle.ring_walk.specs.Orbits.{sides_of}
use Rattle.ring_walk.specs.Rings.{rings_of}
use Rattle.ring_walk.specs.Spans.{IsSide}
use Rattle.ring_walk.proofs.RingOrbits.{rings_are_orbits}
use Rattle.topo_write.specs.Polygons.{lines_of}
use Rattle.topo_laws.specs.RingFaces.{slice_spans}
use Rattle.picture_laws.specs.FaceRings.{IsOnWay, RingsWindAlike, RingsPassEdges}
use Rattle.picture_laws.proofs.Sums.{int_sum}
use Rattle.picture_laws.proofs.SameMembers.{among}
use Rattle.picture_laws.proofs.RingSums.{segments_are, length-spans, line_points}
use Rattle.picture_laws.proofs.RingWinds.{paired}
use Rattle.picture_laws.proofs.ClosedRings.{closed_ring}
use Rattle.picture_laws.proofs.AlongSegment.{IsRightward, seen, way_on, way_left, way_right, way_turned, wound_alike, winding_is_seen}

-- ---- ends of segments

-- a grid point as a rational one
abbrev pub whole : Point → Fraction
whole v = record { nx = v.x; ny = v.y; d = pos 1 }

pub is_whole : (v : Point) → is_at (whole v) v ≡ true
is_whole v = and_from (int_eq v.x (pos 1 *ℤ v.x)) (int_eq v.y (pos 1 *ℤ v.y))
    ((Decides-int_eq v.x (pos 1 *ℤ v.x)).1 (sym (one-*ℤ v.x))) ((Decides-int_eq v.y (pos 1 *ℤ v.y)).1 (sym (one-*ℤ v.y)))

-- the points of a segment lie at one side of each of its ends
module _ (z : Fraction) (u v : Point) (positive : pos 0 <ℤ z.d) (on : is_on z (record { a = u; b = v }) ≡ true) where
  low_end : u.x ≤ℤ v.x → (z.d *ℤ u.x) ≤ℤ z.nx
  low_end le =
      let h = is_between z u v positive on in
      le_from_sub (z.d *ℤ u.x) z.nx (not_negative_from_mul h.total (z.nx -ℤ z.d *ℤ u.x) h.positive
      (subst (λ (w : ℤ). pos 0 ≤ℤ w) (sym (
      same_value (h.total ∷ z.nx ∷ z.d ∷ u.x ∷ []) (var 0 ⊗ (var 1 ⊖ var 2 ⊗ var 3)) (var 0 ⊗ var 1 ⊖ (var 0 ⊗ var 2) ⊗ var 3) refl
      ∙ ap₂ (λ (m n : ℤ). m -ℤ n *ℤ u.x) h.over_x h.under
      ∙ same_value (h.near ∷ h.far ∷ u.x ∷ v.x ∷ []) ((var 0 ⊗ var 2 ⊕ var 1 ⊗ var 3) ⊖ (var 0 ⊕ var 1) ⊗ var 2) (var 1 ⊗ (var 3 ⊖ var 2)) refl))
      (mul_not_negative h.far_sign (sub_not_negative le))))

  high_end : v.x ≤ℤ u.x → z.nx ≤ℤ (z.d *ℤ u.x)
  high_end le =
      let h = is_between z u v positive on in
      le_from_sub z.nx (z.d *ℤ u.x) (not_negative_from_mul h.total (z.d *ℤ u.x -ℤ z.nx) h.positive
      (subst (λ (w : ℤ). pos 0 ≤ℤ w) (sym (
      same_value (h.total ∷ z.nx ∷ z.d ∷ u.x ∷ []) (var 0 ⊗ (var 2 ⊗ var 3 ⊖ var 1)) ((var 0 ⊗ var 2) ⊗ var 3 ⊖ var 0 ⊗ var 1) refl
      ∙ ap₂ (λ (m n : ℤ). n *ℤ u.x -ℤ m) h.over_x h.under
      ∙ same_value (h.near ∷ h.far ∷ u.x ∷ v.x ∷ []) ((var 0 ⊕ var 1) ⊗ var 2 ⊖ (var 0 ⊗ var 2 ⊕ var 1 ⊗ var 3)) (var 1 ⊗ (var 2 ⊖ var 3)) refl))
      (mul_not_negative h.far_sign (sub_not_negative le))))

-- an end is not between two points that have other abscissas
beyond : (u v : Point) (p q : Fraction) → pos 0 <ℤ p.d → pos 0 <ℤ q.d → is_on p (record { a = u; b = v }) ≡ true → is_on q (record { a = u; b = v }) ≡ true
    → p.nx ≢ p.d *ℤ u.x → q.nx ≢ q.d *ℤ u.x → p.nx ≤ℤ (p.d *ℤ u.x) → (q.d *ℤ u.x) ≤ℤ q.nx → ⊥
beyond u v p q i j e f m n h k = by_lt_z v.x u.x
    (λ less. n (same_from_le (high_end q u v j f (le_from_lt less)) k))
    (λ le. m (same_from_le h (low_end p u v i e le)))

-- ---- a path and closed segments that meet it at most at its ends

-- v is an end of the path, at this segment
abbrev pub IsEnd : LabelledSegment → Point → Type 0
IsEnd x v = ((x.starts ≡ true) × (x.segment.a ≡ v)) ⊎ ((x.ends ≡ true) × (x.segment.b ≡ v))

-- the segments meet it at such ends alone
abbrev IsFree : List Seg → LabelledSegment → Type 0
IsFree segments x = (c : Seg) → Contains segments c → (z : Fraction) → pos 0 <ℤ z.d → is_on z x.segment ≡ true → is_on z c ≡ true → (v : Point) × (is_at z v ≡ true) × IsEnd x v

-- a point on it whose abscissa is not that of such an end
record IsInner (x : LabelledSegment) (z : Fraction) : Type 0 where
  positive : pos 0 <ℤ z.d
  on : is_on z x.segment ≡ true
  start : x.starts ≡ true → z.nx ≢ z.d *ℤ x.segment.a.x
  end : x.ends ≡ true → z.nx ≢ z.d *ℤ x.segment.b.x

pub at_x : (z : Fraction) (v : Point) → is_at z v ≡ true → z.nx ≡ z.d *ℤ v.x
at_x z v e = (Decides-int_eq z.nx (z.d *ℤ v.x)).0 (and_parts (int_eq z.nx (z.d *ℤ v.x)) (int_eq z.ny (z.d *ℤ v.y)) e).0

module _ (segments : List Seg) (closed : (value : Point → ℤ) → int_sum (λ s. value s.b -ℤ value s.a) segments ≡ pos 0) where
  abbrev total : Fraction → ℤ
  total z = int_sum (seen z) segments

  module _ (x : LabelledSegment) (free : IsFree segments x) where
    same_on : (p q : Fraction) → IsInner x p → IsInner x q → total p ≡ total q
    same_on p q h k =
        wound_alike p q h.positive k.positive segments
        (All-from_members (λ c. (z : Fraction) → IsOnWay p q z → is_on z c ≡ true → ⊥) segments (λ c m z w o.
        let end = free c m z w.rational (way_on x.segment p q z h.positive k.positive h.on k.on w) o in
        let here = at_x z end.0 end.1 in
        by_lt_z (q.nx *ℤ p.d) (p.nx *ℤ q.d)
        (λ less.
        let back : IsRightward q p = record { left = k.positive; right = h.positive; order = le_from_lt less } in
        passed q p k h end.0 (not_left q p z end.0 back (way_turned p q z w) here) (not_right q p z end.0 back (way_turned p q z w) here) end.2)
        (λ le.
        let there : IsRightward p q = record { left = h.positive; right = k.positive; order = le } in
        passed p q h k end.0 (not_left p q z end.0 there w here) (not_right p q z end.0 there w here) end.2)))
        closed
      where
        -- where the point is at a grid point, that is not left of the first and not right of the second
        not_left : (p q z : Fraction) (v : Point) → IsRightward p q → IsOnWay p q z → z.nx ≡ z.d *ℤ v.x → p.nx ≤ℤ (p.d *ℤ v.x)
        not_left p q z v there w e = le_from_mul_right z.d w.rational (subst (λ (n : ℤ). (p.nx *ℤ z.d) ≤ℤ n)
            (ap (λ (n : ℤ). n *ℤ p.d) e ∙ same_value (z.d ∷ v.x ∷ p.d ∷ []) ((var 0 ⊗ var 1) ⊗ var 2) ((var 2 ⊗ var 1) ⊗ var 0) refl) (way_left p q z there w))

        not_right : (p q z : Fraction) (v : Point) → IsRightward p q → IsOnWay p q z → z.nx ≡ z.d *ℤ v.x → (q.d *ℤ v.x) ≤ℤ q.nx
        not_right p q z v there w e = le_from_mul_right z.d w.rational (subst (λ (n : ℤ). n ≤ℤ (q.nx *ℤ z.d))
            (ap (λ (n : ℤ). n *ℤ q.d) e ∙ same_value (z.d ∷ v.x ∷ q.d ∷ []) ((var 0 ⊗ var 1) ⊗ var 2) ((var 2 ⊗ var 1) ⊗ var 0) refl) (way_right p q z there w))

        passed : (p q : Fraction) → IsInner x p → IsInner x q → (v : Point) → p.nx ≤ℤ (p.d *ℤ v.x) → (q.d *ℤ v.x) ≤ℤ q.nx → IsEnd x v → ⊥
        passed p q h k v l r (inl (s, e)) =
            beyond x.segment.a x.segment.b p q h.positive k.positive h.on k.on (h.start s) (k.start s)
            (subst (λ (w : Point). p.nx ≤ℤ (p.d *ℤ w.x)) (sym e) l) (subst (λ (w : Point). (q.d *ℤ w.x) ≤ℤ q.nx) (sym e) r)
        passed p q h k v l r (inr (s, e)) =
            beyond x.segment.b x.segment.a p q h.positive k.positive (on_flip p x.segment h.on) (on_flip q x.segment k.on) (h.end s) (k.end s)
            (subst (λ (w : Point). p.nx ≤ℤ (p.d *ℤ w.x)) (sym e) l) (subst (λ (w : Point). (q.d *ℤ w.x) ≤ℤ q.nx) (sym e) r)

  -- ---- along a path

  module _ (key l r : ℕ) where
    abbrev way : ℕ → List Point → List LabelledSegment
    way place points = path_segments key l r place points

    -- the first segment of a path
    abbrev first : ℕ → Point → Point → List Point → LabelledSegment
    first place a b points = record { segment = record { a = a; b = b }; left = l; right = r; arc = key; place = place; starts = place == 0; ends = is_empty points }

    between_inner : (x : LabelledSegment) (q : Fraction) → IsBetweenColumns (line_through q) → is_on q x.segment ≡ true → IsInner x q
    between_inner x q between on =
        record { positive = between.rational; on = on; start = λ s. between.apart x.segment.a.x; end = λ s. between.apart x.segment.b.x }

    -- a segment with a point between whole abscissas is not vertical
    leaning : (a b : Point) (q : Fraction) → IsBetweenColumns (line_through q) → is_on q (record { a = a; b = b }) ≡ true → a.x ≢ b.x
    leaning a b q between on e = between.apart a.x (same_from_le
        (high_end q a b between.rational on (le_from_same (sym e))) (low_end q a b between.rational on (le_from_same e)))

    one : pos 0 <ℤ pos 1
    one = omega (arith, ints)

    off : (a b : Point) → a.x ≢ b.x → a.x ≢ pos 1 *ℤ b.x
    off a b ne e = ne (e ∙ one-*ℤ b.x)

    onward : (place : ℕ) (a b : Point) (points : List Point) → ((x : LabelledSegment) → Among x (way (place + 1) (a ∷ b ∷ points)) → IsFree segments x)
        → (y : LabelledSegment) → Among y (way (place + 1) (a ∷ b ∷ points)) → (q : Fraction) → IsBetweenColumns (line_through q) → is_on q y.segment ≡ true
        → total q ≡ total (whole a)
    onward place a b points free y (inl e) q between on =
        let x = first (place + 1) a b points in
        let here : is_on q (record { a = a; b = b }) ≡ true = subst (λ (t : LabelledSegment). is_on q t.segment ≡ true) (sym e) on in
        same_on x (free x (inl refl)) q (whole a) (between_inner x q between here)
        (record {
          positive = one;
          on = at_first (whole a) a b one (is_whole a);
          start = λ s. absurd (not_first place s);
          end = λ s. off a b (leaning a b q between here);
        })
      where
        not_first : (n : ℕ) → ((n + 1) == 0) ≡ true → ⊥
        not_first n s = let f = eqb-true (n + 1) 0 s in absurd (omega (arith, f))
    onward place a b [] free y (inr n) q between on = absurd n
    onward place a b (c ∷ points) free y (inr n) q between on =
        let x = first (place + 1) a b (c ∷ points) in
        onward (place + 1) b c points (λ t o. free t (inr o)) y n q between on
        ∙ same_on x (free x (inl refl)) (whole b) (whole a)
        (record { positive = one; on = at_last (whole b) a b one (is_whole b); start = λ s. absurd (not_first place s); end = λ s. absurd (true≢false (sym s)) })
        (record { positive = one; on = at_first (whole a) a b one (is_whole a); start = λ s. absurd (not_first place s); end = λ s. absurd (true≢false (sym s)) })
      where
        not_first : (n : ℕ) → ((n + 1) == 0) ≡ true → ⊥
        not_first n s = let f = eqb-true (n + 1) 0 s in absurd (omega (arith, f))

    -- any two points of it
    all_along : (points : List Point) → ((x : LabelledSegment) → Among x (way 0 points) → IsFree segments x)
        → (x y : LabelledSegment) → Among x (way 0 points) → Among y (way 0 points)
        → (p q : Fraction) → IsBetweenColumns (line_through p) → IsBetweenColumns (line_through q) → is_on p x.segment ≡ true → is_on q y.segment ≡ true → total p ≡ total q
    all_along [] free x y m n p q h k e f = absurd m
    all_along (a ∷ []) free x y m n p q h k e f = absurd m
    all_along (a ∷ b ∷ points) free x y m n p q h k e f = by m n
      where
        s : LabelledSegment
        s = first 0 a b points

        from_second : (c : Point) (more : List Point) → points ≡ c ∷ more → (y : LabelledSegment) → Among y (way 1 (b ∷ points)) → (q : Fraction) → IsBetweenColumns (line_through q) → is_on q y.segment ≡ true
            → total q ≡ total (whole b)
        from_second c more e y n q k f =
            onward 0 b c more (λ t o. free t (inr (subst (λ (ps : List Point). Among t (way 1 (b ∷ ps))) (sym e) o))) y (subst (λ (ps : List Point). Among y (way 1 (b ∷ ps))) e n) q k f

        second : (ps : List Point) → points ≡ ps → (y : LabelledSegment) → Among y (way 1 (b ∷ points)) → (q : Fraction) → IsBetweenColumns (line_through q) → is_on q y.segment ≡ true
            → (total q ≡ total (whole b)) × (is_empty points ≡ false)
        second [] e y n q k f = absurd (subst (λ (ps : List Point). Among y (way 1 (b ∷ ps))) e n)
        second (c ∷ more) e y n q k f = (from_second c more e y n q k f, ap is_empty e)

        -- a point on the first segment, and the second vertex
        turning : (p : Fraction) → IsBetweenColumns (line_through p) → is_on p s.segment ≡ true → is_empty points ≡ false → total p ≡ total (whole b)
        turning p h e more = same_on s (free s (inl refl)) p (whole b) (between_inner s p h e)
            (record {
              positive = one;
              on = at_last (whole b) a b one (is_whole b);
              start = λ t. off b a (λ z. leaning a b p h e (sym z));
              end = λ t. absurd (true≢false (sym t ∙ more));
            })

        on_first : (x : LabelledSegment) → s ≡ x → (p : Fraction) → is_on p x.segment ≡ true → is_on p s.segment ≡ true
        on_first x g p e = subst (λ (t : LabelledSegment). is_on p t.segment ≡ true) (sym g) e

        by : Among x (way 0 (a ∷ b ∷ points)) → Among y (way 0 (a ∷ b ∷ points)) → total p ≡ total q
        by (inl g) (inl i) = same_on s (free s (inl refl)) p q (between_inner s p h (on_first x g p e)) (between_inner s q k (on_first y i q f))
        by (inl g) (inr o) = let r = second points refl y o q k f in turning p h (on_first x g p e) r.1 ∙ sym r.0
        by (inr o) (inl i) = let r = second points refl x o p h e in r.0 ∙ sym (turning q k (on_first y i q f) r.1)
        by (inr o) (inr i) = (second points refl x o p h e).0 ∙ sym (second points refl y i q k f).0

-- ---- the segments of an edge

-- each segment of a row of points is one of its path, and has the key of that
pub labelled_in : (key l r place : ℕ) (points : List Point) (s : Seg) → Among s (path points) → (x : LabelledSegment) × Among x (path_segments key l r place points) × (x.segment ≡ s)
labelled_in key l r place [] s m = absurd m
labelled_in key l r place (a ∷ []) s m = absurd m
labelled_in key l r place (a ∷ b ∷ points) s (inl e) =
    (record { segment = record { a = a; b = b }; left = l; right = r; arc = key; place = place; starts = place == 0; ends = is_empty points }, inl refl, e)
labelled_in key l r place (a ∷ b ∷ points) s (inr m) = let h = labelled_in key l r (place + 1) (b ∷ points) s m in (h.0, inr h.1, h.2)

key_in : (key l r place : ℕ) (points : List Point) (x : LabelledSegment) → Among x (path_segments key l r place points) → x.arc ≡ key
key_in key l r place [] x m = absurd m
key_in key l r place (a ∷ []) x m = absurd m
key_in key l r place (a ∷ b ∷ points) x (inl e) = ap (λ (t : LabelledSegment). t.arc) (sym e)
key_in key l r place (a ∷ b ∷ points) x (inr m) = key_in key l r (place + 1) (b ∷ points) x m

-- what is in a reversed list is in the list
from_reverse : {A : Type 0} (xs : List A) (x : A) → Among x (reverse xs) → Among x xs
from_reverse [] x m = m
from_reverse (y ∷ ys) x m = elim (append_among (reverse ys) (y ∷ []) x (subst (Among x) (reverse_cons y ys) m)) [
  | inl n ↦ inr (from_reverse ys x n)
  | inr n ↦ elim n [
    | inl e ↦ inl e
    | inr o ↦ absurd o
  ]
]

-- segments of two edges that are apart meet at ends of the edges alone
pub meets_at_end : (x t : LabelledSegment) → AreApart x t → x.arc ≢ t.arc → (z : Fraction) → pos 0 <ℤ z.d → is_on z x.segment ≡ true → is_on z t.segment ≡ true
    → (v : Point) × (is_at z v ≡ true) × IsEnd x v
meets_at_end x t apart other z positive on and_on =
    elim (or_cases ((ends.aa || ends.ab) && is_at z x.segment.a) ((ends.ba || ends.bb) && is_at z x.segment.b) (permitted_common x t apart z positive on and_on)) [
      | inl e ↦
          let parts = and_parts (ends.aa || ends.ab) (is_at z x.segment.a) e in
          (x.segment.a, parts.1, inl (at_start (or_cases ends.aa ends.ab parts.0), refl))
      | inr e ↦
          let parts = and_parts (ends.ba || ends.bb) (is_at z x.segment.b) e in
          (x.segment.b, parts.1, inr (at_last_end (or_cases ends.ba ends.bb parts.0), refl))
    ]
  where
    ends : Shared
    ends = shared_ends x t

    not_next : (m n a b : ℕ) → m ≢ n → ((m == n) && (a == b)) ≡ true → ⊥
    not_next m n a b ne e = ne (eqb-true m n (and_parts (m == n) (a == b) e).0)

    at_start : (ends.aa ≡ true) ⊎ (ends.ab ≡ true) → x.starts ≡ true
    at_start (inl e) = (and_parts (same_point x.segment.a t.segment.a) x.starts (and_parts (same_point x.segment.a t.segment.a && x.starts) t.starts e).0).1
    at_start (inr e) = elim (or_cases (x.starts && t.ends) (follows t x) (and_parts (same_point x.segment.a t.segment.b) ((x.starts && t.ends) || follows t x) e).1) [
      | inl f ↦ (and_parts x.starts t.ends f).0
      | inr f ↦ absurd (not_next t.arc x.arc (t.place + 1) x.place (λ g. other (sym g)) f)
    ]

    at_last_end : (ends.ba ≡ true) ⊎ (ends.bb ≡ true) → x.ends ≡ true
    at_last_end (inl e) = elim (or_cases (x.ends && t.starts) (follows x t) (and_parts (same_point x.segment.b t.segment.a) ((x.ends && t.starts) || follows x t) e).1) [
      | inl f ↦ (and_parts x.ends t.starts f).0
      | inr f ↦ absurd (not_next x.arc t.arc (x.place + 1) t.place other f)
    ]
    at_last_end (inr e) = (and_parts (same_point x.segment.b t.segment.b) x.ends (and_parts (same_point x.segment.b t.segment.b && x.ends) t.ends e).0).1

-- ---- the law

-- a segment of a side is one of its edge, in either direction
pub side_segment : (edges : List Edge) (j : ℕ) (w : Way) (d : Edge) → j < length edges → (c : Seg) → Contains (segments_of (points_of (lines_of edges) (record { span = j; way = w }))) c
    → (t : Seg) × Among t (path (get_or edges j d).points) × ((z : Fraction) → is_on z c ≡ true → is_on z t ≡ true)
side_segment edges j Along d l c m =
    let there = subst (λ (ps : List Point). Contains (segments_of ps) c) (line_points edges j d l) m in
    (c, among (path (get_or edges j d).points) c (subst (λ (ss : List Seg). Contains ss c) (segments_are (get_or edges j d).points) there), λ z o. o)
side_segment edges j Against d l c m =
    let ps = (get_or edges j d).points in
    let there : Contains (segments_of (reverse ps)) c = subst (λ (qs : List Point). Contains (segments_of (reverse qs)) c) (line_points edges j d l) m in
    let turned : Contains (reverse (map flip (path ps))) c = subst (λ (ss : List Seg). Contains ss c) (segments_are (reverse ps) ∙ path_reversed ps) there in
    let back = map_among flip (path ps) c (from_reverse (map flip (path ps)) c (among (reverse (map flip (path ps))) c turned)) in
    (back.0, back.1, λ z o. on_flip z (flip back.0) (subst (λ (s : Seg). is_on z s ≡ true) (sym back.2) o))

-- the segments of an edge
abbrev pub row_of : Edge → List LabelledSegment
row_of a = path_segments a.key a.left a.right 0 a.points

-- segments of two edges of a slice
pub edges_apart : (m : BaseMap) → is_base m ≡ true → IsPartition (base_segments m) → (k : ℕ) → k ≤ length (history_of m) → (i j : ℕ) (d : Edge) → i < length (slice m k).edges → j < length (slice m k).edges → j ≢ i
    → (x u : LabelledSegment) → Among x (row_of (get_or (slice m k).edges i d)) → Among u (row_of (get_or (slice m k).edges j d)) → AreApart x u × (x.arc ≢ u.arc)
edges_apart m base planar k within i j d short l other x u n o =
    let e = get_or (slice m k).edges i d in
    let f = get_or (slice m k).edges j d in
    let sound = (slices_stay_planar m base planar k within).sound in
    let keys : e.key ≢ f.key = elim (cases_lt j i) [
      | inl less ↦ λ z. sound.keys j i d less short (sym z)
      | inr le ↦ λ z. sound.keys i j d (before i j le other) l z
    ] in
    let differ : x.arc ≢ u.arc = λ z. keys (sym (key_in e.key e.left e.right 0 e.points x n) ∙ z ∙ key_in f.key f.left f.right 0 f.points u o) in (
      elim (related_members AreApart (edge_segments (slice m k).edges) (slices_stay_partitions m base planar k within).arcs.apart x u
          (Contains-flat_map row_of (slice m k).edges e x (Contains-get_or (slice m k).edges i d short) (contained (row_of e) x n))
          (Contains-flat_map row_of (slice m k).edges f u (Contains-get_or (slice m k).edges j d l) (contained (row_of f) u o))) [
            | inl same ↦ absurd (differ (ap (λ (a : LabelledSegment). a.arc) same))
            | inr (inl a) ↦ a
            | inr (inr a) ↦ apart_turned u x a
          ],
      differ,
    )
  where
    before : (i j : ℕ) → i ≤ j → j ≢ i → i < j
    before i j le ne = omega (arith, le, ne)

pub rings_pass_edges : RingsPassEdges
rings_pass_edges m base planar k within ring has i e short is none s t in_s in_t p q h g on_p on_q =
    let x = of_edge s in_s in
    let y = of_edge t in_t in
    winding_is_seen p h segments
    ∙ all_along segments (closed_ring m k ring has) e.key e.left e.right e.points free x.0 y.0 x.1 y.1 p q h g
    (subst (λ (c : Seg). is_on p c ≡ true) (sym x.2) on_p) (subst (λ (c : Seg). is_on q c ≡ true) (sym y.2) on_q)
    ∙ sym (winding_is_seen q g segments)
  where
    edges : List Edge
    edges = (slice m k).edges

    segments : List Seg
    segments = ring_segments (lines_of (slice m k).edges) ring

    of_edge : (c : Seg) → Contains (segments_of e.points) c → (x : LabelledSegment) × Among x (path_segments e.key e.left e.right 0 e.points) × (x.segment ≡ c)
    of_edge c n = labelled_in e.key e.left e.right 0 e.points c (among (path e.points) c (subst (λ (ss : List Seg). Contains ss c) (segments_are e.points) n))

    free : (x : LabelledSegment) → Among x (path_segments e.key e.left e.right 0 e.points) → IsFree segments x
    free x n c in_ring z positive on_x on_c =
        let side = Contains-from_flat_map (λ (s : Side). segments_of (points_of (lines_of (slice m k).edges) s)) ring c in_ring in
        let orbits = rings_are_orbits (slice_spans m k) in
        let valid : IsSide (length (slice_spans m k)) side.0
        = All-contains (IsSide (length (slice_spans m k))) (sides_of (rings_of (slice_spans m k))) side.0 orbits.within (Contains-flat_map (λ (r : List Side). r) (rings_of (slice_spans m k)) ring side.0 has side.1) in
        let long = length-spans (slice m k).edges (slice_ends m k) (paired m k) in
        let l : side.0.span < length (slice m k).edges = omega (arith, valid, long) in
        let f = get_or (slice m k).edges side.0.span e in
        let there = side_segment (slice m k).edges side.0.span side.0.way e l c side.2 in
        let u = labelled_in f.key f.left f.right 0 f.points there.0 there.1 in
        let apart = edges_apart m base planar k within i side.0.span e short l (All-contains (λ (s : Side). s.span ≢ i) ring side.0 none side.1) x u.0 (subst (λ (a : Edge). Among x (row_of a)) (sym is) n) u.1 in
        meets_at_end x u.0 apart.0 apart.1 z positive on_x (subst (λ (c : Seg). is_on z c ≡ true) (sym u.2) (there.2 z on_c))

pub rings_wind_alike : RingsWindAlike
rings_wind_alike m base planar k within ring has p q h g clear =
    let segments = ring_segments (lines_of (slice m k).edges) ring in
    winding_is_seen p h segments
    ∙ wound_alike p q h.rational g.rational segments (All-from_members (λ c. (z : Fraction) → IsOnWay p q z → is_on z c ≡ true → ⊥) segments (λ c n z w on.
    true≢false (sym on ∙ All-contains (λ c. is_on z c ≡ false) segments c (clear z w) n))) (closed_ring m k ring has)
    ∙ sym (winding_is_seen q g segments)
