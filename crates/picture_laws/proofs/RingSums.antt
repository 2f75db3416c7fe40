-- A sum over the segments of all rings of a face is one over the segments that have the face at a side, in the direction in which
-- it is at their left.
use Rattle.std.proofs.Common.{◌≡◌, ℕ, zero, suc, ◌+◌, ◌*◌, ◌<◌, ◌==◌, Bool, true, false, cond, ℤ, pos, ◌+ℤ◌, List, [], ◌∷◌, map, get_or, length, reverse, All, refl, sym, ap, ap₂, ◌∙◌, subst, arith}
use Rattle.std.specs.Prelude.{flat_map, slice_index_or}
use Rattle.std.specs.List.{range_with_len}
use Rattle.std.proofs.lemmas.Int.{ints}
use Rattle.std.proofs.lemmas.List.Elements.{All-contains, All-weaker}
use Rattle.tgap_model.specs.declared.geometry.Point.{Point}
use Rattle.tgap_model.specs.declared.geometry.Seg.{Seg}
use Rattle.tgap_model.specs.declared.slice.Edge.{Edge}
use Rattle.tgap_model.specs.Partition.{path_segments, edge_segments}
use Rattle.tgap_model.specs.Removals.{path}
use Rattle.removal_laws.proofs.ChainEnds.{contained}
use Rattle.slice_laws.proofs.Paths.{flip, path_reversed, reverse_cons}
use Rattle.ring_walk.specs.declared.span.Span.{Span}
use Rattle.ring_walk.specs.declared.span.EdgeEnds.{EdgeEnds}
use Rattle.ring_walk.specs.declared.side.Side.{Side}
use Rattle.ring_walk.specs.declared.side.Way.TheVariants.{Along, Against}
use Rattle.ring_walk.specs.Sides.{numbered, sides, face_of, span_number}
use Rattle.ring_walk.specs.Rings.{rings_of, ring_face}
use Rattle.ring_walk.specs.Areas.{points_of, segments_of, ring_segments}
use Rattle.ring_walk.specs.Spans.{IsSide}
use Rattle.ring_walk.specs.Orbits.{sides_of}
use Rattle.ring_walk.proofs.SideNumbers.{numbered-side_number, sides_contain, all_sides_within, sides_differ}
use Rattle.ring_walk.proofs.RingOrbits.{rings_are_orbits}
use Rattle.topo_write.specs.Polygons.{spans_of, lines_of, of_face}
use Rattle.topo_laws.specs.RingFaces.{HasOneFace}
use Rattle.picture_laws.proofs.Sums.{int_sum, int_sum-append, int_sum-agree, int_sum-same, int_sum-flat_map, int_sum-zero, int_sum-map}
use Rattle.picture_laws.proofs.SameMembers.{among, differ, same_sum, int_sum-filter}

-- ---- segments of rows

pub segments_are : (points : List Point) → segments_of points ≡ path points
segments_are [] = refl
segments_are (a ∷ []) = refl
segments_are (a ∷ b ∷ points) = ap (λ ss. record { a = a; b = b } ∷ ss) (segments_are (b ∷ points))

pub reversed_sum : {A : Type 0} (v : A → ℤ) (xs : List A) → int_sum v (reverse xs) ≡ int_sum v xs
reversed_sum v [] = refl
reversed_sum v (x ∷ xs) =
    let front = ap (int_sum v) (reverse_cons x xs) ∙ int_sum-append v (reverse xs) (x ∷ []) in
    let rest = reversed_sum v xs in
    omega (arith, ints, front, rest)

-- a segment between two faces, in the direction in which the face is at its left
abbrev pub beside : (Seg → ℤ) → ℕ → Seg → ℕ → ℕ → ℤ
beside g f s l r = cond (l == f) (g s) (pos 0) +ℤ cond (r == f) (g (flip s)) (pos 0)

module _ (g : Seg → ℤ) (f : ℕ) where
  -- what an edge gives, by its two sides
  abbrev edge_sides : Edge → ℤ
  edge_sides e = cond (e.left == f) (int_sum g (segments_of e.points)) (pos 0) +ℤ cond (e.right == f) (int_sum g (segments_of (reverse e.points))) (pos 0)

  both_ways : (l r i place : ℕ) (points : List Point)
      → cond (l == f) (int_sum g (path points)) (pos 0) +ℤ cond (r == f) (int_sum (λ s. g (flip s)) (path points)) (pos 0)
      ≡ int_sum (λ s. beside g f s.segment s.left s.right) (path_segments i l r place points)
  both_ways l r i place [] = none (l == f) (r == f)
    where
      none : (b c : Bool) → cond b (pos 0) (pos 0) +ℤ cond c (pos 0) (pos 0) ≡ pos 0
      none true true = refl
      none true false = refl
      none false true = refl
      none false false = refl
  both_ways l r i place (a ∷ []) = none (l == f) (r == f)
    where
      none : (b c : Bool) → cond b (pos 0) (pos 0) +ℤ cond c (pos 0) (pos 0) ≡ pos 0
      none true true = refl
      none true false = refl
      none false true = refl
      none false false = refl
  both_ways l r i place (a ∷ b ∷ points) = by (l == f) (r == f) (both_ways l r i (place + 1) (b ∷ points))
    where
      s : Seg
      s = record { a = a; b = b }

      along : ℤ
      along = int_sum g (path (b ∷ points))

      against : ℤ
      against = int_sum (λ s. g (flip s)) (path (b ∷ points))

      more : ℤ
      more = int_sum (λ s. beside g f s.segment s.left s.right) (path_segments i l r (place + 1) (b ∷ points))

      by : (x y : Bool) → cond x along (pos 0) +ℤ cond y against (pos 0) ≡ more
          → cond x (g s +ℤ along) (pos 0) +ℤ cond y (g (flip s) +ℤ against) (pos 0) ≡ (cond x (g s) (pos 0) +ℤ cond y (g (flip s)) (pos 0)) +ℤ more
      by true true e = omega (arith, ints, e)
      by true false e = omega (arith, ints, e)
      by false true e = omega (arith, ints, e)
      by false false e = omega (arith, ints, e)

  edge_gives : (e : Edge) → edge_sides e ≡ int_sum (λ s. beside g f s.segment s.left s.right) (path_segments e.key e.left e.right 0 e.points)
  edge_gives e =
      ap₂ (λ x y. cond (e.left == f) x (pos 0) +ℤ cond (e.right == f) y (pos 0)) (ap (int_sum g) (segments_are e.points))
      (ap (int_sum g) (segments_are (reverse e.points) ∙ path_reversed e.points) ∙ reversed_sum g (map flip (path e.points)) ∙ int_sum-map g flip (path e.points))
      ∙ both_ways e.left e.right e.key 0 e.points

  edges_give : (es : List Edge) → int_sum edge_sides es ≡ int_sum (λ s. beside g f s.segment s.left s.right) (edge_segments es)
  edges_give es =
      int_sum-same edge_sides (λ e. int_sum (λ s. beside g f s.segment s.left s.right) (path_segments e.key e.left e.right 0 e.points)) edge_gives es
      ∙ sym (int_sum-flat_map (λ s. beside g f s.segment s.left s.right) (λ e. path_segments e.key e.left e.right 0 e.points) es)

-- ---- sides, edge by edge

abbrev along_side : ℕ → Side
along_side i = record { span = i; way = Along }

abbrev against_side : ℕ → Side
against_side i = record { span = i; way = Against }

-- a sum over all sides is one over the edges
sides_sum : (h : Side → ℤ) (v : Edge → ℤ) (i : ℕ) (es : List Edge)
    → ((j : ℕ) (d : Edge) → j < length es → h (along_side (i + j)) +ℤ h (against_side (i + j)) ≡ v (get_or es j d))
    → int_sum (λ n. h (numbered n)) (range_with_len (2 * i) (2 * length es)) ≡ int_sum v es
sides_sum h v i [] agree = refl
sides_sum h v i (e ∷ es) agree =
    let twice : 2 * length (e ∷ es) ≡ suc (suc (2 * length es)) = omega arith in
    let first : 2 * i ≡ 2 * i + 0 = omega arith in
    let third : 2 * i + 1 + 1 ≡ 2 * (i + 1) = omega arith in
    let here : i + 0 ≡ i = omega arith in
    let rest = sides_sum h v (i + 1) es (λ j d l.
    let next : i + 1 + j ≡ i + suc j = omega arith in
    subst (λ n. h (along_side n) +ℤ h (against_side n) ≡ v (get_or es j d)) (sym next) (agree (suc j) d (omega (arith, l)))) in
    let own = subst (λ n. h (along_side n) +ℤ h (against_side n) ≡ v e) here (agree 0 e (omega arith)) in
    let even = ap (λ n. h (numbered n)) first ∙ ap h (numbered-side_number (along_side i)) in
    let odd = ap h (numbered-side_number (against_side i)) in
    let tail = ap (λ n. int_sum (λ n. h (numbered n)) (range_with_len n (2 * length es))) third in
    ap (λ n. int_sum (λ n. h (numbered n)) (range_with_len (2 * i) n)) twice
    ∙ joined _ _ _ _ _ _ _ _ even odd tail rest own
  where
    joined : (a b c x y more s v : ℤ) → a ≡ x → b ≡ y → c ≡ more → more ≡ s → x +ℤ y ≡ v → a +ℤ (b +ℤ c) ≡ v +ℤ s
    joined a b c x y more s v e f g h i = omega (arith, ints, e, f, g, h, i)

-- ---- the rings of a face

pub length-spans : (edges : List Edge) (ends : List EdgeEnds) → length ends ≡ length edges → length (spans_of edges ends) ≡ length edges
length-spans [] ends e = refl
length-spans (x ∷ edges) [] e = absurd (omega (arith, e))
length-spans (x ∷ edges) (y ∷ ends) e = ap suc (length-spans edges ends (omega (arith, e)))

-- a span has the faces of its edge
pub span_faces : (edges : List Edge) (ends : List EdgeEnds) (j : ℕ) (d : Edge) → length ends ≡ length edges → j < length edges
    → ((span_number (spans_of edges ends) j).left ≡ (get_or edges j d).left) × ((span_number (spans_of edges ends) j).right ≡ (get_or edges j d).right)
span_faces [] ends j d e l = absurd (omega (arith, l))
span_faces (x ∷ edges) [] j d e l = absurd (omega (arith, e))
span_faces (x ∷ edges) (y ∷ ends) zero d e l = (refl, refl)
span_faces (x ∷ edges) (y ∷ ends) (suc j) d e l = span_faces edges ends j d (omega (arith, e)) (omega (arith, l))

pub line_points : (edges : List Edge) (j : ℕ) (d : Edge) → j < length edges → slice_index_or (lines_of edges) j [] ≡ (get_or edges j d).points
line_points [] j d l = absurd (omega (arith, l))
line_points (x ∷ edges) zero d l = refl
line_points (x ∷ edges) (suc j) d l = line_points edges j d (omega (arith, l))

module _ (g : Seg → ℤ) (f : ℕ) (edges : List Edge) (ends : List EdgeEnds) (paired : length ends ≡ length edges)
    (one_face : All (HasOneFace (spans_of edges ends)) (rings_of (spans_of edges ends))) where
  abbrev spans : List Span
  spans = spans_of edges ends

  abbrev lines : List (List Point)
  lines = lines_of edges

  abbrev rings : List (List Side)
  rings = rings_of spans

  -- what a side gives, and what it gives where it has the face
  abbrev side_gives : Side → ℤ
  side_gives s = int_sum g (segments_of (points_of lines s))

  abbrev own : Side → ℤ
  own s = cond (face_of spans s == f) (side_gives s) (pos 0)

  ring_gives : (ring : List Side) → HasOneFace spans ring → cond (ring_face spans ring == f) (int_sum side_gives ring) (pos 0) ≡ int_sum own ring
  ring_gives ring h =
      pulled (ring_face spans ring == f)
      ∙ int_sum-agree (λ s. cond (ring_face spans ring == f) (side_gives s) (pos 0)) own ring
      (All-weaker (λ s. face_of spans s ≡ ring_face spans ring) (λ s. cond (ring_face spans ring == f) (side_gives s) (pos 0) ≡ own s)
      (λ s e. ap (λ (n : ℕ). cond (n == f) (side_gives s) (pos 0)) (sym e)) ring h)
    where
      pulled : (b : Bool) → cond b (int_sum side_gives ring) (pos 0) ≡ int_sum (λ s. cond b (side_gives s) (pos 0)) ring
      pulled true = refl
      pulled false = sym (int_sum-zero (λ s. pos 0) (λ s. refl) ring)

  -- the sides of all rings are all sides, each once
  all_sides : int_sum own (sides_of rings) ≡ int_sum own (sides (length spans))
  all_sides =
      let orbits = rings_are_orbits spans in
      same_sum own (sides_of rings) (sides (length spans)) (differ (sides_of rings) orbits.once) (differ (sides (length spans)) (sides_differ (length spans)))
      (λ s m. among (sides (length spans)) s (sides_contain (length spans) s (All-contains (IsSide (length spans)) (sides_of rings) s orbits.within (contained (sides_of rings) s m))))
      (λ s m. among (sides_of rings) s (orbits.each s (All-contains (IsSide (length spans)) (sides (length spans)) s (all_sides_within (length spans)) (contained (sides (length spans)) s m))))

  -- the two sides of an edge
  two_sides : (j : ℕ) (d : Edge) → j < length edges → own (along_side j) +ℤ own (against_side j) ≡ edge_sides g f (get_or edges j d)
  two_sides j d l =
      let faces = span_faces edges ends j d paired l in
      let points = line_points edges j d l in
      ap₂ (λ x y. x +ℤ y)
      (ap₂ (λ (n : ℕ) (ps : List Point). cond (n == f) (int_sum g (segments_of ps)) (pos 0)) faces.0 points)
      (ap₂ (λ (n : ℕ) (ps : List Point). cond (n == f) (int_sum g (segments_of (reverse ps))) (pos 0)) faces.1 points)

  edges_sum : int_sum own (sides (length spans)) ≡ int_sum (edge_sides g f) edges
  edges_sum =
      int_sum-map own numbered (range_with_len 0 (2 * length spans))
      ∙ ap (λ n. int_sum (λ i. own (numbered i)) (range_with_len 0 (2 * n))) (length-spans edges ends paired)
      ∙ ap (λ n. int_sum (λ i. own (numbered i)) (range_with_len n (2 * length edges))) none
      ∙ sides_sum own (edge_sides g f) 0 edges (λ j d l.
      let same : 0 + j ≡ j = omega arith in
      subst (λ n. own (along_side n) +ℤ own (against_side n) ≡ edge_sides g f (get_or edges j d)) (sym same) (two_sides j d l))
    where
      none : 0 ≡ 2 * 0
      none = omega arith

  pub rings_sum : int_sum g (flat_map (ring_segments (lines_of edges)) (of_face (spans_of edges ends) f (rings_of (spans_of edges ends))))
      ≡ int_sum (λ s. beside g f s.segment s.left s.right) (edge_segments edges)
  rings_sum =
      int_sum-flat_map g (ring_segments lines) (of_face spans f rings)
      ∙ int_sum-same (λ ring. int_sum g (ring_segments lines ring)) (λ ring. int_sum side_gives ring) (λ ring. int_sum-flat_map g (λ s. segments_of (points_of lines s)) ring) (of_face spans f rings)
      ∙ int_sum-filter (λ ring. int_sum side_gives ring) (λ r. ring_face spans r == f) rings
      ∙ int_sum-agree (λ r. cond (ring_face spans r == f) (int_sum side_gives r) (pos 0)) (λ r. int_sum own r) rings
      (All-weaker (HasOneFace spans) (λ r. cond (ring_face spans r == f) (int_sum side_gives r) (pos 0) ≡ int_sum own r) ring_gives rings one_face)
      ∙ sym (int_sum-flat_map own (λ r. r) rings)
      ∙ all_sides ∙ edges_sum ∙ edges_give g f edges
