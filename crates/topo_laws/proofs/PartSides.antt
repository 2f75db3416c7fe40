-- The sides that the polygons of a slice take when they are read, part by part.
use Rattle.std.proofs.Common.{◌≡◌, ℕ, ◌+◌, ◌<◌, ◌≤◌, nat_lt, Bool, true, false, not, cond, ◌&&◌, if◌then◌else◌, List, [], ◌∷◌, ◌++◌, length, map, filter, flat_map, get_or, All, Some, refl, sym, ap, ap₂, ◌∙◌, subst, true≢false, arith}
use Rattle.std.specs.Prelude.{ℤ, pos, negsuc, ◌+ℤ◌, int_lt, decimal}
use Rattle.std.specs.List.{list_all}
use Rattle.std.proofs.lemmas.Bool.{and_parts, not-true, ltb-true}
use Rattle.std.proofs.lemmas.Bool.Decides.{nat_tests}
use Rattle.std.proofs.lemmas.List.{map-append}
use Rattle.std.proofs.lemmas.List.Concat.{flat_map-append}
use Rattle.std.proofs.lemmas.List.Elements.{All-nil, All-cons, All-head, All-tail, All-append}
use Rattle.tgap_model.specs.declared.geometry.Point.{Point}
use Rattle.tgap_model.specs.declared.base.Transform.{Transform}
use Rattle.tgap_model.specs.declared.topology.RawPolygon.{RawPolygon}
use Rattle.tgap_model.specs.Base.{same_point, no_repeat}
use Rattle.tgap_model.specs.Point.{shoelace}
use Rattle.tgap_model.proofs.Points.{same_point-true, same_point-from}
use Rattle.ring_walk.specs.declared.side.Side.{Side}
use Rattle.ring_walk.specs.declared.side.Way.{Way}
use Rattle.ring_walk.specs.declared.side.Way.TheVariants.{Along, Against}
use Rattle.ring_walk.specs.Areas.{points_by, ring_area as area_of}
use Rattle.ring_walk.specs.Spans.{IsSide}
use Rattle.line_forms.specs.Lines.{next_number}
use Rattle.topology_forms.specs.Rings.{arc_named, points_named, start_named, shoelace_named, is_collapsed, ring_area}
use Rattle.ring_sides.specs.FaceRings.{has_exterior, is_face, faces, is_on_left, is_left_of}
use Rattle.ring_sides.specs.Places.{FaceRing, holes_of, rings_of, rings_from, face_rings, Taking, index_takes, ring_takes, rings_take, sides_taken}
use Rattle.topo_write.specs.Polygons.{Polygon, is_outer, is_inner}
use Rattle.topo_write.specs.Topology.{index_by}
use Rattle.topo_write.proofs.RingAreas.{shoelace-reverse}
use Rattle.ring_walk.specs.Orbits.{sides_of}
use Rattle.topo_laws.specs.Told.{index_of, indexes_of, after_rings, told_from, told}

-- ---- takings by sides

abbrev pub is_along : Way → Bool
is_along Along = true
is_along Against = false

-- the face takes a side
abbrev taking : ℕ → Bool → ℕ → Taking
taking a left f = record { arc = a; left = left; face = f }

abbrev pub taking_of : ℕ → Side → Taking
taking_of f s = taking s.span (is_along s.way) f

-- the polygons from face f on take their sides
abbrev pub takes_from : ℕ → List Polygon → List Taking
takes_from f [] = []
takes_from f (p ∷ polygons) = map (taking_of f) (sides_of p.rings) ++ takes_from (f + 1) polygons

-- ---- lines of two points at least

-- arcs of which no two points in a row are one
abbrev pub AreRows : List (List Point) → Type 0
AreRows lines = All (λ ps. (2 ≤ length ps) × (no_repeat ps ≡ true)) lines

module _ (lines : List (List Point)) (rows : AreRows lines) where
  abbrev n : ℕ
  n = length lines

  named_is : (s : Side) → points_named lines (index_of s) ≡ get_or lines s.span []
  named_is s = by s.way
    where
      by : (w : Way) → points_named lines (index_by w s.span) ≡ get_or lines s.span []
      by Along = refl
      by Against = refl

  row_of : (s : Side) → IsSide n s → (2 ≤ length (points_named lines (index_of s))) × (no_repeat (points_named lines (index_of s)) ≡ true)
  row_of s l = subst (λ ps. (2 ≤ length ps) × (no_repeat ps ≡ true)) (sym (named_is s)) (rows s.span [] l)

  -- two points at least that differ are not one
  not_one : (v : Point) (ps : List Point) → 2 ≤ length ps → no_repeat ps ≡ true → list_all (same_point v) ps ≡ false
  not_one v [] l e = absurd (omega (arith, l))
  not_one v (p ∷ []) l e = absurd (omega (arith, l))
  not_one v (p ∷ q ∷ ps) l e = by (same_point v p) refl (same_point v q) refl
    where
      by : (a : Bool) → same_point v p ≡ a → (b : Bool) → same_point v q ≡ b → (a && (b && list_all (same_point v) ps)) ≡ false
      by false f b g = refl
      by true f false g = refl
      by true f true g =
          let parts = and_parts (not (same_point p q)) (no_repeat (q ∷ ps)) e in
          let same : p ≡ q = sym (same_point-true v p f) ∙ same_point-true v q g in
          absurd (true≢false (sym (same_point-from p q same) ∙ not-true (same_point p q) parts.0))

  -- so no ring of sides is collapsed
  not_collapsed : (ring : List Side) → 0 < length ring → All (IsSide n) ring → is_collapsed lines (map index_of ring) ≡ false
  not_collapsed [] some h = absurd (omega (arith, some))
  not_collapsed (s ∷ ring) some h =
      let row = row_of s (All-head (IsSide n) s ring h) in
      ap (λ (b : Bool). b && list_all (λ j. list_all (same_point (start_named lines (index_of s))) (points_named lines j)) (map index_of ring))
      (not_one (start_named lines (index_of s)) (points_named lines (index_of s)) row.0 row.1)

  -- ---- areas

  side_area : (s : Side) → shoelace_named lines (index_of s) ≡ shoelace (points_by s.way (get_or lines s.span []))
  side_area s = by s.way
    where
      by : (w : Way) → shoelace_named lines (index_by w s.span) ≡ shoelace (points_by w (get_or lines s.span []))
      by Along = refl
      by Against = sym (shoelace-reverse (get_or lines s.span []))

  pub area_told : (ring : List Side) → ring_area lines (map index_of ring) ≡ area_of lines ring
  area_told [] = refl
  area_told (s ∷ ring) = ap₂ (λ (x y : ℤ). x +ℤ y) (side_area s) (area_told ring)

  -- ---- what a ring takes

  one_takes : (ring : FaceRing) (s : Side) → IsSide n s → is_on_left lines ring.exterior ring.indexes ≡ true → index_takes lines ring (index_of s) ≡ taking_of ring.face s ∷ []
  one_takes ring s l left =
      let long = (row_of s l).0 in
      let test : nat_lt (length (points_named lines (index_of s))) 2 ≡ false = grind (arith, nat_tests) in
      ap (λ (b : Bool). if b then [] else taking (arc_named (index_of s)) (is_left_of lines ring.exterior ring.indexes (index_of s)) ring.face ∷ []) test
      ∙ by s.way
    where
      by : (w : Way) → taking (arc_named (index_by w s.span)) (is_left_of lines ring.exterior ring.indexes (index_by w s.span)) ring.face ∷ []
          ≡ taking s.span (is_along w) ring.face ∷ []
      by Along = ap (λ (b : Bool). taking s.span b ring.face ∷ []) left
      by Against = ap (λ (b : Bool). taking s.span (not b) ring.face ∷ []) left

  all_take : (ring : FaceRing) (ss : List Side) → All (IsSide n) ss → is_on_left lines ring.exterior ring.indexes ≡ true
      → flat_map (index_takes lines ring) (map index_of ss) ≡ map (taking_of ring.face) ss
  all_take ring [] h left = refl
  all_take ring (s ∷ ss) h left =
      ap₂ (λ (us ts : List Taking). us ++ ts) (one_takes ring s (All-head (IsSide n) s ss h) left) (all_take ring ss (All-tail (IsSide n) s ss h) left)

  outer_left : (r : List Side) → is_outer lines r ≡ true → is_on_left lines true (map index_of r) ≡ true
  outer_left r e = ap (λ z. if int_lt (pos 0) z then true else false) (area_told r) ∙ ap (λ (b : Bool). if b then true else false) e

  inner_left : (r : List Side) → is_inner lines r ≡ true → is_on_left lines false (map index_of r) ≡ true
  inner_left r e = ap (λ z. if int_lt (pos 0) z then false else true) (area_told r) ∙ by (area_of lines r) e
    where
      by : (z : ℤ) → int_lt z (pos 0) ≡ true → (if int_lt (pos 0) z then false else true) ≡ true
      by (pos k) f = absurd (omega (arith, ltb-true k 0 f))
      by (negsuc k) f = refl

  -- ---- what a polygon takes

  -- a polygon of sides with an outer ring and inner ones
  pub record IsRinged (p : Polygon) : Type 0 where
    pub first : List Side
    pub holes : List (List Side)
    pub rings : p.rings ≡ first ∷ holes
    pub outer : is_outer lines first ≡ true
    pub inner : All (λ i. is_inner lines i ≡ true) holes
    pub some : All (λ r. 0 < length r) p.rings
    pub sides : All (All (IsSide n)) p.rings

  holes_take : (f r : ℕ) (holes : List (List Side)) → All (λ i. is_inner lines i ≡ true) holes → All (λ i. 0 < length i) holes → All (All (IsSide n)) holes
      → rings_take lines (holes_of lines f r (indexes_of holes)) ≡ map (taking_of f) (sides_of holes)
  holes_take f r [] inner some sides = refl
  holes_take f r (hole ∷ holes) inner some sides =
      let h : FaceRing = record { face = f; number = r; exterior = false; indexes = map index_of hole } in
      let rest = holes_take f (next_number r) holes (All-tail (λ i. is_inner lines i ≡ true) hole holes inner) (All-tail (λ (i : List Side). 0 < length i) hole holes some) (All-tail (All (IsSide n)) hole holes sides) in
      let valid = All-head (All (IsSide n)) hole holes sides in
      ap (λ (b : Bool). rings_take lines ((if b then [] else h ∷ []) ++ holes_of lines f (next_number r) (indexes_of holes)))
      (not_collapsed hole (All-head (λ (i : List Side). 0 < length i) hole holes some) valid)
      ∙ ap₂ (λ (us ts : List Taking). us ++ ts) (all_take h hole valid (inner_left hole (All-head (λ i. is_inner lines i ≡ true) hole holes inner))) rest
      ∙ sym (map-append (taking_of f) hole (sides_of holes))

  rings_all_take : (f r : ℕ) (first : List Side) (holes : List (List Side)) → is_outer lines first ≡ true → All (λ i. is_inner lines i ≡ true) holes → All (λ i. 0 < length i) (first ∷ holes)
      → All (All (IsSide n)) (first ∷ holes) → rings_take lines (rings_of lines f r (indexes_of (first ∷ holes))) ≡ map (taking_of f) (sides_of (first ∷ holes))
  rings_all_take f r first holes outer inner some sides =
      let h : FaceRing = record { face = f; number = r; exterior = true; indexes = map index_of first } in
      ap₂ (λ (us ts : List Taking). us ++ ts) (all_take h first (All-head (All (IsSide n)) first holes sides) (outer_left first outer))
      (holes_take f (next_number r) holes inner (All-tail (λ (i : List Side). 0 < length i) first holes some) (All-tail (All (IsSide n)) first holes sides))
      ∙ sym (map-append (taking_of f) first (sides_of holes))

  polygon_takes : (f r : ℕ) (p : Polygon) → IsRinged p → rings_take lines (rings_of lines f r (indexes_of p.rings)) ≡ map (taking_of f) (sides_of p.rings)
  polygon_takes f r p h =
      subst (λ rs. rings_take lines (rings_of lines f r (indexes_of rs)) ≡ map (taking_of f) (sides_of rs)) (sym h.rings)
      (rings_all_take f r h.first h.holes h.outer h.inner (subst (All (λ i. 0 < length i)) h.rings h.some) (subst (All (All (IsSide n))) h.rings h.sides))

  -- its first ring is no point, so it is a face
  polygon_is_face : (p : Polygon) (q : RawPolygon) → IsRinged p → q.rings ≡ indexes_of p.rings → is_face lines q ≡ true
  polygon_is_face p q h e =
      ap (has_exterior lines) (e ∙ ap indexes_of h.rings)
      ∙ ap not (not_collapsed h.first (All-head (λ (i : List Side). 0 < length i) h.first h.holes (subst (All (λ i. 0 < length i)) h.rings h.some))
      (All-head (All (IsSide n)) h.first h.holes (subst (All (All (IsSide n))) h.rings h.sides)))

  faces_are : (r : ℕ) (polygons : List Polygon) → All IsRinged polygons → filter (is_face lines) (told_from r polygons) ≡ told_from r polygons
  faces_are r [] h = refl
  faces_are r (p ∷ polygons) h =
      let q : RawPolygon = record { kind = Some (decimal p.row.class); first_ring = r; rings = indexes_of p.rings } in
      ap₂ (λ (b : Bool) qs. cond b (q ∷ qs) qs) (polygon_is_face p q (All-head IsRinged p polygons h) refl) (faces_are (after_rings r p.rings) polygons (All-tail IsRinged p polygons h))

  told_takes : (f r : ℕ) (polygons : List Polygon) → All IsRinged polygons → rings_take lines (rings_from lines f (told_from r polygons)) ≡ takes_from f polygons
  told_takes f r [] h = refl
  told_takes f r (p ∷ polygons) h =
      flat_map-append (ring_takes lines) (rings_of lines f r (indexes_of p.rings)) (rings_from lines (f + 1) (told_from (after_rings r p.rings) polygons))
      ∙ ap₂ (λ (us ts : List Taking). us ++ ts) (polygon_takes f r p (All-head IsRinged p polygons h)) (told_takes (f + 1) (after_rings r p.rings) polygons (All-tail IsRinged p polygons h))

  -- the sides that the reader takes
  pub sides_read : (t : Transform) (polygons : List Polygon) → All IsRinged polygons → sides_taken (told t lines polygons) ≡ takes_from 1 polygons
  sides_read t polygons h = ap (λ qs. rings_take lines (rings_from lines 1 qs)) (faces_are 0 polygons h) ∙ told_takes 1 0 polygons h

  pub faces_read : (t : Transform) (polygons : List Polygon) → All IsRinged polygons → faces (told t lines polygons) ≡ told_from 0 polygons
  faces_read t polygons h = faces_are 0 polygons h

  -- ---- what holds of the rings of all polygons

  module _ (W : List ℤ → Type 0) where
    all_holes : (f r : ℕ) (holes : List (List Side)) → All (λ q. W (map index_of q)) holes → All (λ ring. W ring.indexes) (holes_of lines f r (indexes_of holes))
    all_holes f r [] h = All-nil (λ ring. W ring.indexes)
    all_holes f r (hole ∷ holes) h =
        by (is_collapsed lines (map index_of hole)) (all_holes f (next_number r) holes (All-tail (λ q. W (map index_of q)) hole holes h))
      where
        by : (b : Bool) → All (λ q. W q.indexes) (holes_of lines f (next_number r) (indexes_of holes))
            → All (λ q. W q.indexes) ((if b then [] else record { face = f; number = r; exterior = false; indexes = map index_of hole } ∷ []) ++ holes_of lines f (next_number r) (indexes_of holes))
        by true rest = rest
        by false rest = All-cons (λ q. W q.indexes) (record { face = f; number = r; exterior = false; indexes = map index_of hole }) (holes_of lines f (next_number r) (indexes_of holes))
            (All-head (λ q. W (map index_of q)) hole holes h) rest

    all_of_polygon : (f r : ℕ) (rings : List (List Side)) → All (λ q. W (map index_of q)) rings → All (λ ring. W ring.indexes) (rings_of lines f r (indexes_of rings))
    all_of_polygon f r [] h = All-nil (λ ring. W ring.indexes)
    all_of_polygon f r (first ∷ holes) h =
        All-cons (λ ring. W ring.indexes) (record { face = f; number = r; exterior = true; indexes = map index_of first }) (holes_of lines f (next_number r) (indexes_of holes))
        (All-head (λ q. W (map index_of q)) first holes h) (all_holes f (next_number r) holes (All-tail (λ q. W (map index_of q)) first holes h))

    all_told : (f r : ℕ) (polygons : List Polygon) → All (λ p. All (λ q. W (map index_of q)) p.rings) polygons → All (λ ring. W ring.indexes) (rings_from lines f (told_from r polygons))
    all_told f r [] h = All-nil (λ ring. W ring.indexes)
    all_told f r (p ∷ polygons) h =
        All-append (λ ring. W ring.indexes) (rings_of lines f r (indexes_of p.rings)) (rings_from lines (f + 1) (told_from (after_rings r p.rings) polygons))
        (all_of_polygon f r p.rings (All-head (λ (q : Polygon). All (λ r. W (map index_of r)) q.rings) p polygons h))
        (all_told (f + 1) (after_rings r p.rings) polygons (All-tail (λ (q : Polygon). All (λ r. W (map index_of r)) q.rings) p polygons h))

    pub all_rings_read : (t : Transform) (polygons : List Polygon) → All IsRinged polygons → All (λ p. All (λ q. W (map index_of q)) p.rings) polygons
        → All (λ ring. W ring.indexes) (face_rings (told t lines polygons))
    all_rings_read t polygons ringed h = subst (λ qs. All (λ ring. W ring.indexes) (rings_from lines 1 qs)) (sym (faces_are 0 polygons ringed)) (all_told 1 0 polygons h)
