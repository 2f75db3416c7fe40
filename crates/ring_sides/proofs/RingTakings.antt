-- The takings of the rings in their order are the sides that the faces take.
use Rattle.std.proofs.Common.{◌≡◌, inl, inr, ℕ, zero, suc, ◌+◌, ◌-◌, ◌≤◌, nat_lt, Bool, true, false, cond, List, [], ◌∷◌, ◌++◌, length, Contains, flat_map, slice_get, Some, ℤ, refl, sym, ap, ◌∙◌, subst, true≢false, arith}
use Rattle.std.proofs.lemmas.Bool.{ltb-false, le-ltb}
use Rattle.std.proofs.lemmas.List.Elements.{All-contains, Contains-append_left, Contains-append_right, Contains-append_cases}
use Rattle.lemmas.proofs.Members.{in_head, in_tail, in_cases}
use Rattle.tgap_model.specs.declared.geometry.Point.{Point}
use Rattle.tgap_model.specs.declared.topology.RawPolygon.{RawPolygon}
use Rattle.tgap_model.specs.declared.topology.RawMap.{RawMap}
use Rattle.line_forms.specs.Lines.{next_number}
use Rattle.topology_forms.specs.Rings.{arc_named, points_named, is_collapsed}
use Rattle.ring_sides.specs.FaceRings.{faces, Counts, IsRingOf, IsWhole, is_left_of}
use Rattle.ring_sides.specs.Places.{FaceRing, holes_of, rings_of, rings_from, face_rings, Taking, index_takes, ring_takes, sides_taken, Takes}
use Rattle.ring_sides.specs.Sides.{TakesSide}
use Rattle.ring_sides.specs.RingFaults.{AreWhole}

-- ---- lists that are joined

-- a member of the whole is one of some list, and the other way round
record IsMadeOf {X Y : Type 0} (f : X → List Y) (xs : List X) (y : Y) : Type 0 where
  source : X
  there : Contains xs source
  made : Contains (f source) y

made_of : {X Y : Type 0} (f : X → List Y) (xs : List X) (y : Y) → Contains (flat_map f xs) y → IsMadeOf f xs y
made_of f [] y at = absurd (omega (arith, at.1))
made_of f (x ∷ xs) y at = elim (Contains-append_cases (f x) (flat_map f xs) y at) [
  | inl here ↦ record { source = x; there = in_head x xs; made = here }
  | inr later ↦ (let m = made_of f xs y later in record { source = m.source; there = in_tail x xs m.source m.there; made = m.made })
]

made_from : {X Y : Type 0} (f : X → List Y) (xs : List X) (x : X) (y : Y) → Contains xs x → Contains (f x) y → Contains (flat_map f xs) y
made_from f [] x y at made = absurd (omega (arith, at.1))
made_from f (z ∷ xs) x y at made = elim (in_cases z xs x at) [
  | inl same ↦ Contains-append_left (f z) (flat_map f xs) y (subst (λ w. Contains (f w) y) (sym same) made)
  | inr later ↦ Contains-append_right (f z) (flat_map f xs) y (made_from f xs x y later made)
]

-- ---- the rings of a face

-- a ring of the list is a hole of face f that counts
record IsHoleOf (arcs : List (List Point)) (f : ℕ) (holes : List (List ℤ)) (ring : FaceRing) : Type 0 where
  face : ring.face ≡ f
  exterior : ring.exterior ≡ false
  there : Contains holes ring.indexes
  wide : is_collapsed arcs ring.indexes ≡ false

hole_of : (arcs : List (List Point)) (f r : ℕ) (holes : List (List ℤ)) (ring : FaceRing) → Contains (holes_of arcs f r holes) ring → IsHoleOf arcs f holes ring
hole_of arcs f r [] ring at = absurd (omega (arith, at.1))
hole_of arcs f r (hole ∷ holes) ring at = by (is_collapsed arcs hole) refl at (hole_of arcs f (next_number r) holes ring)
  where
    made : FaceRing
    made = record { face = f; number = r; exterior = false; indexes = hole }

    rest : List FaceRing
    rest = holes_of arcs f (next_number r) holes

    after : IsHoleOf arcs f holes ring → IsHoleOf arcs f (hole ∷ holes) ring
    after h = record { face = h.face; exterior = h.exterior; there = in_tail hole holes ring.indexes h.there; wide = h.wide }

    by : (collapsed : Bool) → is_collapsed arcs hole ≡ collapsed → Contains (cond collapsed [] (made ∷ []) ++ rest) ring → (Contains rest ring → IsHoleOf arcs f holes ring)
        → IsHoleOf arcs f (hole ∷ holes) ring
    by true e at go = after (go at)
    by false e at go = elim (in_cases made rest ring at) [
      | inl same ↦
          subst (IsHoleOf arcs f (hole ∷ holes)) same (record { face = refl; exterior = refl; there = in_head hole holes; wide = e })
      | inr later ↦ after (go later)
    ]

-- a hole that counts is in the list
record HasRing (rings : List FaceRing) (f : ℕ) (exterior : Bool) (ring : List ℤ) : Type 0 where
  number : ℕ
  there : Contains rings (record { face = f; number = number; exterior = exterior; indexes = ring })

has_hole : (arcs : List (List Point)) (f r : ℕ) (holes : List (List ℤ)) (ring : List ℤ) → Contains holes ring → is_collapsed arcs ring ≡ false → HasRing (holes_of arcs f r holes) f false ring
has_hole arcs f r [] ring at wide = absurd (omega (arith, at.1))
has_hole arcs f r (hole ∷ holes) ring at wide = by (is_collapsed arcs hole) refl (λ later. has_hole arcs f (next_number r) holes ring later wide)
  where
    made : List ℤ → FaceRing
    made indexes = record { face = f; number = r; exterior = false; indexes = indexes }

    rest : List FaceRing
    rest = holes_of arcs f (next_number r) holes

    by : (collapsed : Bool) → is_collapsed arcs hole ≡ collapsed → (Contains holes ring → HasRing rest f false ring) → HasRing (cond collapsed [] (made hole ∷ []) ++ rest) f false ring
    by true e go = elim (in_cases hole holes ring at) [
      | inl same ↦ absurd (true≢false (sym e ∙ ap (is_collapsed arcs) same ∙ wide))
      | inr later ↦ go later
    ]
    by false e go = elim (in_cases hole holes ring at) [
      | inl same ↦ record { number = r; there = subst (λ indexes. Contains (made hole ∷ rest) (made indexes)) same (in_head (made hole) rest) }
      | inr later ↦
          (let h = go later in
          record { number = h.number; there = in_tail (made hole) rest (record { face = f; number = h.number; exterior = false; indexes = ring }) h.there })
    ]

-- a ring of the list counts, and one that counts is in the list
ring_counts : (arcs : List (List Point)) (f r : ℕ) (rings : List (List ℤ)) (ring : FaceRing) → Contains (rings_of arcs f r rings) ring
    → (ring.face ≡ f) × Counts arcs rings ring.exterior ring.indexes
ring_counts arcs f r [] ring at = absurd (omega (arith, at.1))
ring_counts arcs f r (exterior ∷ holes) ring at = elim (in_cases (record { face = f; number = r; exterior = true; indexes = exterior }) (holes_of arcs f (next_number r) holes) ring at) [
  | inl same ↦
      subst (λ (w : FaceRing). (w.face ≡ f) × Counts arcs (exterior ∷ holes) w.exterior w.indexes) same (refl, (holes, refl))
  | inr later ↦
      (let h = hole_of arcs f (next_number r) holes ring later in
      (h.face, subst (λ (b : Bool). Counts arcs (exterior ∷ holes) b ring.indexes) (sym h.exterior) (exterior, holes, refl, h.there, h.wide)))
]

has_ring_of : (arcs : List (List Point)) (f r : ℕ) (rings : List (List ℤ)) (exterior : Bool) (ring : List ℤ) → Counts arcs rings exterior ring → HasRing (rings_of arcs f r rings) f exterior ring
has_ring_of arcs f r rings true ring h =
    subst (λ (rs : List (List ℤ)). HasRing (rings_of arcs f r rs) f true ring) (sym h.1) (record {
      number = r;
      there = in_head (record { face = f; number = r; exterior = true; indexes = ring }) (holes_of arcs f (next_number r) h.0);
    })
has_ring_of arcs f r rings false ring h =
    let hole = has_hole arcs f (next_number r) h.1 ring h.3 h.4 in
    subst (λ (rs : List (List ℤ)). HasRing (rings_of arcs f r rs) f false ring) (sym h.2) (record {
      number = hole.number;
      there =
          in_tail (record { face = f; number = r; exterior = true; indexes = h.0 }) (holes_of arcs f (next_number r) h.1) (record { face = f; number = hole.number; exterior = false; indexes = ring }) hole.there;
    })

-- ---- the rings of all faces

-- a ring is one of the face that is the k-th of these
record IsFrom (arcs : List (List Point)) (f : ℕ) (polygons : List RawPolygon) (ring : FaceRing) : Type 0 where
  place : ℕ
  polygon : RawPolygon
  there : slice_get polygons place ≡ Some polygon
  face : ring.face ≡ f + place
  counts : Counts arcs polygon.rings ring.exterior ring.indexes

ring_from : (arcs : List (List Point)) (f : ℕ) (polygons : List RawPolygon) (ring : FaceRing) → Contains (rings_from arcs f polygons) ring → IsFrom arcs f polygons ring
ring_from arcs f [] ring at = absurd (omega (arith, at.1))
ring_from arcs f (p ∷ polygons) ring at = elim (Contains-append_cases (rings_of arcs f p.first_ring p.rings) (rings_from arcs (f + 1) polygons) ring at) [
  | inl here ↦
      (let c = ring_counts arcs f p.first_ring p.rings ring here in
      record { place = 0; polygon = p; there = refl; face = omega (arith, c.0); counts = c.1 })
  | inr later ↦
      (let l = ring_from arcs (f + 1) polygons ring later in
      record { place = suc l.place; polygon = l.polygon; there = l.there; face = omega (arith, l.face); counts = l.counts })
]

has_ring_from : (arcs : List (List Point)) (f : ℕ) (polygons : List RawPolygon) (k : ℕ) (p : RawPolygon) (exterior : Bool) (ring : List ℤ) → slice_get polygons k ≡ Some p
    → Counts arcs p.rings exterior ring → HasRing (rings_from arcs f polygons) (f + k) exterior ring
has_ring_from arcs f [] k p exterior ring there counts = absurd cc
has_ring_from arcs f (q ∷ polygons) zero p exterior ring there counts =
    let same : q ≡ p = cc in
    let number : f ≡ f + 0 = omega arith in
    let h = has_ring_of arcs f q.first_ring q.rings exterior ring (subst (λ (w : RawPolygon). Counts arcs w.rings exterior ring) (sym same) counts) in
    subst (λ (g : ℕ). HasRing (rings_from arcs f (q ∷ polygons)) g exterior ring) number (record {
      number = h.number;
      there = Contains-append_left (rings_of arcs f q.first_ring q.rings) (rings_from arcs (f + 1) polygons) (record { face = f; number = h.number; exterior = exterior; indexes = ring }) h.there;
    })
has_ring_from arcs f (q ∷ polygons) (suc k) p exterior ring there counts =
    let number : f + 1 + k ≡ f + suc k = omega arith in
    let h = has_ring_from arcs (f + 1) polygons k p exterior ring there counts in
    subst (λ (g : ℕ). HasRing (rings_from arcs f (q ∷ polygons)) g exterior ring) number (record {
      number = h.number;
      there =
          Contains-append_right (rings_of arcs f q.first_ring q.rings) (rings_from arcs (f + 1) polygons)
          (record { face = f + 1 + k; number = h.number; exterior = exterior; indexes = ring }) h.there;
    })

pub ring_is_of : (raw : RawMap) (ring : FaceRing) → Contains (face_rings raw) ring → IsRingOf raw ring.face ring.exterior ring.indexes
ring_is_of raw ring at =
    let h = ring_from raw.arcs 1 (faces raw) ring at in
    let place : h.place ≡ ring.face - 1 = omega (arith, h.face) in record {
      polygon = h.polygon;
      face = (omega (arith, h.face), subst (λ (k : ℕ). slice_get (faces raw) k ≡ Some h.polygon) place h.there);
      counts = h.counts;
    }

ring_is_there : (raw : RawMap) (f : ℕ) (exterior : Bool) (ring : List ℤ) → IsRingOf raw f exterior ring → HasRing (face_rings raw) f exterior ring
ring_is_there raw f exterior ring h =
    let number : 1 + (f - 1) ≡ f = omega (arith, h.face.0) in
    subst (λ (g : ℕ). HasRing (face_rings raw) g exterior ring) number (has_ring_from raw.arcs 1 (faces raw) (f - 1) h.polygon exterior ring h.face.1 h.counts)

-- where the rings of the list are whole, each ring of a face is
pub each_whole : (raw : RawMap) → AreWhole raw.arcs (face_rings raw) → (f : ℕ) (exterior : Bool) (ring : List ℤ) → IsRingOf raw f exterior ring → IsWhole raw.arcs ring
each_whole raw all f exterior ring h =
    let there = ring_is_there raw f exterior ring h in
    All-contains (λ (w : FaceRing). IsWhole raw.arcs w.indexes) (face_rings raw) (record { face = f; number = there.number; exterior = exterior; indexes = ring }) all there.there

-- ---- the places

-- what an index takes
index_has : (arcs : List (List Point)) (ring : FaceRing) (i : ℤ) (t : Taking) → Contains (index_takes arcs ring i) t
    → (2 ≤ length (points_named arcs i)) × (record { arc = arc_named i; left = is_left_of arcs ring.exterior ring.indexes i; face = ring.face } ≡ t)
index_has arcs ring i t at = by (nat_lt (length (points_named arcs i)) 2) refl at
  where
    made : Taking
    made = record { arc = arc_named i; left = is_left_of arcs ring.exterior ring.indexes i; face = ring.face }

    by : (short : Bool) → nat_lt (length (points_named arcs i)) 2 ≡ short → Contains (cond short [] (made ∷ [])) t → (2 ≤ length (points_named arcs i)) × (made ≡ t)
    by true e at = absurd (omega (arith, at.1))
    by false e at = (ltb-false (length (points_named arcs i)) 2 e, elim (in_cases made [] t at) [ inl same ↦ same | inr later ↦ absurd (omega (arith, later.1)) ])

index_gives : (arcs : List (List Point)) (ring : FaceRing) (i : ℤ) → 2 ≤ length (points_named arcs i)
    → Contains (index_takes arcs ring i) (record { arc = arc_named i; left = is_left_of arcs ring.exterior ring.indexes i; face = ring.face })
index_gives arcs ring i long =
    let made : Taking = record { arc = arc_named i; left = is_left_of arcs ring.exterior ring.indexes i; face = ring.face } in
    subst (λ (short : Bool). Contains (cond short [] (made ∷ [])) made) (sym (le-ltb (length (points_named arcs i)) 2 long)) (in_head made [])

-- a taking of the list is a side that a face takes
pub taken_is_side : (raw : RawMap) (a : ℕ) (left : Bool) (f : ℕ) → Takes (sides_taken raw) a left f → TakesSide raw a left f
taken_is_side raw a left f at =
    let t : Taking = record { arc = a; left = left; face = f } in
    let r = made_of (ring_takes raw.arcs) (face_rings raw) t at in
    let p = made_of (index_takes raw.arcs r.source) r.source.indexes t r.made in
    let one = index_has raw.arcs r.source p.source t p.made in
    let face : r.source.face ≡ f = ap (λ (w : Taking). w.face) one.1 in record {
      exterior = r.source.exterior;
      ring = r.source.indexes;
      index = p.source;
      ring_of = subst (λ (g : ℕ). IsRingOf raw g r.source.exterior r.source.indexes) face (ring_is_of raw r.source r.there);
      inside = p.there;
      names = ap (λ (w : Taking). w.arc) one.1;
      long = one.0;
      side = ap (λ (w : Taking). w.left) one.1;
    }

-- and a side that a face takes is in the list
pub side_is_taken : (raw : RawMap) (a : ℕ) (left : Bool) (f : ℕ) → TakesSide raw a left f → Takes (sides_taken raw) a left f
side_is_taken raw a left f h =
    let found = ring_is_there raw f h.exterior h.ring h.ring_of in
    let ring : FaceRing = record { face = f; number = found.number; exterior = h.exterior; indexes = h.ring } in
    let same : record { arc = arc_named h.index; left = is_left_of raw.arcs h.exterior h.ring h.index; face = f } ≡ record { arc = a; left = left; face = f } =
    λ i. record { arc = h.names i; left = h.side i; face = f } in
    let one = index_gives raw.arcs ring h.index h.long in
    let whole = made_from (index_takes raw.arcs ring) h.ring h.index (record { arc = arc_named h.index; left = is_left_of raw.arcs h.exterior h.ring h.index; face = f }) h.inside one in
    subst (Contains (sides_taken raw)) same (made_from (ring_takes raw.arcs) (face_rings raw) ring (record { arc = arc_named h.index; left = is_left_of raw.arcs h.exterior h.ring h.index; face = f }) found.there whole)
