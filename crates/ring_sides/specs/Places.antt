-- The rings of all faces in their order, and the sides that they take, place by place.
use Rattle.std.specs.Prelude.{◌≡◌, ℕ, ◌+◌, nat_lt, ℤ, Bool, true, false, List, [], ◌∷◌, ◌++◌, length, flat_map, AllPairs, Contains, if◌then◌else◌}
use Rattle.tgap_model.specs.declared.geometry.Point.{Point}
use Rattle.tgap_model.specs.declared.topology.RawPolygon.{RawPolygon}
use Rattle.tgap_model.specs.declared.topology.RawMap.{RawMap}
use Rattle.line_forms.specs.Lines.{next_number}
use Rattle.topology_forms.specs.Rings.{arc_named, points_named, is_collapsed}
use Rattle.ring_sides.specs.FaceRings.{faces, is_left_of}

-- ---- rings

-- A ring of a face: the face, the number of the ring among those of all polygons, whether it is the exterior or a hole, and
-- its indexes.
pub record FaceRing : Type 0 where
  pub face : ℕ
  pub number : ℕ
  pub exterior : Bool
  pub indexes : List ℤ

-- the holes of face f that are not collapsed; the first of these rings has number r
abbrev pub holes_of : List (List Point) → ℕ → ℕ → List (List ℤ) → List FaceRing
holes_of arcs f r [] = []
holes_of arcs f r (hole ∷ holes) =
    (if is_collapsed arcs hole then [] else record { face = f; number = r; exterior = false; indexes = hole } ∷ [])
    ++ holes_of arcs f (next_number r) holes

-- the exterior of face f and its holes
abbrev pub rings_of : List (List Point) → ℕ → ℕ → List (List ℤ) → List FaceRing
rings_of arcs f r [] = []
rings_of arcs f r (exterior ∷ holes) = record { face = f; number = r; exterior = true; indexes = exterior } ∷ holes_of arcs f (next_number r) holes

-- the rings of these faces, of which the first is face f
abbrev pub rings_from : List (List Point) → ℕ → List RawPolygon → List FaceRing
rings_from arcs f [] = []
rings_from arcs f (polygon ∷ polygons) = rings_of arcs f polygon.first_ring polygon.rings ++ rings_from arcs (f + 1) polygons

abbrev pub face_rings : RawMap → List FaceRing
face_rings raw = rings_from raw.arcs 1 (faces raw)

-- ---- places

-- A side of an arc, the left or else the right one, and the face that takes it.
pub record Taking : Type 0 where
  pub arc : ℕ
  pub left : Bool
  pub face : ℕ

-- what a place of a ring takes: the side of its arc on which the face is; of an arc of one point there is none
abbrev pub index_takes : List (List Point) → FaceRing → ℤ → List Taking
index_takes arcs ring i =
    if nat_lt (length (points_named arcs i)) 2 then []
    else record { arc = arc_named i; left = is_left_of arcs ring.exterior ring.indexes i; face = ring.face } ∷ []

-- what a ring takes, place by place, and what rings take, one after the other
abbrev pub ring_takes : List (List Point) → FaceRing → List Taking
ring_takes arcs ring = flat_map (index_takes arcs ring) ring.indexes

abbrev pub rings_take : List (List Point) → List FaceRing → List Taking
rings_take arcs rings = flat_map (ring_takes arcs) rings

abbrev pub sides_taken : RawMap → List Taking
sides_taken raw = rings_take raw.arcs (face_rings raw)

-- one of these takings is that of a side of arc a by face f
abbrev pub Takes : List Taking → ℕ → Bool → ℕ → Type 0
Takes takings a left f = Contains takings (record { arc = a; left = left; face = f })

-- no two places take one side, be it for two faces or for one
abbrev pub AreApart : Taking → Taking → Type 0
AreApart s t = s.arc ≡ t.arc → s.left ≡ t.left → ⊥

abbrev pub AreTakenOnce : List Taking → Type 0
AreTakenOnce takings = AllPairs AreApart takings
