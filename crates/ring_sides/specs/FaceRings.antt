-- The faces of a topology and their rings: which there are, whether a ring is closed, and on which side of it its face is.
use Rattle.std.specs.Prelude.{◌≡◌, ◌≢◌, ◌≤◌, ◌<◌, ℕ, ◌-◌, ℤ, pos, int_lt, Bool, true, false, not, List, [], ◌∷◌, length, filter, Contains, slice_get, slice_index_or, Some, if◌then◌else◌}
use Rattle.tgap_model.specs.declared.geometry.Point.{Point}
use Rattle.tgap_model.specs.declared.topology.RawPolygon.{RawPolygon}
use Rattle.tgap_model.specs.declared.topology.RawMap.{RawMap}
use Rattle.topology_forms.specs.Rings.{is_reversed, start_named, end_named, is_collapsed, ring_area}
use Rattle.ring_sides.specs.Arcs.{index_after}

-- a polygon is a face where it has an exterior ring, its first one, that is not collapsed
abbrev pub has_exterior : List (List Point) → List (List ℤ) → Bool
has_exterior arcs [] = false
has_exterior arcs (exterior ∷ holes) = not (is_collapsed arcs exterior)

abbrev pub is_face : List (List Point) → RawPolygon → Bool
is_face arcs polygon = has_exterior arcs polygon.rings

-- the faces in their order: the first is face 1, the next one is face 2
abbrev pub faces : RawMap → List RawPolygon
faces raw = filter (is_face raw.arcs) raw.polygons

abbrev pub IsFace : RawMap → ℕ → RawPolygon → Type 0
IsFace raw f polygon = (1 ≤ f) × (slice_get (faces raw) (f - 1) ≡ Some polygon)

-- The rings of a face that count: its exterior, and each hole that is not collapsed.
abbrev pub Counts : List (List Point) → List (List ℤ) → Bool → List ℤ → Type 0
Counts arcs rings true ring = (holes : List (List ℤ)) × (rings ≡ ring ∷ holes)
Counts arcs rings false ring = (exterior : List ℤ) × (holes : List (List ℤ)) × (rings ≡ exterior ∷ holes) × Contains holes ring × (is_collapsed arcs ring ≡ false)

-- a ring of face f that counts, which is its exterior or else a hole
pub record IsRingOf (raw : RawMap) (f : ℕ) (exterior : Bool) (ring : List ℤ) : Type 0 where
  pub polygon : RawPolygon
  pub face : IsFace raw f polygon
  pub counts : Counts raw.arcs polygon.rings exterior ring

-- at this place of a ring the arc ends where the next one starts; after the last arc comes the first
abbrev pub IsJoined : List (List Point) → List ℤ → ℕ → Type 0
IsJoined arcs ring place = end_named arcs (slice_index_or ring place (pos 0)) ≡ start_named arcs (index_after ring place)

abbrev pub IsClosed : List (List Point) → List ℤ → Type 0
IsClosed arcs ring = (place : ℕ) → place < length ring → IsJoined arcs ring place

-- a ring that is closed and has an area
pub record IsWhole (arcs : List (List Point)) (ring : List ℤ) : Type 0 where
  pub closed : IsClosed arcs ring
  pub wide : ring_area arcs ring ≢ pos 0

-- Whether a ring has its face on its left. The inside is on the left of a ring whose area is positive, and on the right of
-- another; a face is inside its exterior and outside its holes.
abbrev pub is_on_left : List (List Point) → Bool → List ℤ → Bool
is_on_left arcs exterior ring = if int_lt (pos 0) (ring_area arcs ring) then exterior else not exterior

-- Whether the face is on the left of the arc of an index. An arc that is named from its last point to its first has on its right
-- what the ring has on its left.
abbrev pub is_left_of : List (List Point) → Bool → List ℤ → ℤ → Bool
is_left_of arcs exterior ring i = if is_reversed i then not (is_on_left arcs exterior ring) else is_on_left arcs exterior ring
