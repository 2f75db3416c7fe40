-- Faces that are no polygons, in words of their rings.
use Rattle.std.specs.Prelude.{◌≡◌, ◌≢◌, ◌≤ℤ◌, ◌⊎◌, ℕ, pos, List, ◌∷◌, ◌++◌, All, Contains, Result, Ok, Err, ⊤}
use Rattle.tgap_model.specs.declared.geometry.Point.{Point}
use Rattle.tgap_model.specs.declared.slice.Edge.{Edge}
use Rattle.tgap_model.specs.declared.slice.FaceRow.{FaceRow}
use Rattle.tgap_model.specs.declared.slice.Slice.{Slice}
use Rattle.tgap_model.specs.declared.failure.Or.{Or}
use Rattle.tgap_model.specs.declared.failure.Or.TheVariants.{Fault, Memory}
use Rattle.ring_walk.specs.declared.span.EdgeEnds.{EdgeEnds}
use Rattle.ring_walk.specs.declared.side.Side.{Side}
use Rattle.ring_walk.specs.Rings.{rings_of}
use Rattle.ring_walk.specs.Areas.{ring_area}
use Rattle.topo_write.specs.declared.flat.FlatRing.{FlatRing}
use Rattle.topo_write.specs.Polygons.{first_ring, lines_of, of_face, ring_key, spans_of}

-- A face with these rings is no polygon: one of them has the area 0, or none has a positive one.
abbrev pub IsFlat : List (List Point) → List (List Side) → Type 0
IsFlat lines rings = ((ring : List Side) × Contains rings ring × (ring_area lines ring ≡ pos 0)) ⊎ All (λ r. ring_area lines r ≤ℤ pos 0) rings

-- the first of these rings that has the area 0
pub record IsFirstZero (lines : List (List Point)) (rings : List (List Side)) (ring : List Side) : Type 0 where
  pub before : List (List Side)
  pub after : List (List Side)
  pub place : rings ≡ before ++ ring ∷ after
  pub zero_area : ring_area lines ring ≡ pos 0
  pub first : All (λ r. ring_area lines r ≢ pos 0) before

-- The ring by which such a face is told: the first that has the area 0, or the first of all where none has.
abbrev pub IsToldBy : List (List Point) → List (List Side) → List Side → Type 0
IsToldBy lines rings ring = IsFirstZero lines rings ring ⊎ (All (λ r. ring_area lines r ≢ pos 0) rings × (ring ≡ first_ring rings))

-- the first of these faces that is no polygon, with the key of that ring
pub record IsFirstFlat (edges : List Edge) (rings : ℕ → List (List Side)) (rows : List FaceRow) (flat : FlatRing) : Type 0 where
  pub before : List FaceRow
  pub row : FaceRow
  pub after : List FaceRow
  pub place : rows ≡ before ++ row ∷ after
  pub face : flat.face ≡ row.face
  pub flat_row : IsFlat (lines_of edges) (rings row.face)
  pub first : All (λ r. IsFlat (lines_of edges) (rings r.face) → ⊥) before
  pub ring : List Side
  pub told : IsToldBy (lines_of edges) (rings row.face) ring
  pub key : flat.key ≡ ring_key edges ring

-- ---- what a call says of it

-- the rings of the faces of a slice
abbrev pub rings_at : List Edge → List EdgeEnds → ℕ → List (List Side)
rings_at edges ends f = of_face (spans_of edges ends) f (rings_of (spans_of edges ends))

-- a fault is the first face that is no polygon; want of memory says nothing
abbrev pub TellsFlat : Slice → List EdgeEnds → Or FlatRing → Type 0
TellsFlat slice ends (Fault flat) = IsFirstFlat slice.edges (rings_at slice.edges ends) slice.faces flat
TellsFlat slice ends Memory = ⊤

-- There is an answer only where each face is a polygon; otherwise the fault is the first that is none.
abbrev pub ShowsFlat : {X : Type 0} → Slice → List EdgeEnds → Result X (Or FlatRing) → Type 0
ShowsFlat slice ends (Ok x) = All (λ row. IsFlat (lines_of slice.edges) (rings_at slice.edges ends row.face) → ⊥) slice.faces
ShowsFlat slice ends (Err e) = TellsFlat slice ends e
