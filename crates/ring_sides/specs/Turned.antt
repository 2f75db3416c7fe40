-- A ring that is turned round.
use Rattle.std.specs.Prelude.{◌≡◌, ◌≢◌, ℤ, pos, negsuc, List, [], ◌∷◌, ◌++◌}
use Rattle.tgap_model.specs.declared.geometry.Point.{Point}
use Rattle.topology_forms.specs.Rings.{ring_area}
use Rattle.ring_sides.specs.Places.{FaceRing, index_takes}

-- the same arc in the other direction, and a ring the other way round
abbrev pub turned_index : ℤ → ℤ
turned_index (pos n) = negsuc n
turned_index (negsuc n) = pos n

abbrev pub turned : List ℤ → List ℤ
turned [] = []
turned (i ∷ ring) = turned ring ++ turned_index i ∷ []

abbrev pub turned_ring : FaceRing → FaceRing
turned_ring ring = record { face = ring.face; number = ring.number; exterior = ring.exterior; indexes = turned ring.indexes }

-- where it has an area, each of its places takes what it took before
abbrev pub TurnedRingsTakeTheSame : Type 0
TurnedRingsTakeTheSame =
    (arcs : List (List Point)) (ring : FaceRing) (i : ℤ) → ring_area arcs ring.indexes ≢ pos 0
    → index_takes arcs (turned_ring ring) (turned_index i) ≡ index_takes arcs ring i
