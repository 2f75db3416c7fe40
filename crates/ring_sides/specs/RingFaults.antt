-- The first fault of the rings of a topology: what is wrong there, and that nothing before it is.
use Rattle.std.specs.Prelude.{◌≡◌, ◌<◌, ℕ, pos, Bool, true, false, List, ◌∷◌, ◌++◌, length, All, if◌then◌else◌}
use Rattle.tgap_model.specs.declared.geometry.Point.{Point}
use Rattle.tgap_model.specs.declared.topology.RawMap.{RawMap}
use Rattle.tgap_model.specs.declared.fault.MapFault.{MapFault}
use Rattle.tgap_model.specs.declared.fault.MapFault.TheVariants.{RingOpen, RingFlat, SideTaken, SameSides}
use Rattle.topology_forms.specs.Rings.{ring_area}
use Rattle.ring_sides.specs.FaceRings.{IsJoined, IsClosed, IsWhole}
use Rattle.ring_sides.specs.Places.{FaceRing, face_rings, Taking, ring_takes, rings_take, sides_taken, Takes, AreTakenOnce}
use Rattle.ring_sides.specs.Sides.{TakesSide}

abbrev pub AreWhole : List (List Point) → List FaceRing → Type 0
AreWhole arcs rings = All (λ ring. IsWhole arcs ring.indexes) rings

-- the ring of this number has its first gap after this place
pub record IsOpenRing (arcs : List (List Point)) (ring : FaceRing) (r place : ℕ) : Type 0 where
  pub number : ring.number ≡ r
  pub inside : place < length ring.indexes
  pub gap : IsJoined arcs ring.indexes place → ⊥
  pub first : (k : ℕ) → k < place → IsJoined arcs ring.indexes k

-- the ring of this number is closed and has no area
pub record IsFlatRing (arcs : List (List Point)) (ring : FaceRing) (r : ℕ) : Type 0 where
  pub number : ring.number ≡ r
  pub closed : IsClosed arcs ring.indexes
  pub flat : ring_area arcs ring.indexes ≡ pos 0

-- Face g, whose ring this is, takes a side of arc a that face f took, at an earlier place of the ring or in one of the rings before.
-- Up to there no side is taken twice. Of the sides 0 is left and 1 is right.
pub record TakesAgain (arcs : List (List Point)) (before : List FaceRing) (ring : FaceRing) (a side f g : ℕ) : Type 0 where
  pub left : Bool
  pub earlier : List Taking
  pub later : List Taking
  pub number : side ≡ (if left then 0 else 1)
  pub whole : IsWhole arcs ring.indexes
  pub place : ring_takes arcs ring ≡ earlier ++ record { arc = a; left = left; face = g } ∷ later
  pub once : AreTakenOnce (rings_take arcs before ++ earlier)
  pub taken : Takes (rings_take arcs before ++ earlier) a left f

-- what is wrong at a ring, after these rings
abbrev pub IsWrong : List (List Point) → List FaceRing → FaceRing → MapFault → Type 0
IsWrong arcs before ring (RingOpen r place) = IsOpenRing arcs ring r place
IsWrong arcs before ring (RingFlat r) = IsFlatRing arcs ring r
IsWrong arcs before ring (SideTaken a side f g) = TakesAgain arcs before ring a side f g
IsWrong arcs before ring fault = ⊥

-- A fault of one of these rings. Those before it are whole, and no side is taken twice in them.
pub record IsFaultAmong (arcs : List (List Point)) (rings : List FaceRing) (fault : MapFault) : Type 0 where
  pub before : List FaceRing
  pub ring : FaceRing
  pub after : List FaceRing
  pub order : rings ≡ before ++ ring ∷ after
  pub whole : AreWhole arcs before
  pub once : AreTakenOnce (rings_take arcs before)
  pub wrong : IsWrong arcs before ring fault

-- Face f takes both sides of arc a. There is no fault among the rings, and no face takes both sides of an arc before.
pub record TakesBothSides (raw : RawMap) (a f : ℕ) : Type 0 where
  pub whole : AreWhole raw.arcs (face_rings raw)
  pub once : AreTakenOnce (sides_taken raw)
  pub left : TakesSide raw a true f
  pub right : TakesSide raw a false f
  pub first : (b g : ℕ) → b < a → TakesSide raw b true g → TakesSide raw b false g → ⊥

-- the first fault of the rings of a topology
abbrev pub IsRingFault : RawMap → MapFault → Type 0
IsRingFault raw (SameSides a f) = TakesBothSides raw a f
IsRingFault raw fault = IsFaultAmong raw.arcs (face_rings raw) fault
