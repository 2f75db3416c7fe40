-- The base map of a topology, told of its rings: which face takes which side of an arc, and which arcs are kept.
use Rattle.std.specs.Prelude.{◌≡◌, ◌≢◌, ◌<◌, ◌≤◌, ℕ, ℤ, Bool, true, false, List, [], length, map, AllPairs, Contains, slice_index_or}
use Rattle.std.specs.List.{AllZip}
use Rattle.tgap_model.specs.declared.base.BaseArc.{BaseArc}
use Rattle.tgap_model.specs.declared.topology.NamedRules.{NamedRules}
use Rattle.tgap_model.specs.declared.topology.RawMap.{RawMap}
use Rattle.tgap_model.specs.Base.{BaseMap}
use Rattle.topology_forms.specs.Rings.{arc_named, points_named, class_named}
use Rattle.ring_sides.specs.FaceRings.{faces, IsRingOf, IsWhole, is_left_of}
use Rattle.ring_sides.specs.Places.{sides_taken, AreTakenOnce}

-- Face f takes the left or else the right side of arc a: a ring of it names the arc, which has two points, and the face is there.
pub record TakesSide (raw : RawMap) (a : ℕ) (left : Bool) (f : ℕ) : Type 0 where
  pub exterior : Bool
  pub ring : List ℤ
  pub index : ℤ
  pub ring_of : IsRingOf raw f exterior ring
  pub inside : Contains ring index
  pub names : arc_named index ≡ a
  pub long : 2 ≤ length (points_named raw.arcs index)
  pub side : is_left_of raw.arcs exterior ring index ≡ left

-- The face at a side of an arc is the only one that takes it. Where none takes it, it is 0.
pub record IsFaceAt (raw : RawMap) (a : ℕ) (left : Bool) (f : ℕ) : Type 0 where
  pub taken : f ≢ 0 → TakesSide raw a left f
  pub free : f ≡ 0 → (g : ℕ) → TakesSide raw a left g → ⊥
  pub alone : (g : ℕ) → TakesSide raw a left g → g ≡ f

-- an arc of the base map is arc number a of the topology, with its faces
pub record IsSidedArc (raw : RawMap) (a : ℕ) (arc : BaseArc) : Type 0 where
  pub points : arc.points ≡ slice_index_or raw.arcs a []
  pub left : IsFaceAt raw a true arc.left
  pub right : IsFaceAt raw a false arc.right
  pub apart : arc.left ≢ arc.right

-- these are the numbers of the arcs of which a face takes a side, in their order
pub record AreArcsTaken (raw : RawMap) (numbers : List ℕ) : Type 0 where
  pub ascending : AllPairs ◌<◌ numbers
  pub taken : (a : ℕ) → Contains numbers a → (left : Bool) × (f : ℕ) × TakesSide raw a left f
  pub all : (a : ℕ) (left : Bool) (f : ℕ) → TakesSide raw a left f → Contains numbers a

-- The base map of a topology and its rules: each face has the class of its name, and each side of an arc the face that takes it.
pub record HasRingSides (raw : RawMap) (named : NamedRules) (base : BaseMap) : Type 0 where
  pub transform : base.transform ≡ raw.transform
  pub rules : base.rules ≡ named.rules
  pub classes : base.classes ≡ map (λ p. class_named named p.kind) (faces raw)
  pub rings : (f : ℕ) (exterior : Bool) (ring : List ℤ) → IsRingOf raw f exterior ring → IsWhole raw.arcs ring
  pub once : AreTakenOnce (sides_taken raw)
  pub numbers : List ℕ
  pub kept : AreArcsTaken raw numbers
  pub arcs : AllZip (IsSidedArc raw) numbers base.arcs
