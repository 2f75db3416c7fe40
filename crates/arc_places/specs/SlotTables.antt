-- What the table of slots is made of: for each slot the number of its arc, and for each number the slot. Which sides are looked for in it.
use Rattle.std.specs.Prelude.{◌≡◌, ◌<◌, ℕ, ◌==◌, nat_lt, Bool, true, false, ◌&&◌, List, Option, Some, IfSome, length}
use Rattle.tgap_model.specs.declared.geometry.Point.{Point}
use Rattle.tgap_model.specs.declared.base.BaseArc.{BaseArc}
use Rattle.tgap_model.specs.Base.{same_point}
use Rattle.ring_walk.specs.declared.span.Span.{Span}
use Rattle.ring_walk.specs.declared.side.Side.{Side}
use Rattle.ring_walk.specs.declared.side.Way.{Way}
use Rattle.ring_walk.specs.Sides.{face_by, numbered, span_number, spoke_before, start_by}
use Rattle.ring_walk.specs.Spans.{AreSpans}
use Rattle.face_cuts.specs.Sectors.{spans_of}
use Rattle.face_cuts.specs.Spokes.{IsSpoke}
use Rattle.arc_places.specs.declared.places.Places.{Places}
use Rattle.arc_places.specs.declared.sought.Sought.{Sought}
use Rattle.arc_places.specs.declared.sought.Sought.TheVariants.{Node, Face}
use Rattle.arc_places.specs.declared.front.Front.{Front}
use Rattle.arc_places.specs.Slots.{arcs_in, slot_of, slots_from}
use Rattle.arc_places.specs.Places.{Covers, is_among, listed}
use Rattle.arc_places.specs.Borders.{CoversFaces, bordering}
use Rattle.arc_places.specs.Numbers.{AreNumbers}

-- the table of these slots
pub record IsSlotTable (slots : List BaseArc) (places : Places) (borders : List (List ℕ)) (numbers there : List ℕ) : Type 0 where
  pub spans : AreSpans (spans_of (arcs_in slots))
  pub by_point : Covers (listed places) slots
  pub by_face : CoversFaces (bordering borders) slots
  pub numbered : AreNumbers slots numbers
  pub slots_are : there ≡ slots_from 0 slots

-- the arcs that are there, as spans
abbrev pub spans_in : List BaseArc → List Span
spans_in slots = spans_of (arcs_in slots)

-- ---- sides that are looked for

-- the side on that way of a span leaves the node, or has the face
abbrev pub is_sought : Sought → Way → Span → Bool
is_sought (Node v) w s = same_point (start_by w s) v
is_sought (Face f) w s = face_by w s == f

-- the slot of each arc with such a side is listed
abbrev pub AreListed : List BaseArc → List ℕ → Sought → Type 0
AreListed slots numbers sought =
    (k : ℕ) (w : Way) → k < length (arcs_in slots) → is_sought sought w (span_number (spans_in slots) k) ≡ true
    → is_among (slot_of slots k) numbers ≡ true

-- a side is such a one
abbrev pub passes : List BaseArc → Sought → Side → Bool
passes slots sought s = is_sought sought s.way (span_number (spans_in slots) s.span)

-- the side with this number is one of the arc in this slot, and such a one
abbrev pub is_found : List BaseArc → Sought → ℕ → ℕ → Bool
is_found slots sought i slot =
    nat_lt (numbered i).span (length (arcs_in slots)) && (slot_of slots (numbered i).span == slot) && passes slots sought (numbered i)

-- ---- the side in front of another one round its node

-- Of the spokes of a node that pass a test, the last one: none of them comes after it.
pub record IsLastOf (spans : List Span) (v : Point) (test : Side → Bool) (last : Option Side) : Type 0 where
  pub is : IfSome last (λ t. IsSpoke spans v t × (test t ≡ true))
  pub greatest : (u : Side) → IsSpoke spans v u → test u ≡ true → (t : Side) × (last ≡ Some t) × (spoke_before spans t u ≡ false)

-- spokes of a node
pub record AreSpokesOf (spans : List Span) (v : Point) (front : Front) : Type 0 where
  pub before : IfSome front.before (IsSpoke spans v)
  pub last : IfSome front.last (IsSpoke spans v)

-- of the spokes of a node that were seen, the last one in front of this one, and the last one of all
pub record AreLast (spans : List Span) (v : Point) (x : Side) (seen : Side → Bool) (front : Front) : Type 0 where
  pub before : IsLastOf spans v (λ s. seen s && spoke_before spans s x) front.before
  pub last : IsLastOf spans v seen front.last
