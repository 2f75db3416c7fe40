-- The planar partition: what a list of labelled segments has to keep, and the first fault of a base map.
-- It is the textbook notion of a subdivision of the plane.
use Rattle.std.specs.Prelude.{◌≡◌, ℕ, ◌+◌, Bool, true, false, ◌&&◌, ◌||◌, not, ℤ, int_lt, ◌==◌, List, [], ◌∷◌, ◌++◌, map, flat_map, filter, All, AllPairs, Option, Some, None, if◌then◌else◌}
use Rattle.lemmas.specs.Sorting.{sort_by}
use Rattle.tgap_model.specs.declared.geometry.Point.{Point}
use Rattle.tgap_model.specs.declared.geometry.Fraction.{Fraction}
use Rattle.tgap_model.specs.declared.geometry.Shared.{Shared}
use Rattle.tgap_model.specs.declared.base.BaseArc.{BaseArc}
use Rattle.tgap_model.specs.declared.segment.LabelledSegment.{LabelledSegment}
use Rattle.tgap_model.specs.declared.slice.Edge.{Edge}
use Rattle.tgap_model.specs.declared.fault.MapFault.{MapFault}
use Rattle.tgap_model.specs.declared.fault.MapFault.TheVariants.{Meets, NodeDisagrees, StackDisagrees}
use Rattle.lemmas.specs.Ascending.{distinct_by}
use Rattle.tgap_model.specs.Base.{BaseMap, in_limits, same_point}
use Rattle.tgap_model.specs.Segment.{Line, IsBetweenColumns, HaveInCommon, point_before, common_point, turns_before, line_after, crosses, goes_right, is_higher}

-- ---- labelled segments; of a slice the edges stand for the arcs, by their keys

abbrev pub is_empty : {A : Type 0} → List A → Bool
is_empty [] = true
is_empty (x ∷ xs) = false

-- the segments of an arc, from this place on
abbrev pub path_segments : ℕ → ℕ → ℕ → ℕ → List Point → List LabelledSegment
path_segments arc left right place [] = []
path_segments arc left right place (a ∷ []) = []
path_segments arc left right place (a ∷ b ∷ points) =
    record {
      segment = record { a = a; b = b };
      left = left;
      right = right;
      arc = arc;
      place = place;
      starts = place == 0;
      ends = is_empty points;
    } ∷ path_segments arc left right (place + 1) (b ∷ points)

-- the segments of the arcs, numbered from i on
abbrev pub arc_segments : ℕ → List BaseArc → List LabelledSegment
arc_segments i [] = []
arc_segments i (a ∷ arcs) = path_segments i a.left a.right 0 a.points ++ arc_segments (i + 1) arcs

-- the segments of a base map, in the order of their numbers
abbrev pub base_segments : BaseMap → List LabelledSegment
base_segments m = arc_segments 0 m.arcs

-- the segment lies between two different points within the limits
abbrev pub is_proper : LabelledSegment → Bool
is_proper s = in_limits s.segment.a && in_limits s.segment.b && not (same_point s.segment.a s.segment.b)

-- the segments of a slice
abbrev pub edge_segments : List Edge → List LabelledSegment
edge_segments edges = flat_map (λ e. path_segments e.key e.left e.right 0 e.points) edges

-- ---- first property: segments have no point in common but a permitted one

-- the second is the next segment of the same arc
abbrev pub follows : LabelledSegment → LabelledSegment → Bool
follows s t = (s.arc == t.arc) && (s.place + 1 == t.place)

-- The ends that two segments may share: ends of arcs, and the vertex between two successive segments of an arc.
abbrev pub shared_ends : LabelledSegment → LabelledSegment → Shared
shared_ends s t = record {
  aa = same_point s.segment.a t.segment.a && s.starts && t.starts;
  ab = same_point s.segment.a t.segment.b && ((s.starts && t.ends) || follows t s);
  ba = same_point s.segment.b t.segment.a && ((s.ends && t.starts) || follows s t);
  bb = same_point s.segment.b t.segment.b && s.ends && t.ends;
}

abbrev pub AreApart : LabelledSegment → LabelledSegment → Type 0
AreApart s t = (p : Fraction) → ¬ (HaveInCommon s.segment t.segment (shared_ends s t) p)

-- the point at which two segments meet though they may not
abbrev pub meeting_point : LabelledSegment → LabelledSegment → Option Fraction
meeting_point s t = common_point s.segment t.segment (shared_ends s t)

-- the first of these segments, numbered from j on, that segment i meets
abbrev pub first_meeting_of : ℕ → LabelledSegment → ℕ → List LabelledSegment → Option MapFault
first_meeting_of i s j [] = None
first_meeting_of i s j (t ∷ ts) =
    elim (meeting_point s t) [ None ↦ first_meeting_of i s (j + 1) ts | Some p ↦ Some (Meets i j p) ]

-- the least pair of these segments, numbered from i on, that meet
abbrev pub meeting_from : ℕ → List LabelledSegment → Option MapFault
meeting_from i [] = None
meeting_from i (s ∷ ss) =
    elim (first_meeting_of i s (i + 1) ss) [ None ↦ meeting_from (i + 1) ss | Some fault ↦ Some fault ]

-- ---- third property: round a node, each spoke's left face is the next one's right face

-- an arc's way out of a node: where it first goes, and the faces at its left and right on that way
pub record Spoke : Type 0 where
  pub toward : Point
  pub left : ℕ
  pub right : ℕ

-- the spokes that a segment gives to a node
abbrev pub spokes_of : Point → LabelledSegment → List Spoke
spokes_of v s =
    (if s.starts && same_point s.segment.a v then record { toward = s.segment.b; left = s.left; right = s.right } ∷ [] else [])
    ++ (if s.ends && same_point s.segment.b v then record { toward = s.segment.a; left = s.right; right = s.left } ∷ [] else [])

-- the spokes at a node by their direction, counter-clockwise from that of positive x on
abbrev pub spokes_at : Point → List LabelledSegment → List Spoke
spokes_at v segments = sort_by (λ p q. turns_before v p.toward q.toward) (flat_map (spokes_of v) segments)

-- the first spoke of these, numbered from i on, that disagrees with the next one; the last one's next is the first of all
abbrev pub ring_fault : Point → Spoke → ℕ → List Spoke → Option MapFault
ring_fault v first i [] = None
ring_fault v first i (p ∷ []) = if p.left == first.right then None else Some (NodeDisagrees v i 0 p.left first.right)
ring_fault v first i (p ∷ q ∷ spokes) =
    elim (p.left == q.right) [
      | true ↦ ring_fault v first (i + 1) (q ∷ spokes)
      | false ↦ Some (NodeDisagrees v i (i + 1) p.left q.right)
    ]

-- the fault of a node
abbrev pub node_fault : List LabelledSegment → Point → Option MapFault
node_fault segments v = elim (spokes_at v segments) [ [] ↦ None | p ∷ spokes ↦ ring_fault v p 0 (p ∷ spokes) ]

-- the nodes: the ends of arcs, in order
abbrev pub end_points : LabelledSegment → List Point
end_points s = (if s.starts then s.segment.a ∷ [] else []) ++ (if s.ends then s.segment.b ∷ [] else [])

abbrev pub nodes : List LabelledSegment → List Point
nodes segments = distinct_by point_before (flat_map end_points segments)

-- the first fault that a function finds
abbrev pub first_fault : {A : Type 0} → (A → Option MapFault) → List A → Option MapFault
first_fault find [] = None
first_fault find (x ∷ xs) = elim (find x) [ None ↦ first_fault find xs | Some fault ↦ Some fault ]

-- ---- fourth property: down each line, each segment's lower face is the next one's upper face

-- the faces at the upper and at the lower side of a segment
pub record Sides : Type 0 where
  pub upper : ℕ
  pub lower : ℕ

abbrev pub sides : LabelledSegment → Sides
sides s = if goes_right s.segment then record { upper = s.left; lower = s.right } else record { upper = s.right; lower = s.left }

-- the segments that a line crosses, from top to bottom
abbrev pub stack : Line → List LabelledSegment → List LabelledSegment
stack l segments = sort_by (λ s t. is_higher l s.segment t.segment) (filter (λ s. crosses l s.segment) segments)

-- Each upper face is the label reached from above, which is u at first; each lower face is the label reached then; the last is 0.
abbrev pub agree_from : ℕ → List Sides → Bool
agree_from u [] = u == 0
agree_from u (s ∷ ss) = (s.upper == u) && agree_from s.lower ss

-- the first place, numbered from i on, at which a stack disagrees; u is the label reached above it
abbrev pub stack_fault_from : ℤ → ℕ → ℕ → List Sides → Option MapFault
stack_fault_from v i u [] = if u == 0 then None else Some (StackDisagrees v i u 0)
stack_fault_from v i u (s ∷ ss) =
    elim (s.upper == u) [ true ↦ stack_fault_from v (i + 1) s.lower ss | false ↦ Some (StackDisagrees v i u s.upper) ]

-- the fault on the line one half beyond an abscissa
abbrev pub stack_fault : List LabelledSegment → ℤ → Option MapFault
stack_fault segments v = stack_fault_from v 0 0 (map sides (stack (line_after v) segments))

-- the abscissas of all vertices, in order, and those of them that have a next one
abbrev pub abscissas : List LabelledSegment → List ℤ
abscissas segments = distinct_by int_lt (flat_map (λ s. s.segment.a.x ∷ s.segment.b.x ∷ []) segments)

abbrev pub all_but_last : {A : Type 0} → List A → List A
all_but_last [] = []
all_but_last (x ∷ []) = []
all_but_last (x ∷ y ∷ ys) = x ∷ all_but_last (y ∷ ys)

-- ---- the properties together

-- The first three: where two segments meet, the point is a permitted one, a segment has two different faces, and round each
-- node the faces agree.
pub record AgreesAtNodes (segments : List LabelledSegment) : Type 0 where
  pub apart : AllPairs AreApart segments
  pub two_faces : All (λ s. (s.left == s.right) ≡ false) segments
  pub nodes : (v : Point) → node_fault segments v ≡ None

-- Labelled segments form a planar partition: all this, and down each line between whole abscissas the faces agree.
pub record IsPartition (segments : List LabelledSegment) : Type 0 where
  pub arcs : AgreesAtNodes segments
  pub stacks : (l : Line) → IsBetweenColumns l → agree_from 0 (map sides (stack l segments)) ≡ true

-- the first meeting, node and stack at fault of a base map
abbrev pub meeting_fault : BaseMap → Option MapFault
meeting_fault m = meeting_from 0 (base_segments m)

abbrev pub ring_fault_of : BaseMap → Option MapFault
ring_fault_of m = first_fault (node_fault (base_segments m)) (nodes (base_segments m))

abbrev pub stack_fault_of : BaseMap → Option MapFault
stack_fault_of m = first_fault (stack_fault (base_segments m)) (all_but_last (abscissas (base_segments m)))

-- the first fault, or else the second
abbrev pub or_else : Option MapFault → Option MapFault → Option MapFault
or_else None second = second
or_else (Some fault) second = Some fault

-- the first fault of the arcs of a base map: a meeting before a node
unfoldable pub arc_fault : BaseMap → Option MapFault
arc_fault m = or_else (meeting_fault m) (ring_fault_of m)

-- The first fault of a base map: a meeting before a node, a node before a stack.
unfoldable pub map_fault : BaseMap → Option MapFault
map_fault m = or_else (arc_fault m) (stack_fault_of m)
