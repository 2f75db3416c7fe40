-- Spokes with their nodes, their order, and the rings that they make: one list for all nodes, beside the definition, which
-- takes one node after the other.
use Rattle.std.specs.Prelude.{◌≡◌, ℕ, ◌+◌, Bool, ◌&&◌, ◌||◌, not, ◌==◌, List, [], ◌∷◌, ◌++◌, map, flat_map, filter, length, get_or, IsPermutation, Option, Some, None, if◌then◌else◌}
use Rattle.tgap_model.specs.declared.geometry.Point.{Point}
use Rattle.tgap_model.specs.declared.segment.LabelledSegment.{LabelledSegment}
use Rattle.tgap_model.specs.declared.fault.MapFault.{MapFault}
use Rattle.tgap_model.specs.declared.fault.MapFault.TheVariants.{NodeDisagrees}
use Rattle.tgap_model.specs.Base.{same_point}
use Rattle.tgap_model.specs.Segment.{point_before, turns_before}
use Rattle.tgap_model.specs.Partition.{Spoke, spokes_of}
use Rattle.base_check.specs.declared.spoke.NodeSpoke.{NodeSpoke}
use Rattle.base_check.specs.declared.ring.NodeGap.{NodeGap}

-- a gap at a node as a fault of a map
abbrev pub disagrees : NodeGap → MapFault
disagrees g = NodeDisagrees g.node g.spoke g.next g.left g.right

-- ---- spokes

-- the spoke, as the definition has it
abbrev pub spoke : NodeSpoke → Spoke
spoke p = record { toward = p.toward; left = p.left; right = p.right }

-- the spokes of a list at one node
abbrev pub is_at_node : Point → NodeSpoke → Bool
is_at_node v p = same_point p.node v

abbrev pub spokes_in : Point → List NodeSpoke → List Spoke
spokes_in v spokes = map spoke (filter (is_at_node v) spokes)

-- at each point they are those that the definition has of the segments, in some order
abbrev pub AreSpokesOf : List LabelledSegment → List NodeSpoke → Type 0
AreSpokesOf segments spokes = (v : Point) → IsPermutation (flat_map (spokes_of v) segments) (spokes_in v spokes)

-- at each point those of the segment come after those that were there
abbrev pub AddsSpokesOf : LabelledSegment → List NodeSpoke → List NodeSpoke → Type 0
AddsSpokesOf s old new = (v : Point) → spokes_in v new ≡ spokes_in v old ++ spokes_of v s

-- the order of spokes: by node, and then by direction
abbrev pub before : NodeSpoke → NodeSpoke → Bool
before p q =
    point_before p.node q.node || (same_point p.node q.node && turns_before p.node p.toward q.toward)

-- ---- rings

-- the ring of spoke number i ends with it: it is the last of all, or the next one is at another node
abbrev pub ring_ends : List NodeSpoke → ℕ → NodeSpoke → Bool
ring_ends spokes i d =
    (i + 1 == length spokes) || not (same_point (get_or spokes i d).node (get_or spokes (i + 1) d).node)

-- the first gap, or else the second
abbrev pub or_gap : Option NodeGap → Option NodeGap → Option NodeGap
or_gap None later = later
or_gap (Some gap) later = Some gap

-- the gap between spoke number i of a node and the next one, number j, where the faces disagree
abbrev pub gap_between : NodeSpoke → ℕ → NodeSpoke → ℕ → Option NodeGap
gap_between p i q j =
    if p.left == q.right then None
    else Some (record { node = p.node; spoke = i; next = j; left = p.left; right = q.right })

-- the first gap of these spokes, the first of them number i of the ring that begins with the spoke given; each ring is a run
-- of one node, and its first spoke comes next to its last one
abbrev pub gap_from : NodeSpoke → ℕ → List NodeSpoke → Option NodeGap
gap_from first i [] = None
gap_from first i (p ∷ []) = gap_between p i first 0
gap_from first i (p ∷ q ∷ spokes) =
    if same_point p.node q.node
    then or_gap (gap_between p i q (i + 1)) (gap_from first (i + 1) (q ∷ spokes))
    else or_gap (gap_between p i first 0) (gap_from q 0 (q ∷ spokes))

abbrev pub gap_of : List NodeSpoke → Option NodeGap
gap_of [] = None
gap_of (p ∷ spokes) = gap_from p 0 (p ∷ spokes)
