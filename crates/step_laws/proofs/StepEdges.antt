-- What a step does to edges: labels change and edges between faces that became one are gone, edges are turned round, and two edges
-- become one where they alone meet.
use Rattle.std.proofs.Common.{◌≡◌, ◌⊎◌, ℕ, Bool, not, ◌==◌, List}
use Rattle.std.specs.Prelude.{◌++◌, map, filter, reverse, drop, min, sum_by}
use Rattle.tgap_model.specs.declared.geometry.Point.{Point}
use Rattle.tgap_model.specs.declared.geometry.Seg.{Seg}
use Rattle.tgap_model.specs.declared.base.BaseArc.{BaseArc}
use Rattle.tgap_model.specs.declared.slice.Edge.{Edge}
use Rattle.tgap_model.specs.declared.segment.LabelledSegment.{LabelledSegment}
use Rattle.tgap_model.specs.Partition.{Spoke, edge_segments}
use Rattle.map_laws.proofs.ChainMembers.{Among}
use Rattle.slice_laws.proofs.Paths.{flip}
use Rattle.slice_laws.proofs.Correspondence.{IsMirror}
use Rattle.slice_laws.proofs.NodeLinks.{arc_spoke, arc_start}

-- the edge in the other direction, with its faces exchanged
abbrev pub turned_edge : Edge → Edge
turned_edge e = record { key = e.key; left = e.right; right = e.left; points = reverse e.points }

-- the edge that two become, of which the first ends where the second starts
abbrev pub joined_edge : Edge → Edge → Edge
joined_edge c d = record { key = min c.key d.key; left = c.left; right = c.right; points = c.points ++ drop 1 d.points }

-- the edge with other labels
abbrev pub relabelled_edge : (ℕ → ℕ) → Edge → Edge
relabelled_edge g e = record { key = e.key; left = g e.left; right = g e.right; points = e.points }

-- the edges with other labels, less those whose two faces become one
abbrev pub merged_edges : (ℕ → ℕ) → List Edge → List Edge
merged_edges g edges = map (relabelled_edge g) (filter (λ e. not (g e.left == g e.right)) edges)

-- a weight of segments with their faces that does not depend on the direction
abbrev pub IsEvenWeight : (Seg → ℕ → ℕ → ℕ) → Type 0
IsEvenWeight w = (s : Seg) (l r : ℕ) → w (flip s) r l ≡ w s l r

-- ---- the spokes of edges at a point

-- the edge as an arc
abbrev pub arc_of : Edge → BaseArc
arc_of e = record { left = e.left; right = e.right; points = e.points }

-- the edge has the spoke at the point: it starts there, or ends there
abbrev pub HasEnd : Edge → Point → Spoke → Type 0
HasEnd e v q = (turned : Bool) × (arc_start (arc_of e) turned ≡ v) × (arc_spoke (arc_of e) turned ≡ q)

-- one of the edges has it
abbrev pub IsSpoke : List Edge → Point → Spoke → Type 0
IsSpoke edges v q = (e : Edge) × Among e edges × HasEnd e v q

-- both lists of edges have the same spokes at the point
abbrev pub SameSpokes : List Edge → List Edge → Point → Type 0
SameSpokes edges others v = (q : Spoke) → (IsSpoke edges v q → IsSpoke others v q) × (IsSpoke others v q → IsSpoke edges v q)

-- ---- the same edges

-- Two lists of edges have the same segments with the same faces, some of them turned round: as members, and as often. At each point they
-- have the same spokes, or the second has none.
pub record HaveSame (edges others : List Edge) : Type 0 where
  pub sums : (w : Seg → ℕ → ℕ → ℕ) → IsEvenWeight w
      → sum_by (λ s. w s.segment s.left s.right) (edge_segments edges) ≡ sum_by (λ s. w s.segment s.left s.right) (edge_segments others)
  pub there : (s : LabelledSegment) → Among s (edge_segments edges) → (t : LabelledSegment) × Among t (edge_segments others) × IsMirror (λ n. n) s t
  pub back : (t : LabelledSegment) → Among t (edge_segments others) → (s : LabelledSegment) × Among s (edge_segments edges) × IsMirror (λ n. n) s t
  pub nodes : (v : Point) → SameSpokes edges others v ⊎ ((q : Spoke) → IsSpoke others v q → ⊥)
