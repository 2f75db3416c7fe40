-- The order of the ends of arcs and edges round a node: at each node of a slice the edge ends have the cyclic order that their arc
-- ends have in the base map.
use Rattle.std.specs.Prelude.{◌≡◌, ◌≢◌, ◌≤◌, ℕ, ◌==◌, ℤ, Bool, true, false, ◌&&◌, not, IsTrue, List, [], ◌∷◌, ◌++◌, map, flat_map, filter, length, if◌then◌else◌}
use Rattle.lemmas.specs.Sorting.{sort_by}
use Rattle.tgap_model.specs.declared.geometry.Point.{Point}
use Rattle.tgap_model.specs.declared.segment.LabelledSegment.{LabelledSegment}
use Rattle.tgap_model.specs.declared.slice.Edge.{Edge}
use Rattle.tgap_model.specs.Base.{BaseMap, is_base, same_point}
use Rattle.tgap_model.specs.Segment.{turns_before}
use Rattle.tgap_model.specs.Partition.{IsPartition, Spoke, spokes_at, base_segments, edge_segments}
use Rattle.tgap_model.specs.History.{history_of}
use Rattle.tgap_model.specs.Merged.{merged, label_at, is_border}
use Rattle.tgap_model.specs.Chains.{Chain, arc_number, key, chains_at}
use Rattle.tgap_model.specs.Slice.{slice}
use Rattle.removal_laws.specs.ReplaceLaws.{is_free, other_segments}
use Rattle.removal_laws.specs.Trace.{swept_edges}
use Rattle.removal_laws.specs.StandLaws.{AreSound}

-- ---- ends round a node

-- an end of an arc, or of an edge by its key: its first point, or its last one
pub record End : Type 0 where
  pub arc : ℕ
  pub first : Bool

-- an end at a node, and where the arc or the edge first goes from there
pub record Way : Type 0 where
  pub end : End
  pub toward : Point

-- the ways out of a node that a segment gives
abbrev pub ways_of : Point → LabelledSegment → List Way
ways_of v s =
    (if s.starts && same_point s.segment.a v then record { end = record { arc = s.arc; first = true }; toward = s.segment.b } ∷ [] else [])
    ++ (if s.ends && same_point s.segment.b v then record { end = record { arc = s.arc; first = false }; toward = s.segment.a } ∷ [] else [])

-- the first way is met before the second one, counter-clockwise round the node from the direction of positive x on
abbrev pub way_before : Point → Way → Way → Bool
way_before v p q = turns_before v p.toward q.toward

-- the ends at a node, in the order of their ways
abbrev pub ends_round : Point → List LabelledSegment → List End
ends_round v segments = map (λ w. w.end) (sort_by (way_before v) (flat_map (ways_of v) segments))

-- two lists have one cyclic order: the second begins with a back part of the first, and goes on with its front part
pub record IsRotation {A : Type 0} (xs ys : List A) : Type 0 where
  pub front : List A
  pub back : List A
  pub was : xs ≡ front ++ back
  pub is : ys ≡ back ++ front

-- ---- edge ends and arc ends

-- the arc end at which a chain starts, and that at which it ends
abbrev pub start_end : Chain → End
start_end [] = record { arc = 0; first = true }
start_end (d ∷ chain) = record { arc = d.arc; first = not d.turned }

abbrev pub finish_end : Chain → End
finish_end [] = record { arc = 0; first = true }
finish_end (d ∷ []) = record { arc = d.arc; first = d.turned }
finish_end (d ∷ e ∷ chain) = finish_end (e ∷ chain)

-- the chain with this key
abbrev pub chain_with : List Chain → ℕ → Chain
chain_with [] n = []
chain_with (c ∷ chains) n = if key c == n then c else chain_with chains n

-- the arc end that an end of an edge is: where the chain with the edge's key starts, or where it ends
abbrev pub arc_end : List Chain → End → End
arc_end chains e = if e.first then start_end (chain_with chains e.arc) else finish_end (chain_with chains e.arc)

-- after k steps the arc of this end borders a face
abbrev pub is_border_end : BaseMap → ℕ → End → Bool
is_border_end m k e = is_border (merged m) k (arc_number m.arcs e.arc)

-- the ends of border arcs at a node in the order that they have in the base map, and the arc ends of the edges there in the order that
-- these have in the slice
abbrev pub base_order : BaseMap → ℕ → Point → List End
base_order m k v = filter (is_border_end m k) (ends_round v (base_segments m))

abbrev pub slice_order : BaseMap → ℕ → Point → List End
slice_order m k v = map (arc_end (chains_at (merged m) k)) (ends_round v (edge_segments (slice m k).edges))

-- the faces at the left and at the right of one who leaves a node: by a spoke, and by an arc end after k steps
pub record EndFaces : Type 0 where
  pub left : ℕ
  pub right : ℕ

abbrev pub spoke_faces : Spoke → EndFaces
spoke_faces p = record { left = p.left; right = p.right }

abbrev pub end_faces : BaseMap → ℕ → End → EndFaces
end_faces m k e =
    let a = arc_number m.arcs e.arc in
    if e.first then record { left = label_at (merged m) k a.left; right = label_at (merged m) k a.right }
    else record { left = label_at (merged m) k a.right; right = label_at (merged m) k a.left }

-- ---- the laws

-- The ends at a node of sound edges keep their cyclic order when b is taken out of an edge between a and c.
abbrev pub ReplacedKeepsOrder : Type 0
ReplacedKeepsOrder =
    (before after : List Edge) (e : Edge) (front rest : List Point) (a b c : Point)
    → AreSound (before ++ record e { points = front ++ a ∷ b ∷ c ∷ rest } ∷ after)
    → is_free (other_segments before after front a c rest) a b c ≡ true → (v : Point)
    → IsRotation (ends_round v (edge_segments (before ++ record e { points = front ++ a ∷ b ∷ c ∷ rest } ∷ after)))
    (ends_round v (edge_segments (before ++ record e { points = front ++ a ∷ c ∷ rest } ∷ after)))

-- so they do in a sweep
abbrev pub SweepKeepsOrder : Type 0
SweepKeepsOrder =
    (ratio : ℕ) (area : ℤ) (made : ℕ) (edges : List Edge) → AreSound edges → (v : Point)
    → IsRotation (ends_round v (edge_segments edges)) (ends_round v (edge_segments (swept_edges ratio area made [] edges)))

-- Where edges of a slice of a planar partition end, all ends of border arcs there are ends of edges, each once, and these have the cyclic
-- order that the arc ends have in the base map.
abbrev pub EndsKeepOrder : Type 0
EndsKeepOrder =
    (m : BaseMap) → IsTrue (is_base m) → IsPartition (base_segments m) → (k : ℕ) → k ≤ length (history_of m)
    → (v : Point) → ends_round v (edge_segments (slice m k).edges) ≢ [] → IsRotation (base_order m k v) (slice_order m k v)

-- The spokes of a slice at a node have in their order the faces at their sides that these arc ends have after k steps.
abbrev pub EndsKeepFaces : Type 0
EndsKeepFaces =
    (m : BaseMap) → IsTrue (is_base m) → IsPartition (base_segments m) → (k : ℕ) → (v : Point)
    → map spoke_faces (spokes_at v (edge_segments (slice m k).edges)) ≡ map (end_faces m k) (slice_order m k v)
