-- A worked map whose edge ends turn round a node: a bend is taken out, and the way that was the last one becomes the first.
use Rattle.std.proofs.Common.{◌≡◌, ◌≢◌, ℕ, ◌≤◌, true, false, [], ◌∷◌, map, length, None, refl, arith}
use Rattle.tgap_model.specs.declared.geometry.Point.{Point}
use Rattle.tgap_model.specs.Base.{BaseMap, is_transform, is_rules, is_arc, is_base}
use Rattle.tgap_model.specs.Segment.{any_common, common_point, turns_before, is_higher}
use Rattle.tgap_model.specs.Partition.{spokes_at, base_segments, edge_segments, arc_fault, map_fault, IsPartition}
use Rattle.tgap_model.specs.History.{next_step, history_of}
use Rattle.tgap_model.specs.Chains.{chains_at}
use Rattle.tgap_model.specs.Clear.{is_clear}
use Rattle.tgap_model.specs.Removals.{is_removable, removals_to, sweep}
use Rattle.tgap_model.specs.Slice.{slice}
use Rattle.map_laws.proofs.Examples.{arc, plain_map}
use Rattle.map_laws.proofs.SliceExamples.{point, edge}
use Rattle.slice_laws.proofs.Sound.{partition_from_no_fault}
use Rattle.order_laws.specs.NodeOrder.{End, ends_round, IsRotation, base_order, slice_order, EndFaces, spoke_faces, end_faces}
use Rattle.order_laws.proofs.Ways.{end_at}
use Rattle.order_laws.proofs.EachOrder.{ends_keep_order}

-- the first point of an arc, or of the edge with this key, and the last one
abbrev first : ℕ → End
first n = end_at n true

abbrev last : ℕ → End
last n = end_at n false

abbrev faces : ℕ → ℕ → EndFaces
faces left right = record { left = left; right = right }

-- three faces round the node 20 10, and a small one in a corner; the arc from the node to the right has a bend
abbrev bend : BaseMap
bend = plain_map 2 (0 ∷ 0 ∷ 0 ∷ 0 ∷ []) (
    arc 1 2 (20 ∷ 10 ∷ 20 ∷ 20 ∷ [])
    ∷ arc 3 1 (20 ∷ 10 ∷ 20 ∷ 0 ∷ [])
    ∷ arc 2 3 (20 ∷ 10 ∷ 30 ∷ 9 ∷ 40 ∷ 10 ∷ [])
    ∷ arc 1 0 (20 ∷ 20 ∷ 0 ∷ 20 ∷ 0 ∷ 0 ∷ 20 ∷ 0 ∷ [])
    ∷ arc 3 0 (20 ∷ 0 ∷ 40 ∷ 0 ∷ 40 ∷ 10 ∷ [])
    ∷ arc 2 0 (40 ∷ 10 ∷ 40 ∷ 15 ∷ [])
    ∷ arc 4 0 (40 ∷ 15 ∷ 40 ∷ 20 ∷ 30 ∷ 20 ∷ [])
    ∷ arc 2 0 (30 ∷ 20 ∷ 20 ∷ 20 ∷ [])
    ∷ arc 2 4 (40 ∷ 15 ∷ 30 ∷ 15 ∷ 30 ∷ 20 ∷ []) ∷ [])

bend_base : is_base bend ≡ true
unfolding is_base is_transform is_rules is_arc
bend_base = refl

bend_sound : map_fault bend ≡ None
unfolding map_fault arc_fault common_point any_common turns_before is_higher
bend_sound = refl

bend_planar : IsPartition (base_segments bend)
bend_planar = partition_from_no_fault bend bend_base bend_sound

bend_steps : 1 ≤ length (history_of bend)
unfolding history_of next_step
bend_steps = omega arith

-- so at each of its nodes the slice after the step keeps the order
bend_keeps_order : (v : Point) → ends_round v (edge_segments (slice bend 1).edges) ≢ [] → IsRotation (base_order bend 1 v) (slice_order bend 1 v)
bend_keeps_order v = ends_keep_order bend bend_base bend_planar 1 bend_steps v

-- ---- at the node the arc to the right goes down at first, so its end is the last one

ends_of_base : ends_round (point 20 10) (base_segments bend) ≡ first 0 ∷ first 1 ∷ first 2 ∷ []
unfolding turns_before
ends_of_base = refl

-- ---- the first step takes the bend out: the edge leaves in the direction of positive x, and its end is the first one

bend_slice : (slice bend 1).edges ≡
    edge 0 1 5 (20 ∷ 10 ∷ 20 ∷ 20 ∷ [])
    ∷ edge 1 3 1 (20 ∷ 10 ∷ 20 ∷ 0 ∷ [])
    ∷ edge 2 5 3 (20 ∷ 10 ∷ 40 ∷ 10 ∷ [])
    ∷ edge 3 1 0 (20 ∷ 20 ∷ 0 ∷ 20 ∷ 0 ∷ 0 ∷ 20 ∷ 0 ∷ [])
    ∷ edge 4 3 0 (20 ∷ 0 ∷ 40 ∷ 0 ∷ 40 ∷ 10 ∷ [])
    ∷ edge 5 5 0 (40 ∷ 10 ∷ 40 ∷ 20 ∷ 20 ∷ 20 ∷ []) ∷ []
unfolding slice removals_to sweep is_removable is_clear chains_at history_of next_step
bend_slice = refl

order_before : base_order bend 1 (point 20 10) ≡ first 0 ∷ first 1 ∷ first 2 ∷ []
unfolding turns_before history_of next_step
order_before = refl

order_after : slice_order bend 1 (point 20 10) ≡ first 2 ∷ first 0 ∷ first 1 ∷ []
unfolding turns_before slice removals_to sweep is_removable is_clear chains_at history_of next_step
order_after = refl

turned_round_node : IsRotation (base_order bend 1 (point 20 10)) (slice_order bend 1 (point 20 10))
unfolding turns_before slice removals_to sweep is_removable is_clear chains_at history_of next_step
turned_round_node = record { front = first 0 ∷ first 1 ∷ []; back = first 2 ∷ []; was = refl; is = refl }

faces_after : map spoke_faces (spokes_at (point 20 10) (edge_segments (slice bend 1).edges)) ≡ faces 5 3 ∷ faces 1 5 ∷ faces 3 1 ∷ []
unfolding turns_before slice removals_to sweep is_removable is_clear chains_at history_of next_step
faces_after = refl

faces_of_ends : map (end_faces bend 1) (first 2 ∷ first 0 ∷ first 1 ∷ []) ≡ faces 5 3 ∷ faces 1 5 ∷ faces 3 1 ∷ []
unfolding history_of next_step
faces_of_ends = refl

-- ---- the edge with key 5 ends with arc 7, and so does its end: it is the last point of that arc

ends_of_slice : ends_round (point 20 20) (edge_segments (slice bend 1).edges) ≡ last 5 ∷ first 3 ∷ last 0 ∷ []
unfolding turns_before slice removals_to sweep is_removable is_clear chains_at history_of next_step
ends_of_slice = refl

order_of_slice : slice_order bend 1 (point 20 20) ≡ last 7 ∷ first 3 ∷ last 0 ∷ []
unfolding turns_before slice removals_to sweep is_removable is_clear chains_at history_of next_step
order_of_slice = refl

order_of_base : base_order bend 1 (point 20 20) ≡ last 7 ∷ first 3 ∷ last 0 ∷ []
unfolding turns_before history_of next_step
order_of_base = refl

-- ---- where two of three borders are left, no edge ends

joined_node : ends_round (point 40 15) (edge_segments (slice bend 1).edges) ≡ []
unfolding turns_before slice removals_to sweep is_removable is_clear chains_at history_of next_step
joined_node = refl

borders_there : base_order bend 1 (point 40 15) ≡ first 6 ∷ last 5 ∷ []
unfolding turns_before history_of next_step
borders_there = refl
