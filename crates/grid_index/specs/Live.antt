-- Edges in order of key, the boxes of their segments, and which segments meet a window.
use Rattle.std.specs.Prelude.{◌<◌, ◌≤◌, ℕ, ◌-◌, ◌^◌, ◌==◌, not, List, [], ◌∷◌, map, filter, length, IsTrue, All, AllPairs}
use Rattle.std.specs.List.{flat_map, list_any}
use Rattle.tgap_model.specs.declared.geometry.Point.{Point}
use Rattle.tgap_model.specs.declared.geometry.Window.{Window}
use Rattle.tgap_model.specs.declared.slice.Edge.{Edge}
use Rattle.tgap_model.specs.Base.{in_limits}
use Rattle.grid_index.specs.declared.live.SegmentPlace.{SegmentPlace}
use Rattle.grid_index.specs.Boxes.{segment_box}
use Rattle.grid_index.specs.Near.{near_boxes}

-- the boxes of the segments of a row of points
abbrev pub segment_boxes : List Point → List Window
segment_boxes [] = []
segment_boxes (a ∷ []) = []
segment_boxes (a ∷ b ∷ points) = segment_box a b ∷ segment_boxes (b ∷ points)

-- the segments of an edge whose boxes meet the area, in order of place
abbrev pub edge_near : Window → Edge → List SegmentPlace
edge_near area e = map (λ i. record { key = e.key; place = i }) (near_boxes area (segment_boxes e.points))

-- the segments of the edges whose boxes meet the area, in the order of the edges and of places
abbrev pub near_segments : Window → List Edge → List SegmentPlace
near_segments area edges = flat_map (edge_near area) edges

-- an edge of at least one segment and of places that 32 bits hold, within the limits of a map
pub record IsLiveEdge (e : Edge) : Type 0 where
  pub limits : All (λ p. IsTrue (in_limits p)) e.points
  pub some : 2 ≤ length e.points
  pub few : length e.points < 2 ^ 32 - 1

-- such edges, their keys strictly ascending
pub record AreLive (edges : List Edge) : Type 0 where
  pub ascending : AllPairs (λ e f. e.key < f.key) edges
  pub each : All IsLiveEdge edges

-- the keys of edges
abbrev pub keys : List Edge → List ℕ
keys edges = map (λ e. e.key) edges

-- the edges whose keys are not among these
abbrev pub without_keys : List ℕ → List Edge → List Edge
without_keys gone edges = filter (λ e. not (list_any (λ k. k == e.key) gone)) edges
