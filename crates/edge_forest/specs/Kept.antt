-- What a forest keeps of its growth.
use Rattle.std.specs.Prelude.{◌≡◌, ◌<◌, ◌≤◌, ◌-◌, ◌^◌, ℕ, Bool, true, false, ◌==◌, length, Contains, if◌then◌else◌}
use Rattle.tgap_model.specs.declared.geometry.Point.{Point}
use Rattle.tgap_model.specs.History.{history_of}
use Rattle.edge_forest.specs.declared.edge.ForestEdge.{ForestEdge}
use Rattle.edge_forest.specs.declared.growth.Growth.{Growth}
use Rattle.edge_forest.specs.Forest.{EdgeForest, never, IsForest}
use Rattle.edge_forest.specs.Growth.{ended, IsAtRest, IsFew}
use Rattle.edge_forest.specs.declared.index.RangeIndex.{RangeIndex}
use Rattle.edge_forest.specs.Index.{IsIndex}
use Rattle.edge_forest.specs.Removed.{PointSteps, arc_points, step_of}
use Rattle.edge_forest.specs.declared.spent.Spent.{Spent}
use Rattle.edge_forest.specs.Spent.{AreSpent}

-- the forest with its edges, its base map and the removed points
abbrev pub forest_of : ℕ → Bool → Growth → PointSteps → EdgeForest
forest_of made closed g t = record { base = g.base; made = made; closed = closed; edges = g.edges.items; removed = t }

-- Before the history is closed the growth is at rest; then all steps were made. Each point of the base map is listed, and
-- none has a later step than the last one.
pub record IsKept (made : ℕ) (closed : Bool) (g : Growth) (t : PointSteps) : Type 0 where
  pub forest : IsForest (forest_of made closed g t)
  pub few : length g.edges.items < 2 ^ 32 - 1
  pub growing : closed ≡ false → IsAtRest made g × IsFew g
  pub done : closed ≡ true → made ≡ length (history_of g.base)
  pub listed : (p : Point) → Contains (arc_points g.base.arcs) p → Contains t.points p
  pub within : (p : Point) → step_of t p ≤ made

-- Once it is closed, its index has the edges of each step, and its tables tell from which step on they have no points left.
pub record IsWhole (made : ℕ) (closed : Bool) (g : Growth) (t : PointSteps) (index : RangeIndex) (spent : Spent) : Type 0 where
  pub kept : IsKept made closed g t
  pub indexed : closed ≡ true → IsIndex made g.edges.items index
  pub told : closed ≡ true → AreSpent g.base.arcs t g.edges.items spent

-- the edge with its high step, when the history is at its end
abbrev pub closed_edge : ℕ → ForestEdge → ForestEdge
closed_edge high e = ended (if e.high == never then high else e.high) e
