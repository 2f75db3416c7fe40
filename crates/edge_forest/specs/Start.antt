-- The forest before the first join.
use Rattle.std.specs.Prelude.{◌<◌, ℕ, ◌+◌, ◌*◌, true, false, List, [], ◌∷◌, Contains, Option, Some}
use Rattle.tgap_model.specs.declared.base.BaseArc.{BaseArc}
use Rattle.tgap_model.specs.Chains.{Chain, arc_number}
use Rattle.edge_forest.specs.declared.edge.ForestEdge.{ForestEdge}
use Rattle.edge_forest.specs.declared.net.Current.{Current}
use Rattle.edge_forest.specs.Forest.{never}
use Rattle.edge_forest.specs.Growth.{keys_at}

-- an arc as a chain of its own
abbrev pub single : ℕ → Chain
single i = record { arc = i; turned = false } ∷ []

-- an arc as an edge of its own, which has not ended
abbrev pub arc_edge : List BaseArc → ℕ → ForestEdge
arc_edge arcs i = record {
  key = i;
  low = 0;
  high = never;
  left = (arc_number arcs i).left;
  right = (arc_number arcs i).right;
  parts = record { leaf = true; id = i; turned = false } ∷ [];
}

-- and its row
abbrev pub arc_current : List BaseArc → ℕ → Current
arc_current arcs i = record { id = i; first = 2 * i; last = 2 * i + 1; left = (arc_number arcs i).left; right = (arc_number arcs i).right }

abbrev pub arc_row : List BaseArc → ℕ → Option Current
arc_row arcs i = Some (arc_current arcs i)

-- the lists of both faces of an arc have its number
pub record IsKeyListed (faces : List (List ℕ)) (i : ℕ) (a : BaseArc) : Type 0 where
  pub left : Contains (keys_at faces a.left) i
  pub right : Contains (keys_at faces a.right) i

-- each of the first n arcs has its number in the lists of both its faces
abbrev pub AreKeysListed : List BaseArc → List (List ℕ) → ℕ → Type 0
AreKeysListed arcs faces n = (i : ℕ) → i < n → IsKeyListed faces i (arc_number arcs i)
