-- The nodes of a map: equal points have one number, in the order of points.
use Rattle.std.specs.Prelude.{◌≡◌, ◌<◌, ◌↔◌, ℕ, true, List, [], length, get_or}
use Rattle.std.specs.Prelude.{Contains}
use Rattle.tgap_model.specs.declared.geometry.Point.{Point}
use Rattle.tgap_model.specs.Segment.{point_before}
use Rattle.edge_forest.specs.declared.nodes.Nodes.{Nodes}

-- the node at the point of a place
abbrev pub node_at : Nodes → ℕ → ℕ
node_at nodes x = get_or nodes.node_of.items x 0

-- the places of the points at a node
abbrev pub places_at : Nodes → ℕ → List ℕ
places_at nodes n = get_or nodes.places.items n []

-- Two points have one node exactly where they are equal, and nodes stand in the order of points; each node has the places of
-- its points.
pub record AreNodes (points : List Point) (nodes : Nodes) : Type 0 where
  pub count : length nodes.node_of.items ≡ length points
  pub below : (x : ℕ) → x < length points → node_at nodes x < length nodes.places.items
  pub same : (x y : ℕ) (d : Point) → x < length points → y < length points → (node_at nodes x ≡ node_at nodes y) ↔ (get_or points x d ≡ get_or points y d)
  pub ascend : (x y : ℕ) (d : Point) → x < length points → y < length points → node_at nodes x < node_at nodes y → point_before (get_or points x d) (get_or points y d) ≡ true
  pub listed : (x : ℕ) → x < length points → Contains (places_at nodes (node_at nodes x)) x
  pub there : (n x : ℕ) → n < length nodes.places.items → Contains (places_at nodes n) x → (x < length points) × (node_at nodes x ≡ n)
