-- Points with their places, in the order of points, and the numbers that this order gives to nodes.
use Rattle.std.specs.Prelude.{◌≡◌, ◌≢◌, ◌<◌, ◌≤◌, ◌⊎◌, ℕ, ◌+◌, ◌-◌, ◌==◌, Bool, true, ◌||◌, not, pos, List, [], map, filter, length, get_or, AllPairs, IsPermutation}
use Rattle.std.specs.List.{range_with_len}
use Rattle.std.specs.List.Sorted.{IsSortedBy}
use Rattle.tgap_model.specs.declared.geometry.Point.{Point}
use Rattle.tgap_model.specs.Base.{same_point}
use Rattle.tgap_model.specs.Segment.{point_before}
use Rattle.edge_forest.specs.declared.nodes.PlacedPoint.{PlacedPoint}

abbrev pub no_row : PlacedPoint
no_row = record { point = record { x = pos 0; y = pos 0 }; place = 0 }

-- ---- the order of points

-- the point of a place, with the place
abbrev pub placed : List Point → ℕ → PlacedPoint
placed points x = record { point = get_or points x no_row.point; place = x }

-- no two rows have one place
abbrev pub AreApart : List PlacedPoint → Type 0
AreApart rows = AllPairs (λ r s. r.place ≢ s.place) rows

-- no row stands behind one with a later point
abbrev pub AscendByPoint : List PlacedPoint → Type 0
AscendByPoint rows = IsSortedBy (λ r s. point_before r.point s.point) rows

-- the rows are all points with their places, in the order of points
pub record AreInOrder (points : List Point) (rows : List PlacedPoint) : Type 0 where
  pub moved : IsPermutation (map (placed points) (range_with_len 0 (length points))) rows
  pub ascend : AscendByPoint rows

-- ---- the numbers of nodes

-- a node begins at row number i: its point differs from the one before
abbrev pub begins_node : List PlacedPoint → ℕ → Bool
begins_node rows i = (i == 0) || not (same_point (get_or rows (i - 1) no_row).point (get_or rows i no_row).point)

-- the node at the place of a row
abbrev pub row_node : List PlacedPoint → List ℕ → ℕ → ℕ
row_node rows node_of k = get_or node_of (get_or rows k no_row).place 0

-- the two points are equal and have one node, or the first stands before the second and has a lower one
abbrev pub GoesUp : Point → Point → ℕ → ℕ → Type 0
GoesUp p q m n = ((p ≡ q) × (m ≡ n)) ⊎ ((point_before p q ≡ true) × (m < n))

-- the places of the first i rows have nodes, `count` in all, and a later row has the same node as an earlier one or a higher one
pub record AreNumbered (rows : List PlacedPoint) (i : ℕ) (node_of : List ℕ) (count : ℕ) : Type 0 where
  pub places : length node_of ≡ length rows
  pub few : count ≤ i
  pub last : (k : ℕ) → k + 1 ≡ i → row_node rows node_of k + 1 ≡ count
  pub ascend : (j k : ℕ) → j ≤ k → k < i → GoesUp (get_or rows j no_row).point (get_or rows k no_row).point (row_node rows node_of j) (row_node rows node_of k)

-- each node has those of the first i places that are at it, in ascending order
abbrev pub AreListed : List ℕ → ℕ → List (List ℕ) → Type 0
AreListed node_of i places = (n : ℕ) → n < length places → get_or places n [] ≡ filter (λ x. get_or node_of x 0 == n) (range_with_len 0 i)
