-- Laws of slices: the faces beside an edge, which faces are adjacent, which points are inside a face, and that a
-- slice is a planar partition.
use Rattle.std.specs.Prelude.{◌≡◌, ◌≢◌, ◌≤◌, ◌↔◌, ℕ, IsTrue, List, length, All}
use Rattle.std.specs.List.{list_any}
use Rattle.tgap_model.specs.declared.geometry.Fraction.{Fraction}
use Rattle.tgap_model.specs.declared.slice.Removal.{Removal}
use Rattle.tgap_model.specs.Base.{BaseMap, is_base}
use Rattle.tgap_model.specs.Segment.{IsBetweenColumns, line_through}
use Rattle.tgap_model.specs.Partition.{IsPartition, base_segments, edge_segments}
use Rattle.map_laws.specs.Inside.{is_inside}
use Rattle.tgap_model.specs.History.{is_between}
use Rattle.tgap_model.specs.Merged.{MergedMap, merged, label_at, labelled_at}
use Rattle.tgap_model.specs.Chains.{Chain, chains_at}
use Rattle.tgap_model.specs.Removals.{edge_of, removals_to}
use Rattle.tgap_model.specs.Records.{is_edge_between}
use Rattle.tgap_model.specs.Slice.{IsSlice, slice, left_of, right_of}

-- each arc of a chain, seen in its direction, has the faces of the chain's edge at its sides
pub record KeepsFaces (h : MergedMap) (k : ℕ) (removals : List Removal) (c : Chain) : Type 0 where
  pub left : All (λ d. left_of h k d ≡ (edge_of h k removals c).left) c
  pub right : All (λ d. right_of h k d ≡ (edge_of h k removals c).right) c

-- along each chain of a planar partition the faces stay the same
abbrev pub ChainsKeepFaces : Type 0
ChainsKeepFaces =
    (m : BaseMap) → IsTrue (is_base m) → IsPartition (base_segments m)
    → (k : ℕ) (removals : List Removal) → All (KeepsFaces (merged m) k removals) (chains_at (merged m) k)

-- the slice of a planar partition is a slice
abbrev pub SlicesAreSlices : Type 0
SlicesAreSlices =
    (m : BaseMap) → IsTrue (is_base m) → IsPartition (base_segments m)
    → (k : ℕ) → IsSlice (merged m) k (removals_to (merged m) k) (slice m k)

-- An edge of the slice is between two faces exactly where an arc is between a base face of the one and one of the other.
abbrev pub FacesAreAdjacent : Type 0
FacesAreAdjacent =
    (m : BaseMap) → IsTrue (is_base m) → IsPartition (base_segments m) → (k f g : ℕ) → f ≢ g
    → IsTrue (list_any (is_edge_between f g) (slice m k).edges)
    ↔ IsTrue (list_any (λ a. is_between f g (labelled_at (merged m) k a)) m.arcs)

-- the point is inside a base face whose ancestor after k steps is f
pub record IsInsideBaseFace (m : BaseMap) (k f : ℕ) (p : Fraction) : Type 0 where
  pub face : ℕ
  pub least : 1 ≤ face
  pub greatest : face ≤ length m.classes
  pub ancestor : label_at (merged m) k face ≡ f
  pub inside : IsTrue (is_inside (base_segments m) face p)

-- Where no vertex is removed, a face of the slice covers what its base faces cover: between whole abscissas a point is inside
-- the face exactly if one of them has it inside.
abbrev pub FacesAreUnions : Type 0
FacesAreUnions =
    (m : BaseMap) → IsTrue (is_base m) → IsPartition (base_segments m) → m.rules.ratio ≡ 0 → (k f : ℕ) → f ≢ 0
    → (p : Fraction) → IsBetweenColumns (line_through p)
    → IsTrue (is_inside (edge_segments (slice m k).edges) f p) ↔ IsInsideBaseFace m k f p

-- Where no vertex is removed, the slice of a planar partition is a planar partition.
abbrev pub SlicesArePartitions : Type 0
SlicesArePartitions =
    (m : BaseMap) → IsTrue (is_base m) → IsPartition (base_segments m) → m.rules.ratio ≡ 0
    → (k : ℕ) → IsPartition (edge_segments (slice m k).edges)
