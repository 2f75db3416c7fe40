-- What is read of a built map.
use Rattle.std.specs.Prelude.{◌≢◌, ◌↔◌, ℕ, IsTrue, List, map, filter}
use Rattle.std.specs.List.{list_any, range_with_len}
use Rattle.tgap_model.specs.declared.geometry.Fraction.{Fraction}
use Rattle.tgap_model.specs.declared.slice.FaceRow.{FaceRow}
use Rattle.tgap_model.specs.declared.slice.Slice.{Slice}
use Rattle.tgap_model.specs.Base.{BaseMap}
use Rattle.tgap_model.specs.Segment.{IsBetweenColumns, line_through}
use Rattle.tgap_model.specs.Partition.{edge_segments}
use Rattle.map_laws.specs.Inside.{is_inside}
use Rattle.tgap_model.specs.History.{is_between, class_of}
use Rattle.tgap_model.specs.Merged.{merged, labelled_at}
use Rattle.tgap_model.specs.Records.{is_edge_between}
use Rattle.removal_laws.specs.Trace.{trace_to}
use Rattle.removal_laws.specs.InsideLaws.{IsOutside}
use Rattle.slice_laws.specs.SliceLaws.{IsInsideBaseFace}
use Rattle.face_tree.specs.Tree.{FaceHistory, is_live}

-- the faces up to this one that are live after k steps, by number, each with its class
abbrev pub live_rows : FaceHistory → ℕ → ℕ → List FaceRow
live_rows t k last = map (λ f. record { face = f; class = class_of t.classes f }) (filter (is_live t k) (range_with_len 1 last))

-- An edge of the slice is between two faces exactly where an arc is between a base face of the one and one of the other.
abbrev pub HasAdjacentFaces : BaseMap → ℕ → Slice → Type 0
HasAdjacentFaces m k s =
    (f g : ℕ) → f ≢ g
    → IsTrue (list_any (is_edge_between f g) s.edges) ↔ IsTrue (list_any (λ a. is_between f g (labelled_at (merged m) k a)) m.arcs)

-- Outside the triangles of the vertices that were removed by then, a face of the slice covers what its base faces cover: between
-- whole abscissas a point is inside the face exactly if one of them has it inside.
abbrev pub HasUnions : BaseMap → ℕ → Slice → Type 0
HasUnions m k s =
    (f : ℕ) → f ≢ 0 → (p : Fraction) → IsBetweenColumns (line_through p) → IsOutside p (trace_to (merged m) k)
    → IsTrue (is_inside (edge_segments s.edges) f p) ↔ IsInsideBaseFace m k f p
