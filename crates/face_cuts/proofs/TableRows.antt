-- What is found in the sorted rows of a table are the sides at a node and beside a face, in the order of their numbers.
use Rattle.std.proofs.Common.{◌≡◌, ◌∙◌, ◌==◌, ℕ, List, length, map, filter, refl, ap}
use Rattle.std.proofs.lemmas.Cmp.{nat_cmp_total}
use Rattle.std.specs.Ordering.{nat_cmp}
use Rattle.tgap_model.specs.declared.geometry.Point.{Point}
use Rattle.tgap_model.specs.Base.{same_point}
use Rattle.ring_walk.specs.declared.span.Span.{Span}
use Rattle.ring_walk.specs.Sides.{numbered, sides}
use Rattle.face_cuts.specs.PointSets.{point_cmp}
use Rattle.face_cuts.specs.Tables.{sides_beside, sides_leaving}
use Rattle.face_cuts.specs.declared.node_sides.NodeSide.{NodeSide}
use Rattle.face_cuts.specs.declared.face_sides.FaceSide.{FaceSide}
use Rattle.face_cuts.specs.NodeTables.{AreByFace, AreByNode, face_side, node_side}
use Rattle.face_cuts.proofs.SortedRows.{left_in_order, mapped_back, number_ties, point_ties, point_total}

pub rows_of_node : (spans : List Span) (rows : List NodeSide) (v : Point) → AreByNode spans rows → map (λ (r : NodeSide). r.side) (filter (λ r. same_point r.node v) rows) ≡ sides_leaving spans v
rows_of_node spans rows v h =
    let at = λ (r : NodeSide). same_point r.node v in
    let side = λ (r : NodeSide). r.side in
    let all = sides (length spans) in
    ap (map side) (left_in_order (λ (r : NodeSide). r.node) point_cmp point_total rows h.ascend v at (λ r. point_ties r.node v) (map (node_side spans) all) h.stable
    (record { node = v; side = numbered 0 }) refl)
    ∙ mapped_back (node_side spans) side at (λ s. refl) all

pub rows_of_face : (spans : List Span) (rows : List FaceSide) (f : ℕ) → AreByFace spans rows → map (λ (r : FaceSide). r.side) (filter (λ r. r.face == f) rows) ≡ sides_beside spans f
rows_of_face spans rows f h =
    let at = λ (r : FaceSide). r.face == f in
    let side = λ (r : FaceSide). r.side in
    let all = sides (length spans) in
    ap (map side) (left_in_order (λ (r : FaceSide). r.face) nat_cmp nat_cmp_total rows h.ascend f at (λ r. number_ties r.face f) (map (face_side spans) all) h.stable
    (record { face = f; side = numbered 0 }) refl)
    ∙ mapped_back (face_side spans) side at (λ s. refl) all
