use Rattle.std.proofs.Common.{◌≡◌, ◌∙◌, ◌==◌, List, IfOk, filter, map, ap, subst}
use Rattle.tgap_model.specs.declared.base.BaseArc.{BaseArc}
use Rattle.ring_walk.specs.declared.span.Span.{Span}
use Rattle.ring_walk.specs.declared.side.Side.{Side}
use Rattle.face_cuts.specs.declared.face_sides.FaceSide.{FaceSide}
use Rattle.face_cuts.specs.Sectors.{spans_of}
use Rattle.face_cuts.specs.Tables.{sides_beside}
use Rattle.face_cuts.proofs.TableRows.{rows_of_face}
use Rattle.face_cuts.proofs.node_table.NodeTableArcTable.beside.Goals as goal

pub returns : goal.returns
returns c =
    let t = c.self.inside in
    let v = c.args.face in
    let all : map (λ (row : FaceSide). row.side) (filter (λ (row : FaceSide). row.face == v) c.deref.result.now) ≡ sides_beside (spans_of c.args.self.now) v =
    ap (λ (rows : List FaceSide). map (λ (row : FaceSide). row.side) (filter (λ (row : FaceSide). row.face == v) rows)) c.deref.ensures.value
    ∙ rows_of_face t.spans.items t.faces.items v c.self.invariant.by_face
    ∙ ap (λ (ss : List Span). sides_beside ss v) (c.self.invariant.spans_are ∙ ap (λ (arcs : List BaseArc). spans_of arcs) c.self.view_is) in
    subst (λ (ss : List Side). IfOk c.sides_of_face.result (λ found. found.items ≡ ss)) all c.sides_of_face.ensures
