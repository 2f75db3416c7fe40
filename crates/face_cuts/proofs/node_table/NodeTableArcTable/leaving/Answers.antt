use Rattle.std.proofs.Common.{◌≡◌, ◌∙◌, List, IfOk, filter, map, ap, subst}
use Rattle.tgap_model.specs.Base.{same_point}
use Rattle.tgap_model.specs.declared.base.BaseArc.{BaseArc}
use Rattle.ring_walk.specs.declared.span.Span.{Span}
use Rattle.ring_walk.specs.declared.side.Side.{Side}
use Rattle.face_cuts.specs.declared.node_sides.NodeSide.{NodeSide}
use Rattle.face_cuts.specs.Sectors.{spans_of}
use Rattle.face_cuts.specs.Tables.{sides_leaving}
use Rattle.face_cuts.proofs.TableRows.{rows_of_node}
use Rattle.face_cuts.proofs.node_table.NodeTableArcTable.leaving.Goals as goal

pub returns : goal.returns
returns c =
    let t = c.self.inside in
    let v = c.args.node in
    let all : map (λ (row : NodeSide). row.side) (filter (λ (row : NodeSide). same_point row.node v) c.deref.result.now) ≡ sides_leaving (spans_of c.args.self.now) v =
    ap (λ (rows : List NodeSide). map (λ (row : NodeSide). row.side) (filter (λ (row : NodeSide). same_point row.node v) rows)) c.deref.ensures.value
    ∙ rows_of_node t.spans.items t.nodes.items v c.self.invariant.by_node
    ∙ ap (λ (ss : List Span). sides_leaving ss v) (c.self.invariant.spans_are ∙ ap (λ (arcs : List BaseArc). spans_of arcs) c.self.view_is) in
    subst (λ (ss : List Side). IfOk c.sides_of_node.result (λ found. found.items ≡ ss)) all c.sides_of_node.ensures
