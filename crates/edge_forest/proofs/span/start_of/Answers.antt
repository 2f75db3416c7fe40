-- A turned arc starts at its last point.
use Rattle.std.proofs.Common.{Bool, [], cond, length, pos, sym, ap, ◌∙◌, arith}
use Rattle.std.proofs.lemmas.List.{get_or_read}
use Rattle.tgap_model.specs.declared.base.BaseArc.{BaseArc}
use Rattle.tgap_model.specs.Chains.{first_point, last_point, arc_number}
use Rattle.edge_forest.proofs.PartSpans.{last_at}
use Rattle.edge_forest.proofs.span.start_of.Goals as goal

abbrev no_arc : BaseArc
no_arc = record { left = 0; right = 0; points = [] }

pub returns-then-link : goal.returns-then-link
returns-then-link c =
    let points = (arc_number c.args.arcs.now c.args.link.arc).points in
    let read = get_or_read c.args.arcs.now c.args.link.arc c.index-arcs-link.result c.requires.arc c.index-arcs-link.is no_arc in
    let same = c.as_slice-points.ensures ∙ ap (λ (a : BaseArc). a.points) (sym c.index-arcs-link.is ∙ read) in
    let two = c.requires.long c.args.link.arc no_arc c.requires.arc in
    last_at c.as_slice-points.result.now (record { x = pos 0; y = pos 0 }) (omega (arith, two, ap length same))
    ∙ ap last_point same ∙ sym (ap (λ (b : Bool). cond b (last_point points) (first_point points)) c.if-link.true)
