use Rattle.std.proofs.Common.{[], subst, sym, ◌∙◌}
use Rattle.std.proofs.lemmas.List.{get_or-map}
use Rattle.tgap_model.specs.declared.base.BaseArc.{BaseArc}
use Rattle.ring_probe.specs.Rows.{IsLine}
use Rattle.face_cuts.proofs.new_ring.points_at.Goals as goal

pub returns-clause-line : goal.returns-clause-line
returns-clause-line g c =
    let arcs = g.T.ArcTable.arcs c.args.table.now in
    let none : BaseArc = record { left = 0; right = 0; points = [] } in
    subst IsLine (sym (c.points.ensures ∙ get_or-map (λ (a : BaseArc). a.points) arcs c.args.side.span none [] c.requires.side))
    (c.requires.lines.each c.args.side.span none c.requires.side)
