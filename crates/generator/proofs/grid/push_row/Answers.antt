-- One more arc.
use Rattle.std.proofs.Common.{◌++◌, ◌∷◌, [], List, ap, ◌∙◌}
use Rattle.tgap_model.specs.declared.base.BaseArc.{BaseArc}
use Rattle.generator.specs.GridMap.{level_arc}
use Rattle.generator.proofs.Ranges.{map_range_more}
use Rattle.generator.proofs.grid.push_row.Goals as goal

pub loop-i-preserved : goal.loop-i-preserved
loop-i-preserved c =
    c.in_ok-push.ensures.items
    ∙ ap (λ (a : BaseArc). c.loop-i.arcs.items ++ a ∷ []) c.in_ok-arc.ensures
    ∙ ap (λ (arcs : List BaseArc). arcs ++ level_arc c.args.n c.loop-i.i c.args.j ∷ []) c.loop-i.invariant
    ∙ map_range_more (λ i. level_arc c.args.n i c.args.j) c.args.arcs.now.items c.loop-i.i
