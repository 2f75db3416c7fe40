-- One more arc.
use Rattle.std.proofs.Common.{◌++◌, ◌∷◌, [], List, ap, ◌∙◌}
use Rattle.tgap_model.specs.declared.base.BaseArc.{BaseArc}
use Rattle.generator.specs.GridMap.{upright_arc}
use Rattle.generator.proofs.Ranges.{map_range_more}
use Rattle.generator.proofs.grid.push_column.Goals as goal

pub loop-j-preserved : goal.loop-j-preserved
loop-j-preserved c =
    c.in_ok-push.ensures.items
    ∙ ap (λ (a : BaseArc). c.loop-j.arcs.items ++ a ∷ []) c.in_ok-arc.ensures
    ∙ ap (λ (arcs : List BaseArc). arcs ++ upright_arc c.args.n c.args.i c.loop-j.j ∷ []) c.loop-j.invariant
    ∙ map_range_more (λ j. upright_arc c.args.n c.args.i j) c.args.arcs.now.items c.loop-j.j
