-- The points of a base map are within the limit.
use Rattle.std.proofs.Common.{◌≤◌, ◌∙◌, List, sym, subst}
use Rattle.tgap_model.specs.declared.base.BaseArc.{BaseArc}
use Rattle.tgap_model.specs.declared.limits.TheConstants.{MAX_POINTS}
use Rattle.tgap_model.specs.Base.{count_points}
use Rattle.tgap_model.proofs.BaseFacts.{base_facts}
use Rattle.tgap_build.proofs.built.Built.of.Goals as goal

pub count_points-points-requires : goal.count_points-points-requires
count_points-points-requires c =
    subst (λ (arcs : List BaseArc). count_points arcs ≤ MAX_POINTS) (sym (c.as_slice-arcs.ensures ∙ c.arcs.ensures.value))
    (base_facts c.base.result.now c.arcs.ensures.base).few_points
