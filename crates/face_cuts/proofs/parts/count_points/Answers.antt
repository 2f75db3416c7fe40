use Rattle.std.proofs.Common.{List, ◌≤◌, subst, sym, ◌∙◌}
use Rattle.tgap_model.specs.declared.base.BaseArc.{BaseArc}
use Rattle.tgap_model.specs.declared.limits.TheConstants.{MAX_POINTS}
use Rattle.tgap_model.specs.Base.{count_points}
use Rattle.tgap_model.proofs.BaseFacts.{base_facts}
use Rattle.face_cuts.proofs.parts.count_points.Goals as goal

pub count_points_of-requires : goal.count_points_of-requires
count_points_of-requires c =
    subst (λ (arcs : List BaseArc). count_points arcs ≤ MAX_POINTS) (sym (c.as_slice.ensures ∙ c.arcs.ensures.value)) (base_facts c.args.base.now c.arcs.ensures.base).few_points
