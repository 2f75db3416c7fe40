use Rattle.std.proofs.Common.{rules, List, nat_lt, length, ap, ◌∙◌}
use Rattle.std.proofs.lemmas.Fn.{filter_same}
use Rattle.tgap_model.specs.declared.geometry.Point.{Point}
use Rattle.point_rope.specs.Runs.{joined}
use Rattle.point_rope.proofs.Joined.{joined_without}
use Rattle.point_rope.proofs.runs.remove_empty.Goals as goal

pub returns-clause-same : goal.returns-clause-same
returns-clause-same c =
    ap joined (filter_same _ (λ (run : List Point). nat_lt 0 (length run)) _ (λ x b f' k. search rules) _ _ c.retain.ensures.filtered) ∙ joined_without c.args.runs.now.items
