use Rattle.std.proofs.Common.{rules, not, filter, ap, ◌∙◌}
use Rattle.std.proofs.lemmas.Fn.{filter_same}
use Rattle.tgap_model.specs.declared.geometry.Point.{Point}
use Rattle.edge_forest.specs.Removed.{is_gone_by}
use Rattle.edge_forest.proofs.removed.Removed.left_of.Goals as goal

pub returns : goal.returns
returns c =
    let there = λ (p : Point). not (is_gone_by c.args.self.now c.args.k p) in
    c.from.ensures ∙ filter_same _ there _ (λ x b f' k. search rules) _ _ c.retain.ensures.filtered ∙ ap (filter there) c.into_vec-left.ensures
