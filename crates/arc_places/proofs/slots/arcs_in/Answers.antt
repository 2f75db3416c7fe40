-- What is kept are the arcs that are there.
use Rattle.std.proofs.Common.{◌∙◌, rules}
use Rattle.std.proofs.lemmas.Fn.{filter_same}
use Rattle.tgap_model.specs.declared.base.BaseArc.{BaseArc}
use Rattle.arc_places.specs.Slots.{is_there}
use Rattle.arc_places.proofs.slots.arcs_in.Goals as goal

pub returns : goal.returns
returns c = c.from.ensures ∙ filter_same _ (λ (a : BaseArc). is_there a) _ (λ x b f' k. search rules) _ _ c.retain.ensures.filtered
