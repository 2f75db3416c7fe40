use Rattle.std.proofs.Common.{option_map, ap, ◌∙◌}
use Rattle.serde_json.specs.View.{view, members_view}
use Rattle.serde_json.specs.Find.{get_member}
use Rattle.serde_json.proofs.Views.{view_of_ref, view-lookup}
use Rattle.tgap_model.specs.declared.fault.MapFault.TheVariants.{NoObject}
use Rattle.topo_read.proofs.Steps.{seen_or}
use Rattle.topo_read.proofs.object.chosen.Goals as goal

pub returns-else-eq : goal.returns-else-eq
returns-else-eq c =
    let found = view_of_ref c.get.result ∙ ap (option_map view) c.get.ensures.value ∙ view-lookup c.args.name.now c.args.objects.now.entries in
    rw (c.ok_or.ensures.value, ← c.if-eq.ensures) (seen_or (λ v. view v.now) c.get.result (get_member c.args.name.now (members_view c.args.objects.now.entries)) NoObject found)
