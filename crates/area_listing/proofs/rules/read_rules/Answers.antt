use Rattle.std.proofs.Common.{Result, option_map, sym, ap, subst, ◌∙◌}
use Rattle.serde_json.specs.View.{view}
use Rattle.tgap_model.specs.declared.topology.NamedRules.{NamedRules}
use Rattle.tgap_model.specs.declared.fault.MapFault.{MapFault}
use Rattle.plain_io.specs.Taking.{GivesWhole}
use Rattle.area_listing.proofs.RulesForm.{given_fits, rules_read, no_rules}
use Rattle.area_listing.proofs.rules.read_rules.Goals as goal

pub returns-in-Some-clause-exact : goal.returns-in-Some-clause-exact
returns-in-Some-clause-exact c =
    subst (λ (read : Result NamedRules MapFault). GivesWhole c.named_rules.result read) (rules_read c.args.bytes.now (view c.in-Some.tree) (sym c.in_ok-tree.ensures ∙ ap (option_map view) c.in-Some.is)) c.named_rules.ensures.exact

pub returns-in-Some-clause-form : goal.returns-in-Some-clause-form
returns-in-Some-clause-form c = given_fits c.args.bytes.now c.named_rules.result (returns-in-Some-clause-exact c)

pub returns-in-None-clause-exact : goal.returns-in-None-clause-exact
returns-in-None-clause-exact c =
    rw c.bad_rules.ensures (no_rules c.args.bytes.now (sym c.in_ok-tree.ensures ∙ ap (option_map view) c.in-None.is))
