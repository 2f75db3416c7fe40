use Rattle.std.proofs.Common.{map, sym, ◌∙◌, arith}
use Rattle.std.proofs.lemmas.List.{length-map}
use Rattle.serde_json.specs.View.{view}
use Rattle.map_forms.specs.RulesFile.{class_of}
use Rattle.area_listing.proofs.EachOf.{gathers_all}
use Rattle.area_listing.proofs.RulesReading.{class_behind, classes_in_limit}
use Rattle.area_listing.proofs.rules.collect_classes.Goals as goal

pub returns-clause-exact : goal.returns-clause-exact
returns-clause-exact c =
    let items = c.args.items.now in
    let l = c.loop-item in
    let all = sym l.invariant.read ∙ gathers_all class_behind class_of view (l.names, l.weights) items l.item-index c.loop-item-test.false in
    classes_in_limit (map view items) (l.names, l.weights) (omega (arith, length-map items view, c.requires)) all
