use Rattle.std.proofs.Common.{Err, map, sym, ap, ◌∙◌, arith}
use Rattle.std.proofs.lemmas.List.{length-map}
use Rattle.serde_json.specs.View.{view}
use Rattle.tgap_model.specs.declared.fault.LimitKind.TheVariants.{Classes}
use Rattle.tgap_model.specs.declared.fault.MapFault.TheVariants.{Limit}
use Rattle.map_forms.specs.RulesFile.{class_of}
use Rattle.area_listing.proofs.EachOf.{passed_by, gathers_all}
use Rattle.area_listing.proofs.RulesReading.{classes_beyond}
use Rattle.area_listing.proofs.rules.fault_of_many.Goals as goal

pub returns : goal.returns
returns c =
    let items = c.args.items.now in
    let l = c.loop-item in
    let all = sym l.invariant ∙ gathers_all passed_by class_of view tt items l.item-index c.loop-item-test.false in
    let same = length-map items view in
    classes_beyond (map view items) (omega (arith, same, c.requires)) all ∙ ap (λ n. Err (Limit Classes n)) same
