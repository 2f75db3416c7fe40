use Rattle.std.proofs.Common.{◌++◌, map, option_map, ap, sym, ◌∙◌}
use Rattle.std.specs.Option.{ok_or}
use Rattle.serde_json.specs.View.{view}
use Rattle.tgap_model.specs.declared.failure.Or.TheVariants.{Fault}
use Rattle.tgap_model.specs.declared.fault.MapFault.TheVariants.{BadRules}
use Rattle.tgap_model.specs.declared.limits.TheConstants.{MAX_COMPATIBILITY}
use Rattle.line_forms.specs.Json.{each_of, natural_in}
use Rattle.area_listing.specs.RulesReading.{so_many}
use Rattle.area_listing.proofs.EachOf.{behind, gathers_all, gathered_behind}
use Rattle.area_listing.proofs.RulesReading.{found_at, exactly_is}
use Rattle.area_listing.proofs.rules.push_row.Goals as goal

pub returns : goal.returns
returns c =
    let read = natural_in 0 MAX_COMPATIBILITY in
    let before = c.args.compat.now in
    let l = c.loop-item in
    let items = c.in_ok-items.items.now in
    let many = found_at c.array_of.result c.in_ok-items.items (λ items. map view items.now) (so_many c.args.n (view c.args.row.now)) (Fault (BadRules 5)) c.in_ok-items.ensures c.array_of.ensures in
    ap (λ numbers. ok_or numbers (BadRules 5)) (
    ap (option_map (λ numbers. before ++ numbers)) (exactly_is c.args.n read (view c.args.row.now) (map view items) many)
    ∙ sym (gathered_behind before (each_of read (map view items))) ∙ sym l.invariant ∙ gathers_all behind read view l.compat items l.item-index c.loop-item-test.false
    )
