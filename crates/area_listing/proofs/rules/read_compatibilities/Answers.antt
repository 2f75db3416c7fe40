use Rattle.std.proofs.Common.{◌++◌, map, ap, sym, ◌∙◌}
use Rattle.std.specs.Option.{ok_or}
use Rattle.std.specs.Prelude.{codes}
use Rattle.std.proofs.lemmas.Result.{err_from_is_err_and}
use Rattle.serde_json.specs.View.{view}
use Rattle.serde_json.specs.Find.{get}
use Rattle.tgap_model.specs.declared.failure.Or.TheVariants.{Fault}
use Rattle.tgap_model.specs.declared.fault.MapFault.TheVariants.{BadRules}
use Rattle.tgap_model.specs.declared.limits.TheConstants.{MAX_COMPATIBILITY}
use Rattle.line_forms.specs.Json.{each_of, natural_in}
use Rattle.map_forms.specs.RulesFile.{exactly}
use Rattle.area_listing.specs.RulesReading.{so_many}
use Rattle.area_listing.proofs.EachOf.{gathers_all, gathers_none, gathered_joined}
use Rattle.area_listing.proofs.RulesReading.{found_at, compat_is, refused_part}
use Rattle.area_listing.proofs.rules.read_compatibilities.Goals as goal

pub returns-in_err-push_row : goal.returns-in_err-push_row
returns-in_err-push_row c =
    let p = err_from_is_err_and c.from_residual-in_err-push_row.result c.from_residual-in_err-push_row.ensures.1 in
    let row = exactly c.args.n (natural_in 0 MAX_COMPATIBILITY) in
    let l = c.loop-row in
    let d = view c.args.tree.now in
    let table = c.in_ok-table.table in
    let rows = c.in_ok-rows.rows in
    let there = found_at c.get.result table (λ v. view v.now) (get (codes "compat") d) (Fault (BadRules 5)) c.in_ok-table.ensures c.get.ensures in
    let many = found_at c.array_of.result rows (λ items. map view items.now) (so_many c.args.n (view table.now)) (Fault (BadRules 5)) c.in_ok-rows.ensures c.array_of.ensures in
    rw (p.1, p.2) (refused_part c.in_err-push_row.field-0.0 (λ numbers. l.compat ++ numbers) (row (view c.row-item.result)) _ (BadRules 5) (λ none.
    compat_is c.args.n d (view table.now) (map view rows.now) there many ∙ sym (gathered_joined (each_of row (map view rows.now)))
    ∙ sym l.invariant ∙ gathers_none ◌++◌ row view l.compat rows.now l.row-index c.row-item.result c.loop-row-test.true c.row-item.is none) c.in_err-push_row.ensures)

pub returns : goal.returns
returns c =
    let row = exactly c.args.n (natural_in 0 MAX_COMPATIBILITY) in
    let l = c.loop-row in
    let d = view c.args.tree.now in
    let table = c.in_ok-table.table in
    let rows = c.in_ok-rows.rows in
    let there = found_at c.get.result table (λ v. view v.now) (get (codes "compat") d) (Fault (BadRules 5)) c.in_ok-table.ensures c.get.ensures in
    let many = found_at c.array_of.result rows (λ items. map view items.now) (so_many c.args.n (view table.now)) (Fault (BadRules 5)) c.in_ok-rows.ensures c.array_of.ensures in
    ap (λ numbers. ok_or numbers (BadRules 5)) (
    compat_is c.args.n d (view table.now) (map view rows.now) there many ∙ sym (gathered_joined (each_of row (map view rows.now)))
    ∙ sym l.invariant ∙ gathers_all ◌++◌ row view l.compat rows.now l.row-index c.loop-row-test.false
    )
