use Rattle.std.proofs.Common.{◌≡◌, map, drop}
use Rattle.serde_json.specs.View.{view}
use Rattle.tgap_model.specs.declared.limits.TheConstants.{MAX_COMPATIBILITY}
use Rattle.line_forms.specs.Json.{each_of, natural_in}
use Rattle.area_listing.proofs.EachOf.{gathered, behind}
use Rattle.area_listing.proofs.rules.push_row.Given as goal

abbrev pub invariant-loop-item : goal.invariant-loop-item
invariant-loop-item l =
    gathered behind l.compat (each_of (natural_in 0 MAX_COMPATIBILITY) (map view (drop l.item-index l.items)))
    ≡ gathered behind l.fn.compat (each_of (natural_in 0 MAX_COMPATIBILITY) (map view l.items))
