use Rattle.std.proofs.Common.{◌≡◌, ◌++◌, [], map, drop}
use Rattle.serde_json.specs.View.{view}
use Rattle.tgap_model.specs.declared.limits.TheConstants.{MAX_COMPATIBILITY}
use Rattle.line_forms.specs.Json.{each_of, natural_in}
use Rattle.map_forms.specs.RulesFile.{exactly}
use Rattle.area_listing.proofs.EachOf.{gathered}
use Rattle.area_listing.proofs.rules.read_compatibilities.Given as goal

abbrev pub invariant-loop-row : goal.invariant-loop-row
invariant-loop-row l =
    gathered ◌++◌ l.compat (each_of (exactly l.n (natural_in 0 MAX_COMPATIBILITY)) (map view (drop l.row-index l.rows)))
    ≡ gathered ◌++◌ [] (each_of (exactly l.n (natural_in 0 MAX_COMPATIBILITY)) (map view l.rows))
