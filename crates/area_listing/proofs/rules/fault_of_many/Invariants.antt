use Rattle.std.proofs.Common.{◌≡◌, map, drop}
use Rattle.serde_json.specs.View.{view}
use Rattle.line_forms.specs.Json.{each_of}
use Rattle.map_forms.specs.RulesFile.{class_of}
use Rattle.area_listing.proofs.EachOf.{gathered, passed_by}
use Rattle.area_listing.proofs.rules.fault_of_many.Given as goal

abbrev pub invariant-loop-item : goal.invariant-loop-item
invariant-loop-item l =
    gathered passed_by tt (each_of class_of (map view (drop l.item-index l.items)))
    ≡ gathered passed_by tt (each_of class_of (map view l.items))
