use Rattle.std.proofs.Common.{◌≡◌, map, drop, length, []}
use Rattle.serde_json.specs.View.{view}
use Rattle.line_forms.specs.Json.{each_of}
use Rattle.map_forms.specs.RulesFile.{class_of}
use Rattle.area_listing.proofs.EachOf.{gathered}
use Rattle.area_listing.proofs.RulesReading.{class_behind}
use Rattle.area_listing.proofs.rules.collect_classes.Given as goal

abbrev pub invariant-loop-item : goal.invariant-loop-item
invariant-loop-item l = record {
  read : gathered class_behind (l.names, l.weights) (each_of class_of (map view (drop l.item-index l.items)))
      ≡ gathered class_behind ([], []) (each_of class_of (map view l.items));
  few : length l.weights ≡ l.item-index;
}
