use Rattle.std.proofs.Common.{◌≡◌, false, take}
use Rattle.std.specs.List.{list_any}
use Rattle.arc_places.specs.Places.{arc_passes}
use Rattle.map_version.specs.Indexed.{ends_there}
use Rattle.map_version.proofs.arcs.IndexedArcs.is_node.Given as goal

-- none of the arcs so far ends there
abbrev pub invariant-loop-at : goal.invariant-loop-at
invariant-loop-at l = list_any (arc_passes (ends_there l.point) l.self.slots) (take l.at l.listed) ≡ false
