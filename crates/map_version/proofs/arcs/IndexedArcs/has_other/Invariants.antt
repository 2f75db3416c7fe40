use Rattle.std.proofs.Common.{◌≡◌, false, take}
use Rattle.std.specs.List.{list_any}
use Rattle.arc_places.specs.Places.{arc_passes}
use Rattle.map_version.specs.Labels.{is_other}
use Rattle.map_version.proofs.arcs.IndexedArcs.has_other.Given as goal

-- none of the arcs so far passes
abbrev pub invariant-loop-slot : goal.invariant-loop-slot
invariant-loop-slot l = list_any (arc_passes (is_other l.fusion.kept l.fusion.gone l.face) l.self.slots) (take l.slot-index l.slot-items) ≡ false
