use Rattle.std.proofs.Common.{◌≡◌, false, take}
use Rattle.std.specs.List.{list_any}
use Rattle.face_cuts.specs.Nodes.{passes}
use Rattle.arc_places.specs.Places.{arc_passes}
use Rattle.map_version.proofs.arcs.IndexedArcs.has_point.Given as goal

-- none of the arcs so far has it
abbrev pub invariant-loop-at : goal.invariant-loop-at
invariant-loop-at l = list_any (arc_passes (passes l.point) l.self.slots) (take l.at l.listed) ≡ false
