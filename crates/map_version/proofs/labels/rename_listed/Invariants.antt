use Rattle.std.proofs.Common.{drop}
use Rattle.face_cuts.specs.Fusions.{joined}
use Rattle.arc_places.specs.Borders.{is_beside}
use Rattle.map_version.specs.Labels.{renamed}
use Rattle.map_version.proofs.Changing.{IsChanging}
use Rattle.map_version.proofs.labels.rename_listed.Given as goal

-- the arcs that still have the face are listed further on
abbrev pub invariant-loop-slot : goal.invariant-loop-slot
invariant-loop-slot l = IsChanging (renamed (joined l.to l.from)) (is_beside l.from) l.initial.slots l.slots (drop l.slot-index l.listed)
