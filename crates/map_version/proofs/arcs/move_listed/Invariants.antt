use Rattle.std.proofs.Common.{drop}
use Rattle.face_cuts.specs.Nodes.{passes}
use Rattle.map_version.proofs.Changing.{IsChanging}
use Rattle.map_version.proofs.Moves.{moved_arc}
use Rattle.map_version.proofs.arcs.move_listed.Given as goal

-- the arcs that still have the old point are listed further on
abbrev pub invariant-loop-at : goal.invariant-loop-at
invariant-loop-at l = IsChanging (moved_arc l.old l.new) (passes l.old) l.initial.arcs l.arcs (drop l.at l.listed)
