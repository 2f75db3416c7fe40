use Rattle.std.proofs.Common.{◌≡◌, ◌||◌, take}
use Rattle.std.specs.List.{list_any}
use Rattle.ring_walk.specs.declared.side.Side.{Side}
use Rattle.ring_walk.specs.Sides.{same_side}
use Rattle.face_cuts.specs.SideSets.{has}
use Rattle.face_cuts.proofs.side_set.SideSet.put_all.Given as goal

-- the sides so far are in it
abbrev pub invariant-loop-side : goal.invariant-loop-side
invariant-loop-side l = (s : Side) → has l.self s ≡ (has l.initial.self s || list_any (same_side s) (take l.side-index l.row))
