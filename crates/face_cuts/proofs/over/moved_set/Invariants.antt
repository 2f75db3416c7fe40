use Rattle.std.proofs.Common.{◌≡◌, ◌||◌, ◌&&◌, take}
use Rattle.std.specs.List.{list_any}
use Rattle.ring_walk.specs.declared.side.Side.{Side}
use Rattle.ring_walk.specs.Sides.{same_side}
use Rattle.face_cuts.specs.Cuts.{goes_over, lines_of}
use Rattle.face_cuts.specs.SideSets.{has}
use Rattle.face_cuts.proofs.over.moved_set.Given as goal

-- the sides on the walk, and those of the rings so far that go over
abbrev pub invariant-loop-row : goal.invariant-loop-row
invariant-loop-row g l =
    (s : Side) → has l.moved s
    ≡ (list_any (same_side s) l.ring.walk.now
    || list_any (λ r. goes_over (lines_of (g.T.ArcTable.arcs l.table)) l.ring.points.now l.ring.walk.now r && list_any (same_side s) r) (take l.row-index l.rings))
