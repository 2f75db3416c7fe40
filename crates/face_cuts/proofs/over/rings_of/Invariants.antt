use Rattle.std.proofs.Common.{◌≡◌, true, take, All}
use Rattle.ring_walk.specs.declared.side.Side.{Side}
use Rattle.ring_walk.specs.Rings.{is_in_ring}
use Rattle.face_cuts.specs.Moves.{IsRingOf}
use Rattle.face_cuts.specs.Sectors.{spans_of}
use Rattle.face_cuts.specs.SideSets.{has}
use Rattle.face_cuts.proofs.over.rings_of.Given as goal

-- the rings so far, whose sides are taken, and the sides so far are among them
abbrev pub invariant-loop-side : goal.invariant-loop-side
invariant-loop-side g l = record {
  formed : All (IsRingOf (spans_of (g.T.ArcTable.arcs l.table))) l.rings;
  taken : (s : Side) → has l.taken s ≡ is_in_ring l.rings s;
  each : All (λ s. is_in_ring l.rings s ≡ true) (take l.side-index l.row);
}
