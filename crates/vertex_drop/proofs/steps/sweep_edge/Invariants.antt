-- the sweep went on from the first point
use Rattle.std.proofs.Common.{◌≡◌, ◌<◌, ◌≤◌, ◌-◌, ℕ, length, get_or}
use Rattle.point_rope.specs.Held.{IsNearPoint}
use Rattle.vertex_drop.specs.Left.{is_swept, other_segments}
use Rattle.vertex_drop.specs.Sweep.{GoesOn}
use Rattle.vertex_drop.proofs.Unswept.{no_edge}
use Rattle.vertex_drop.proofs.steps.sweep_edge.Given as goal

abbrev pub invariant-loop-place : goal.invariant-loop-place
invariant-loop-place g l = record {
  near : IsNearPoint l.a;
  from : 1 ≤ l.place;
  to : l.place < length l.edge.points;
  on :
      (i : ℕ) → i < length (g.L.LiveTable.edges l.live) → l.edge ≡ get_or (g.L.LiveTable.edges l.live) i no_edge
      → GoesOn l.rule (other_segments (is_swept l.made l.keys) i (g.L.LiveTable.edges l.live)) l.edge.points
      (record { kept = l.initial.kept; gone = l.initial.gone.items; last = l.initial.a; place = 1 })
      (record { kept = l.kept; gone = l.gone.items; last = l.a; place = l.place });
}

abbrev pub decreases-loop-place : goal.decreases-loop-place
decreases-loop-place g l = length l.edge.points - l.place
