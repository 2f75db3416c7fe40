-- the sweep went on over the vertices so far
use Rattle.std.proofs.Common.{◌≡◌, ◌<◌, ◌-◌, ◌+◌, ◌++◌, ℕ, List, length, drop, get_or}
use Rattle.tgap_model.specs.declared.geometry.Point.{Point}
use Rattle.tgap_model.specs.declared.slice.Edge.{Edge}
use Rattle.point_rope.specs.Held.{IsNearPoint}
use Rattle.vertex_drop.specs.Sweep.{GoesOnAt}
use Rattle.vertex_drop.proofs.rows.sweep_points.Given as goal

abbrev pub invariant-loop-i : goal.invariant-loop-i
invariant-loop-i g l = record {
  near : IsNearPoint l.a;
  on :
      (i : ℕ) (d : Edge) (more : List Point) → i < length (g.L.LiveTable.edges l.live) → (get_or (g.L.LiveTable.edges l.live) i d).key ≡ l.at.key
      → drop (l.at.place - 1) (get_or (g.L.LiveTable.edges l.live) i d).points ≡ l.points ++ more
      → GoesOnAt l.rule l.at (g.L.LiveTable.edges l.live) i d l.initial.kept l.initial.gone.items l.initial.a l.kept l.gone.items l.a (l.at.place + l.i - 1);
}
