-- the edges so far and the directions of their ends
use Rattle.std.proofs.Common.{◌≡◌, ◌≤◌, length, All}
use Rattle.ring_walk.specs.Spans.{IsSpan}
use Rattle.topo_write.specs.Building.{IsLine}
use Rattle.topo_write.specs.Polygons.{spans_of}
use Rattle.topo_write_tests.proofs.made.edges_of.Given as goal

abbrev pub invariant-loop-line : goal.invariant-loop-line
invariant-loop-line l = record {
  each : length l.ends ≡ length l.edges;
  few : length l.edges ≤ l.line-index;
  lines : All (λ e. IsLine e.points) l.edges;
  leave : All IsSpan (spans_of l.edges l.ends);
}
