use Rattle.std.proofs.Common.{◌≡◌, drop}
use Rattle.topo_write.specs.Polygons.{lines_of, probe_of}
use Rattle.topo_write.proofs.probe.probe_of.Given as goal

abbrev pub invariant-loop-side : goal.invariant-loop-side
invariant-loop-side l = probe_of (lines_of l.edges) (drop l.side-index l.ring) ≡ probe_of (lines_of l.edges) l.ring
