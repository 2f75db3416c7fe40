use Rattle.std.proofs.Common.{◌≡◌, map, take}
use Rattle.std.specs.List.{zip}
use Rattle.topo_write.specs.Polygons.{span_of}
use Rattle.topo_write.proofs.spans.spans_of.Given as goal

abbrev pub invariant-loop-i : goal.invariant-loop-i
invariant-loop-i l = l.spans.items ≡ map span_of (take l.i (zip l.edges l.ends))
