use Rattle.std.proofs.Common.{◌≡◌, map, take}
use Rattle.face_cuts.specs.Sectors.{span_of}
use Rattle.face_cuts.proofs.spans.spans_of.Given as goal

abbrev pub invariant-loop-arc : goal.invariant-loop-arc
invariant-loop-arc l = l.spans.items ≡ map span_of (take l.arc-index l.arcs)
