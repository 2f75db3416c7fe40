-- A part of the test for a point on a segment.
use Rattle.std.specs.Prelude.{Bool, ◌&&◌}
use Rattle.tgap_model.specs.declared.geometry.Fraction.{Fraction}
use Rattle.tgap_model.specs.declared.geometry.Seg.{Seg}
use Rattle.tgap_model.specs.Segment.{lies_between}

-- both coordinates of the point lie between those of the segment's ends
abbrev pub is_within : Fraction → Seg → Bool
is_within p s = lies_between s.a.x s.b.x p.nx p.d && lies_between s.a.y s.b.y p.ny p.d
