-- Segments within the limits of a map, and boxes that hold them.
use Rattle.tgap_model.specs.declared.geometry.Seg.{Seg}
use Rattle.tgap_model.specs.declared.geometry.Window.{Window}
use Rattle.point_rope.specs.Held.{IsNearPoint, IsHeld}

-- both ends of the segment are within the limits
abbrev pub IsNearSegment : Seg → Type 0
IsNearSegment s = IsNearPoint s.a × IsNearPoint s.b

-- they are, and the box holds them
pub record IsHeldSegment (b : Window) (s : Seg) : Type 0 where
  pub near : IsNearSegment s
  pub held_a : IsHeld b s.a
  pub held_b : IsHeld b s.b
