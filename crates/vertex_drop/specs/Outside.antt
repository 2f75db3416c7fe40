-- Boxes that are apart from one another and from segments.
use Rattle.std.specs.Prelude.{ℤ, pos, ◌<ℤ◌, ◌≢◌, ◌⊎◌}
use Rattle.tgap_model.specs.declared.geometry.Seg.{Seg}
use Rattle.tgap_model.specs.declared.geometry.Window.{Window}
use Rattle.tgap_model.specs.Point.{cross}
use Rattle.vertex_drop.specs.declared.triangle.Triangle.{Triangle}
use Rattle.point_rope.specs.Held.{IsNearPoint, IsHeld}

-- the numbers from a to b are less than those from c to d, or greater
abbrev pub AreRangesApart : ℤ → ℤ → ℤ → ℤ → Type 0
AreRangesApart a b c d = (b <ℤ c) ⊎ (d <ℤ a)

-- the boxes are apart along an axis
abbrev pub AreApart : Window → Window → Type 0
AreApart s t = AreRangesApart s.x0 s.x1 t.x0 t.x1 ⊎ AreRangesApart s.y0 s.y1 t.y0 t.y1

-- both numbers are less than those from low to high, or greater
abbrev pub AreBeyond : ℤ → ℤ → ℤ → ℤ → Type 0
AreBeyond a b low high = ((a <ℤ low) × (b <ℤ low)) ⊎ ((high <ℤ a) × (high <ℤ b))

-- both ends of the segment are on one side of the box
abbrev pub IsOutside : Window → Seg → Type 0
IsOutside b s = AreBeyond s.a.x s.b.x b.x0 b.x1 ⊎ AreBeyond s.a.y s.b.y b.y0 b.y1

-- the corners are within the limits and not on one line, and the box holds them
pub record IsTriangle (t : Triangle) : Type 0 where
  pub near_a : IsNearPoint t.a
  pub near_b : IsNearPoint t.b
  pub near_c : IsNearPoint t.c
  pub area : cross t.a t.b t.c ≢ pos 0
  pub held_a : IsHeld t.bounds t.a
  pub held_b : IsHeld t.bounds t.b
  pub held_c : IsHeld t.bounds t.c
