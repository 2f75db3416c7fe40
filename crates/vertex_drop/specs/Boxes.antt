-- When an upright or a level line parts a triangle from a segment.
use Rattle.std.specs.Prelude.{Bool, ◌&&◌, ◌||◌, ℤ, int_lt}
use Rattle.tgap_model.specs.declared.geometry.Point.{Point}
use Rattle.tgap_model.specs.declared.geometry.Seg.{Seg}

-- each of the first three numbers is less than both of the last two
abbrev pub are_less : ℤ → ℤ → ℤ → ℤ → ℤ → Bool
are_less k l m p q = int_lt k p && int_lt k q && int_lt l p && int_lt l q && int_lt m p && int_lt m q

-- each of the first three numbers is greater than both of the last two
abbrev pub are_greater : ℤ → ℤ → ℤ → ℤ → ℤ → Bool
are_greater k l m p q = int_lt p k && int_lt q k && int_lt p l && int_lt q l && int_lt p m && int_lt q m

-- all three corners of the triangle lie strictly to one side of both ends of the segment: left, right, below or above
abbrev pub is_off : Point → Point → Point → Seg → Bool
is_off a b c s =
    are_less a.x b.x c.x s.a.x s.b.x || are_greater a.x b.x c.x s.a.x s.b.x
    || are_less a.y b.y c.y s.a.y s.b.y || are_greater a.y b.y c.y s.a.y s.b.y
