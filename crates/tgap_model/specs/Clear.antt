-- When a triangle is clear of a segment.
use Rattle.std.specs.Prelude.{Bool, ◌&&◌, ◌||◌, not, pos, neg_ℤ, ℤ}
use Rattle.std.specs.Ordering.{int_eq}
use Rattle.tgap_model.specs.declared.geometry.Point.{Point}
use Rattle.tgap_model.specs.declared.geometry.Seg.{Seg}
use Rattle.tgap_model.specs.Base.{same_point}
use Rattle.tgap_model.specs.Point.{side}

-- the point is the first or the last corner of the triangle, between which the new segment goes
abbrev pub is_base_corner : Point → Point → Point → Bool
is_base_corner a c p = same_point p a || same_point p c

-- The line from u to v runs between the point and w; where the point is the corner a or c, it may also be on that line.
abbrev pub lies_away : Point → Point → Point → Point → Point → Point → Bool
lies_away a c u v w p =
    (not (int_eq (side u v p) (pos 0)) && int_eq (side u v p) (neg_ℤ (side u v w)))
    || (is_base_corner a c p && int_eq (side u v p) (pos 0))

-- both ends of the segment lie away from the triangle, at the line of its side from u to v
abbrev pub is_beyond : Point → Point → Point → Point → Point → Seg → Bool
is_beyond a c u v w s = lies_away a c u v w s.a && lies_away a c u v w s.b

-- The corner lies strictly on the side z of the segment's line. The corners a and c may also lie on that line where they are
-- an end of the segment.
abbrev pub is_at_side : Point → Point → Seg → ℤ → Point → Bool
is_at_side a c s z v = int_eq (side s.a s.b v) z || (is_base_corner a c v && (same_point v s.a || same_point v s.b))

-- the whole triangle lies on this side of the segment's line
abbrev pub is_beside : Point → Point → Point → Seg → ℤ → Bool
is_beside a b c s z = is_at_side a c s z a && is_at_side a c s z b && is_at_side a c s z c

-- The segment keeps out of the triangle a, b, c, which has area: not both ends of the segment are among a and c, and a line
-- parts the two, either that of a side of the triangle or that of the segment.
unfoldable pub is_clear : Point → Point → Point → Seg → Bool
is_clear a b c s =
    not (is_base_corner a c s.a && is_base_corner a c s.b)
    && (is_beyond a c a b c s || is_beyond a c b c a s || is_beyond a c c a b s
    || is_beside a b c s (pos 1) || is_beside a b c s (neg_ℤ (pos 1)))
