-- Points, segments and rings of the plane: the textbook orientation test and the shoelace formula.
use Rattle.std.specs.Prelude.{ℕ, ◌+◌, ℤ, pos, ◌+ℤ◌, ◌-ℤ◌, ◌*ℤ◌, unsigned_abs, List, [], ◌∷◌}
use Rattle.std.specs.Int.{int_signum}
use Rattle.tgap_model.specs.declared.geometry.Point.{Point}

-- the cross product of the vectors from a to b and from a to c
abbrev pub cross : Point → Point → Point → ℤ
cross a b c = (b.x -ℤ a.x) *ℤ (c.y -ℤ a.y) -ℤ (b.y -ℤ a.y) *ℤ (c.x -ℤ a.x)

-- where c is, for one who goes from a to b: 1 is at the left, -1 at the right, 0 on the line
abbrev pub side : Point → Point → Point → ℤ
side a b c = int_signum (cross a b c)

-- twice the area of a triangle
abbrev pub area2 : Point → Point → Point → ℕ
area2 a b c = unsigned_abs (cross a b c)

-- the length of a segment: |dx| + |dy|
abbrev pub segment_length : Point → Point → ℕ
segment_length a b = unsigned_abs (b.x -ℤ a.x) + unsigned_abs (b.y -ℤ a.y)

-- the length of a row of points
abbrev pub path_length : List Point → ℕ
path_length [] = 0
path_length (a ∷ []) = 0
path_length (a ∷ b ∷ points) = segment_length a b + path_length (b ∷ points)

-- the shoelace term of a segment: ax * by - bx * ay
abbrev pub shoelace_term : Point → Point → ℤ
shoelace_term a b = a.x *ℤ b.y -ℤ b.x *ℤ a.y

-- the shoelace sum of a row of points: of a closed ring it is twice the area, positive for a counter-clockwise one
abbrev pub shoelace : List Point → ℤ
shoelace [] = pos 0
shoelace (a ∷ []) = pos 0
shoelace (a ∷ b ∷ points) = shoelace_term a b +ℤ shoelace (b ∷ points)
