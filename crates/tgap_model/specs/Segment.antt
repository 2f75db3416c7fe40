-- Segments of the plane over whole numbers: rational points on them, vertical lines across them, what two of them have in
-- common, and the order of directions round a node. All of it is textbook plane geometry.
use Rattle.std.specs.Prelude.{◌≡◌, ◌≢◌, ◌<ℤ◌, ℕ, Bool, true, false, ◌&&◌, ◌||◌, not, ℤ, pos, ◌+ℤ◌, ◌-ℤ◌, ◌*ℤ◌, int_lt, int_le, nat_lt, ◌==◌, unsigned_abs, Option, Some, None, if◌then◌else◌}
use Rattle.std.specs.Int.{int_signum}
use Rattle.std.specs.Ordering.{int_eq}
use Rattle.tgap_model.specs.declared.geometry.Point.{Point}
use Rattle.tgap_model.specs.declared.geometry.Fraction.{Fraction}
use Rattle.tgap_model.specs.declared.geometry.Seg.{Seg}
use Rattle.tgap_model.specs.declared.geometry.Shared.{Shared}
use Rattle.tgap_model.specs.Point.{cross, shoelace_term}

-- a point with this one's coordinates times d, over d
abbrev pub is_at : Fraction → Point → Bool
is_at p v = int_eq p.nx (p.d *ℤ v.x) && int_eq p.ny (p.d *ℤ v.y)

-- points stand in the order of x, then y
abbrev pub point_before : Point → Point → Bool
point_before a b = int_lt a.x b.x || (int_eq a.x b.x && int_lt a.y b.y)

-- ---- rational points on a segment

-- n / d lies from one of two coordinates to the other
abbrev pub lies_between : ℤ → ℤ → ℤ → ℤ → Bool
lies_between u v n d =
    (int_le (d *ℤ u) n && int_le n (d *ℤ v)) || (int_le (d *ℤ v) n && int_le n (d *ℤ u))

-- d times the orientation of a rational point against the line from a to b
abbrev pub cross_at : Point → Point → Fraction → ℤ
cross_at a b p = (b.x -ℤ a.x) *ℤ (p.ny -ℤ p.d *ℤ a.y) -ℤ (b.y -ℤ a.y) *ℤ (p.nx -ℤ p.d *ℤ a.x)

-- A segment holds a rational point: it is on the line through the ends, and each of its coordinates is in the range of theirs.
abbrev pub is_on : Fraction → Seg → Bool
is_on p s = int_eq (cross_at s.a s.b p) (pos 0) && lies_between s.a.x s.b.x p.nx p.d && lies_between s.a.y s.b.y p.ny p.d

-- ---- what two segments have in common

-- how far a segment goes in x and in y
abbrev pub run : Seg → ℤ
run s = s.b.x -ℤ s.a.x

abbrev pub rise : Seg → ℤ
rise s = s.b.y -ℤ s.a.y

-- the cross product of two directions: 0 where they are parallel
abbrev pub turn : Seg → Seg → ℤ
turn s t = run s *ℤ rise t -ℤ rise s *ℤ run t

-- the point of the lines of two segments that are not parallel, over the absolute value of their turn
abbrev pub crossing : Seg → Seg → Fraction
crossing s t = record {
  nx = int_signum (turn s t) *ℤ (turn s t *ℤ s.a.x +ℤ cross t.a t.b s.a *ℤ run s);
  ny = int_signum (turn s t) *ℤ (turn s t *ℤ s.a.y +ℤ cross t.a t.b s.a *ℤ rise s);
  d = pos (unsigned_abs (turn s t));
}

-- the earlier and the later end of a segment
abbrev pub earlier_end : Seg → Point
earlier_end s = if point_before s.b s.a then s.b else s.a

abbrev pub later_end : Seg → Point
later_end s = if point_before s.b s.a then s.a else s.b

-- the first and the last point that two segments on one line have in common, where they have one
abbrev pub common_first : Seg → Seg → Point
common_first s t = if point_before (earlier_end s) (earlier_end t) then earlier_end t else earlier_end s

abbrev pub common_last : Seg → Seg → Point
common_last s t = if point_before (later_end s) (later_end t) then later_end s else later_end t

-- the middle between two points, over 2
abbrev pub middle : Point → Point → Fraction
middle a b = record { nx = a.x +ℤ b.x; ny = a.y +ℤ b.y; d = pos 2 }

-- what two parallel segments have in common: the middle of the common part, where they are on one line and it is there
abbrev pub overlap : Seg → Seg → Option Fraction
overlap s t =
    if int_eq (cross s.a s.b t.a) (pos 0) && not (point_before (common_last s t) (common_first s t))
    then Some (middle (common_first s t) (common_last s t)) else None

-- what two segments that are not parallel have in common: the point of their lines, where both hold it
abbrev pub intersection : Seg → Seg → Option Fraction
intersection s t = if is_on (crossing s t) s && is_on (crossing s t) t then Some (crossing s t) else None

-- a point that both segments hold, where there is one
unfoldable pub any_common : Seg → Seg → Option Fraction
any_common s t = if int_eq (turn s t) (pos 0) then overlap s t else intersection s t

-- the point is an end at which the two segments may meet
abbrev pub is_permitted : Shared → Seg → Seg → Fraction → Bool
is_permitted shared s t p = ((shared.aa || shared.ab) && is_at p s.a) || ((shared.ba || shared.bb) && is_at p s.b)

-- a point that both segments hold and that is no permitted end, where there is one
unfoldable pub common_point : Seg → Seg → Shared → Option Fraction
common_point s t shared =
    elim (any_common s t) [
      | None ↦ None
      | Some p ↦ if is_permitted shared s t p then None else Some p
    ]

-- Two segments have this point in common, and it is no permitted end of both.
pub record HaveInCommon (s t : Seg) (shared : Shared) (p : Fraction) : Type 0 where
  pub rational : pos 0 <ℤ p.d
  pub first : is_on p s ≡ true
  pub second : is_on p t ≡ true
  pub forbidden : is_permitted shared s t p ≡ false

-- No rational point lies on both segments.
abbrev pub AreDisjoint : Seg → Seg → Type 0
AreDisjoint s t = (p : Fraction) → pos 0 <ℤ p.d → is_on p s ≡ true → is_on p t ≡ false

-- ---- directions round a node, counter-clockwise, that of positive x first

-- 0 for a direction that goes up, or to positive x; 1 for the others
abbrev pub half_turn : Point → Point → ℕ
half_turn o p = if int_lt o.y p.y || (int_eq o.y p.y && int_lt o.x p.x) then 0 else 1

-- round o, the direction towards p is met before the one towards q
unfoldable pub turns_before : Point → Point → Point → Bool
turns_before o p q = nat_lt (half_turn o p) (half_turn o q) || ((half_turn o p == half_turn o q) && int_lt (pos 0) (cross o p q))

-- ---- vertical lines

-- the vertical line x = a / c
pub record Line : Type 0 where
  pub a : ℤ
  pub c : ℤ

-- a line that passes between whole abscissas
pub record IsBetweenColumns (l : Line) : Type 0 where
  pub rational : pos 0 <ℤ l.c
  pub apart : (x : ℤ) → l.a ≢ l.c *ℤ x

-- the line x = v + 1/2
abbrev pub line_after : ℤ → Line
line_after v = record { a = pos 2 *ℤ v +ℤ pos 1; c = pos 2 }

-- the line through a rational point
abbrev pub line_through : Fraction → Line
line_through p = record { a = p.nx; c = p.d }

-- the line passes between two abscissas, the first at its left
abbrev pub passes : Line → ℤ → ℤ → Bool
passes l u v = int_lt (l.c *ℤ u) l.a && int_lt l.a (l.c *ℤ v)

-- A line crosses a segment: one end is at its left and the other at its right.
abbrev pub crosses : Line → Seg → Bool
crosses l s = passes l s.a.x s.b.x || passes l s.b.x s.a.x

-- the segment goes to positive x
abbrev pub goes_right : Seg → Bool
goes_right s = int_lt s.a.x s.b.x

-- the same segment, from left to right
abbrev pub rightward : Seg → Seg
rightward s = if goes_right s then s else record { a = s.b; b = s.a }

-- The height of a segment that goes to the right, on a line that crosses it, is `height` over c times its run.
abbrev pub height : Line → Seg → ℤ
height l s = l.a *ℤ rise s -ℤ l.c *ℤ shoelace_term s.a s.b

-- the first segment is higher than the second on a line that crosses both
unfoldable pub is_higher : Line → Seg → Seg → Bool
is_higher l s t = int_lt (height l (rightward t) *ℤ run (rightward s)) (height l (rightward s) *ℤ run (rightward t))

-- the segment passes strictly above a rational point that stands on a line that crosses it
unfoldable pub is_above : Seg → Fraction → Bool
is_above s p = int_lt (p.ny *ℤ run (rightward s)) (height (line_through p) (rightward s))
