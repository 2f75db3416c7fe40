-- Laws of the triangle of a removed vertex: what it has in common with segments that it is clear of.
use Rattle.std.specs.Prelude.{◌≡◌, ◌≢◌, ◌<ℤ◌, ◌≤ℤ◌, pos, ◌*ℤ◌, true, ◌&&◌, ◌||◌, ◌⊎◌}
use Rattle.tgap_model.specs.declared.geometry.Point.{Point}
use Rattle.tgap_model.specs.declared.geometry.Fraction.{Fraction}
use Rattle.tgap_model.specs.declared.geometry.Seg.{Seg}
use Rattle.tgap_model.specs.Point.{cross}
use Rattle.tgap_model.specs.Segment.{is_at, is_on, cross_at}
use Rattle.tgap_model.specs.Clear.{is_clear}

-- A closed triangle with area holds a rational point: the point's orientation against each side is that of the triangle, or 0.
pub record IsInTriangle (a b c : Point) (p : Fraction) : Type 0 where
  pub first : pos 0 ≤ℤ (cross a b c *ℤ cross_at a b p)
  pub second : pos 0 ≤ℤ (cross a b c *ℤ cross_at b c p)
  pub third : pos 0 ≤ℤ (cross a b c *ℤ cross_at c a p)

-- Where a triangle with area is clear of a segment, no rational point is in both, other than a corner a or c at which the
-- segment ends.
abbrev pub ClearIsApart : Type 0
ClearIsApart =
    (a b c : Point) (s : Seg) (p : Fraction) → cross a b c ≢ pos 0 → is_clear a b c s ≡ true → pos 0 <ℤ p.d
    → IsInTriangle a b c p → is_on p s ≡ true → ((is_at p a || is_at p c) && (is_at p s.a || is_at p s.b)) ≡ true

-- Where a triangle with area is clear of a segment, no rational point is on that segment and on the side from a to c, other
-- than a corner a or c at which the segment ends.
abbrev pub ClearOfBase : Type 0
ClearOfBase =
    (a b c : Point) (s : Seg) (p : Fraction) → cross a b c ≢ pos 0 → is_clear a b c s ≡ true → pos 0 <ℤ p.d
    → is_on p (record { a = a; b = c }) ≡ true → is_on p s ≡ true
    → ((is_at p a || is_at p c) && (is_at p s.a || is_at p s.b)) ≡ true

-- Where a, b and c are on one line, a point on the segment from a to c is on that from a to b or on that from b to c.
abbrev pub OneLineCovers : Type 0
OneLineCovers =
    (a b c : Point) (p : Fraction) → cross a b c ≡ pos 0 → pos 0 <ℤ p.d → is_on p (record { a = a; b = c }) ≡ true
    → (is_on p (record { a = a; b = b }) ≡ true) ⊎ (is_on p (record { a = b; b = c }) ≡ true)
