-- The lines of an area listing, each by itself: how it is read, word after word.
use Rattle.std.specs.Prelude.{ℕ, zero, suc, ◌-◌, ◌^◌, ◌==◌, ℤ, pos, neg_ℤ, List, [], ◌∷◌, codes, Option, Some, None, if◌then◌else◌}
use Rattle.tgap_model.specs.declared.geometry.Point.{Point}
use Rattle.tgap_model.specs.declared.base.Transform.{Transform}
use Rattle.tgap_model.specs.declared.limits.TheConstants.{MAX_COORDINATE, MAX_WEIGHT, MAX_COMPATIBILITY}
use Rattle.tgap_model.specs.Base.{no_repeat}
use Rattle.line_forms.specs.Words.{Row, ◌>>=◌, after_word, number_at, natural_at, after_count, ended}

-- a number of 32 bits with a sign
abbrev pub word_at : Row → Option (ℤ × Row)
word_at row = number_at (neg_ℤ (pos (2 ^ 31))) (pos (2 ^ 31 - 1)) row

-- the four numbers of the transform
unfoldable pub read_transform : Row → Option Transform
read_transform row = do
  start ← after_word (codes "transform") row
  sx ← word_at start
  sy ← word_at sx.1
  tx ← word_at sy.1
  ty ← word_at tx.1
  ended (record { sx = sx.0; sy = sy.0; tx = tx.0; ty = ty.0 }) ty.1

-- this keyword and a number from least to most
unfoldable pub read_count : List ℕ → ℕ → ℕ → Row → Option ℕ
read_count keyword least most row = do
  start ← after_word keyword row
  n ← natural_at least most start
  ended n.0 n.1

-- n numbers from least to most, and what stands after them
unfoldable pub naturals_at : ℕ → ℕ → ℕ → Row → Option (List ℕ × Row)
naturals_at least most zero row = Some ([], row)
naturals_at least most (suc n) row = do
  v ← natural_at least most row
  vs ← naturals_at least most n v.1
  Some (v.0 ∷ vs.0, vs.1)

-- the weight and the compatibilities of class i, of c in all
unfoldable pub read_class : ℕ → ℕ → Row → Option (ℕ × List ℕ)
read_class c i row = do
  start ← after_word (codes "class") row
  named ← after_count i start
  weight ← natural_at 1 MAX_WEIGHT named
  compat ← naturals_at 0 MAX_COMPATIBILITY c weight.1
  ended (weight.0, compat.0) compat.1

-- the class of face f, where there are c classes
unfoldable pub read_face : ℕ → ℕ → Row → Option ℕ
read_face c f row = do
  start ← after_word (codes "face") row
  named ← after_count f start
  class ← natural_at 0 (c - 1) named
  ended class.0 class.1

-- a coordinate from -most to most
abbrev pub coordinate_to : ℤ → Row → Option (ℤ × Row)
coordinate_to most row = number_at (neg_ℤ most) most row

-- a coordinate within the limits
abbrev pub coordinate_at : Row → Option (ℤ × Row)
coordinate_at row = coordinate_to MAX_COORDINATE row

-- n points of coordinates from -most to most, and what stands after them
unfoldable pub points_at : ℤ → ℕ → Row → Option (List Point × Row)
points_at most zero row = Some ([], row)
points_at most (suc n) row = do
  x ← coordinate_to most row
  y ← coordinate_to most x.1
  points ← points_at most n y.1
  Some (record { x = x.0; y = y.0 } ∷ points.0, points.1)

-- The faces at the left and right of an arc, which differ, of a map with n faces, and how many points it has, at least 2;
-- and what stands after them.
unfoldable pub head_at : ℕ → Row → Option ((ℕ × ℕ × ℕ) × Row)
head_at n row = do
  start ← after_word (codes "arc") row
  left ← natural_at 0 n start
  right ← natural_at 0 n left.1
  count ← natural_at 2 (2 ^ 32 - 1) right.1
  if left.0 == right.0 then None else Some ((left.0, right.0, count.0), count.1)

-- n points of coordinates from -most to most, to the end of the line, no two in a row equal
unfoldable pub read_points : ℤ → ℕ → Row → Option (List Point)
read_points most n row = do
  points ← points_at most n row
  if no_repeat points.0 then ended points.0 points.1 else None
