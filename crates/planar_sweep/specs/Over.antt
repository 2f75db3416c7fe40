-- Which of two segments lies over the other, and when two have nothing in common but ends of both. A segment goes forward here: to the
-- right, or straight up.
use Rattle.std.specs.Prelude.{◌≡◌, ◌⊎◌, Bool, true, ◌&&◌, ◌||◌, pos, ◌<ℤ◌, ◌≤ℤ◌, int_lt, int_le, if◌then◌else◌}
use Rattle.tgap_model.specs.declared.geometry.Point.{Point}
use Rattle.tgap_model.specs.declared.geometry.Fraction.{Fraction}
use Rattle.tgap_model.specs.declared.geometry.Seg.{Seg}
use Rattle.tgap_model.specs.declared.geometry.Shared.{Shared}
use Rattle.tgap_model.specs.Base.{same_point}
use Rattle.tgap_model.specs.Point.{side}
use Rattle.tgap_model.specs.Segment.{HaveInCommon, is_at, earlier_end, later_end}

-- the same segment, from its earlier end to its later one
abbrev pub forward : Seg → Seg
forward s = record { a = earlier_end s; b = later_end s }

-- it goes to the right, or straight up
abbrev pub GoesForward : Seg → Type 0
GoesForward s = (s.a.x <ℤ s.b.x) ⊎ ((s.a.x ≡ s.b.x) × (s.a.y ≤ℤ s.b.y))

-- it goes to the right
abbrev pub is_slanted : Seg → Bool
is_slanted s = int_lt s.a.x s.b.x

-- one of the two starts is at that side of the other segment, and one of the two ends is
abbrev pub starts_over : Seg → Seg → Bool
starts_over s t = int_le (pos 0) (side t.a t.b s.a) || int_le (side s.a s.b t.a) (pos 0)

abbrev pub ends_over : Seg → Seg → Bool
ends_over s t = int_le (pos 0) (side t.a t.b s.b) || int_le (side s.a s.b t.b) (pos 0)

-- On each vertical line that meets both, no point of the first is lower than a point of the second. Of an upright segment the end
-- that is nearer to the other segment tells.
abbrev pub is_over : Seg → Seg → Bool
is_over s t =
    if is_slanted s
    then if is_slanted t then starts_over s t && ends_over s t else int_le (side s.a s.b t.b) (pos 0)
    else if is_slanted t then int_le (pos 0) (side t.a t.b s.a) else int_le t.b.y s.a.y

-- the same, and strictly
abbrev pub starts_apart : Seg → Seg → Bool
starts_apart s t = int_lt (pos 0) (side t.a t.b s.a) || int_lt (side s.a s.b t.a) (pos 0)

abbrev pub ends_apart : Seg → Seg → Bool
ends_apart s t = int_lt (pos 0) (side t.a t.b s.b) || int_lt (side s.a s.b t.b) (pos 0)

-- the point is an end of the segment, or strictly at that side of it
abbrev pub is_end_or_left : Seg → Point → Bool
is_end_or_left s v = same_point v s.a || same_point v s.b || int_lt (pos 0) (side s.a s.b v)

abbrev pub is_end_or_right : Seg → Point → Bool
is_end_or_right s v = same_point v s.a || same_point v s.b || int_lt (side s.a s.b v) (pos 0)

-- a vertical line meets both
abbrev pub shares_line : Seg → Seg → Bool
shares_line s t = int_le t.a.x s.b.x && int_le s.a.x t.b.x

-- where two segments have ends in common
abbrev pub same_ends : Seg → Seg → Shared
same_ends s t = record {
  aa = same_point s.a t.a;
  ab = same_point s.a t.b;
  ba = same_point s.b t.a;
  bb = same_point s.b t.b;
}

-- they have no point in common but ends of both
abbrev pub MeetAtEnds : Seg → Seg → Type 0
MeetAtEnds s t = (p : Fraction) → ¬ (HaveInCommon s t (same_ends s t) p)

-- the point is an end of the segment
abbrev pub IsEnd : Seg → Fraction → Type 0
IsEnd s p = (is_at p s.a ≡ true) ⊎ (is_at p s.b ≡ true)

-- The first segment may stand next above the second in the row of the sweep.
pub record StandsOver (s t : Seg) : Type 0 where
  pub over : is_over s t ≡ true
  pub ends : MeetAtEnds s t
