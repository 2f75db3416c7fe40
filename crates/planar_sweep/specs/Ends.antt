-- The ends of segments, by a number of their points, so that ends at one point stand together; which two of them may share a point; and
-- the segments as they are swept.
use Rattle.std.specs.Prelude.{◌≡◌, ◌≢◌, ℕ, ◌+◌, ◌<◌, ◌≤◌, Bool, true, false, ◌&&◌, ◌||◌, not, nat_lt, ◌-◌, ℤ, pos, neg_ℤ, ◌+ℤ◌, ◌*ℤ◌, ◌<ℤ◌, ◌≤ℤ◌, List, ◌++◌, length, map, filter, get_or, IsPermutation}
use Rattle.std.specs.Int.{int_min, int_max}
use Rattle.std.specs.List.{range_with_len}
use Rattle.tgap_model.specs.declared.geometry.Point.{Point}
use Rattle.tgap_model.specs.declared.geometry.Fraction.{Fraction}
use Rattle.tgap_model.specs.declared.geometry.Seg.{Seg}
use Rattle.tgap_model.specs.declared.segment.LabelledSegment.{LabelledSegment}
use Rattle.tgap_model.specs.Base.{in_limits, same_point}
use Rattle.tgap_model.specs.Bounds.{HasNearEnds}
use Rattle.tgap_model.specs.Partition.{follows}
use Rattle.tgap_model.specs.Segment.{is_on}
use Rattle.planar_sweep.specs.declared.marks.Mark.{Mark}
use Rattle.planar_sweep.specs.Over.{forward, GoesForward, IsEnd}
use Rattle.planar_sweep.specs.Rows.{seg_at}

-- ---- the segments as they are swept

-- within the limits, of two different ends, and forward
pub record IsReady (s : Seg) : Type 0 where
  pub a : in_limits s.a ≡ true
  pub b : in_limits s.b ≡ true
  pub near : HasNearEnds s
  pub apart : s.a ≢ s.b
  pub forward : GoesForward s

-- a segment as it is swept
abbrev pub swept : LabelledSegment → Seg
swept s = forward s.segment

-- two of them have no point in common but ends of both
abbrev pub HaveCommonEnds : List Seg → Type 0
HaveCommonEnds segs =
    (m n : ℕ) → m < length segs → n < length segs → m ≢ n → (p : Fraction) → pos 0 <ℤ p.d
    → is_on p (seg_at segs m) ≡ true → is_on p (seg_at segs n) ≡ true → IsEnd (seg_at segs m) p × IsEnd (seg_at segs n) p

-- ---- the ends

abbrev pub no_segment : LabelledSegment
no_segment = record {
  segment = record { a = record { x = pos 0; y = pos 0 }; b = record { x = pos 0; y = pos 0 } };
  left = 0;
  right = 0;
  arc = 0;
  place = 0;
  starts = false;
  ends = false;
}

abbrev pub segment_at : List LabelledSegment → ℕ → LabelledSegment
segment_at segments n = get_or segments n no_segment

-- a coordinate, or the bound that it is beyond
abbrev pub bounded : ℤ → ℤ
bounded z = int_min (int_max z (neg_ℤ (pos 2147483647))) (pos 2147483647)

-- a number of a point, which others share with it only beyond the bounds
abbrev pub point_key : Point → ℤ
point_key v = pos 4294967296 *ℤ bounded v.x +ℤ bounded v.y

abbrev pub first_mark : List LabelledSegment → ℕ → Mark
first_mark segments n = record { key = point_key (segment_at segments n).segment.a; number = n; last = false; free = (segment_at segments n).starts; joint = false }

abbrev pub last_mark : List LabelledSegment → ℕ → Mark
last_mark segments n = record { key = point_key (segment_at segments n).segment.b; number = n; last = true; free = (segment_at segments n).ends; joint = false }

-- the segment after it in the list is the next one of the arc, and begins where it ends
abbrev pub goes_on : List LabelledSegment → ℕ → Bool
goes_on segments n =
    nat_lt (n + 1) (length segments)
    && (follows (segment_at segments n) (segment_at segments (n + 1)) && same_point (segment_at segments n).segment.b (segment_at segments (n + 1)).segment.a)

-- the segment before it in the list goes on with it
abbrev pub is_joined : List LabelledSegment → ℕ → Bool
is_joined segments n = nat_lt 0 n && goes_on segments (n - 1)

-- the mark of the first end; where that is joined, it is of the last end of the segment before it too
abbrev pub front_mark : List LabelledSegment → ℕ → Mark
front_mark segments n = record { key = point_key (segment_at segments n).segment.a; number = n; last = false; free = (segment_at segments n).starts; joint = is_joined segments n }

-- the last end of this number has no joint mark
abbrev pub is_loose : List LabelledSegment → Mark → Bool
is_loose segments m = not (goes_on segments m.number)

abbrev pub listed_marks : List LabelledSegment → List Mark
listed_marks segments =
    map (front_mark segments) (range_with_len 0 (length segments)) ++ filter (is_loose segments) (map (last_mark segments) (range_with_len 0 (length segments)))

-- The marks of the ends of the segments, in the order of their numbers of points.
pub record AreMarks (segments : List LabelledSegment) (marks : List Mark) : Type 0 where
  pub moved : IsPermutation (listed_marks segments) marks
  pub ascend : (i j : ℕ) (d : Mark) → i ≤ j → j < length marks → (get_or marks i d).key ≤ℤ (get_or marks j d).key

-- the first is the last point of a segment and the second the first point of the next segment of the arc
abbrev pub joins : List LabelledSegment → Mark → Mark → Bool
joins segments e f = e.last && (not f.last && follows (segment_at segments e.number) (segment_at segments f.number))

-- both are ends of arcs, or one segment goes on with the other there
abbrev pub may_share : List LabelledSegment → Mark → Mark → Bool
may_share segments e f = (e.free && f.free) || (joins segments e f || joins segments f e)

-- neither mark is of two ends that are joined, and their ends may share a point
abbrev pub may_meet : List LabelledSegment → Mark → Mark → Bool
may_meet segments e f = not (e.joint || f.joint) && may_share segments e f

abbrev pub are_free : Mark → Mark → Bool
are_free e f = e.free && f.free

-- At a place, the mark may meet the next one where they have one point; and where the one after that has it too, both are ends
-- of arcs.
pub record IsFair (segments : List LabelledSegment) (marks : List Mark) (i : ℕ) : Type 0 where
  pub next : (d : Mark) → i + 1 < length marks → (get_or marks i d).key ≡ (get_or marks (i + 1) d).key → may_meet segments (get_or marks i d) (get_or marks (i + 1) d) ≡ true
  pub after : (d : Mark) → i + 2 < length marks → (get_or marks i d).key ≡ (get_or marks (i + 2) d).key → are_free (get_or marks i d) (get_or marks (i + 2) d) ≡ true

-- any two ends of different segments at one point may share it
abbrev pub EndsAgree : List LabelledSegment → Type 0
EndsAgree segments =
    (m n : ℕ) → m < length segments → n < length segments → m ≢ n
    → ((segment_at segments m).segment.a ≡ (segment_at segments n).segment.a → may_share segments (first_mark segments m) (first_mark segments n) ≡ true)
    × ((segment_at segments m).segment.a ≡ (segment_at segments n).segment.b → may_share segments (first_mark segments m) (last_mark segments n) ≡ true)
    × ((segment_at segments m).segment.b ≡ (segment_at segments n).segment.a → may_share segments (last_mark segments m) (first_mark segments n) ≡ true)
    × ((segment_at segments m).segment.b ≡ (segment_at segments n).segment.b → may_share segments (last_mark segments m) (last_mark segments n) ≡ true)
