-- Segments in a row, each with its number, in any order, and the meetings of two of them.
use Rattle.std.specs.Prelude.{◌≡◌, ℕ, ◌<◌, nat_lt, pos, true, false, List, length, map, get_or, Option, Some, option_map, if◌then◌else◌}
use Rattle.tgap_model.specs.declared.geometry.Window.{Window}
use Rattle.tgap_model.specs.declared.segment.LabelledSegment.{LabelledSegment}
use Rattle.tgap_model.specs.Partition.{is_proper, meeting_point}
use Rattle.planar_apart.specs.declared.meeting.Meeting.{Meeting}
use Rattle.planar_apart.specs.declared.row.NumberedSegment.{NumberedSegment}
use Rattle.planar_apart.specs.Meetings.{box_of, IsNoLater}

-- what is read past the last segment
abbrev pub past_last : LabelledSegment
past_last = record {
  segment = record { a = record { x = pos 0; y = pos 0 }; b = record { x = pos 0; y = pos 0 } };
  left = 0;
  right = 0;
  arc = 0;
  place = 0;
  starts = false;
  ends = false;
}

abbrev pub past_row : NumberedSegment
past_row = record { number = 0; segment = past_last }

-- the segment of this number, with the number
abbrev pub numbered : List LabelledSegment → ℕ → NumberedSegment
numbered segments i = record { number = i; segment = get_or segments i past_last }

-- the bounding box of a segment of a row
abbrev pub row_box : NumberedSegment → Window
row_box s = box_of s.segment

-- the meeting of two segments, the first of which has the lesser number
abbrev pub ordered_meeting : NumberedSegment → NumberedSegment → Option Meeting
ordered_meeting a b = option_map (λ p. record { i = a.number; j = b.number; at = p }) (meeting_point a.segment b.segment)

-- the meeting of two segments
abbrev pub meeting_of : NumberedSegment → NumberedSegment → Option Meeting
meeting_of a b = if nat_lt a.number b.number then ordered_meeting a b else ordered_meeting b a

-- the segments are proper, and these are their boxes
pub record IsRow (row : List NumberedSegment) (boxes : List Window) : Type 0 where
  pub boxes_are : boxes ≡ map row_box row
  pub proper : (k : ℕ) (d : NumberedSegment) → k < length row → is_proper (get_or row k d).segment ≡ true

-- what stands at a place of a row
abbrev pub row_at : List NumberedSegment → ℕ → NumberedSegment
row_at row k = get_or row k past_row

-- It is a meeting of the segment with one of the row of greater number, and none of these is earlier; it is none only where there is none.
pub record IsLeastAbove (row : List NumberedSegment) (first : NumberedSegment) (found : Option Meeting) : Type 0 where
  pub least : (k : ℕ) → k < length row → first.number < (row_at row k).number → IsNoLater found (meeting_of first (row_at row k))
  pub one : (m : Meeting) → found ≡ Some m
      → (k : ℕ) × (k < length row) × (first.number < (row_at row k).number) × (meeting_of first (row_at row k) ≡ Some m)

-- It is a meeting of one of the segments with one of the row of greater number, and none of these is earlier.
pub record IsLeastByNumber (segments : List LabelledSegment) (row : List NumberedSegment) (found : Option Meeting) : Type 0 where
  pub least : (i : ℕ) → i < length segments → (k : ℕ) → k < length row → i < (row_at row k).number
      → IsNoLater found (meeting_of (numbered segments i) (row_at row k))
  pub one : (m : Meeting) → found ≡ Some m → (i : ℕ) × (i < length segments) × (k : ℕ) × (k < length row) × (i < (row_at row k).number)
      × (meeting_of (numbered segments i) (row_at row k) ≡ Some m)
