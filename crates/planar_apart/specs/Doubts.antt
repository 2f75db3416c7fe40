-- Segments that may have a meeting, and those that are known to be apart from one another.
use Rattle.std.specs.Prelude.{◌≡◌, ℕ, ◌<◌, Bool, true, false, not, List, length, map, get_or, Option, None}
use Rattle.std.specs.List.{filter, range_with_len}
use Rattle.tgap_model.specs.declared.segment.LabelledSegment.{LabelledSegment}
use Rattle.tgap_model.specs.Partition.{meeting_point}
use Rattle.planar_apart.specs.declared.meeting.Meeting.{Meeting}
use Rattle.planar_apart.specs.declared.row.NumberedSegment.{NumberedSegment}
use Rattle.planar_apart.specs.Rows.{past_last, IsLeastAbove}

-- the segment of a number is doubtful, also where nothing is said of it
abbrev pub is_doubtful : List Bool → ℕ → Bool
is_doubtful doubts number = get_or doubts number true

-- the segments that are not
abbrev pub others : List LabelledSegment → List Bool → List LabelledSegment
others segments doubts = map (λ i. get_or segments i past_last) (filter (λ i. not (is_doubtful doubts i)) (range_with_len 0 (length segments)))

-- two segments do not meet where none of them is doubtful
abbrev pub AreDoubts : List LabelledSegment → List Bool → Type 0
AreDoubts segments doubts =
    (i j : ℕ) → i < j → j < length segments → is_doubtful doubts i ≡ false → is_doubtful doubts j ≡ false
    → meeting_point (get_or segments i past_last) (get_or segments j past_last) ≡ None

-- the least meeting of a segment with one of the first is its least with one of the row
abbrev pub Suffice : List NumberedSegment → List NumberedSegment → NumberedSegment → Type 0
Suffice few row first = (found : Option Meeting) → IsLeastAbove few first found → IsLeastAbove row first found
