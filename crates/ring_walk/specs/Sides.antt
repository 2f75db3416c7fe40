-- The sides of spans: a span with a way along it. A side leaves one node and arrives at another, and has a face at its left.
use Rattle.std.specs.Prelude.{ℕ, ◌+◌, ◌*◌, ◌/◌, ◌%◌, ◌==◌, nat_lt, Bool, ◌&&◌, ◌||◌, not, pos, List, map, filter, slice_index_or, if◌then◌else◌}
use Rattle.std.specs.List.{range_with_len}
use Rattle.lemmas.specs.Sorting.{sort_by}
use Rattle.tgap_model.specs.declared.geometry.Point.{Point}
use Rattle.tgap_model.specs.Base.{same_point}
use Rattle.tgap_model.specs.Segment.{turns_before}
use Rattle.ring_walk.specs.declared.span.Span.{Span}
use Rattle.ring_walk.specs.declared.side.Side.{Side}
use Rattle.ring_walk.specs.declared.side.Way.{Way}
use Rattle.ring_walk.specs.declared.side.Way.TheVariants.{Along, Against}

-- ---- sides

abbrev pub other_way : Way → Way
other_way Along = Against
other_way Against = Along

abbrev pub way_number : Way → ℕ
way_number Along = 0
way_number Against = 1

-- the same span, the other way
abbrev pub turned : Side → Side
turned s = record { span = s.span; way = other_way s.way }

-- sides are numbered span by span, the one along it first
abbrev pub side_number : Side → ℕ
side_number s = 2 * s.span + way_number s.way

abbrev pub same_side : Side → Side → Bool
same_side s t = side_number s == side_number t

-- the side with this number
abbrev pub numbered : ℕ → Side
numbered i = record { span = i / 2; way = if i % 2 == 0 then Along else Against }

-- the sides of so many spans, in the order of their numbers
abbrev pub sides : ℕ → List Side
sides n = map numbered (range_with_len 0 (2 * n))

-- ---- what a side has of its span

abbrev pub origin : Point
origin = record { x = pos 0; y = pos 0 }

-- the span with this number
abbrev pub span_number : List Span → ℕ → Span
span_number spans i =
    slice_index_or spans i (record { first = origin; last = origin; ends = record { after_first = origin; before_last = origin }; left = 0; right = 0 })

-- the node that a span leaves, the point toward which it does, and the face at its left, on that way
abbrev pub start_by : Way → Span → Point
start_by Along s = s.first
start_by Against s = s.last

abbrev pub toward_by : Way → Span → Point
toward_by Along s = s.ends.after_first
toward_by Against s = s.ends.before_last

abbrev pub face_by : Way → Span → ℕ
face_by Along s = s.left
face_by Against s = s.right

-- the node that a side leaves, the one at which it arrives, the point toward which it leaves, and its face
abbrev pub start_of : List Span → Side → Point
start_of spans s = start_by s.way (span_number spans s.span)

abbrev pub end_of : List Span → Side → Point
end_of spans s = start_of spans (turned s)

abbrev pub toward_of : List Span → Side → Point
toward_of spans s = toward_by s.way (span_number spans s.span)

abbrev pub face_of : List Span → Side → ℕ
face_of spans s = face_by s.way (span_number spans s.span)

-- ---- sides round a node

-- Of two sides that leave one node, this one comes first: counter-clockwise from the direction of positive x, and of those
-- in one direction the one with the lesser number.
abbrev pub spoke_before : List Span → Side → Side → Bool
spoke_before spans s t =
    turns_before (start_of spans s) (toward_of spans s) (toward_of spans t)
    || (not (turns_before (start_of spans s) (toward_of spans t) (toward_of spans s)) && nat_lt (side_number s) (side_number t))

-- the sides that leave a node, in this order
unfoldable pub spokes_at : List Span → List Side → Point → List Side
spokes_at spans all v = sort_by (spoke_before spans) (filter (λ s. same_point (start_of spans s) v) all)
