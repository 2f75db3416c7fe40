-- When a point is inside a face: by the parity of the border segments above it.
use Rattle.std.specs.Prelude.{ℕ, Bool, ◌&&◌, ◌||◌, not, ◌==◌, List, count_by}
use Rattle.lemmas.specs.Parity.{is_odd}
use Rattle.tgap_model.specs.declared.segment.LabelledSegment.{LabelledSegment}
use Rattle.tgap_model.specs.declared.geometry.Fraction.{Fraction}
use Rattle.tgap_model.specs.Segment.{line_through, crosses, is_above}

-- the segment borders the face: it has the face on one side, and another on the other side
abbrev pub borders : ℕ → ℕ → ℕ → Bool
borders f left right = ((left == f) && not (right == f)) || ((right == f) && not (left == f))

-- the segment crosses the vertical ray up from a point, strictly above it
abbrev pub crosses_ray : Fraction → LabelledSegment → Bool
crosses_ray p s = crosses (line_through p) s.segment && is_above s.segment p

-- A point is inside a face where the ray up from it crosses an odd number of the segments that border the face. This is meant
-- for faces other than 0 and for points off every segment, with an x that is no whole number.
unfoldable pub is_inside : List LabelledSegment → ℕ → Fraction → Bool
is_inside segments f p = is_odd (count_by (λ s. crosses_ray p s && borders f s.left s.right) segments)
