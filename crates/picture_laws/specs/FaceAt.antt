-- The face at a point, told by edges: of the segments over the point, the lowest one has the face of the point below it.
-- From: point location by the first segment that a vertical ray meets (de Berg and others, Computational Geometry, 2008, chapter 6).
use Rattle.std.specs.Prelude.{◌≡◌, ℕ, Bool, false, ◌&&◌, ◌||◌, ◌*ℤ◌, int_le, int_lt, List, [], ◌∷◌, filter, All, Option, Some, None, if◌then◌else◌}
use Rattle.std.specs.Ordering.{int_eq}
use Rattle.tgap_model.specs.declared.geometry.Fraction.{Fraction}
use Rattle.tgap_model.specs.declared.geometry.Seg.{Seg}
use Rattle.tgap_model.specs.declared.segment.LabelledSegment.{LabelledSegment}
use Rattle.tgap_model.specs.declared.slice.Edge.{Edge}
use Rattle.tgap_model.specs.Partition.{edge_segments, sides}
use Rattle.tgap_model.specs.Segment.{Line, line_through, rightward, run, rise, height, is_on}

-- the segment begins at the abscissa of the point or left of it, and ends right of it
abbrev pub has_abscissa : Fraction → Seg → Bool
has_abscissa p s = int_le (p.d *ℤ (rightward s).a.x) p.nx && int_lt p.nx (p.d *ℤ (rightward s).b.x)

-- on the vertical line through the point its height is that of the point, or above
abbrev pub is_level_or_above : Fraction → Seg → Bool
is_level_or_above p s = int_le (p.ny *ℤ run (rightward s)) (height (line_through p) (rightward s))

-- the segment is over the point
abbrev pub passes_over : Fraction → LabelledSegment → Bool
passes_over p s = has_abscissa p s.segment && is_level_or_above p s.segment

-- A segment is lower than another on a line: its height is less, or it has the same height and is less steep.
abbrev pub is_lower : Line → Seg → Seg → Bool
is_lower l s t =
    int_lt (height l (rightward s) *ℤ run (rightward t)) (height l (rightward t) *ℤ run (rightward s))
    || (int_eq (height l (rightward s) *ℤ run (rightward t)) (height l (rightward t) *ℤ run (rightward s))
    && int_lt (rise (rightward s) *ℤ run (rightward t)) (rise (rightward t) *ℤ run (rightward s)))

-- the lowest of segments on a line, where there is one
abbrev pub lowest : Line → List LabelledSegment → Option LabelledSegment
lowest l [] = None
lowest l (s ∷ segments) =
    elim (lowest l segments) [ None ↦ Some s | Some t ↦ Some (if is_lower l t.segment s.segment then t else s) ]

-- the lowest segment of edges that is over a point
abbrev pub lowest_over : Fraction → List Edge → Option LabelledSegment
lowest_over p edges = lowest (line_through p) (filter (passes_over p) (edge_segments edges))

-- the face below that segment; 0 where none is over the point
abbrev pub face_told : Fraction → List Edge → ℕ
face_told p edges = elim (lowest_over p edges) [ None ↦ 0 | Some s ↦ (sides s).lower ]

-- no segment of the edges goes through the point
abbrev pub IsOff : Fraction → List Edge → Type 0
IsOff p edges = All (λ s. is_on p s.segment ≡ false) (edge_segments edges)
