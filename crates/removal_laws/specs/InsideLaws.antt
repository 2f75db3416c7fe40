-- Laws of points inside faces: outside the triangle of a removed vertex nothing changes.
use Rattle.std.specs.Prelude.{◌≡◌, ℕ, ℤ, Bool, false, ◌&&◌, List, [], ◌∷◌, ◌++◌, count_by, All}
use Rattle.lemmas.specs.Parity.{is_odd}
use Rattle.tgap_model.specs.declared.geometry.Point.{Point}
use Rattle.tgap_model.specs.declared.geometry.Fraction.{Fraction}
use Rattle.tgap_model.specs.declared.geometry.Seg.{Seg}
use Rattle.tgap_model.specs.declared.slice.Edge.{Edge}
use Rattle.tgap_model.specs.Segment.{line_through, crosses, is_above}
use Rattle.tgap_model.specs.Partition.{edge_segments}
use Rattle.map_laws.specs.Inside.{is_inside}
use Rattle.tgap_model.specs.Merged.{MergedMap}
use Rattle.removal_laws.specs.Trace.{Taken, trace_edges, swept_edges, edges_before_sweep, edges_after_sweep, trace_at}

-- the segment crosses the vertical ray up from a point, strictly above it
abbrev pub is_over : Fraction → Seg → Bool
is_over p s = crosses (line_through p) s && is_above s p

-- a point is in a triangle: the ray up from it crosses one of the three sides, or all of them
abbrev pub is_in_triangle : Point → Point → Point → Fraction → Bool
is_in_triangle a b c p =
    is_odd (count_by (is_over p) (record { a = a; b = b } ∷ record { a = b; b = c } ∷ record { a = a; b = c } ∷ []))

-- Where b is taken out of an edge between a and c, a point outside the triangle is inside a face exactly where it was.
abbrev pub ReplacedInside : Type 0
ReplacedInside =
    (before after : List Edge) (e : Edge) (front rest : List Point) (a b c : Point) (f : ℕ) (p : Fraction)
    → is_in_triangle a b c p ≡ false
    → is_inside (edge_segments (before ++ record e { points = front ++ a ∷ c ∷ rest } ∷ after)) f p
    ≡ is_inside (edge_segments (before ++ record e { points = front ++ a ∷ b ∷ c ∷ rest } ∷ after)) f p

-- the point is in none of the triangles of these vertices
abbrev pub IsOutside : Fraction → List Taken → Type 0
IsOutside p ts = All (λ t. is_in_triangle t.a t.b t.c p ≡ false) ts

-- after a sweep, a point outside the triangles of all that it takes out is inside a face exactly where it was
abbrev pub SweepKeepsInside : Type 0
SweepKeepsInside =
    (ratio : ℕ) (area : ℤ) (made step : ℕ) (edges : List Edge) (f : ℕ) (p : Fraction)
    → IsOutside p (trace_edges ratio area made step [] edges)
    → is_inside (edge_segments (swept_edges ratio area made [] edges)) f p ≡ is_inside (edge_segments edges) f p

-- after the sweep of step j, a point outside the triangles of what it takes out is inside a face exactly where it was before
abbrev pub StepKeepsInside : Type 0
StepKeepsInside =
    (h : MergedMap) (j f : ℕ) (p : Fraction) → IsOutside p (trace_at h j)
    → is_inside (edge_segments (edges_after_sweep h j)) f p ≡ is_inside (edge_segments (edges_before_sweep h j)) f p
