-- Laws of the planar partition: the labels down a line, inner vertices, points inside faces, and triangles clear of segments.
use Rattle.std.specs.Prelude.{◌≡◌, ◌≢◌, ℕ, true, false, ◌==◌, List, [], ◌∷◌, ◌++◌, map, length, All, ◌<◌, AllPairs, get_or, ◌⊎◌, Contains}
use Rattle.tgap_model.specs.declared.geometry.Point.{Point}
use Rattle.tgap_model.specs.declared.segment.LabelledSegment.{LabelledSegment}
use Rattle.tgap_model.specs.declared.geometry.Fraction.{Fraction}
use Rattle.tgap_model.specs.Base.{same_point}
use Rattle.tgap_model.specs.Segment.{Line, IsBetweenColumns, line_through, is_higher}
use Rattle.tgap_model.specs.Partition.{AreApart, follows, Sides, sides, stack, agree_from}
use Rattle.map_laws.specs.Inside.{crosses_ray, is_inside}
use Rattle.tgap_model.specs.Clear.{is_clear}

-- ---- the labels down a line

-- the label reached below these sides, which is u above them
abbrev pub label_reached : ℕ → List Sides → ℕ
label_reached u [] = u
label_reached u (s ∷ ss) = label_reached s.lower ss

-- the sides with other labels, but for those whose two labels are then one
abbrev pub relabelled : (ℕ → ℕ) → List Sides → List Sides
relabelled g [] = []
relabelled g (s ∷ ss) =
    elim (g s.upper == g s.lower) [
      | true ↦ relabelled g ss
      | false ↦ record { upper = g s.upper; lower = g s.lower } ∷ relabelled g ss
    ]

-- Other labels, where 0 stays 0, agree as before; and what is reached is the other label of what was reached before.
pub record LabelsChange : Type 0 where
  pub agree : (g : ℕ → ℕ) (u : ℕ) (ss : List Sides) → g 0 ≡ 0 → agree_from u ss ≡ true → agree_from (g u) (relabelled g ss) ≡ true
  pub reached : (g : ℕ → ℕ) (u : ℕ) (ss ts : List Sides) → agree_from u (ss ++ ts) ≡ true → label_reached (g u) (relabelled g ss) ≡ g (label_reached u ss)

-- two neighbours of which the second leads back to the label above the first may be left out
abbrev pub NeighboursCancel : Type 0
NeighboursCancel =
    (u : ℕ) (ss : List Sides) (s t : Sides) (ts : List Sides)
    → agree_from u (ss ++ s ∷ t ∷ ts) ≡ true → s.upper ≡ t.lower → agree_from u (ss ++ ts) ≡ true

-- Where segments have no point in common but permitted ones, an inner vertex stands once: the last point of a segment, where it is
-- no end of the arc, is no other segment's last point, and the first point of the next segment of the arc alone.
abbrev pub InnerVerticesStandOnce : Type 0
InnerVerticesStandOnce =
    (segments : List LabelledSegment) → AllPairs AreApart segments → All (λ s. same_point s.segment.a s.segment.b ≡ false) segments
    → (i j : ℕ) (d : LabelledSegment) → i ≢ j → i < length segments → j < length segments → (get_or segments i d).ends ≡ false
    → ((get_or segments i d).segment.b ≢ (get_or segments j d).segment.b)
    × ((get_or segments i d).segment.b ≡ (get_or segments j d).segment.a → follows (get_or segments i d) (get_or segments j d) ≡ true)

-- Where the faces agree down each line, no point between whole abscissas is inside two faces, 0 left aside.
abbrev pub InsideOneFace : Type 0
InsideOneFace =
    (segments : List LabelledSegment)
    → ((l : Line) → IsBetweenColumns l → agree_from 0 (map sides (stack l segments)) ≡ true)
    → (p : Fraction) → IsBetweenColumns (line_through p) → (f g : ℕ) → f ≢ 0 → g ≢ 0
    → is_inside segments f p ≡ true → is_inside segments g p ≡ true → f ≡ g

-- Where the faces agree down each line, the nearest segment above a point between whole abscissas tells where the point is: inside
-- the face at the lower side of that segment, unless the face is 0. Nearest is one that every other one of them is higher than.
abbrev pub InsideBelowNearest : Type 0
InsideBelowNearest =
    (segments : List LabelledSegment)
    → ((l : Line) → IsBetweenColumns l → agree_from 0 (map sides (stack l segments)) ≡ true)
    → (p : Fraction) → IsBetweenColumns (line_through p) → (s : LabelledSegment) → Contains segments s → crosses_ray p s ≡ true
    → All (λ t. crosses_ray p t ≡ true → (t ≡ s) ⊎ (is_higher (line_through p) t.segment s.segment ≡ true)) segments
    → (sides s).lower ≢ 0 → is_inside segments (sides s).lower p ≡ true

-- ---- triangles clear of segments

-- whether a triangle is clear of a segment does not depend on the direction of the segment
abbrev pub ClearIsSymmetric : Type 0
ClearIsSymmetric = (a b c p q : Point) → is_clear a b c (record { a = p; b = q }) ≡ is_clear a b c (record { a = q; b = p })
