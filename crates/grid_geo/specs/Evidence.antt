-- What shows a fault of a planar partition, in words that can be verified by hand: what is wrong there, and that nothing before it is.
use Rattle.std.specs.Prelude.{◌≡◌, ◌≢◌, ◌<◌, ◌≤◌, ◌<ℤ◌, ◌⊎◌, ℕ, zero, suc, ◌+◌, true, ◌==◌, ℤ, List, [], ◌∷◌, map, length, AllPairs, Contains, Some, if◌then◌else◌}
use Rattle.std.specs.List.{slice_get}
use Rattle.tgap_model.specs.declared.geometry.Point.{Point}
use Rattle.tgap_model.specs.declared.geometry.Fraction.{Fraction}
use Rattle.tgap_model.specs.declared.segment.LabelledSegment.{LabelledSegment}
use Rattle.tgap_model.specs.declared.fault.MapFault.{MapFault}
use Rattle.tgap_model.specs.declared.fault.MapFault.TheVariants.{Meets, NodeDisagrees, StackDisagrees}
use Rattle.tgap_model.specs.Segment.{HaveInCommon, point_before, line_after}
use Rattle.tgap_model.specs.Partition.{AreApart, AgreesAtNodes, Spoke, Sides, shared_ends, spokes_at, nodes, sides, stack, abscissas, all_but_last}

-- ---- a meeting

-- the pair (k, l) of numbers comes before the pair (i, j)
abbrev pub IsLesserPair : ℕ → ℕ → ℕ → ℕ → Type 0
IsLesserPair k l i j = (k < i) ⊎ ((k ≡ i) × (l < j))

-- Segments i and j have the point in common, and it is no end at which they may meet; all lesser pairs are apart.
pub record IsFirstMeeting (segments : List LabelledSegment) (i j : ℕ) (at : Fraction) : Type 0 where
  pub order : i < j
  pub first : LabelledSegment
  pub second : LabelledSegment
  pub at_first : slice_get segments i ≡ Some first
  pub at_second : slice_get segments j ≡ Some second
  pub common : HaveInCommon first.segment second.segment (shared_ends first second) at
  pub least : (k l : ℕ) (s t : LabelledSegment) → k < l → IsLesserPair k l i j
      → slice_get segments k ≡ Some s → slice_get segments l ≡ Some t → AreApart s t

-- ---- a node

-- the number of the spoke next to spoke i, of n round a node; next to the last one is the first
abbrev pub next_spoke : ℕ → ℕ → ℕ
next_spoke n i = if i + 1 == n then 0 else i + 1

-- the left face of spoke i is the right face of the next one
abbrev pub AgreesAtSpoke : List Spoke → ℕ → Type 0
AgreesAtSpoke spokes i =
    (p q : Spoke) → slice_get spokes i ≡ Some p → slice_get spokes (next_spoke (length spokes) i) ≡ Some q → p.left ≡ q.right

-- Round the node, spoke number i and the next one, number j, have different faces between them; no earlier spoke of the node has,
-- and no spoke of a lesser node.
pub record IsFirstNodeGap (segments : List LabelledSegment) (node : Point) (i j left right : ℕ) : Type 0 where
  pub is_node : Contains (nodes segments) node
  pub next : j ≡ next_spoke (length (spokes_at node segments)) i
  pub spoke : Spoke
  pub next_one : Spoke
  pub at_spoke : slice_get (spokes_at node segments) i ≡ Some spoke
  pub at_next : slice_get (spokes_at node segments) j ≡ Some next_one
  pub left_face : left ≡ spoke.left
  pub right_face : right ≡ next_one.right
  pub differ : left ≢ right
  pub earlier : (k : ℕ) → k < i → AgreesAtSpoke (spokes_at node segments) k
  pub lesser : (v : Point) → point_before v node ≡ true → (k : ℕ) → AgreesAtSpoke (spokes_at v segments) k

-- ---- a vertical line

-- the faces down the line one half beyond an abscissa, from top to bottom
abbrev pub faces_down : ℤ → List LabelledSegment → List Sides
faces_down v segments = map sides (stack (line_after v) segments)

-- the face that is reached from above at place i, below so many segments, where u is the face above all
abbrev pub face_reached : ℕ → List Sides → ℕ → ℕ
face_reached u ss zero = u
face_reached u [] (suc i) = u
face_reached u (s ∷ ss) (suc i) = face_reached s.lower ss i

-- the face that is reached from above at place i, where the outside is above all
abbrev pub face_above : List Sides → ℕ → ℕ
face_above ss i = face_reached 0 ss i

-- the face that stands there: the upper face of the next segment, or the outside below all
abbrev pub face_below : List Sides → ℕ → ℕ
face_below [] i = 0
face_below (s ∷ ss) zero = s.upper
face_below (s ∷ ss) (suc i) = face_below ss i

-- both are one at each place down the line
abbrev pub AgreesDown : List Sides → Type 0
AgreesDown ss = (i : ℕ) → i ≤ length ss → face_above ss i ≡ face_below ss i

-- On the line one half beyond the abscissa, below so many segments, the face that is reached from above and the face that stands
-- there differ; at no higher place they do, and on no line of a lesser abscissa.
pub record IsFirstStackGap (segments : List LabelledSegment) (line : ℤ) (place upper lower : ℕ) : Type 0 where
  pub is_line : Contains (all_but_last (abscissas segments)) line
  pub inside : place ≤ length (faces_down line segments)
  pub above : upper ≡ face_above (faces_down line segments) place
  pub below : lower ≡ face_below (faces_down line segments) place
  pub differ : upper ≢ lower
  pub higher : (i : ℕ) → i < place → face_above (faces_down line segments) i ≡ face_below (faces_down line segments) i
  pub lesser : (v : ℤ) → Contains (all_but_last (abscissas segments)) v → v <ℤ line → AgreesDown (faces_down v segments)

-- ---- the three together

-- What shows the first fault of a map with these segments: a meeting; or a node, where there is no meeting; or a vertical line,
-- where there is no meeting and the faces agree round each node.
abbrev pub IsShownBy : List LabelledSegment → MapFault → Type 0
IsShownBy segments (Meets i j at) = IsFirstMeeting segments i j at
IsShownBy segments (NodeDisagrees node spoke next left right) =
    AllPairs AreApart segments × IsFirstNodeGap segments node spoke next left right
IsShownBy segments (StackDisagrees line place upper lower) =
    AgreesAtNodes segments × IsFirstStackGap segments line place upper lower
IsShownBy segments other = ⊥
