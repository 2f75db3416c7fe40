-- What the sweep keeps: which segments have begun and ended, the stack of those that cross the line one half beyond an
-- abscissa, by their numbers among the starts, and above which of them the faces may disagree.
use Rattle.std.specs.Prelude.{◌≡◌, ◌≢◌, ◌⊎◌, ◌<◌, ◌≤◌, ℕ, Bool, true, false, ℤ, pos, ◌<ℤ◌, ◌≤ℤ◌, int_lt, List, [], ◌∷◌, length, take, drop, map, filter, not, All, AllPairs, Contains, IsPermutation, get_or, Option, Some, None, ◌==◌, if◌then◌else◌}
use Rattle.std.specs.Int.{int_min, int_max}
use Rattle.std.specs.List.{range_with_len}
use Rattle.std.specs.Ordering.{int_eq}
use Rattle.lemmas.specs.Sorting.{is_sorted_by}
use Rattle.tgap_model.specs.declared.geometry.Seg.{Seg}
use Rattle.tgap_model.specs.declared.segment.LabelledSegment.{LabelledSegment}
use Rattle.tgap_model.specs.declared.fault.MapFault.{MapFault}
use Rattle.tgap_model.specs.declared.fault.MapFault.TheVariants.{StackDisagrees}
use Rattle.tgap_model.specs.Segment.{Line, IsBetweenColumns, line_after, crosses, is_higher}
use Rattle.tgap_model.specs.Bounds.{HasNearEnds}
use Rattle.tgap_model.specs.Partition.{AreApart, Sides, sides, stack, agree_from, stack_fault, first_fault, abscissas, all_but_last}
use Rattle.grid_geo.specs.Evidence.{face_above, face_below}
use Rattle.planar_stack.specs.declared.gap.StackGap.{StackGap}
use Rattle.planar_stack.specs.declared.events.End.{End}

-- ---- the property

-- the faces agree down each line between whole abscissas
abbrev pub FacesAgree : List LabelledSegment → Type 0
FacesAgree segments = (l : Line) → IsBetweenColumns l → agree_from 0 (map sides (stack l segments)) ≡ true

-- the fault that a gap is
abbrev pub disagrees : StackGap → MapFault
disagrees g = StackDisagrees g.line g.place g.upper g.lower

-- the first fault down the lines one half beyond the abscissas
abbrev pub first_stack_fault : List LabelledSegment → Option MapFault
first_stack_fault segments = first_fault (stack_fault segments) (all_but_last (abscissas segments))

-- ---- heights

-- the line one half beyond an abscissa crosses the segment
abbrev pub crossed_after : ℤ → LabelledSegment → Bool
crossed_after v s = crosses (line_after v) s.segment

-- the first of two segments is higher there
abbrev pub higher_after : ℤ → LabelledSegment → LabelledSegment → Bool
higher_after v s t = is_higher (line_after v) s.segment t.segment

-- the least and the greatest ordinate of a segment
abbrev pub lowest : Seg → ℤ
lowest s = int_min s.a.y s.b.y

abbrev pub highest : Seg → ℤ
highest s = int_max s.a.y s.b.y

-- ---- the segments in the order in which they begin

-- the abscissas at which a segment begins and ends, from left to right
abbrev pub left_end : LabelledSegment → ℤ
left_end s = int_min s.segment.a.x s.segment.b.x

abbrev pub right_end : LabelledSegment → ℤ
right_end s = int_max s.segment.a.x s.segment.b.x

-- it is not vertical
abbrev pub is_slanted : LabelledSegment → Bool
is_slanted s = not (int_eq s.segment.a.x s.segment.b.x)

-- two segments that are apart, in one order or the other
abbrev pub EitherApart : LabelledSegment → LabelledSegment → Type 0
EitherApart s t = AreApart s t ⊎ AreApart t s

-- the segments stand in the order in which they begin
abbrev pub BeginInOrder : List LabelledSegment → Type 0
BeginInOrder starts =
    (i j : ℕ) (d : LabelledSegment) → i ≤ j → j < length starts
    → left_end (get_or starts i d) ≤ℤ left_end (get_or starts j d)

-- The starts of these segments: those that are not vertical, in the order in which they begin.
pub record AreStarts (segments starts : List LabelledSegment) : Type 0 where
  pub moved : IsPermutation (filter is_slanted segments) starts
  pub ascend : BeginInOrder starts

-- starts that are apart, and whose ends keep to the limits
pub record AreReady (starts : List LabelledSegment) : Type 0 where
  pub apart : AllPairs EitherApart starts
  pub near : All (λ s. HasNearEnds s.segment) starts
  pub slanted : All (λ s. left_end s <ℤ right_end s) starts
  pub ascend : BeginInOrder starts

-- ---- the stack, from top to bottom, as numbers of starts

-- what has no number
abbrev pub no_segment : LabelledSegment
no_segment = record {
  segment = record { a = record { x = pos 0; y = pos 0 }; b = record { x = pos 0; y = pos 0 } };
  left = 0;
  right = 0;
  arc = 0;
  place = 0;
  starts = false;
  ends = false;
}

-- the segment of a number
abbrev pub segment_at : List LabelledSegment → ℕ → LabelledSegment
segment_at starts n = get_or starts n no_segment

abbrev pub sides_at : List LabelledSegment → ℕ → Sides
sides_at starts n = sides (segment_at starts n)

-- the line one half beyond an abscissa crosses the segment of a number
abbrev pub crossed_at : ℤ → List LabelledSegment → ℕ → Bool
crossed_at v starts n = crossed_after v (segment_at starts n)

-- the first of two is higher there
abbrev pub higher_at : ℤ → List LabelledSegment → ℕ → ℕ → Bool
higher_at v starts m n = higher_after v (segment_at starts m) (segment_at starts n)

-- the segment ends after the abscissa
abbrev pub stays_at : ℤ → List LabelledSegment → ℕ → Bool
stays_at v starts n = int_lt v (right_end (segment_at starts n))

-- Segments that cross a line, the higher one first.
pub record IsOrdered (v : ℤ) (starts : List LabelledSegment) (found : List ℕ) : Type 0 where
  pub known : All (λ n. n < length starts) found
  pub crossed : All (λ n. crossed_at v starts n ≡ true) found
  pub sorted : is_sorted_by (higher_at v starts) found ≡ true

-- The place at which a segment stands below all that it is not higher than, and above all that it is higher than.
pub record IsPlace (v : ℤ) (starts : List LabelledSegment) (n : ℕ) (found : List ℕ) (place : ℕ) : Type 0 where
  pub within : place ≤ length found
  pub above : (k d : ℕ) → k < place → higher_at v starts n (get_or found k d) ≡ false
  pub below : (k d : ℕ) → place ≤ k → k < length found → higher_at v starts n (get_or found k d) ≡ true

-- The stack of those of the first starts that cross the line one half beyond v, where all of them begin at v or before
-- it.
pub record IsActive (v : ℤ) (starts : List LabelledSegment) (begun : ℕ) (found : List ℕ) : Type 0 where
  pub within : begun ≤ length starts
  pub ordered : IsOrdered v starts found
  pub into : (n : ℕ) → Contains found n → n < begun
  pub back : (n : ℕ) → n < begun → crossed_at v starts n ≡ true → Contains found n
  pub left : (n : ℕ) → n < begun → left_end (segment_at starts n) ≤ℤ v

-- ---- the ends of the starts, in their order

abbrev pub end_of : List LabelledSegment → ℕ → End
end_of starts n = record { abscissa = right_end (segment_at starts n); number = n }

-- the ends stand in the order of their abscissas
abbrev pub EndInOrder : List End → Type 0
EndInOrder ends = (i j : ℕ) (d : End) → i ≤ j → j < length ends → (get_or ends i d).abscissa ≤ℤ (get_or ends j d).abscissa

-- The ends of these starts, each once, in the order of their abscissas.
pub record AreEnds (starts : List LabelledSegment) (ends : List End) : Type 0 where
  pub moved : IsPermutation (map (end_of starts) (range_with_len 0 (length starts))) ends
  pub ascend : EndInOrder ends

-- The first ends are those up to an abscissa.
pub record HaveEnded (v : ℤ) (ends : List End) (ended : ℕ) : Type 0 where
  pub within : ended ≤ length ends
  pub past : All (λ e. e.abscissa ≤ℤ v) (take ended ends)
  pub ahead : All (λ e. v <ℤ e.abscissa) (drop ended ends)

-- Before the ends up to an abscissa leave a stack: each of the stack has its end behind the first ones, and what ends there up to
-- the abscissa is in the stack.
pub record AreLeft (v : ℤ) (starts : List LabelledSegment) (ends : List End) (ended : ℕ) (found : List ℕ) : Type 0 where
  pub within : ended ≤ length ends
  pub past : All (λ e. e.abscissa ≤ℤ v) (take ended ends)
  pub into : (n : ℕ) → Contains found n → Contains (drop ended ends) (end_of starts n)
  pub back : (e : End) → Contains (drop ended ends) e → e.abscissa ≤ℤ v → Contains found e.number

-- ---- the faces at a place of a stack

-- the fault at one place, where the two faces differ
abbrev pub fault_at : ℤ → List Sides → ℕ → Option MapFault
fault_at v ss place =
    if face_above ss place == face_below ss place then None else Some (StackDisagrees v place (face_above ss place) (face_below ss place))

-- The face that is reached above each member, which is u above the first, is its upper face, or the member is touched.
pub data IsCovered {A : Type 0} (faces : A → Sides) (touched : List A) : ℕ → List A → Type 0 where
  none : {u : ℕ} → IsCovered faces touched u []
  next : {u : ℕ} {x : A} {xs : List A} → ((faces x).upper ≡ u) ⊎ Contains touched x → IsCovered faces touched (faces x).lower xs
      → IsCovered faces touched u (x ∷ xs)

-- those of which the upper face is not the one that is reached
abbrev pub differing : List LabelledSegment → ℕ → List ℕ → List ℕ
differing starts reached found = filter (λ n. not ((sides_at starts n).upper == reached)) found

-- The touched segments: they begin up to an abscissa, and above all others of the stack the faces agree.
pub record AreTouched (v : ℤ) (starts : List LabelledSegment) (found touched : List ℕ) : Type 0 where
  pub known : All (λ n. n < length starts) touched
  pub begun : All (λ n. left_end (segment_at starts n) ≤ℤ v) touched
  pub covered : IsCovered (sides_at starts) touched 0 found

-- The place, which is at most that past the last member: the faces differ there, or it is that one; and they agree at each higher place of a
-- member that is seen.
pub record IsFirstOf (seen : List ℕ) (ss : List Sides) (found : List ℕ) (place : ℕ) : Type 0 where
  pub within : place ≤ length found
  pub differ : place < length found → face_above ss place ≢ face_below ss place
  pub agree : (k d : ℕ) → k < place → Contains seen (get_or found k d) → face_above ss k ≡ face_below ss k
