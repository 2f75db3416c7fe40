-- A sweep over a part of the lines, and what the parts give together.
use Rattle.std.specs.Prelude.{◌≡◌, ◌<◌, ◌≤◌, ◌-◌, ◌*◌, ℕ, min, ℤ, pos, ◌<ℤ◌, List, length, drop, get_or, All, AllPairs, Option, Some, None, Result, Ok, Err}
use Rattle.tgap_model.specs.declared.segment.LabelledSegment.{LabelledSegment}
use Rattle.tgap_model.specs.declared.failure.Memory.{Memory}
use Rattle.tgap_model.specs.declared.limits.TheConstants.{MAX_POINTS}
use Rattle.tgap_model.specs.Bounds.{HasNearEnds}
use Rattle.tgap_model.specs.Partition.{AreApart, stack_fault, abscissas}
use Rattle.planar_stack.specs.declared.gap.StackGap.{StackGap}
use Rattle.planar_stack.specs.declared.events.End.{End}
use Rattle.planar_stack.specs.declared.sweep.Sweep.{Sweep}
use Rattle.planar_stack.specs.Sweep.{disagrees, left_end, AreStarts, AreEnds, IsActive, HaveEnded, AreTouched}

-- The starts, the ends and the abscissas of segments that are apart.
pub record IsSweep (segments starts : List LabelledSegment) (ends : List End) (lines : List ℤ) : Type 0 where
  pub apart : AllPairs AreApart segments
  pub near : All (λ s. HasNearEnds s.segment) segments
  pub few : length segments ≤ MAX_POINTS
  pub starts_are : AreStarts segments starts
  pub ends_are : AreEnds starts ends
  pub lines_are : lines ≡ abscissas segments

abbrev pub IsSomeSweep : List LabelledSegment → List End → List ℤ → Type 0
IsSomeSweep starts ends lines = (segments : List LabelledSegment) × IsSweep segments starts ends lines

-- The sweep is at an abscissa: it has the stack of the line one half beyond, and of the segments there those above which the faces may
-- disagree; the first ends are those up to the abscissa, and all other starts begin beyond it.
pub record IsReached (v : ℤ) (starts : List LabelledSegment) (ends : List End) (s : Sweep) : Type 0 where
  pub active : IsActive v starts s.begun s.stack
  pub past : HaveEnded v ends s.ended
  pub later : All (λ t. v <ℤ left_end t) (drop s.begun starts)
  pub touched : AreTouched v starts s.stack s.touched.items

-- the gap is the first one of the lines from one place on up to another
abbrev pub IsGapIn : List LabelledSegment → List ℤ → ℕ → ℕ → Option StackGap → Type 0
IsGapIn segments lines from to None = (k : ℕ) → from ≤ k → k < to → stack_fault segments (get_or lines k (pos 0)) ≡ None
IsGapIn segments lines from to (Some g) =
    (k : ℕ) × (from ≤ k) × (k < to) × (stack_fault segments (get_or lines k (pos 0)) ≡ Some (disagrees g))
    × ((j : ℕ) → from ≤ j → j < k → stack_fault segments (get_or lines j (pos 0)) ≡ None)

-- the first of two findings
abbrev pub first_found : Result (Option StackGap) Memory → Result (Option StackGap) Memory → Result (Option StackGap) Memory
first_found (Ok None) b = b
first_found (Ok (Some g)) b = Ok (Some g)
first_found (Err e) b = Err e

-- the place of the line at which a part of this size begins; the last line has no next one and is in no part
abbrev pub part_start : List ℤ → ℕ → ℕ → ℕ
part_start lines size part = min (size * part) (length lines - 1)
