-- The search over a row: the least meeting of a segment with those of greater numbers.
use Rattle.std.proofs.Common.{◌≡◌, ◌⊎◌, inl, inr, ℕ, ◌+◌, ◌<◌, ◌≤◌, List, length, Option, Some, None, sym, subst, ◌∙◌, arith}
use Rattle.std.proofs.lemmas.Bool.{cases_lt}
use Rattle.planar_apart.specs.declared.meeting.Meeting.{Meeting}
use Rattle.planar_apart.specs.declared.row.NumberedSegment.{NumberedSegment}
use Rattle.planar_apart.specs.Meetings.{IsNoLater, IsEarlier}
use Rattle.planar_apart.specs.Rows.{row_at, meeting_of, IsLeastAbove}
use Rattle.planar_apart.proofs.Earlier.{IsNoLater-trans}

-- of the segments as far as a place
pub record IsLeastAboveUpTo (row : List NumberedSegment) (first : NumberedSegment) (end : ℕ) (found : Option Meeting) : Type 0 where
  pub least : (k : ℕ) → k < end → first.number < (row_at row k).number → IsNoLater found (meeting_of first (row_at row k))
  pub one : (m : Meeting) → found ≡ Some m
      → (k : ℕ) × (k < length row) × (first.number < (row_at row k).number) × (meeting_of first (row_at row k) ≡ Some m)

-- none, where all up to there have no meeting
pub above_of_passed : (row : List NumberedSegment) (first : NumberedSegment) (end : ℕ) → ((k : ℕ) → k < end → meeting_of first (row_at row k) ≡ None)
    → IsLeastAboveUpTo row first end None
above_of_passed row first end passed = record {
  least = λ k lt above. subst (IsNoLater None) (sym (passed k lt)) tt;
  one = λ m some. absurd cc;
}

-- one segment more, and then those that are passed
pub above_further : (row : List NumberedSegment) (first : NumberedSegment) (at end : ℕ) (old new : Option Meeting) → at < length row
    → IsLeastAboveUpTo row first at old
    → (first.number < (row_at row at).number → IsEarlier old (meeting_of first (row_at row at)) new)
    → ((row_at row at).number ≤ first.number → new ≡ old)
    → ((k : ℕ) → at + 1 ≤ k → k < end → meeting_of first (row_at row k) ≡ None) → IsLeastAboveUpTo row first end new
above_further row first at end old new within h above below passed = by (cases_lt first.number (row_at row at).number)
  where
    by : (first.number < (row_at row at).number) ⊎ ((row_at row at).number ≤ first.number) → IsLeastAboveUpTo row first end new
    by (inl greater) =
        let e = above greater in
        record {
          least = λ k lt a. elim (cases_lt k at) [
            | inl less ↦ IsNoLater-trans new old (meeting_of first (row_at row k)) e.first (h.least k less a)
            | inr from ↦ elim (cases_lt at k) [
              | inl less ↦ subst (IsNoLater new) (sym (passed k (omega arith) lt)) tt
              | inr le ↦
                  let same : at ≡ k = omega arith in
                  subst (λ (j : ℕ). IsNoLater new (meeting_of first (row_at row j))) same e.second
            ]
          ];
          one = λ m some. elim e.one [
            | inl same ↦ h.one m (sym same ∙ some)
            | inr same ↦ (at, within, greater, sym same ∙ some)
          ];
        }
    by (inr lesser) =
        let same = below lesser in
        record {
          least = λ k lt a. elim (cases_lt k at) [
            | inl less ↦ subst (λ (o : Option Meeting). IsNoLater o (meeting_of first (row_at row k))) (sym same) (h.least k less a)
            | inr from ↦ elim (cases_lt at k) [
              | inl less ↦ subst (IsNoLater new) (sym (passed k (omega arith) lt)) tt
              | inr le ↦
                  let here : at ≡ k = omega arith in
                  let less = subst (λ (j : ℕ). (row_at row j).number ≤ first.number) here lesser in
                  absurd (omega (arith, less, a))
            ]
          ];
          one = λ m some. h.one m (sym same ∙ some);
        }

-- as far as the end it is the least of all
pub above_of_all : (row : List NumberedSegment) (first : NumberedSegment) (end : ℕ) (found : Option Meeting) → length row ≤ end
    → IsLeastAboveUpTo row first end found → IsLeastAbove row first found
above_of_all row first end found far h = record {
  least = λ k lt above. h.least k (omega (arith, lt, far)) above;
  one = h.one;
}
