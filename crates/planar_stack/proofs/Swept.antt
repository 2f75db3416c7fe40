-- The starts and the lines of a sweep, and what its answer says of the map.
use Rattle.std.proofs.Common.{◌≡◌, ⊎_elim, inl, inr, ℕ, zero, suc, ◌+◌, ◌<◌, ◌≤◌, true, false, List, [], ◌∷◌, length, map, take, drop, filter, get_or, All, AllPairs, Contains, ℤ, pos, ◌<ℤ◌, ◌≤ℤ◌, int_lt, Option, Some, None, Result, Ok, IfOk, refl, sym, ap, ◌∙◌, subst, arith}
use Rattle.std.specs.Option.{option_map, is_some}
use Rattle.std.proofs.lemmas.Result.{IfOk-at_ok, IfOk-weaker}
use Rattle.std.proofs.lemmas.Int.{ints}
use Rattle.std.proofs.lemmas.Bool.{cond_both, cases_lt}
use Rattle.std.proofs.lemmas.Simd.{map-map}
use Rattle.std.proofs.lemmas.List.{length-map, get_or-drop, get_or_default, length-drop}
use Rattle.std.proofs.lemmas.List.Elements.{All-nil, All-cons, All-head, All-tail, All-contains, All-contains_itself, All-filter, All-weaker, filter_passes}
use Rattle.std.proofs.lemmas.List.Kept.{AllPairs-filter}
use Rattle.std.proofs.lemmas.List.Sorted.{All-permutation, Contains-permutation, IsPermutation-sym, length_permutation}
use Rattle.lemmas.specs.Sorting.{is_sorted_by}
use Rattle.lemmas.proofs.Sorting.{AllPairs-permutation, length-sort_by}
use Rattle.tgap_model.specs.declared.segment.LabelledSegment.{LabelledSegment}
use Rattle.tgap_model.specs.declared.fault.MapFault.{MapFault}
use Rattle.tgap_model.specs.Segment.{line_after}
use Rattle.tgap_model.specs.Partition.{AreApart, sides, stack, stack_fault_from, stack_fault, first_fault, abscissas, all_but_last}
use Rattle.tgap_model.specs.declared.failure.Memory.{Memory}
use Rattle.planar_stack.specs.declared.gap.StackGap.{StackGap}
use Rattle.tgap_model.specs.Bounds.{HasNearEnds}
use Rattle.planar_stack.specs.Sweep.{FacesAgree, disagrees, first_stack_fault, EitherApart, is_slanted, left_end, right_end, crossed_after, higher_after, AreStarts, AreReady, segment_at, sides_at, IsActive}
use Rattle.std.proofs.lemmas.List.Sums.{length-filter, count_by-le-length}
use Rattle.lemmas.proofs.Members.{Contains-from_filter}
use Rattle.lemmas.proofs.Ascending.{distinct_by-is_sorted, ascending}
use Rattle.planar_stack.proofs.Slabs.{BothEnds, ends_from_abscissas, end_abscissas, agree_from_faults, no_faults_from_agree}
use Rattle.grid_geo.specs.Evidence.{IsFirstStackGap}
use Rattle.planar_stack.proofs.Evidence.{first_stack_gap}
use Rattle.planar_stack.proofs.Ends.{ends_from_slanted}
use Rattle.planar_stack.proofs.Active.{stack_from_active}

-- ---- the starts

pub ready_starts : (segments starts : List LabelledSegment) → AllPairs AreApart segments → All (λ s. HasNearEnds s.segment) segments → AreStarts segments starts → AreReady starts
ready_starts segments starts apart near r = record {
  apart = AllPairs-permutation EitherApart (λ s t. ⊎_elim inr inl) (filter is_slanted segments) starts r.moved
      (λ i j d less short. inl (AllPairs-filter AreApart is_slanted segments apart i j d less short));
  near = All-permutation (λ s. HasNearEnds s.segment) (filter is_slanted segments) starts r.moved (All-filter is_slanted (λ s. HasNearEnds s.segment) segments near);
  slanted = All-permutation (λ s. left_end s <ℤ right_end s) (filter is_slanted segments) starts r.moved
      (All-weaker (λ s. is_slanted s ≡ true) (λ s. left_end s <ℤ right_end s) ends_from_slanted (filter is_slanted segments) (filter_passes is_slanted segments));
  ascend = r.ascend;
}

-- they are no more than the segments
pub starts_are_few : (segments starts : List LabelledSegment) → AreStarts segments starts → length starts ≤ length segments
starts_are_few segments starts r = omega (arith, length_permutation (filter is_slanted segments) starts r.moved, length-filter is_slanted segments, count_by-le-length is_slanted segments)

-- each segment begins at an abscissa
begins_at_abscissa : (segments : List LabelledSegment) (s : LabelledSegment) → Contains segments s → Contains (abscissas segments) (left_end s)
begins_at_abscissa segments s c =
    let ends = All-contains (BothEnds (Contains (abscissas segments))) segments s (ends_from_abscissas (Contains (abscissas segments)) segments (All-contains_itself (abscissas segments))) c in
    cond_both (int_lt s.segment.b.x s.segment.a.x) s.segment.b.x s.segment.a.x (Contains (abscissas segments)) (λ _. ends.1) (λ _. ends.0)

-- a stack of a few segments is short
pub stack_is_short : (segments : List LabelledSegment) (v : ℤ) → length (stack (line_after v) segments) ≤ length segments
stack_is_short segments v = omega (arith, length-sort_by (higher_after v) (filter (crossed_after v) segments), length-filter (crossed_after v) segments, count_by-le-length (crossed_after v) segments)

-- ---- the steps

module _ (segments : List LabelledSegment) (lines : List ℤ) (starts : List LabelledSegment) (apart : AllPairs AreApart segments) (all : lines ≡ abscissas segments) (r : AreStarts segments starts) where
  pub sorted_lines : is_sorted_by int_lt lines ≡ true
  sorted_lines = subst (λ xs. is_sorted_by int_lt xs ≡ true) (sym all) (distinct_by-is_sorted int_lt (end_abscissas segments))

  pub start_is_segment : (s : LabelledSegment) → Contains starts s → Contains segments s
  start_is_segment s c = (Contains-from_filter is_slanted segments s (Contains-permutation starts (filter is_slanted segments) s (IsPermutation-sym (filter is_slanted segments) starts r.moved) c)).0

  -- the fault of a line is that of its stack
  module _ {v : ℤ} where
    pub stack_fault_at : (begun : ℕ) (after : List ℕ) → IsActive v starts begun after → All (λ t. v <ℤ left_end t) (drop begun starts) → stack_fault segments v ≡ stack_fault_from v 0 0 (map (sides_at starts) after)
    stack_fault_at begun after active beyond =
        ap (λ ss. stack_fault_from v 0 0 (map sides ss)) (stack_from_active segments starts begun v after apart r active beyond)
        ∙ ap (stack_fault_from v 0 0) (map-map sides (segment_at starts) after)

    -- and it is short
    pub stack_is_few : (begun : ℕ) (after : List ℕ) → IsActive v starts begun after → All (λ t. v <ℤ left_end t) (drop begun starts) → length after ≤ length segments
    stack_is_few begun after active beyond =
        let same = ap length (stack_from_active segments starts begun v after apart r active beyond) in
        omega (arith, same, length-map after (segment_at starts), stack_is_short segments v)

  -- what begins beyond a line begins at the next one or after it
  pub begins_at_next : (i : ℕ) → i + 1 < length lines → (s : LabelledSegment) → Contains starts s → get_or lines i (pos 0) <ℤ left_end s → get_or lines (i + 1) (pos 0) ≤ℤ left_end s
  begins_at_next i short s c beyond = by (subst (λ xs. Contains xs (left_end s)) (sym all) (begins_at_abscissa segments s (start_is_segment s c)))
    where
      by : Contains lines (left_end s) → get_or lines (i + 1) (pos 0) ≤ℤ left_end s
      by (k, inside, e) =
          let here = get_or_default lines k (pos 0) (left_end s) inside ∙ e in
          elim (cases_lt i k) [
            | inl less ↦ subst (λ (z : ℤ). get_or lines (i + 1) (pos 0) ≤ℤ z) here (ascending lines sorted_lines (i + 1) k (pos 0) (omega arith) inside)
            | inr le ↦
                let before = ascending lines sorted_lines k i (pos 0) le (omega arith) in
                absurd (omega (arith, ints, before, beyond, here))
          ]

  -- so do all that have not begun
  pub later_at_next : (i begun : ℕ) → i + 1 < length lines → All (λ s. get_or lines i (pos 0) <ℤ left_end s) (drop begun starts) → All (λ s. get_or lines (i + 1) (pos 0) ≤ℤ left_end s) (drop begun starts)
  later_at_next i begun short later k d lt =
      let s = get_or (drop begun starts) k d in
      begins_at_next i short s
      (begun + k, omega (arith, lt, length-drop begun starts), sym (get_or-drop begun starts k s) ∙ get_or_default (drop begun starts) k s d lt)
      (later k d lt)

-- ---- the end

-- the first fault is at a place whose front has none
pub first_fault_at : {A : Type 0} (find : A → Option MapFault) (xs : List A) (n : ℕ) (d : A) (fault : MapFault) → n + 1 < length xs → All (λ x. find x ≡ None) (take n xs) → find (get_or xs n d) ≡ Some fault
    → first_fault find (all_but_last xs) ≡ Some fault
first_fault_at find [] n d fault short none here = absurd (omega arith)
first_fault_at find (x ∷ []) n d fault short none here = absurd (omega arith)
first_fault_at find (x ∷ y ∷ ys) zero d fault short none here = ap (λ (o : Option MapFault). elim o [ None ↦ first_fault find (all_but_last (y ∷ ys)) | Some f ↦ Some f ]) here
first_fault_at find (x ∷ y ∷ ys) (suc n) d fault short none here =
    ap (λ (o : Option MapFault). elim o [ None ↦ first_fault find (all_but_last (y ∷ ys)) | Some f ↦ Some f ]) (All-head (λ z. find z ≡ None) x (take n (y ∷ ys)) none)
    ∙ first_fault_at find (y ∷ ys) n d fault (omega arith) (All-tail (λ z. find z ≡ None) x (take n (y ∷ ys)) none) here

-- all but the last, by their places
pub all_but_last-All : {A : Type 0} (P : A → Type 0) (xs : List A) (n : ℕ) → length xs ≤ n + 1 → All P (take n xs) → All P (all_but_last xs)
all_but_last-All P [] n short h = All-nil P
all_but_last-All P (x ∷ []) n short h = All-nil P
all_but_last-All P (x ∷ y ∷ ys) zero short h = absurd (omega arith)
all_but_last-All P (x ∷ y ∷ ys) (suc n) short h =
    All-cons P x (all_but_last (y ∷ ys)) (All-head P x (take n (y ∷ ys)) h) (all_but_last-All P (y ∷ ys) n (omega arith) (All-tail P x (take n (y ∷ ys)) h))

-- a gap that is none is no fault
pub no_gap : (gap : Option StackGap) (fault : Option MapFault) → is_some gap ≡ false → option_map disagrees gap ≡ fault → fault ≡ None
no_gap None fault e here = sym here
no_gap (Some g) fault e here = absurd cc

-- ---- what the answer says of the map

-- the answer for these segments
abbrev pub IsAnswer : List LabelledSegment → Option StackGap → Type 0
IsAnswer segments gap = option_map disagrees gap ≡ first_stack_fault segments

-- without a gap the faces agree
pub answer_agrees : (segments : List LabelledSegment) (found : Result (Option StackGap) Memory) → AllPairs AreApart segments → IfOk found (IsAnswer segments) → found ≡ Ok None → FacesAgree segments
answer_agrees segments found apart answer none = agree_from_faults segments apart (sym (IfOk-at_ok (IsAnswer segments) none answer))

-- and where they agree there is none
pub answer_only : (segments : List LabelledSegment) (found : Result (Option StackGap) Memory) → IfOk found (IsAnswer segments) → IfOk found (λ gap. FacesAgree segments → gap ≡ None)
answer_only segments found answer = IfOk-weaker found (IsAnswer segments) (λ gap. FacesAgree segments → gap ≡ None) (λ gap e agree. none gap (e ∙ no_faults_from_agree segments agree)) answer
  where
    none : (gap : Option StackGap) → option_map disagrees gap ≡ None → gap ≡ None
    none None e = refl
    none (Some g) e = absurd cc

-- a gap is the first one
pub answer_shown : (segments : List LabelledSegment) (found : Result (Option StackGap) Memory) (g : StackGap) → IfOk found (IsAnswer segments) → found ≡ Ok (Some g)
    → IsFirstStackGap segments g.line g.place g.upper g.lower
answer_shown segments found g answer some = first_stack_gap segments g.line g.place g.upper g.lower (sym (IfOk-at_ok (IsAnswer segments) some answer))
