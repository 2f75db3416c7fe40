-- The order of heights on a line: strict on the segments that the line crosses, total on different members of a list whose pairs are
-- apart, and the same on each line that crosses two of them. So the stack is the only sorted list of the crossing segments.
use Rattle.std.proofs.Common.{◌≡◌, ◌≢◌, inl, ⊎_elim, Bool, true, false, ◌||◌, List, [], ◌∷◌, filter, get_or, All, AllPairs, Contains, IsPermutation, ℤ, pos, ◌+ℤ◌, ◌-ℤ◌, ◌*ℤ◌, ◌<ℤ◌, refl, sym, ◌∙◌, subst, true≢false, arith}
use Rattle.std.proofs.lemmas.Int.{ints}
use Rattle.std.proofs.lemmas.Bool.{or_left, or_right, or_cases}
use Rattle.std.proofs.lemmas.List.Elements.{filter_passes}
use Rattle.std.proofs.lemmas.List.Kept.{AllPairs-filter}
use Rattle.std.proofs.Math.IntN.{*ℤ_comm}
use Rattle.lemmas.proofs.Integers.{one-*ℤ}
use Rattle.lemmas.proofs.Polynomials.{same_value, var, ◌⊕◌, ◌⊖◌, ◌⊗◌}
use Rattle.lemmas.proofs.Signs.{Decides-int_lt, by_order, sub_negative, sub_positive, same_from_sub}
use Rattle.lemmas.proofs.Fractions.{fraction_lt_lt, root_between}
use Rattle.lemmas.proofs.Orders.{fraction_order, order_reversed, order_on_fewer}
use Rattle.lemmas.specs.Sorting.{is_sorted_by, IsStrictOrderOn}
use Rattle.lemmas.proofs.Sorting.{sort_by-is_sorted, sort_by-permuted, All-sort_by}
use Rattle.tgap_model.specs.declared.geometry.Seg.{Seg}
use Rattle.tgap_model.specs.declared.segment.LabelledSegment.{LabelledSegment}
use Rattle.tgap_model.specs.Point.{shoelace_term}
use Rattle.tgap_model.specs.Segment.{Line, crosses, rightward, run, rise, height, is_higher}
use Rattle.tgap_model.specs.Partition.{AreApart, stack}
use Rattle.lemmas.proofs.Members.{related_members}
use Rattle.planar_stack.specs.Sweep.{EitherApart}
use Rattle.planar_stack.proofs.Crossings.{Spans, spans_from_crosses, crosses_from_spans, run_positive, heights_differ}

-- the segments that a line crosses
abbrev pub crossed : Line → LabelledSegment → Bool
crossed l s = crosses l s.segment

abbrev pub higher : Line → LabelledSegment → LabelledSegment → Bool
higher l s t = is_higher l s.segment t.segment

-- a height with the run of another segment as a factor: two of them compare two heights
abbrev scaled_height : Line → LabelledSegment → LabelledSegment → ℤ
scaled_height l s t = height l (rightward s.segment) *ℤ run (rightward t.segment)

-- ---- on one line

pub higher_from_heights : (l : Line) (s t : LabelledSegment) → scaled_height l t s <ℤ scaled_height l s t → higher l s t ≡ true
unfolding is_higher
higher_from_heights l s t h = (Decides-int_lt (scaled_height l t s) (scaled_height l s t)).1 h

pub heights_from_higher : (l : Line) (s t : LabelledSegment) → higher l s t ≡ true → scaled_height l t s <ℤ scaled_height l s t
unfolding is_higher
heights_from_higher l s t e = (Decides-int_lt (scaled_height l t s) (scaled_height l s t)).0 e

-- the heights of the segments that a line crosses are a strict order
pub order_of_heights : (l : Line) → pos 0 <ℤ l.c → IsStrictOrderOn (λ (s : LabelledSegment). crosses l s.segment ≡ true) (λ (s t : LabelledSegment). is_higher l s.segment t.segment)
unfolding is_higher
order_of_heights l c =
    order_on_fewer (λ s h. run_positive l (rightward s.segment) c (spans_from_crosses l s.segment c h))
    (order_reversed (fraction_order (λ (s : LabelledSegment). height l (rightward s.segment)) (λ s. run (rightward s.segment))))

-- two segments that are apart are in one order or the other
pub one_is_higher : (l : Line) → pos 0 <ℤ l.c → (s t : LabelledSegment) → crosses l s.segment ≡ true → crosses l t.segment ≡ true → EitherApart s t → (higher l s t || higher l t s) ≡ true
one_is_higher l c s t h k apart = by_order (scaled_height l t s) (scaled_height l s t)
    (λ less. or_left _ _ (higher_from_heights l s t less))
    (λ e. absurd (⊎_elim (λ a. heights_differ l s t c h k a (sym e)) (λ a. heights_differ l t s c k h a e) apart))
    (λ more. or_right (higher l s t) _ (higher_from_heights l t s more))

-- of different members of the list exactly one is higher
pub higher_is_total : (l : Line) → pos 0 <ℤ l.c → (segments : List LabelledSegment) → AllPairs AreApart segments → (s t : LabelledSegment) → Contains segments s → Contains segments t
    → crosses l s.segment ≡ true → crosses l t.segment ≡ true → s ≢ t → (higher l s t || higher l t s) ≡ true
higher_is_total l c segments apart s t m n h k differ = ⊎_elim (λ e. absurd (differ e)) (one_is_higher l c s t h k) (related_members AreApart segments apart s t m n)

-- ---- the stack

pub crossing_decided : (l : Line) → pos 0 <ℤ l.c → (segments : List LabelledSegment) → AllPairs AreApart segments → AllPairs (λ s t. (higher l s t || higher l t s) ≡ true) (filter (crossed l) segments)
crossing_decided l c segments apart i j d less short =
    let all = filter_passes (crossed l) segments in
    one_is_higher l c (get_or (filter (crossed l) segments) i d) (get_or (filter (crossed l) segments) j d) (all i d (omega arith)) (all j d short) (inl (AllPairs-filter AreApart (crossed l) segments apart i j d less short))

pub stack_is_crossed : (l : Line) (segments : List LabelledSegment) → All (λ s. crossed l s ≡ true) (stack l segments)
stack_is_crossed l segments = All-sort_by (higher l) (λ s. crossed l s ≡ true) (filter (crossed l) segments) (filter_passes (crossed l) segments)

-- the stack is strictly sorted by heights
pub stack_is_sorted : (l : Line) → pos 0 <ℤ l.c → (segments : List LabelledSegment) → AllPairs AreApart segments → is_sorted_by (higher l) (stack l segments) ≡ true
stack_is_sorted l c segments apart = sort_by-is_sorted (higher l) (filter (crossed l) segments) (crossing_decided l c segments apart)

-- and no other sorted list has the crossing segments
pub stack_alone : (l : Line) → pos 0 <ℤ l.c → (segments found : List LabelledSegment) → is_sorted_by (higher l) found ≡ true → IsPermutation (filter (crossed l) segments) found → stack l segments ≡ found
stack_alone l c segments found sorted moved = sort_by-permuted (order_of_heights l c) (filter (crossed l) segments) found (filter_passes (crossed l) segments) sorted moved

-- ---- on two lines

-- the difference of two heights, as an affine function of the abscissa
abbrev slope : Seg → Seg → ℤ
slope q r = rise q *ℤ run r -ℤ rise r *ℤ run q

abbrev start : Seg → Seg → ℤ
start q r = shoelace_term r.a r.b *ℤ run q -ℤ shoelace_term q.a q.b *ℤ run r

difference : (l : Line) (q r : Seg) → slope q r *ℤ l.a +ℤ start q r *ℤ l.c ≡ height l q *ℤ run r -ℤ height l r *ℤ run q
difference l q r = same_value (l.a ∷ l.c ∷ rise q ∷ run q ∷ shoelace_term q.a q.b ∷ rise r ∷ run r ∷ shoelace_term r.a r.b ∷ [])
    ((var 2 ⊗ var 6 ⊖ var 5 ⊗ var 3) ⊗ var 0 ⊕ (var 7 ⊗ var 3 ⊖ var 4 ⊗ var 6) ⊗ var 1)
    ((var 0 ⊗ var 2 ⊖ var 1 ⊗ var 4) ⊗ var 6 ⊖ (var 0 ⊗ var 5 ⊖ var 1 ⊗ var 7) ⊗ var 3) refl

over_one : (z : ℤ) → z *ℤ pos 1 ≡ z
over_one z = *ℤ_comm z (pos 1) ∙ one-*ℤ z

-- what spans a segment on two lines spans it on each line between them
spans_between : (k l m : Line) (r : Seg) → pos 0 <ℤ k.c → pos 0 <ℤ l.c → pos 0 <ℤ m.c → Spans k r → Spans l r → (k.a *ℤ m.c) <ℤ (m.a *ℤ k.c) → (m.a *ℤ l.c) <ℤ (l.a *ℤ m.c) → Spans m r
spans_between k l m r i j h p q after before = record {
  left = moved (*ℤ_comm r.a.x m.c) (over_one m.a)
      (fraction_lt_lt r.a.x k.a m.a (one) i h (moved (*ℤ_comm k.c r.a.x) (sym (over_one k.a)) p.left) after);
  right = moved (over_one m.a) (*ℤ_comm r.b.x m.c)
      (fraction_lt_lt m.a l.a r.b.x h j (one) before (moved (sym (over_one l.a)) (*ℤ_comm l.c r.b.x) q.right));
}
  where
    one : pos 0 <ℤ pos 1
    one = omega (arith, ints)

    moved : {x y z w : ℤ} → x ≡ z → y ≡ w → x <ℤ y → z <ℤ w
    moved {x} {y} {z} {w} e f h = subst (λ (t : ℤ). z <ℤ t) f (subst (λ (t : ℤ). t <ℤ y) e h)

-- Two segments that are apart have one order on all lines that cross both: where it changed, a line between would cross both at one height.
pub higher_stays : (k l : Line) → pos 0 <ℤ k.c → pos 0 <ℤ l.c → (s t : LabelledSegment) → crosses k s.segment ≡ true → crosses k t.segment ≡ true → crosses l s.segment ≡ true → crosses l t.segment ≡ true
    → EitherApart s t → higher k s t ≡ true → higher l s t ≡ true
higher_stays k l i j s t ks kt ls lt apart e = ⊎_elim (λ h. h) (λ h. absurd (changed h)) (or_cases (higher l s t) (higher l t s) (one_is_higher l j s t ls lt apart))
  where
    q : Seg
    q = rightward s.segment

    r : Seg
    r = rightward t.segment

    -- a root between the two lines is a line that crosses both segments at one height
    meet : (m : Line) → pos 0 <ℤ m.c → Spans m q → Spans m r → slope q r *ℤ m.a +ℤ start q r *ℤ m.c ≡ pos 0 → ⊥
    meet m c mq mr root =
        let same = same_from_sub (height m r *ℤ run q) (height m q *ℤ run r) (sym (difference m q r) ∙ root) in
        let ms = crosses_from_spans m s.segment mq in
        let mt = crosses_from_spans m t.segment mr in
        ⊎_elim (λ a. heights_differ m s t c ms mt a (sym same)) (λ a. heights_differ m t s c mt ms a same) apart

    changed : higher l t s ≡ true → ⊥
    changed h =
        let low = subst (λ (z : ℤ). z <ℤ pos 0) (sym (difference l q r)) (sub_negative (heights_from_higher l t s h)) in
        let high = subst (λ (z : ℤ). pos 0 <ℤ z) (sym (difference k q r)) (sub_positive (heights_from_higher k s t e)) in
        ⊎_elim
        (λ w. meet (record { a = w.1.root; c = w.1.under }) w.1.positive
        (spans_between l k (record { a = w.1.root; c = w.1.under }) q j i w.1.positive (spans_from_crosses l s.segment j ls) (spans_from_crosses k s.segment i ks) w.1.after w.1.before)
        (spans_between l k (record { a = w.1.root; c = w.1.under }) r j i w.1.positive (spans_from_crosses l t.segment j lt) (spans_from_crosses k t.segment i kt) w.1.after w.1.before)
        w.1.is_root)
        (λ w. meet (record { a = w.1.root; c = w.1.under }) w.1.positive
        (spans_between k l (record { a = w.1.root; c = w.1.under }) q i j w.1.positive (spans_from_crosses k s.segment i ks) (spans_from_crosses l s.segment j ls) w.1.after w.1.before)
        (spans_between k l (record { a = w.1.root; c = w.1.under }) r i j w.1.positive (spans_from_crosses k t.segment i kt) (spans_from_crosses l t.segment j lt) w.1.after w.1.before)
        w.1.is_root)
        (root_between (slope q r) (start q r) l.a k.a j i low high)

-- so the test is one on both lines
pub higher_same : (k l : Line) → pos 0 <ℤ k.c → pos 0 <ℤ l.c → (s t : LabelledSegment) → crosses k s.segment ≡ true → crosses k t.segment ≡ true → crosses l s.segment ≡ true → crosses l t.segment ≡ true
    → EitherApart s t → higher l s t ≡ higher k s t
higher_same k l i j s t ks kt ls lt apart = by (higher k s t) (higher l s t) refl refl
  where
    by : (a b : Bool) → higher k s t ≡ a → higher l s t ≡ b → b ≡ a
    by true true e f = refl
    by false false e f = refl
    by true false e f = absurd (true≢false (sym (higher_stays k l i j s t ks kt ls lt apart e) ∙ f))
    by false true e f = absurd (true≢false (sym (higher_stays l k j i s t ls lt ks kt apart f) ∙ e))
