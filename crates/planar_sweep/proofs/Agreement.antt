-- At each abscissa the row of the sweep is the stack of the line one half beyond. So where it had no place at which the faces differ, the
-- faces agree down each line.
use Rattle.std.proofs.Common.{◌≡◌, ◌≢◌, ◌⊎◌, inl, inr, ⊎_elim, ℕ, ◌<◌, Bool, true, false, cond, List, [], ◌∷◌, length, map, take, drop, get_or, filter, None, All, AllPairs, Contains, ℤ, pos, ◌+ℤ◌, ◌-ℤ◌, ◌*ℤ◌, ◌<ℤ◌, ◌≤ℤ◌, refl, sym, ap, ◌∙◌, subst, arith}
use Rattle.std.proofs.lemmas.Int.{ints}
use Rattle.std.proofs.lemmas.Bool.{cases_order, or_cases, or_left}
use Rattle.std.specs.Cmp.Derive.{both_true}
use Rattle.std.specs.Int.Signed.{clash_ℤ}
use Rattle.std.proofs.lemmas.Simd.{map-map}
use Rattle.std.proofs.lemmas.List.{get_or-map, length-map, get_or_default}
use Rattle.std.proofs.lemmas.List.Elements.{All-head, All-tail}
use Rattle.lemmas.specs.Sorting.{is_sorted_by}
use Rattle.lemmas.proofs.Sorting.{sorted_same, Contains-sort_by, Contains-from_sort_by}
use Rattle.lemmas.proofs.Fractions.{fraction_le_le, fraction_same_same}
use Rattle.lemmas.proofs.Members.{All-from_members, AllPairs-head, AllPairs-tail, Contains-filter, Contains-from_filter, Contains-map, Contains-from_map}
use Rattle.lemmas.proofs.Polynomials.{same_value, var, number, ◌⊕◌, ◌⊖◌, ◌⊗◌}
use Rattle.lemmas.proofs.Signs.{Decides-int_lt, le_lt_trans, le_from_same, le_from_mul_left, mul_positive, sub_positive}
use Rattle.tgap_model.specs.declared.geometry.Fraction.{Fraction}
use Rattle.tgap_model.specs.declared.geometry.Seg.{Seg}
use Rattle.tgap_model.specs.declared.segment.LabelledSegment.{LabelledSegment}
use Rattle.tgap_model.specs.Segment.{Line, line_after, passes, crosses, rightward, run, rise, height, cross_at}
use Rattle.tgap_model.specs.Partition.{AreApart, sides, stack, agree_from, stack_fault, abscissas, all_but_last}
use Rattle.tgap_model.proofs.FirstFault.{none_from_faults}
use Rattle.grid_geo.proofs.Heights.{passes_parts}
use Rattle.planar_stack.specs.Sweep.{FacesAgree, EitherApart, crossed_after, higher_after}
use Rattle.planar_stack.proofs.Crossings.{passes_from}
use Rattle.planar_stack.proofs.Heights.{one_is_higher, heights_from_higher, stack_is_sorted, stack_is_crossed}
use Rattle.planar_stack.proofs.Slabs.{order_after, after_is_rational, no_fault_from_agree, agree_from_faults}
use Rattle.planar_sweep.specs.Over.{GoesForward, is_slanted, is_over}
use Rattle.planar_sweep.specs.Times.{IsInRow}
use Rattle.planar_sweep.specs.Rows.{Adjacent, Over, no_seg, seg_at, Moment, changes_of, AreEvents, IsRow}
use Rattle.planar_sweep.specs.Ends.{IsReady, no_segment, segment_at, swept}
use Rattle.planar_sweep.specs.Faces.{sides_at, gaps_from, IsColumn, HadAgreement}
use Rattle.planar_sweep.proofs.Gaps.{Reaches, PointAt, point_at}
use Rattle.planar_sweep.proofs.Heights.{IsNotHigher, not_lower, upright}
use Rattle.planar_sweep.proofs.Forward.{rightward_forward, crosses_forward}
use Rattle.planar_sweep.proofs.Neighbours.{Once}
use Rattle.planar_sweep.proofs.EventFacts.{front_up_to, in_row_from, from_in_row}
use Rattle.planar_sweep.proofs.FaceGaps.{agree_from_no_gaps}

-- ---- one half beyond an abscissa

-- the segment begins there or before it, and ends beyond it
record Covers (v : ℤ) (s : Seg) : Type 0 where
  from : s.a.x ≤ℤ v
  to : v <ℤ s.b.x

-- so it goes to the right
goes_right : (v : ℤ) (s : Seg) → Covers v s → s.a.x <ℤ s.b.x
goes_right v s c = le_lt_trans c.from c.to

-- what is in the row behind all events there does
covers_in_row : (v : ℤ) (s : Seg) → GoesForward s → IsInRow (pos 4 *ℤ v +ℤ pos 3) s → Covers v s
covers_in_row v s f (h, k) = by (is_slanted s) refl h k
  where
    from_left : (a : ℤ) → (pos 4 *ℤ a +ℤ pos 2) ≤ℤ (pos 4 *ℤ v +ℤ pos 3) → a ≤ℤ v
    from_left a i = omega (arith, ints)

    to_right : (b : ℤ) → (pos 4 *ℤ v +ℤ pos 3) <ℤ (pos 4 *ℤ b +ℤ pos 2) → v <ℤ b
    to_right b i = omega (arith, ints)

    never : (a b : ℤ) → a ≡ b → (pos 4 *ℤ a) ≤ℤ (pos 4 *ℤ v +ℤ pos 3) → (pos 4 *ℤ v +ℤ pos 3) <ℤ (pos 4 *ℤ b +ℤ pos 3) → ⊥
    never a b e i j = omega (arith, ints)

    by : (b : Bool) → is_slanted s ≡ b → (cond b (pos 4 *ℤ s.a.x +ℤ pos 2) (pos 4 *ℤ s.a.x)) ≤ℤ (pos 4 *ℤ v +ℤ pos 3)
        → (pos 4 *ℤ v +ℤ pos 3) <ℤ (cond b (pos 4 *ℤ s.b.x +ℤ pos 2) (pos 4 *ℤ s.b.x +ℤ pos 3)) → Covers v s
    by true e i j = record { from = from_left s.a.x i; to = to_right s.b.x j }
    by false e i j = absurd (never s.a.x s.b.x (upright s f e).same i j)

-- and it is there then
in_row_covers : (v : ℤ) (s : Seg) → Covers v s → IsInRow (pos 4 *ℤ v +ℤ pos 3) s
in_row_covers v s c = (
  subst (λ (b : Bool). (cond b (pos 4 *ℤ s.a.x +ℤ pos 2) (pos 4 *ℤ s.a.x)) ≤ℤ (pos 4 *ℤ v +ℤ pos 3)) (sym slanted) (begun s.a.x c.from),
  subst (λ (b : Bool). (pos 4 *ℤ v +ℤ pos 3) <ℤ (cond b (pos 4 *ℤ s.b.x +ℤ pos 2) (pos 4 *ℤ s.b.x +ℤ pos 3))) (sym slanted) (stays s.b.x c.to),
)
  where
    slanted : is_slanted s ≡ true
    slanted = (Decides-int_lt s.a.x s.b.x).1 (goes_right v s c)

    begun : (a : ℤ) → a ≤ℤ v → (pos 4 *ℤ a +ℤ pos 2) ≤ℤ (pos 4 *ℤ v +ℤ pos 3)
    begun a h = omega (arith, ints)

    stays : (b : ℤ) → v <ℤ b → (pos 4 *ℤ v +ℤ pos 3) <ℤ (pos 4 *ℤ b +ℤ pos 2)
    stays b h = omega (arith, ints)

-- the line one half beyond crosses it
crosses_covered : (v : ℤ) (s : Seg) → Covers v s → crosses (line_after v) s ≡ true
crosses_covered v s c = or_left (passes (line_after v) s.a.x s.b.x) (passes (line_after v) s.b.x s.a.x) (at_line s.a.x s.b.x c.from c.to)
  where
    at_line : (x y : ℤ) → x ≤ℤ v → v <ℤ y → passes (line_after v) x y ≡ true
    at_line x y h k = passes_from (line_after v) x y (omega (arith, ints)) (omega (arith, ints))

-- and the segment that is swept so
crossed_covered : (v : ℤ) (s : LabelledSegment) → Covers v (swept s) → crossed_after v s ≡ true
crossed_covered v s c = sym (crosses_forward (line_after v) s.segment) ∙ crosses_covered v (swept s) c

-- and no other forward segment
covers_crossed : (v : ℤ) (s : Seg) → GoesForward s → crosses (line_after v) s ≡ true → Covers v s
covers_crossed v s f e = by (or_cases (passes (line_after v) s.a.x s.b.x) (passes (line_after v) s.b.x s.a.x) e)
  where
    beside : (x y : ℤ) → passes (line_after v) x y ≡ true → (x ≤ℤ v) × (v <ℤ y)
    beside x y h = let parts = passes_parts (line_after v) x y h in (omega (arith, ints, parts.0), omega (arith, ints, parts.1))

    never : (x y : ℤ) → (y ≤ℤ v) × (v <ℤ x) → (x <ℤ y) ⊎ (x ≡ y) → ⊥
    never x y (h, k) (inl l) = omega (arith, ints)
    never x y (h, k) (inr l) = omega (arith, ints)

    by : (passes (line_after v) s.a.x s.b.x ≡ true) ⊎ (passes (line_after v) s.b.x s.a.x ≡ true) → Covers v s
    by (inl h) = let b = beside s.a.x s.b.x h in record { from = b.0; to = b.1 }
    by (inr h) = absurd (never s.a.x s.b.x (beside s.b.x s.a.x h) (⊎_elim inl (λ up. inr up.0) f))

-- ---- heights there

-- a point of a line through two ends, on a vertical line, is at the height there
height_of_point : (l : Line) (s : Seg) (p : Fraction) → l.a *ℤ p.d ≡ p.nx *ℤ l.c → cross_at s.a s.b p ≡ pos 0 → p.ny *ℤ (l.c *ℤ run s) ≡ height l s *ℤ p.d
height_of_point l s p line on =
    same_value (s.a.x ∷ s.a.y ∷ s.b.x ∷ s.b.y ∷ p.nx ∷ p.ny ∷ p.d ∷ l.a ∷ l.c ∷ [])
    (var 5 ⊗ (var 8 ⊗ (var 2 ⊖ var 0)))
    (((var 7 ⊗ (var 3 ⊖ var 1) ⊖ var 8 ⊗ (var 0 ⊗ var 3 ⊖ var 2 ⊗ var 1)) ⊗ var 6
    ⊕ var 8 ⊗ ((var 2 ⊖ var 0) ⊗ (var 5 ⊖ var 6 ⊗ var 1) ⊖ (var 3 ⊖ var 1) ⊗ (var 4 ⊖ var 6 ⊗ var 0)))
    ⊕ (var 3 ⊖ var 1) ⊗ (var 4 ⊗ var 8 ⊖ var 7 ⊗ var 6)) refl
    ∙ ap (λ (z : ℤ). (height l s *ℤ p.d +ℤ l.c *ℤ z) +ℤ rise s *ℤ (p.nx *ℤ l.c -ℤ l.a *ℤ p.d)) on
    ∙ ap (λ (z : ℤ). (height l s *ℤ p.d +ℤ l.c *ℤ pos 0) +ℤ rise s *ℤ (p.nx *ℤ l.c -ℤ z)) line
    ∙ same_value ((height l s *ℤ p.d) ∷ l.c ∷ rise s ∷ (p.nx *ℤ l.c) ∷ []) ((var 0 ⊕ var 1 ⊗ number (pos 0)) ⊕ var 2 ⊗ (var 3 ⊖ var 3)) (var 0) refl

-- the heights of two segments are in the order of their points
heights_of_points : (l : Line) (s t : Seg) (p q : Fraction) → pos 0 <ℤ l.c → pos 0 <ℤ p.d → pos 0 <ℤ q.d → pos 0 <ℤ run s → pos 0 <ℤ run t
    → p.ny *ℤ (l.c *ℤ run s) ≡ height l s *ℤ p.d → q.ny *ℤ (l.c *ℤ run t) ≡ height l t *ℤ q.d → IsNotHigher q p → (height l t *ℤ run s) ≤ℤ (height l s *ℤ run t)
heights_of_points l s t p q c i j rs rt on_s on_t h = le_from_mul_left l.c c
    (subst (λ (z : ℤ). z ≤ℤ (l.c *ℤ (height l s *ℤ run t))) (to_front (height l t) (run s))
    (subst (λ (z : ℤ). (height l t *ℤ (l.c *ℤ run s)) ≤ℤ z) (to_front (height l s) (run t))
    (fraction_le_le (height l t) p.ny (height l s) (mul_positive c rt) i (mul_positive c rs)
    (fraction_le_le (height l t) q.ny p.ny (mul_positive c rt) j i (le_from_same (sym on_t)) h) (le_from_same on_s))))
  where
    to_front : (m r : ℤ) → m *ℤ (l.c *ℤ r) ≡ l.c *ℤ (m *ℤ r)
    to_front m r = same_value (m ∷ l.c ∷ r ∷ []) (var 0 ⊗ (var 1 ⊗ var 2)) (var 1 ⊗ (var 0 ⊗ var 2)) refl

-- what is over another one is not lower one half beyond an abscissa
over_not_lower : (v : ℤ) (s t : Seg) → Covers v s → Covers v t → is_over s t ≡ true → (height (line_after v) t *ℤ run s) ≤ℤ (height (line_after v) s *ℤ run t)
over_not_lower v s t cs ct over =
    heights_of_points (line_after v) s t ps.point pt.point rational ps.rational pt.rational (sub_positive (goes_right v s cs)) (sub_positive (goes_right v t ct))
    (height_of_point (line_after v) s ps.point ps.line ps.on.line) (height_of_point (line_after v) t pt.point pt.line pt.on.line)
    (not_lower s t (inl (goes_right v s cs)) (inl (goes_right v t ct)) over ps.point pt.point ps.rational pt.rational ps.on pt.on
    (fraction_same_same ps.point.nx p.nx pt.point.nx ps.rational rational pt.rational (sym ps.line) pt.line))
  where
    p : Fraction
    p = record { nx = (line_after v).a; ny = pos 0; d = (line_after v).c }

    rational : pos 0 <ℤ p.d
    rational = after_is_rational v

    reaches : (r : Seg) → Covers v r → Reaches p r
    reaches r c = record { from = behind r.a.x c.from; to = before r.b.x c.to }
      where
        behind : (x : ℤ) → x ≤ℤ v → pos 0 ≤ℤ ((pos 2 *ℤ v +ℤ pos 1) -ℤ pos 2 *ℤ x)
        behind x h = omega (arith, ints)

        before : (x : ℤ) → v <ℤ x → ((pos 2 *ℤ v +ℤ pos 1) -ℤ pos 2 *ℤ x) ≤ℤ pos 0
        before x h = omega (arith, ints)

    ps : PointAt p s
    ps = point_at p s rational (inl (goes_right v s cs)) (reaches s cs)

    pt : PointAt p t
    pt = point_at p t rational (inl (goes_right v t ct)) (reaches t ct)

-- of two segments that are apart the one that is over the other is higher there
over_is_higher : (v : ℤ) (s t : LabelledSegment) → Covers v (swept s) → Covers v (swept t) → EitherApart s t → is_over (swept s) (swept t) ≡ true → higher_after v s t ≡ true
over_is_higher v s t cs ct apart over = ⊎_elim (λ h. h) (λ h. absurd (clash_ℤ (lower h) (over_not_lower v (swept s) (swept t) cs ct over)))
    (or_cases (higher_after v s t) (higher_after v t s) (one_is_higher (line_after v) (after_is_rational v) s t (crossed_covered v s cs) (crossed_covered v t ct) apart))
  where
    same : (r : LabelledSegment) → Covers v (swept r) → rightward r.segment ≡ swept r
    same r c = rightward_forward r.segment (goes_right v (swept r) c)

    lower : higher_after v t s ≡ true → (height (line_after v) (swept s) *ℤ run (swept t)) <ℤ (height (line_after v) (swept t) *ℤ run (swept s))
    lower h =
        subst (λ (r : Seg). (height (line_after v) r *ℤ run (swept t)) <ℤ (height (line_after v) (swept t) *ℤ run r)) (same s cs)
        (subst (λ (r : Seg). (height (line_after v) (rightward s.segment) *ℤ run r) <ℤ (height (line_after v) r *ℤ run (rightward s.segment))) (same t ct)
        (heights_from_higher (line_after v) t s h))

-- ---- lists

-- different members, each in the relation to the next one, are sorted where the relation says the order
sorted_from_adjacent : {A B : Type 0} (R : A → A → Type 0) (P : A → Type 0) (before : B → B → Bool) (f : A → B) → ((x y : A) → P x → P y → x ≢ y → R x y → before (f x) (f y) ≡ true)
    → (xs : List A) → Adjacent R xs → Once xs → All P xs → is_sorted_by before (map f xs) ≡ true
sorted_from_adjacent R P before f says [] adjacent once ps = refl
sorted_from_adjacent R P before f says (x ∷ []) adjacent once ps = refl
sorted_from_adjacent R P before f says (x ∷ y ∷ ys) (next, adjacent) once ps =
    let rest = All-tail P x (y ∷ ys) ps in
    both_true
    (says x y (All-head P x (y ∷ ys) ps) (All-head P y ys rest) (All-head (λ z. x ≢ z) y ys (AllPairs-head (λ z w. z ≢ w) x (y ∷ ys) once)) next)
    (sorted_from_adjacent R P before f says (y ∷ ys) adjacent (AllPairs-tail (λ z w. z ≢ w) x (y ∷ ys) once) rest)

-- a sorted list of the segments that the line one half beyond an abscissa crosses is the stack of the line
pub stack_from_members : (v : ℤ) (segments found : List LabelledSegment) → AllPairs AreApart segments → is_sorted_by (higher_after v) found ≡ true
    → ((s : LabelledSegment) → Contains found s → Contains segments s × (crossed_after v s ≡ true)) → ((s : LabelledSegment) → Contains segments s → crossed_after v s ≡ true → Contains found s)
    → stack (line_after v) segments ≡ found
stack_from_members v segments found apart sorted into back = sorted_same (order_after v) (stack (line_after v) segments) found
    (stack_is_crossed (line_after v) segments) (All-from_members (λ s. crossed_after v s ≡ true) found (λ s c. (into s c).1))
    (stack_is_sorted (line_after v) (after_is_rational v) segments apart) sorted
    (λ s c. let here = Contains-from_filter (crossed_after v) segments s (Contains-from_sort_by (higher_after v) (filter (crossed_after v) segments) s c) in back s here.0 here.1)
    (λ s c. let here = into s c in Contains-sort_by (higher_after v) (filter (crossed_after v) segments) s (Contains-filter (crossed_after v) segments s here.0 here.1))

-- two segments of different numbers are apart
numbers_apart : (segments : List LabelledSegment) → AllPairs AreApart segments → (m n : ℕ) → m < length segments → n < length segments → m ≢ n → EitherApart (segment_at segments m) (segment_at segments n)
numbers_apart segments apart m n short_m short_n differ = by (cases_order m n)
  where
    by : (m ≡ n) ⊎ ((m < n) ⊎ (n < m)) → EitherApart (segment_at segments m) (segment_at segments n)
    by (inl e) = absurd (differ e)
    by (inr (inl less)) = inl (apart m n no_segment less short_n)
    by (inr (inr more)) = inr (apart n m no_segment more short_m)

-- ---- the row behind all events up to an abscissa

module _ (segments : List LabelledSegment) (events : List Moment) (r : AreEvents (map swept segments) events) (ready : All (λ s. IsReady s) (map swept segments)) (apart : AllPairs AreApart segments)
    (v : ℤ) (k : ℕ) (column : IsColumn v (take k events) (drop k events)) (row : List ℕ) (is : IsRow (map swept segments) (changes_of (take k events)) row) where
  abbrev all_swept : List Seg
  all_swept = map swept segments

  abbrev time : ℤ
  time = pos 4 *ℤ v +ℤ pos 3

  -- the segment of a number, as it is swept
  swept_at : (n : ℕ) → n < length segments → seg_at all_swept n ≡ swept (segment_at segments n)
  swept_at n short = get_or-map swept segments n no_segment no_seg short

  known : (n : ℕ) → Contains row n → n < length segments
  known n c = omega (arith, (is.into n c).0, length-map segments swept)

  goes_forward : (n : ℕ) → n < length all_swept → GoesForward (seg_at all_swept n)
  goes_forward n short = (ready n no_seg short).forward

  -- a member is there
  here : (n : ℕ) → Contains row n → Covers v (swept (segment_at segments n))
  here n c =
      subst (Covers v) (swept_at n (known n c)) (covers_in_row v (seg_at all_swept n) (goes_forward n (is.into n c).0)
      (from_in_row all_swept events r k (λ z. z ≤ℤ time) (λ z. time <ℤ z) column.done column.ahead row is n c))

  -- and what is there is a member
  there : (n : ℕ) → n < length segments → Covers v (swept (segment_at segments n)) → Contains row n
  there n short covers =
      let times = in_row_covers v (seg_at all_swept n) (subst (Covers v) (sym (swept_at n short)) covers) in
      in_row_from all_swept events r k (λ z. z ≤ℤ time) (λ z. time <ℤ z) (λ z h i. clash_ℤ i h) column.done column.ahead row is n (omega (arith, short, length-map segments swept)) times.0 times.1

  -- two neighbours of the row
  next_is_lower : (m n : ℕ) → Contains row m → Contains row n → m ≢ n → Over all_swept m n → higher_after v (segment_at segments m) (segment_at segments n) ≡ true
  next_is_lower m n c d differ over = over_is_higher v (segment_at segments m) (segment_at segments n) (here m c) (here n d) (numbers_apart segments apart m n (known m c) (known n d) differ)
      (subst (λ (s : Seg). is_over s (swept (segment_at segments n)) ≡ true) (swept_at m (known m c))
      (subst (λ (t : Seg). is_over (seg_at all_swept m) t ≡ true) (swept_at n (known n d)) over.over))

  pub stack_from_row : stack (line_after v) segments ≡ map (segment_at segments) row
  stack_from_row = stack_from_members v segments (map (segment_at segments) row) apart
      (sorted_from_adjacent (Over all_swept) (Contains row) (higher_after v) (segment_at segments) next_is_lower row is.ordered is.once (All-from_members (Contains row) row (λ n c. c)))
      (λ s c. let m = Contains-from_map (segment_at segments) row s c in into s m.0 m.1 m.2) back
    where
      into : (s : LabelledSegment) (n : ℕ) → Contains row n → segment_at segments n ≡ s → Contains segments s × (crossed_after v s ≡ true)
      into s n c e = (
        (n, known n c, get_or_default segments n s no_segment (known n c) ∙ e),
        subst (λ t. crossed_after v t ≡ true) e (crossed_covered v (segment_at segments n) (here n c)),
      )

      back : (s : LabelledSegment) → Contains segments s → crossed_after v s ≡ true → Contains (map (segment_at segments) row) s
      back s (n, short, e) crossed =
          let inside : n < length all_swept = omega (arith, short, length-map segments swept) in
          let same = get_or_default segments n no_segment s short ∙ e in
          subst (Contains (map (segment_at segments) row)) same
          (Contains-map (segment_at segments) row n (there n short
          (covers_crossed v (swept (segment_at segments n)) (subst GoesForward (swept_at n short) (goes_forward n inside))
          (crosses_forward (line_after v) (segment_at segments n).segment ∙ subst (λ t. crossed_after v t ≡ true) (sym same) crossed))))

  -- so where the row has no place at which the faces differ, they agree down that line
  pub agree_from_row : gaps_from 0 (map (sides_at segments) row) ≡ 0 → agree_from 0 (map sides (stack (line_after v) segments)) ≡ true
  agree_from_row none =
      ap (λ ss. agree_from 0 (map sides ss)) stack_from_row
      ∙ ap (agree_from 0) (map-map sides (segment_at segments) row)
      ∙ agree_from_no_gaps 0 (map (sides_at segments) row) none

-- ---- all rows

-- down the line one half beyond each abscissa
agree_after : (segments : List LabelledSegment) (events : List Moment) → AllPairs AreApart segments → AreEvents (map swept segments) events → All (λ s. IsReady s) (map swept segments)
    → HadAgreement segments (map swept segments) events (length events) → (v : ℤ) → agree_from 0 (map sides (stack (line_after v) segments)) ≡ true
agree_after segments events apart r ready had v =
    let part = front_up_to (pos 4 *ℤ v +ℤ pos 3) events r.ascend in
    let column : IsColumn v (take part.count events) (drop part.count events) = record { done = part.done; ahead = part.ahead } in
    let found = had part.count part.within v column in
    agree_from_row segments events r ready apart v part.count column found.0 found.1 found.2

-- and so down all lines
pub faces_agree : (segments : List LabelledSegment) (segs : List Seg) (events : List Moment) → segs ≡ map swept segments → AreEvents segs events
    → All (λ s. IsReady s) segs → AllPairs AreApart segments → HadAgreement segments segs events (length events) → FacesAgree segments
faces_agree segments segs events same r ready apart had = agree_from_faults segments apart
    (none_from_faults (stack_fault segments) (all_but_last (abscissas segments)) (λ n d short. no_fault (get_or (all_but_last (abscissas segments)) n d)))
  where
    agree : (v : ℤ) → agree_from 0 (map sides (stack (line_after v) segments)) ≡ true
    agree = subst (λ (ss : List Seg). AreEvents ss events → All (λ s. IsReady s) ss → HadAgreement segments ss events (length events) → (v : ℤ) → agree_from 0 (map sides (stack (line_after v) segments)) ≡ true)
        (sym same) (agree_after segments events apart) r ready had

    no_fault : (v : ℤ) → stack_fault segments v ≡ None
    no_fault v = no_fault_from_agree v 0 0 (map sides (stack (line_after v) segments)) (agree v)
