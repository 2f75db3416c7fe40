-- What the search for the first stack that disagrees shows: two faces that differ, none that do above them, and no line before.
use Rattle.std.proofs.Common.{◌≡◌, ◌≢◌, ℕ, zero, suc, ◌+◌, ◌<◌, ◌≤◌, ◌==◌, Bool, true, false, cond, List, [], ◌∷◌, length, ℤ, int_lt, Contains, Option, Some, None, refl, sym, ap, ◌∙◌, subst, arith}
use Rattle.std.specs.Cmp.Derive.{both_true}
use Rattle.std.proofs.lemmas.Bool.Decides.{Decides-eqb, not_from_Decides}
use Rattle.lemmas.specs.Sorting.{is_before_first, is_sorted_by}
use Rattle.lemmas.proofs.Sorting.{sorted_tail, sorted_next}
use Rattle.lemmas.proofs.Signs.{Decides-int_lt}
use Rattle.lemmas.proofs.Orders.{int_lt_order}
use Rattle.lemmas.proofs.Ascending.{distinct_by-is_sorted}
use Rattle.tgap_model.specs.declared.segment.LabelledSegment.{LabelledSegment}
use Rattle.tgap_model.specs.declared.fault.MapFault.{MapFault}
use Rattle.tgap_model.specs.declared.fault.MapFault.TheVariants.{StackDisagrees}
use Rattle.tgap_model.specs.Partition.{Sides, stack_fault_from, stack_fault, abscissas, all_but_last}
use Rattle.grid_geo.specs.Evidence.{faces_down, face_reached, face_above, face_below, IsFirstStackGap}
use Rattle.tgap_model.proofs.FirstFault.{first_found}
use Rattle.planar_stack.specs.Sweep.{first_stack_fault}
use Rattle.planar_stack.proofs.Slabs.{end_abscissas}

-- ---- down one line

-- the place at which the faces of a stack differ first, below the face u
record IsDifference (v : ℤ) (i u : ℕ) (ss : List Sides) (fault : MapFault) : Type 0 where
  place : ℕ
  inside : place ≤ length ss
  fault_is : fault ≡ StackDisagrees v (i + place) (face_reached u ss place) (face_below ss place)
  differ : face_reached u ss place ≢ face_below ss place
  higher : (k : ℕ) → k < place → face_reached u ss k ≡ face_below ss k

first_difference : (v : ℤ) (i u : ℕ) (ss : List Sides) (fault : MapFault) → stack_fault_from v i u ss ≡ Some fault → IsDifference v i u ss fault
first_difference v i u [] fault e = by (u == 0) refl e
  where
    by : (b : Bool) → (u == 0) ≡ b → cond b None (Some (StackDisagrees v i u 0)) ≡ Some fault → IsDifference v i u [] fault
    by true t h = absurd cc
    by false t h =
        let same : StackDisagrees v i u 0 ≡ fault = cc in
        record {
          place = 0;
          inside = omega arith;
          fault_is = sym same ∙ ap (λ (k : ℕ). StackDisagrees v k u 0) (omega arith);
          differ = not_from_Decides (u == 0) (Decides-eqb u 0) t;
          higher = λ k l. absurd (omega (arith, l));
        }
first_difference v i u (s ∷ ss) fault e = by (s.upper == u) refl e (first_difference v (i + 1) s.lower ss fault)
  where
    by : (b : Bool) → (s.upper == u) ≡ b → ◌≡◌ {A = Option MapFault} (elim b [ true ↦ stack_fault_from v (i + 1) s.lower ss | false ↦ Some (StackDisagrees v i u s.upper) ]) (Some fault)
        → (stack_fault_from v (i + 1) s.lower ss ≡ Some fault → IsDifference v (i + 1) s.lower ss fault) → IsDifference v i u (s ∷ ss) fault
    by true t h rest =
        let r = rest h in
        record {
          place = suc r.place;
          inside = omega (arith, r.inside);
          fault_is = r.fault_is ∙ ap (λ (k : ℕ). StackDisagrees v k (face_reached s.lower ss r.place) (face_below ss r.place)) (omega arith);
          differ = r.differ;
          higher = higher r.place r.higher;
        }
      where
        higher : (n : ℕ) → ((k : ℕ) → k < n → face_reached s.lower ss k ≡ face_below ss k) → (k : ℕ) → k < suc n → face_reached u (s ∷ ss) k ≡ face_below (s ∷ ss) k
        higher n h zero l = sym ((Decides-eqb s.upper u).0 t)
        higher n h (suc k) l = h k (omega (arith, l))
    by false t h rest =
        let same : StackDisagrees v i u s.upper ≡ fault = cc in
        record {
          place = 0;
          inside = omega arith;
          fault_is = sym same ∙ ap (λ (k : ℕ). StackDisagrees v k u s.upper) (omega arith);
          differ = λ f. not_from_Decides (s.upper == u) (Decides-eqb s.upper u) t (sym f);
          higher = λ k l. absurd (omega (arith, l));
        }

-- where no place is found the faces agree
no_difference : (v : ℤ) (i u : ℕ) (ss : List Sides) → stack_fault_from v i u ss ≡ None → (k : ℕ) → k ≤ length ss → face_reached u ss k ≡ face_below ss k
no_difference v i u [] e zero l = by (u == 0) refl e
  where
    by : (b : Bool) → (u == 0) ≡ b → cond b None (Some (StackDisagrees v i u 0)) ≡ None → u ≡ 0
    by true t h = (Decides-eqb u 0).0 t
    by false t h = absurd cc
no_difference v i u [] e (suc k) l = absurd (omega (arith, l))
no_difference v i u (s ∷ ss) e k l = by (s.upper == u) refl e (λ h. no_difference v (i + 1) s.lower ss h) k l
  where
    by : (b : Bool) → (s.upper == u) ≡ b → ◌≡◌ {A = Option MapFault} (elim b [ true ↦ stack_fault_from v (i + 1) s.lower ss | false ↦ Some (StackDisagrees v i u s.upper) ]) None
        → (stack_fault_from v (i + 1) s.lower ss ≡ None → (k : ℕ) → k ≤ length ss → face_reached s.lower ss k ≡ face_below ss k)
        → (k : ℕ) → k ≤ length (s ∷ ss) → face_reached u (s ∷ ss) k ≡ face_below (s ∷ ss) k
    by true t h rest zero l = sym ((Decides-eqb s.upper u).0 t)
    by true t h rest (suc k) l = rest h k (omega (arith, l))
    by false t h rest k l = absurd cc

-- ---- from line to line

all_but_last-is_sorted : {A : Type 0} (before : A → A → Bool) (xs : List A) → is_sorted_by before xs ≡ true → is_sorted_by before (all_but_last xs) ≡ true
all_but_last-is_sorted before [] s = refl
all_but_last-is_sorted before (x ∷ []) s = refl
all_but_last-is_sorted {A} before (x ∷ y ∷ ys) s =
    both_true (next ys) (all_but_last-is_sorted before (y ∷ ys) (sorted_tail before x (y ∷ ys) s))
  where
    next : (zs : List A) → is_before_first before x (all_but_last (y ∷ zs)) ≡ true
    next [] = refl
    next (z ∷ zs) = sorted_next before x (y ∷ ys) s

module _ (segments : List LabelledSegment) where
  -- at this line and place, where no lesser line has a fault
  gap_at : (v : ℤ) (fault : MapFault) (d : IsDifference v 0 0 (faces_down v segments) fault) → Contains (all_but_last (abscissas segments)) v
      → ((y : ℤ) → Contains (all_but_last (abscissas segments)) y → int_lt y v ≡ true → stack_fault segments y ≡ None)
      → IsFirstStackGap segments v d.place (face_above (faces_down v segments) d.place) (face_below (faces_down v segments) d.place)
  gap_at v fault d member lesser = record {
    is_line = member;
    inside = d.inside;
    above = refl;
    below = refl;
    differ = d.differ;
    higher = d.higher;
    lesser = λ y c less. no_difference y 0 0 (faces_down y segments) (lesser y c ((Decides-int_lt y v).1 less));
  }

  -- the first fault is the first gap
  pub first_stack_gap : (line : ℤ) (place upper lower : ℕ) → first_stack_fault segments ≡ Some (StackDisagrees line place upper lower)
      → IsFirstStackGap segments line place upper lower
  first_stack_gap line place upper lower e =
      let fault = StackDisagrees line place upper lower in
      let sorted = all_but_last-is_sorted int_lt (abscissas segments) (distinct_by-is_sorted int_lt (end_abscissas segments)) in
      let r = first_found (stack_fault segments) int_lt int_lt_order (all_but_last (abscissas segments)) fault sorted e in
      let d = first_difference r.found 0 0 (faces_down r.found segments) fault r.here in
      let at_line : r.found ≡ line = cc in
      let at_place : 0 + d.place ≡ place = cc in
      let above : face_above (faces_down r.found segments) d.place ≡ upper = cc in
      let below : face_below (faces_down r.found segments) d.place ≡ lower = cc in
      let here : d.place ≡ place = omega (arith, at_place) in
      subst (λ (v : ℤ). IsFirstStackGap segments v place upper lower) at_line
      (subst (λ (k : ℕ). IsFirstStackGap segments r.found k upper lower) here
      (subst (λ (f : ℕ). IsFirstStackGap segments r.found d.place f lower) above
      (subst (λ (f : ℕ). IsFirstStackGap segments r.found d.place (face_above (faces_down r.found segments) d.place) f) below
      (gap_at r.found fault d r.member r.lesser))))
