-- Down each line the faces of a layout agree: the ladder of the line has exactly the segments that the line crosses, in order of height.
use Rattle.std.proofs.Common.{◌≡◌, ◌⊎◌, inl, inr, ℕ, zero, suc, ◌+◌, ◌-◌, ◌*◌, ◌/◌, ◌<◌, ◌≤◌, true, ℤ, List, [], ◌∷◌, map, filter, All, Contains, get_or, Some, refl, sym, ap, ◌∙◌, subst, arith}
use Rattle.std.proofs.lemmas.Bool.{cases_lt}
use Rattle.std.proofs.lemmas.List.Elements.{All-weaker, All-contains}
use Rattle.lemmas.proofs.Sorting.{sorted_same, Contains-sort_by, Contains-from_sort_by}
use Rattle.lemmas.proofs.Members.{Contains-filter, Contains-from_filter}
use Rattle.tgap_model.specs.declared.segment.LabelledSegment.{LabelledSegment}
use Rattle.tgap_model.specs.Segment.{line_after, crosses}
use Rattle.tgap_model.specs.Partition.{stack, sides, agree_from, stack_fault, abscissas, all_but_last}
use Rattle.tgap_model.proofs.FirstFault.{none_from_faults}
use Rattle.planar_stack.specs.Sweep.{FacesAgree}
use Rattle.planar_stack.proofs.Heights.{crossed, higher, order_of_heights, stack_is_crossed, stack_is_sorted}
use Rattle.planar_stack.proofs.Slabs.{after_is_rational, agree_from_faults, no_fault_from_agree}
use Rattle.generator.proofs.Rungs.{members, IfThere, AllThere, All-members, members_lead, agree_by_leads, members_sorted, member_here, member_later}
use Rattle.generator.proofs.Layouts.{Layout, IsLayout, level_first, level_second, upright_first, upright_second, all_halves}
use Rattle.generator.proofs.Halves.{IsHalf, of_level_first, of_level_second, of_upright_first, of_upright_second, half_of, has_level_first, has_level_second, has_upright_first, has_upright_second}
use Rattle.generator.proofs.Apart.{halves_apart}
use Rattle.generator.proofs.Columns.{AreLeft, columns, columns_left, crosses_rightward, crosses_leftward, ends_of_crossed}
use Rattle.generator.proofs.Ladders.{Side, behind_node, before_node, level_at, upper_at, lower_at, node_side, bend_side, level_rung, upper_rung, lower_rung, rungs, upper_face, lower_face, all_steps}
use Rattle.generator.proofs.Heights.{ladder_ordered}

-- ---- where a rung is in a ladder

module _ (l : Layout) (n i : ℕ) where
  level_within : (m j : ℕ) (s : LabelledSegment) → j ≤ m → (level_rung l n i j).member ≡ Some s → Contains (members (rungs l n i m)) s
  level_within zero j s h e = member_here (level_rung l n i 0) [] s (subst (λ (a : ℕ). (level_rung l n i a).member ≡ Some s) (omega arith) e)
  level_within (suc m) j s h e = elim (cases_lt m j) [
    | inl above ↦ member_here (level_rung l n i (m + 1)) (upper_rung l n i m ∷ lower_rung l n i m ∷ rungs l n i m) s
        (subst (λ (a : ℕ). (level_rung l n i a).member ≡ Some s) (omega arith) e)
    | inr below ↦ member_later (level_rung l n i (m + 1)) (upper_rung l n i m ∷ lower_rung l n i m ∷ rungs l n i m) s
        (member_later (upper_rung l n i m) (lower_rung l n i m ∷ rungs l n i m) s (member_later (lower_rung l n i m) (rungs l n i m) s (level_within m j s below e)))
  ]

  upper_within : (m j : ℕ) (s : LabelledSegment) → j < m → (upper_rung l n i j).member ≡ Some s → Contains (members (rungs l n i m)) s
  upper_within zero j s h e = absurd (omega arith)
  upper_within (suc m) j s h e = member_later (level_rung l n i (m + 1)) (upper_rung l n i m ∷ lower_rung l n i m ∷ rungs l n i m) s (elim (cases_lt j m) [
    | inl below ↦ member_later (upper_rung l n i m) (lower_rung l n i m ∷ rungs l n i m) s (member_later (lower_rung l n i m) (rungs l n i m) s (upper_within m j s below e))
    | inr here ↦ member_here (upper_rung l n i m) (lower_rung l n i m ∷ rungs l n i m) s (subst (λ (a : ℕ). (upper_rung l n i a).member ≡ Some s) (omega arith) e)
  ])

  lower_within : (m j : ℕ) (s : LabelledSegment) → j < m → (lower_rung l n i j).member ≡ Some s → Contains (members (rungs l n i m)) s
  lower_within zero j s h e = absurd (omega arith)
  lower_within (suc m) j s h e = member_later (level_rung l n i (m + 1)) (upper_rung l n i m ∷ lower_rung l n i m ∷ rungs l n i m) s
      (member_later (upper_rung l n i m) (lower_rung l n i m ∷ rungs l n i m) s (elim (cases_lt j m) [
        | inl below ↦ member_later (lower_rung l n i m) (rungs l n i m) s (lower_within m j s below e)
        | inr here ↦ member_here (lower_rung l n i m) (rungs l n i m) s (subst (λ (a : ℕ). (lower_rung l n i a).member ≡ Some s) (omega arith) e)
      ]))

module _ (l : Layout) (is : IsLayout l) (v : ℤ) (n i : ℕ) (left : AreLeft v n) (low : 16 * i ≤ n) (high : n < 16 * i + 16) where
  -- ---- the rungs are segments that the line crosses

  record IsCrossed (s : LabelledSegment) : Type 0 where
    there : Contains (all_halves l) s
    crossed : crosses (line_after v) s.segment ≡ true

  behind_crossed : (j : ℕ) → j ≤ l.size → l.node_x i j < n → (q : (i < l.size) ⊎ (l.size ≤ i)) (r : Side l n i (16 * i + 8)) → IfThere IsCrossed (behind_node l n i j q r)
  behind_crossed j h p (inl q) (inl r) = let x = is.node_x (i + 1) j in record {
    there = has_level_second l i j q h;
    crossed = crosses_rightward v n left (level_second l i j).segment (16 * i + 8) (l.node_x (i + 1) j) refl refl r (omega arith);
  }
  behind_crossed j h p (inl q) (inr r) = record {
    there = has_level_first l i j q h;
    crossed = crosses_rightward v n left (level_first l i j).segment (l.node_x i j) (16 * i + 8) refl refl p r;
  }
  behind_crossed j h p (inr q) r = tt

  before_crossed : (j : ℕ) → j ≤ l.size → n ≤ l.node_x i j → (q : (0 < i) ⊎ (i ≤ 0)) (r : (l.size < i) ⊎ (i ≤ l.size)) → IfThere IsCrossed (before_node l n i j q r)
  before_crossed j h p (inl q) (inl r) = tt
  before_crossed j h p (inl q) (inr r) =
      let same : i ≡ i - 1 + 1 = omega arith in
      record {
        there = has_level_second l (i - 1) j (omega arith) h;
        crossed = crosses_rightward v n left (level_second l (i - 1) j).segment (16 * (i - 1) + 8) (l.node_x (i - 1 + 1) j) refl refl (omega arith)
            (subst (λ (a : ℕ). n ≤ l.node_x a j) same p);
      }
  before_crossed j h p (inr q) r = tt

  level_crossed : (j : ℕ) → j ≤ l.size → (d : Side l n i (l.node_x i j)) → IfThere IsCrossed (level_at l n i j d)
  level_crossed j h (inl p) = behind_crossed j h p (cases_lt i l.size) (cases_lt (16 * i + 8) n)
  level_crossed j h (inr p) = before_crossed j h p (cases_lt 0 i) (cases_lt l.size i)

  upper_crossed : (j : ℕ) → j < l.size → (d : Side l n i (l.bend_x i j)) (e : Side l n i (l.node_x i (j + 1))) (r : (l.size < i) ⊎ (i ≤ l.size))
      → IfThere IsCrossed (upper_at l n i j d e r)
  upper_crossed j h (inl p) (inl q) r = tt
  upper_crossed j h (inl p) (inr q) (inl r) = tt
  upper_crossed j h (inl p) (inr q) (inr r) = record {
    there = has_upright_second l i j r h;
    crossed = crosses_rightward v n left (upright_second l i j).segment (l.bend_x i j) (l.node_x i (j + 1)) refl refl p q;
  }
  upper_crossed j h (inr p) (inl q) (inl r) = tt
  upper_crossed j h (inr p) (inl q) (inr r) = record {
    there = has_upright_second l i j r h;
    crossed = crosses_leftward v n left (upright_second l i j).segment (l.bend_x i j) (l.node_x i (j + 1)) refl refl q p;
  }
  upper_crossed j h (inr p) (inr q) r = tt

  lower_crossed : (j : ℕ) → j < l.size → (d : Side l n i (l.node_x i j)) (e : Side l n i (l.bend_x i j)) (r : (l.size < i) ⊎ (i ≤ l.size))
      → IfThere IsCrossed (lower_at l n i j d e r)
  lower_crossed j h (inl p) (inl q) r = tt
  lower_crossed j h (inl p) (inr q) (inl r) = tt
  lower_crossed j h (inl p) (inr q) (inr r) = record {
    there = has_upright_first l i j r h;
    crossed = crosses_rightward v n left (upright_first l i j).segment (l.node_x i j) (l.bend_x i j) refl refl p q;
  }
  lower_crossed j h (inr p) (inl q) (inl r) = tt
  lower_crossed j h (inr p) (inl q) (inr r) = record {
    there = has_upright_first l i j r h;
    crossed = crosses_leftward v n left (upright_first l i j).segment (l.node_x i j) (l.bend_x i j) refl refl q p;
  }
  lower_crossed j h (inr p) (inr q) r = tt

  rungs_crossed : (j : ℕ) → j ≤ l.size → AllThere IsCrossed (rungs l n i j)
  rungs_crossed zero h = (level_crossed 0 h (node_side l n i 0), tt)
  rungs_crossed (suc j) h = (
    level_crossed (j + 1) (omega arith) (node_side l n i (j + 1)),
    (
      upper_crossed j (omega arith) (bend_side l n i j) (node_side l n i (j + 1)) (cases_lt l.size i),
      (lower_crossed j (omega arith) (node_side l n i j) (bend_side l n i j) (cases_lt l.size i), rungs_crossed j (omega arith)),
    ),
  )

  -- ---- and each segment that the line crosses is a rung

  first_behind : (j : ℕ) → n ≤ 16 * i + 8 → i < l.size → (q : (i < l.size) ⊎ (l.size ≤ i)) (r : Side l n i (16 * i + 8)) → behind_node l n i j q r ≡ Some (level_first l i j)
  first_behind j h k (inl q) (inl r) = absurd (omega arith)
  first_behind j h k (inl q) (inr r) = refl
  first_behind j h k (inr q) r = absurd (omega arith)

  second_behind : (j : ℕ) → 16 * i + 8 < n → i < l.size → (q : (i < l.size) ⊎ (l.size ≤ i)) (r : Side l n i (16 * i + 8)) → behind_node l n i j q r ≡ Some (level_second l i j)
  second_behind j h k (inl q) (inl r) = refl
  second_behind j h k (inl q) (inr r) = absurd (omega arith)
  second_behind j h k (inr q) r = absurd (omega arith)

  second_before : (j : ℕ) → 0 < i → i ≤ l.size → (q : (0 < i) ⊎ (i ≤ 0)) (r : (l.size < i) ⊎ (i ≤ l.size)) → before_node l n i j q r ≡ Some (level_second l (i - 1) j)
  second_before j h k (inl q) (inl r) = absurd (omega arith)
  second_before j h k (inl q) (inr r) = refl
  second_before j h k (inr q) r = absurd (omega arith)

  level_is_first : (j : ℕ) → l.node_x i j < n → n ≤ 16 * i + 8 → i < l.size → (d : Side l n i (l.node_x i j)) → level_at l n i j d ≡ Some (level_first l i j)
  level_is_first j g h k (inl p) = first_behind j h k (cases_lt i l.size) (cases_lt (16 * i + 8) n)
  level_is_first j g h k (inr p) = absurd (omega arith)

  level_is_second : (j : ℕ) → l.node_x i j < n → 16 * i + 8 < n → i < l.size → (d : Side l n i (l.node_x i j)) → level_at l n i j d ≡ Some (level_second l i j)
  level_is_second j g h k (inl p) = second_behind j h k (cases_lt i l.size) (cases_lt (16 * i + 8) n)
  level_is_second j g h k (inr p) = absurd (omega arith)

  level_is_before : (j : ℕ) → n ≤ l.node_x i j → 0 < i → i ≤ l.size → (d : Side l n i (l.node_x i j)) → level_at l n i j d ≡ Some (level_second l (i - 1) j)
  level_is_before j g h k (inl p) = absurd (omega arith)
  level_is_before j g h k (inr p) = second_before j h k (cases_lt 0 i) (cases_lt l.size i)

  abbrev Parted : ℕ → ℕ → Type 0
  Parted x y = ((x < n) × (n ≤ y)) ⊎ ((y < n) × (n ≤ x))

  upper_is : (j : ℕ) → Parted (l.bend_x i j) (l.node_x i (j + 1)) → i ≤ l.size → (d : Side l n i (l.bend_x i j)) (e : Side l n i (l.node_x i (j + 1))) (r : (l.size < i) ⊎ (i ≤ l.size))
      → upper_at l n i j d e r ≡ Some (upright_second l i j)
  upper_is j (inl g) k (inl p) (inl q) r = let a = g.1 in absurd (omega arith)
  upper_is j (inr g) k (inl p) (inl q) r = let a = g.1 in absurd (omega arith)
  upper_is j g k (inl p) (inr q) (inl r) = absurd (omega arith)
  upper_is j g k (inl p) (inr q) (inr r) = refl
  upper_is j g k (inr p) (inl q) (inl r) = absurd (omega arith)
  upper_is j g k (inr p) (inl q) (inr r) = refl
  upper_is j (inl g) k (inr p) (inr q) r = let a = g.0 in absurd (omega arith)
  upper_is j (inr g) k (inr p) (inr q) r = let a = g.0 in absurd (omega arith)

  lower_is : (j : ℕ) → Parted (l.node_x i j) (l.bend_x i j) → i ≤ l.size → (d : Side l n i (l.node_x i j)) (e : Side l n i (l.bend_x i j)) (r : (l.size < i) ⊎ (i ≤ l.size))
      → lower_at l n i j d e r ≡ Some (upright_first l i j)
  lower_is j (inl g) k (inl p) (inl q) r = let a = g.1 in absurd (omega arith)
  lower_is j (inr g) k (inl p) (inl q) r = let a = g.1 in absurd (omega arith)
  lower_is j g k (inl p) (inr q) (inl r) = absurd (omega arith)
  lower_is j g k (inl p) (inr q) (inr r) = refl
  lower_is j g k (inr p) (inl q) (inl r) = absurd (omega arith)
  lower_is j g k (inr p) (inl q) (inr r) = refl
  lower_is j (inl g) k (inr p) (inr q) r = let a = g.0 in absurd (omega arith)
  lower_is j (inr g) k (inr p) (inr q) r = let a = g.0 in absurd (omega arith)

  abbrev IsRung : LabelledSegment → Type 0
  IsRung s = Contains (members (rungs l n i l.size)) s

  first_rung : (a j : ℕ) → a < l.size → j ≤ l.size → Parted (l.node_x a j) (16 * a + 8) → IsRung (level_first l a j)
  first_rung a j p q (inl g) =
      let x = is.node_x a j in let at_node = g.0 in let at_bend = g.1 in
      let same : i ≡ a = omega arith in
      let here = subst (λ (b : ℕ). l.node_x b j < n) (sym same) g.0 in
      subst (λ (b : ℕ). IsRung (level_first l b j)) same (level_within l n i l.size j (level_first l i j) q (level_is_first j here (omega arith) (omega arith) (node_side l n i j)))
  first_rung a j p q (inr g) = let x = is.node_x a j in let at_node = g.1 in let at_bend = g.0 in absurd (omega arith)

  second_rung : (a j : ℕ) → a < l.size → j ≤ l.size → Parted (16 * a + 8) (l.node_x (a + 1) j) → IsRung (level_second l a j)
  second_rung a j p q (inl g) =
      let x = is.node_x (a + 1) j in let at_bend = g.0 in let at_node = g.1 in
      elim (cases_lt a i) [
        | inl later ↦
            let next : a + 1 ≡ i = omega arith in
            let same : i - 1 ≡ a = omega arith in
            let here = subst (λ (b : ℕ). n ≤ l.node_x b j) next g.1 in
            subst (λ (b : ℕ). IsRung (level_second l b j)) same (level_within l n i l.size j (level_second l (i - 1) j) q (level_is_before j here (omega arith) (omega arith) (node_side l n i j)))
        | inr here ↦
            let same : i ≡ a = omega arith in
            let y = is.node_x i j in
            subst (λ (b : ℕ). IsRung (level_second l b j)) same (level_within l n i l.size j (level_second l i j) q (level_is_second j (omega arith) (omega arith) (omega arith) (node_side l n i j)))
      ]
  second_rung a j p q (inr g) = let x = is.node_x (a + 1) j in let at_node = g.0 in let at_bend = g.1 in absurd (omega arith)

  same_column : (a x y : ℕ) → 16 * a ≤ x → x ≤ 16 * a + 3 → 16 * a ≤ y → y ≤ 16 * a + 3 → Parted x y → i ≡ a
  same_column a x y xl xh yl yh (inl g) = let p = g.0 in let q = g.1 in omega arith
  same_column a x y xl xh yl yh (inr g) = let p = g.0 in let q = g.1 in omega arith

  upright_first_rung : (a j : ℕ) → a ≤ l.size → j < l.size → Parted (l.node_x a j) (l.bend_x a j) → IsRung (upright_first l a j)
  upright_first_rung a j p q g =
      let x = is.node_x a j in let y = is.bend_x a j in
      let same = same_column a (l.node_x a j) (l.bend_x a j) x.low x.high y.low y.high g in
      let here = subst (λ (b : ℕ). Parted (l.node_x b j) (l.bend_x b j)) (sym same) g in
      subst (λ (b : ℕ). IsRung (upright_first l b j)) same
      (lower_within l n i l.size j (upright_first l i j) q (lower_is j here (omega arith) (node_side l n i j) (bend_side l n i j) (cases_lt l.size i)))

  upright_second_rung : (a j : ℕ) → a ≤ l.size → j < l.size → Parted (l.bend_x a j) (l.node_x a (j + 1)) → IsRung (upright_second l a j)
  upright_second_rung a j p q g =
      let x = is.bend_x a j in let y = is.node_x a (j + 1) in
      let same = same_column a (l.bend_x a j) (l.node_x a (j + 1)) x.low x.high y.low y.high g in
      let here = subst (λ (b : ℕ). Parted (l.bend_x b j) (l.node_x b (j + 1))) (sym same) g in
      subst (λ (b : ℕ). IsRung (upright_second l b j)) same
      (upper_within l n i l.size j (upright_second l i j) q (upper_is j here (omega arith) (bend_side l n i j) (node_side l n i (j + 1)) (cases_lt l.size i)))

  crossed_is_rung : (s : LabelledSegment) → IsHalf l s → crosses (line_after v) s.segment ≡ true → IsRung s
  crossed_is_rung s (of_level_first a j p q e) h = subst IsRung (sym e) (first_rung a j p q
      (ends_of_crossed v n left (level_first l a j).segment (l.node_x a j) (16 * a + 8) refl refl (subst (λ (t : LabelledSegment). crosses (line_after v) t.segment ≡ true) e h)))
  crossed_is_rung s (of_level_second a j p q e) h = subst IsRung (sym e) (second_rung a j p q
      (ends_of_crossed v n left (level_second l a j).segment (16 * a + 8) (l.node_x (a + 1) j) refl refl (subst (λ (t : LabelledSegment). crosses (line_after v) t.segment ≡ true) e h)))
  crossed_is_rung s (of_upright_first a j p q e) h = subst IsRung (sym e) (upright_first_rung a j p q
      (ends_of_crossed v n left (upright_first l a j).segment (l.node_x a j) (l.bend_x a j) refl refl (subst (λ (t : LabelledSegment). crosses (line_after v) t.segment ≡ true) e h)))
  crossed_is_rung s (of_upright_second a j p q e) h = subst IsRung (sym e) (upright_second_rung a j p q
      (ends_of_crossed v n left (upright_second l a j).segment (l.bend_x a j) (l.node_x a (j + 1)) refl refl (subst (λ (t : LabelledSegment). crosses (line_after v) t.segment ≡ true) e h)))

  -- ---- so the ladder is the stack

  all_crossed : All IsCrossed (members (rungs l n i l.size))
  all_crossed = All-members IsCrossed (rungs l n i l.size) (rungs_crossed l.size (omega arith))

  stack_is_ladder : stack (line_after v) (all_halves l) ≡ members (rungs l n i l.size)
  stack_is_ladder = sorted_same (order_of_heights (line_after v) (after_is_rational v)) (stack (line_after v) (all_halves l)) (members (rungs l n i l.size))
      (stack_is_crossed (line_after v) (all_halves l)) (All-weaker IsCrossed (λ s. crosses (line_after v) s.segment ≡ true) (λ s c. c.crossed) (members (rungs l n i l.size)) all_crossed)
      (stack_is_sorted (line_after v) (after_is_rational v) (all_halves l) (halves_apart l is))
      (members_sorted (higher (line_after v)) (rungs l n i l.size) (ladder_ordered l is v n i left low high))
      (λ s c. let parts = Contains-from_filter (crossed (line_after v)) (all_halves l) s (Contains-from_sort_by (higher (line_after v)) (filter (crossed (line_after v)) (all_halves l)) s c) in
      crossed_is_rung s (half_of l s parts.0) parts.1)
      (λ s c. let one = All-contains IsCrossed (members (rungs l n i l.size)) s all_crossed c in
      Contains-sort_by (higher (line_after v)) (filter (crossed (line_after v)) (all_halves l)) s (Contains-filter (crossed (line_after v)) (all_halves l) s one.there one.crossed))

  pub line_agrees : agree_from 0 (map sides (stack (line_after v) (all_halves l))) ≡ true
  line_agrees = ap (λ (ss : List LabelledSegment). agree_from 0 (map sides ss)) stack_is_ladder
      ∙ agree_by_leads 0 (members (rungs l n i l.size)) (members_lead upper_face lower_face 0 (rungs l n i l.size) 0 (all_steps l n i is))

-- ---- down each line

pub faces_agree : (l : Layout) → IsLayout l → FacesAgree (all_halves l)
faces_agree l is = agree_from_faults (all_halves l) (halves_apart l is) (none_from_faults (stack_fault (all_halves l)) (all_but_last (abscissas (all_halves l))) (λ m d short.
    let v = get_or (all_but_last (abscissas (all_halves l))) m d in
    no_fault_from_agree v 0 0 (map sides (stack (line_after v) (all_halves l))) (line_agrees l is v (columns v) (columns v / 16) (columns_left v) (omega arith) (omega arith))))
