-- Round each node the faces of a layout agree: its spokes are those to the right, up, to the left and down that are there, in this order.
use Rattle.std.proofs.Common.{◌≡◌, ◌≢◌, ◌⊎◌, inl, inr, ℕ, ◌+◌, ◌-◌, ◌<◌, ◌≤◌, Bool, true, ◌&&◌, if◌then◌else◌, ◌<ℤ◌, ◌≤ℤ◌, List, [], ◌∷◌, flat_map, All, Contains, get_or, Option, Some, None, refl, sym, ap, ap₂, ◌∙◌, subst, true≢false, arith}
use Rattle.std.proofs.lemmas.Int.{ints}
use Rattle.std.proofs.lemmas.Bool.{cases_lt}
use Rattle.std.proofs.lemmas.List.Elements.{All-weaker, All-contains, Contains-append_left, Contains-append_right}
use Rattle.lemmas.specs.Sorting.{sort_by}
use Rattle.lemmas.proofs.Sorting.{sorted_same, sort_by-is_sorted, All-sort_by, Contains-sort_by, Contains-from_sort_by}
use Rattle.lemmas.proofs.Orders.{order_by_key}
use Rattle.lemmas.proofs.Members.{in_head, All-from_members, All-flat_map, Contains-flat_map, Contains-from_flat_map}
use Rattle.lemmas.proofs.Signs.{by_order, le_from_lt, le_from_same}
use Rattle.tgap_model.specs.declared.geometry.Point.{Point}
use Rattle.tgap_model.specs.declared.segment.LabelledSegment.{LabelledSegment}
use Rattle.tgap_model.specs.declared.fault.MapFault.{MapFault}
use Rattle.tgap_model.specs.Segment.{turns_before}
use Rattle.tgap_model.specs.Partition.{Spoke, is_proper, spokes_of, spokes_at, ring_fault, node_fault}
use Rattle.tgap_model.proofs.Points.{same_point-from}
use Rattle.tgap_model.proofs.Proper.{proper_parts}
use Rattle.grid_geo.proofs.Turns.{turns_strict}
use Rattle.base_check.proofs.Spokes.{first_spoke, last_spoke, at_first, at_last, each_spoke}
use Rattle.base_check.proofs.Apart.{GoesAlong, all_along, all_decided}
use Rattle.generator.proofs.Rungs.{Rung, members, IfThere, AllThere, All-members, IfBoth, AllBoth, ordered_by_pairs, Leads, IsStep, AreSteps, members_lead, ring_by_leads, members_sorted, member_here, member_later}
use Rattle.generator.proofs.Layouts.{Layout, IsLayout, IsFlat, IsSteep, node_of, level_bend_of, upright_bend_of, level_first, level_second, upright_first, upright_second, all_halves, first_flat, second_flat, first_steep, second_steep}
use Rattle.generator.proofs.Halves.{IsHalf, of_level_first, of_level_second, of_upright_first, of_upright_second, half_of, has_level_first, has_level_second, has_upright_first, has_upright_second}
use Rattle.generator.proofs.Apart.{halves_apart}
use Rattle.generator.proofs.Turning.{between, right_up, right_left, right_down, up_left, up_down, up_right, left_down, left_right, down_right}

-- ---- the spokes of a segment

-- a segment that begins or ends an arc at a point has a spoke there
has_first : (v : Point) (s : LabelledSegment) → s.starts ≡ true → s.segment.a ≡ v → Contains (spokes_of v s) (first_spoke s)
has_first v s b e = Contains-append_left (at_first s v s.starts) (at_last s v s.ends) (first_spoke s)
    (subst (λ (c : Bool). Contains (if c then first_spoke s ∷ [] else []) (first_spoke s))
    (sym (ap₂ (λ (c d : Bool). c && d) b (same_point-from s.segment.a v e))) (in_head (first_spoke s) []))

has_last : (v : Point) (s : LabelledSegment) → s.ends ≡ true → s.segment.b ≡ v → Contains (spokes_of v s) (last_spoke s)
has_last v s b e = Contains-append_right (at_first s v s.starts) (at_last s v s.ends) (last_spoke s)
    (subst (λ (c : Bool). Contains (if c then last_spoke s ∷ [] else []) (last_spoke s))
    (sym (ap₂ (λ (c d : Bool). c && d) b (same_point-from s.segment.b v e))) (in_head (last_spoke s) []))

-- ---- the fault of a ring

abbrev fault_round : Point → List Spoke → Option MapFault
fault_round v ps = elim ps [ [] ↦ None | p ∷ spokes ↦ ring_fault v p 0 (p ∷ spokes) ]

abbrev right_face : Spoke → ℕ
right_face p = p.right

abbrev left_face : Spoke → ℕ
left_face p = p.left

-- spokes that lead from a face round to it have none
no_fault : (v : Point) (u : ℕ) (ps : List Spoke) → Leads right_face left_face u ps u → fault_round v ps ≡ None
no_fault v u [] h = refl
no_fault v u (p ∷ ps) h = ring_by_leads v p 0 u (p ∷ ps) (subst (λ (w : ℕ). Leads right_face left_face u (p ∷ ps) w) (sym h.0) h)

abbrev comes_before : Point → Spoke → Spoke → Bool
comes_before v p q = turns_before v p.toward q.toward

abbrev Precede : Point → Spoke → Spoke → Type 0
Precede v p q = comes_before v p q ≡ true

module _ (l : Layout) (is : IsLayout l) where
  -- ---- which point is which node

  same_node : (a b i j : ℕ) → node_of l a b ≡ node_of l i j → (a ≡ i) × (b ≡ j)
  same_node a b i j e =
      let x = ap (λ (p : Point). p.x) e in let y = ap (λ (p : Point). p.y) e in
      let f = is.node_x a b in let g = is.node_x i j in let h = is.node_y a b in let k = is.node_y i j in
      (omega (arith, ints, x), omega (arith, ints, y))

  module _ (i j : ℕ) (within_i : i ≤ l.size) (within_j : j ≤ l.size) where
    abbrev v : Point
    v = node_of l i j

    -- ---- the spokes that are there

    abbrev to_right : (i < l.size) ⊎ (l.size ≤ i) → Option Spoke
    to_right (inl p) = Some (first_spoke (level_first l i j))
    to_right (inr p) = None

    abbrev upwards : (j < l.size) ⊎ (l.size ≤ j) → Option Spoke
    upwards (inl p) = Some (first_spoke (upright_first l i j))
    upwards (inr p) = None

    abbrev to_left : (0 < i) ⊎ (i ≤ 0) → Option Spoke
    to_left (inl p) = Some (last_spoke (level_second l (i - 1) j))
    to_left (inr p) = None

    abbrev downwards : (0 < j) ⊎ (j ≤ 0) → Option Spoke
    downwards (inl p) = Some (last_spoke (upright_second l i (j - 1)))
    downwards (inr p) = None

    -- ---- each leads from the face at its right to the one at its left

    right_step : (q : (i < l.size) ⊎ (l.size ≤ i)) → IsStep right_face left_face (l.region (i + 1) j) (to_right q) (l.region (i + 1) (j + 1))
    right_step (inl p) = (refl, refl)
    right_step (inr p) = is.behind_all (i + 1) j (omega arith) ∙ sym (is.behind_all (i + 1) (j + 1) (omega arith))

    up_step : (q : (j < l.size) ⊎ (l.size ≤ j)) → IsStep right_face left_face (l.region (i + 1) (j + 1)) (upwards q) (l.region i (j + 1))
    up_step (inl p) = (refl, refl)
    up_step (inr p) = is.above_all (i + 1) (j + 1) (omega arith) ∙ sym (is.above_all i (j + 1) (omega arith))

    left_step : (q : (0 < i) ⊎ (i ≤ 0)) → IsStep right_face left_face (l.region i (j + 1)) (to_left q) (l.region i j)
    left_step (inl p) =
        let same : i - 1 + 1 ≡ i = omega arith in
        (ap (λ (a : ℕ). l.region a (j + 1)) same, ap (λ (a : ℕ). l.region a j) same)
    left_step (inr p) =
        let none : 0 ≡ i = omega arith in
        subst (λ (a : ℕ). l.region a (j + 1) ≡ l.region a j) none (is.before_all (j + 1) ∙ sym (is.before_all j))

    down_step : (q : (0 < j) ⊎ (j ≤ 0)) → IsStep right_face left_face (l.region i j) (downwards q) (l.region (i + 1) j)
    down_step (inl p) =
        let same : j - 1 + 1 ≡ j = omega arith in
        (ap (λ (b : ℕ). l.region i b) same, ap (λ (b : ℕ). l.region (i + 1) b) same)
    down_step (inr p) =
        let none : 0 ≡ j = omega arith in
        subst (λ (b : ℕ). l.region i b ≡ l.region (i + 1) b) none (is.below_all i ∙ sym (is.below_all (i + 1)))

    -- ---- their order

    right_flat : IsFlat (between v (level_bend_of l i j))
    right_flat = first_flat l is i j

    up_steep : IsSteep (between v (upright_bend_of l i j))
    up_steep = first_steep l is i j

    left_flat : 0 < i → IsFlat (between (level_bend_of l (i - 1) j) v)
    left_flat h = subst (λ (a : ℕ). IsFlat (between (level_bend_of l (i - 1) j) (node_of l a j))) (omega arith) (second_flat l is (i - 1) j)

    down_steep : 0 < j → IsSteep (between (upright_bend_of l i (j - 1)) v)
    down_steep h = subst (λ (b : ℕ). IsSteep (between (upright_bend_of l i (j - 1)) (node_of l i b))) (omega arith) (second_steep l is i (j - 1))

    up_then_left : (q : (j < l.size) ⊎ (l.size ≤ j)) (r : (0 < i) ⊎ (i ≤ 0)) → IfBoth (Precede v) (upwards q) (to_left r)
    up_then_left (inl p) (inl m) = up_left v (upright_bend_of l i j) (level_bend_of l (i - 1) j) up_steep (left_flat m)
    up_then_left (inl p) (inr m) = tt
    up_then_left (inr p) r = tt

    up_then_down : (q : (j < l.size) ⊎ (l.size ≤ j)) (r : (0 < j) ⊎ (j ≤ 0)) → IfBoth (Precede v) (upwards q) (downwards r)
    up_then_down (inl p) (inl m) = up_down v (upright_bend_of l i j) (upright_bend_of l i (j - 1)) up_steep (down_steep m)
    up_then_down (inl p) (inr m) = tt
    up_then_down (inr p) r = tt

    left_then_down : (q : (0 < i) ⊎ (i ≤ 0)) (r : (0 < j) ⊎ (j ≤ 0)) → IfBoth (Precede v) (to_left q) (downwards r)
    left_then_down (inl p) (inl m) = left_down v (level_bend_of l (i - 1) j) (upright_bend_of l i (j - 1)) (left_flat p) (down_steep m)
    left_then_down (inl p) (inr m) = tt
    left_then_down (inr p) r = tt

    module _ (rising : v.y ≤ℤ (level_bend_of l i j).y) where
      right_then_up : (q : (i < l.size) ⊎ (l.size ≤ i)) (r : (j < l.size) ⊎ (l.size ≤ j)) → IfBoth (Precede v) (to_right q) (upwards r)
      right_then_up (inl p) (inl m) = right_up v (level_bend_of l i j) (upright_bend_of l i j) right_flat up_steep rising
      right_then_up (inl p) (inr m) = tt
      right_then_up (inr p) r = tt

      right_then_left : (q : (i < l.size) ⊎ (l.size ≤ i)) (r : (0 < i) ⊎ (i ≤ 0)) → IfBoth (Precede v) (to_right q) (to_left r)
      right_then_left (inl p) (inl m) = right_left v (level_bend_of l i j) (level_bend_of l (i - 1) j) right_flat (left_flat m) rising
      right_then_left (inl p) (inr m) = tt
      right_then_left (inr p) r = tt

      right_then_down : (q : (i < l.size) ⊎ (l.size ≤ i)) (r : (0 < j) ⊎ (j ≤ 0)) → IfBoth (Precede v) (to_right q) (downwards r)
      right_then_down (inl p) (inl m) = right_down v (level_bend_of l i j) (upright_bend_of l i (j - 1)) right_flat (down_steep m) rising
      right_then_down (inl p) (inr m) = tt
      right_then_down (inr p) r = tt

    module _ (falling : (level_bend_of l i j).y <ℤ v.y) where
      up_then_right : (q : (j < l.size) ⊎ (l.size ≤ j)) (r : (i < l.size) ⊎ (l.size ≤ i)) → IfBoth (Precede v) (upwards q) (to_right r)
      up_then_right (inl p) (inl m) = up_right v (upright_bend_of l i j) (level_bend_of l i j) up_steep falling
      up_then_right (inl p) (inr m) = tt
      up_then_right (inr p) r = tt

      left_then_right : (q : (0 < i) ⊎ (i ≤ 0)) (r : (i < l.size) ⊎ (l.size ≤ i)) → IfBoth (Precede v) (to_left q) (to_right r)
      left_then_right (inl p) (inl m) = left_right v (level_bend_of l (i - 1) j) (level_bend_of l i j) (left_flat p) right_flat falling
      left_then_right (inl p) (inr m) = tt
      left_then_right (inr p) r = tt

      down_then_right : (q : (0 < j) ⊎ (j ≤ 0)) (r : (i < l.size) ⊎ (l.size ≤ i)) → IfBoth (Precede v) (downwards q) (to_right r)
      down_then_right (inl p) (inl m) = down_right v (upright_bend_of l i (j - 1)) (level_bend_of l i j) (down_steep p) right_flat falling
      down_then_right (inl p) (inr m) = tt
      down_then_right (inr p) r = tt

    -- ---- they are spokes of the node

    abbrev all_spokes : List Spoke
    all_spokes = flat_map (spokes_of v) (all_halves l)

    right_listed : (q : (i < l.size) ⊎ (l.size ≤ i)) → IfThere (Contains all_spokes) (to_right q)
    right_listed (inl p) = let s = level_first l i j in
        Contains-flat_map (spokes_of v) (all_halves l) s (first_spoke s) (has_level_first l i j p within_j) (has_first v s refl refl)
    right_listed (inr p) = tt

    up_listed : (q : (j < l.size) ⊎ (l.size ≤ j)) → IfThere (Contains all_spokes) (upwards q)
    up_listed (inl p) = let s = upright_first l i j in
        Contains-flat_map (spokes_of v) (all_halves l) s (first_spoke s) (has_upright_first l i j within_i p) (has_first v s refl refl)
    up_listed (inr p) = tt

    left_listed : (q : (0 < i) ⊎ (i ≤ 0)) → IfThere (Contains all_spokes) (to_left q)
    left_listed (inl p) = let s = level_second l (i - 1) j in
        Contains-flat_map (spokes_of v) (all_halves l) s (last_spoke s) (has_level_second l (i - 1) j (omega arith) within_j)
        (has_last v s refl (ap (λ (a : ℕ). node_of l a j) (omega arith)))
    left_listed (inr p) = tt

    down_listed : (q : (0 < j) ⊎ (j ≤ 0)) → IfThere (Contains all_spokes) (downwards q)
    down_listed (inl p) = let s = upright_second l i (j - 1) in
        Contains-flat_map (spokes_of v) (all_halves l) s (last_spoke s) (has_upright_second l i (j - 1) within_i (omega arith))
        (has_last v s refl (ap (λ (b : ℕ). node_of l i b) (omega arith)))
    down_listed (inr p) = tt

    -- ---- the ring, from the first spoke on

    abbrev right_rung : Rung Spoke
    right_rung = record { member = to_right (cases_lt i l.size); under = l.region (i + 1) (j + 1) }

    abbrev up_rung : Rung Spoke
    up_rung = record { member = upwards (cases_lt j l.size); under = l.region i (j + 1) }

    abbrev left_rung : Rung Spoke
    left_rung = record { member = to_left (cases_lt 0 i); under = l.region i j }

    abbrev down_rung : Rung Spoke
    down_rung = record { member = downwards (cases_lt 0 j); under = l.region (i + 1) j }

    -- a list of these spokes in their order, that leads round the node
    record IsRound (rs : List (Rung Spoke)) : Type 0 where
      face : ℕ
      leads : AreSteps right_face left_face face rs face
      ordered : AllBoth (Precede v) rs
      right_there : (p : Spoke) → right_rung.member ≡ Some p → Contains (members rs) p
      up_there : (p : Spoke) → up_rung.member ≡ Some p → Contains (members rs) p
      left_there : (p : Spoke) → left_rung.member ≡ Some p → Contains (members rs) p
      down_there : (p : Spoke) → down_rung.member ≡ Some p → Contains (members rs) p
      no_other : AllThere (Contains all_spokes) rs

    round_rising : v.y ≤ℤ (level_bend_of l i j).y → IsRound (right_rung ∷ up_rung ∷ left_rung ∷ down_rung ∷ [])
    round_rising h =
        let later = up_rung ∷ left_rung ∷ down_rung ∷ [] in
        let after = left_rung ∷ down_rung ∷ [] in
        record {
          face = l.region (i + 1) j;
          leads = (right_step (cases_lt i l.size), (up_step (cases_lt j l.size), (left_step (cases_lt 0 i), (down_step (cases_lt 0 j), refl))));
          ordered = (
            (right_then_up h (cases_lt i l.size) (cases_lt j l.size), (right_then_left h (cases_lt i l.size) (cases_lt 0 i), (right_then_down h (cases_lt i l.size) (cases_lt 0 j), tt))),
            (
              (up_then_left (cases_lt j l.size) (cases_lt 0 i), (up_then_down (cases_lt j l.size) (cases_lt 0 j), tt)),
              ((left_then_down (cases_lt 0 i) (cases_lt 0 j), tt), (tt, tt)),
            ),
          );
          right_there = λ p e. member_here right_rung later p e;
          up_there = λ p e. member_later right_rung later p (member_here up_rung after p e);
          left_there = λ p e. member_later right_rung later p (member_later up_rung after p (member_here left_rung (down_rung ∷ []) p e));
          down_there = λ p e. member_later right_rung later p (member_later up_rung after p (member_later left_rung (down_rung ∷ []) p (member_here down_rung [] p e)));
          no_other = (right_listed (cases_lt i l.size), (up_listed (cases_lt j l.size), (left_listed (cases_lt 0 i), (down_listed (cases_lt 0 j), tt))));
        }

    round_falling : (level_bend_of l i j).y <ℤ v.y → IsRound (up_rung ∷ left_rung ∷ down_rung ∷ right_rung ∷ [])
    round_falling h =
        let later = left_rung ∷ down_rung ∷ right_rung ∷ [] in
        let after = down_rung ∷ right_rung ∷ [] in
        record {
          face = l.region (i + 1) (j + 1);
          leads = (up_step (cases_lt j l.size), (left_step (cases_lt 0 i), (down_step (cases_lt 0 j), (right_step (cases_lt i l.size), refl))));
          ordered = (
            (up_then_left (cases_lt j l.size) (cases_lt 0 i), (up_then_down (cases_lt j l.size) (cases_lt 0 j), (up_then_right h (cases_lt j l.size) (cases_lt i l.size), tt))),
            (
              (left_then_down (cases_lt 0 i) (cases_lt 0 j), (left_then_right h (cases_lt 0 i) (cases_lt i l.size), tt)),
              ((down_then_right h (cases_lt 0 j) (cases_lt i l.size), tt), (tt, tt)),
            ),
          );
          up_there = λ p e. member_here up_rung later p e;
          left_there = λ p e. member_later up_rung later p (member_here left_rung after p e);
          down_there = λ p e. member_later up_rung later p (member_later left_rung after p (member_here down_rung (right_rung ∷ []) p e));
          right_there = λ p e. member_later up_rung later p (member_later left_rung after p (member_later down_rung (right_rung ∷ []) p (member_here right_rung [] p e)));
          no_other = (up_listed (cases_lt j l.size), (left_listed (cases_lt 0 i), (down_listed (cases_lt 0 j), (right_listed (cases_lt i l.size), tt))));
        }

    -- ---- it has exactly the spokes of the node

    right_is : (q : (i < l.size) ⊎ (l.size ≤ i)) → i < l.size → to_right q ≡ Some (first_spoke (level_first l i j))
    right_is (inl p) h = refl
    right_is (inr p) h = absurd (omega arith)

    up_is : (q : (j < l.size) ⊎ (l.size ≤ j)) → j < l.size → upwards q ≡ Some (first_spoke (upright_first l i j))
    up_is (inl p) h = refl
    up_is (inr p) h = absurd (omega arith)

    left_is : (q : (0 < i) ⊎ (i ≤ 0)) → 0 < i → to_left q ≡ Some (last_spoke (level_second l (i - 1) j))
    left_is (inl p) h = refl
    left_is (inr p) h = absurd (omega arith)

    down_is : (q : (0 < j) ⊎ (j ≤ 0)) → 0 < j → downwards q ≡ Some (last_spoke (upright_second l i (j - 1)))
    down_is (inl p) h = refl
    down_is (inr p) h = absurd (omega arith)

    module _ (rs : List (Rung Spoke)) (round : IsRound rs) where
      abbrev In : Spoke → Type 0
      In p = Contains (members rs) p

      spokes_in : (s : LabelledSegment) → IsHalf l s → All In (spokes_of v s)
      spokes_in s (of_level_first a b p q e) = subst (λ (t : LabelledSegment). All In (spokes_of v t)) (sym e) (each_spoke v (level_first l a b) In
          (λ x here.
          let same = same_node a b i j here in
          subst (λ (c : ℕ). In (first_spoke (level_first l c b))) (sym same.0) (subst (λ (d : ℕ). In (first_spoke (level_first l i d))) (sym same.1)
          (round.right_there (first_spoke (level_first l i j)) (right_is (cases_lt i l.size) (omega (arith, same.0))))))
          (λ x here. absurd (true≢false (sym x))))
      spokes_in s (of_level_second a b p q e) = subst (λ (t : LabelledSegment). All In (spokes_of v t)) (sym e) (each_spoke v (level_second l a b) In
          (λ x here. absurd (true≢false (sym x)))
          (λ x here.
          let same = same_node (a + 1) b i j here in
          let before : i - 1 ≡ a = omega (arith, same.0) in
          subst (λ (c : ℕ). In (last_spoke (level_second l c b))) before (subst (λ (d : ℕ). In (last_spoke (level_second l (i - 1) d))) (sym same.1)
          (round.left_there (last_spoke (level_second l (i - 1) j)) (left_is (cases_lt 0 i) (omega (arith, same.0)))))))
      spokes_in s (of_upright_first a b p q e) = subst (λ (t : LabelledSegment). All In (spokes_of v t)) (sym e) (each_spoke v (upright_first l a b) In
          (λ x here.
          let same = same_node a b i j here in
          subst (λ (c : ℕ). In (first_spoke (upright_first l c b))) (sym same.0) (subst (λ (d : ℕ). In (first_spoke (upright_first l i d))) (sym same.1)
          (round.up_there (first_spoke (upright_first l i j)) (up_is (cases_lt j l.size) (omega (arith, same.1))))))
          (λ x here. absurd (true≢false (sym x))))
      spokes_in s (of_upright_second a b p q e) = subst (λ (t : LabelledSegment). All In (spokes_of v t)) (sym e) (each_spoke v (upright_second l a b) In
          (λ x here. absurd (true≢false (sym x)))
          (λ x here.
          let same = same_node a (b + 1) i j here in
          let before : j - 1 ≡ b = omega (arith, same.1) in
          subst (λ (c : ℕ). In (last_spoke (upright_second l c b))) (sym same.0) (subst (λ (d : ℕ). In (last_spoke (upright_second l i d))) before
          (round.down_there (last_spoke (upright_second l i (j - 1))) (down_is (cases_lt 0 j) (omega (arith, same.1)))))))

      all_in : All (Contains all_spokes) (members rs)
      all_in = All-members (Contains all_spokes) rs round.no_other

      module _ (proper : All (λ (s : LabelledSegment). is_proper s ≡ true) (all_halves l)) where
        away : All (λ (q : Spoke). v ≢ q.toward) all_spokes
        away = All-flat_map (λ (q : Spoke). v ≢ q.toward) (spokes_of v) (all_halves l) (λ k d lt.
            let s = get_or (all_halves l) k d in
            All-weaker (GoesAlong s v) (λ (q : Spoke). v ≢ q.toward) (λ q along. along.away) (spokes_of v s) (all_along v s (proper_parts s (proper k d lt)).apart))

        ring_is : spokes_at v (all_halves l) ≡ members rs
        ring_is = sorted_same (order_by_key (λ (q : Spoke). q.toward) (turns_strict v)) (spokes_at v (all_halves l)) (members rs)
            (All-sort_by (comes_before v) (λ (q : Spoke). v ≢ q.toward) all_spokes away)
            (All-from_members (λ (q : Spoke). v ≢ q.toward) (members rs) (λ q c. All-contains (λ (q : Spoke). v ≢ q.toward) all_spokes q away
            (All-contains (Contains all_spokes) (members rs) q all_in c)))
            (sort_by-is_sorted (comes_before v) all_spokes (all_decided v (all_halves l) proper (halves_apart l is)))
            (members_sorted (comes_before v) rs (ordered_by_pairs (comes_before v) rs round.ordered))
            (λ q c. let from = Contains-from_flat_map (spokes_of v) (all_halves l) q (Contains-from_sort_by (comes_before v) all_spokes q c) in
            All-contains In (spokes_of v from.0) q (spokes_in from.0 (half_of l from.0 from.1)) from.2)
            (λ q c. Contains-sort_by (comes_before v) all_spokes q (All-contains (Contains all_spokes) (members rs) q all_in c))

        round_fine : node_fault (all_halves l) v ≡ None
        round_fine = ap (fault_round v) ring_is ∙ no_fault v round.face (members rs) (members_lead right_face left_face round.face rs round.face round.leads)

    node_fine : All (λ (s : LabelledSegment). is_proper s ≡ true) (all_halves l) → node_fault (all_halves l) v ≡ None
    node_fine proper = by_order v.y (level_bend_of l i j).y
        (λ h. round_fine (right_rung ∷ up_rung ∷ left_rung ∷ down_rung ∷ []) (round_rising (le_from_lt h)) proper)
        (λ e. round_fine (right_rung ∷ up_rung ∷ left_rung ∷ down_rung ∷ []) (round_rising (le_from_same e)) proper)
        (λ h. round_fine (up_rung ∷ left_rung ∷ down_rung ∷ right_rung ∷ []) (round_falling h) proper)

  -- ---- and no other point has spokes

  record IsNode (v : Point) : Type 0 where
    i : ℕ
    j : ℕ
    within_i : i ≤ l.size
    within_j : j ≤ l.size
    here : v ≡ node_of l i j

  leaves_node : (v : Point) (s : LabelledSegment) → IsHalf l s → All (λ q. IsNode v) (spokes_of v s)
  leaves_node v s (of_level_first a b p q e) = each_spoke v s (λ r. IsNode v)
      (λ x here. record { i = a; j = b; within_i = omega arith; within_j = q; here = sym here ∙ ap (λ (t : LabelledSegment). t.segment.a) e })
      (λ x here. absurd (true≢false (sym x ∙ ap (λ (t : LabelledSegment). t.ends) e)))
  leaves_node v s (of_level_second a b p q e) = each_spoke v s (λ r. IsNode v)
      (λ x here. absurd (true≢false (sym x ∙ ap (λ (t : LabelledSegment). t.starts) e)))
      (λ x here. record { i = a + 1; j = b; within_i = omega arith; within_j = q; here = sym here ∙ ap (λ (t : LabelledSegment). t.segment.b) e })
  leaves_node v s (of_upright_first a b p q e) = each_spoke v s (λ r. IsNode v)
      (λ x here. record { i = a; j = b; within_i = p; within_j = omega arith; here = sym here ∙ ap (λ (t : LabelledSegment). t.segment.a) e })
      (λ x here. absurd (true≢false (sym x ∙ ap (λ (t : LabelledSegment). t.ends) e)))
  leaves_node v s (of_upright_second a b p q e) = each_spoke v s (λ r. IsNode v)
      (λ x here. absurd (true≢false (sym x ∙ ap (λ (t : LabelledSegment). t.starts) e)))
      (λ x here. record { i = a; j = b + 1; within_i = p; within_j = omega arith; here = sym here ∙ ap (λ (t : LabelledSegment). t.segment.b) e })

  pub nodes_agree : All (λ (s : LabelledSegment). is_proper s ≡ true) (all_halves l) → (v : Point) → node_fault (all_halves l) v ≡ None
  nodes_agree proper v = by (flat_map (spokes_of v) (all_halves l)) refl
    where
      by : (ps : List Spoke) → flat_map (spokes_of v) (all_halves l) ≡ ps → node_fault (all_halves l) v ≡ None
      by [] e = ap (λ (ps : List Spoke). fault_round v (sort_by (comes_before v) ps)) e
      by (p ∷ ps) e =
          let from = Contains-from_flat_map (spokes_of v) (all_halves l) p (subst (λ (qs : List Spoke). Contains qs p) (sym e) (in_head p ps)) in
          let node = All-contains (λ (q : Spoke). IsNode v) (spokes_of v from.0) p (leaves_node v from.0 (half_of l from.0 from.1)) from.2 in
          subst (λ (w : Point). node_fault (all_halves l) w ≡ None) (sym node.here) (node_fine node.i node.j node.within_i node.within_j proper)
