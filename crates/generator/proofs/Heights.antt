-- The segments of a ladder hang one below the other: between any two that follow there is a height over which the first one is and under
-- which the second one is. Near a node, where arcs meet, this height goes away from the node as fast as the line does from its abscissa.
use Rattle.std.proofs.Common.{◌≡◌, ◌⊎◌, inl, inr, ℕ, zero, suc, ◌+◌, ◌-◌, ◌*◌, ◌<◌, ◌≤◌, true, ℤ, pos, ◌+ℤ◌, ◌-ℤ◌, ◌*ℤ◌, ◌<ℤ◌, ◌≤ℤ◌, List, [], ◌∷◌, All, Option, Some, None, sym, subst, arith}
use Rattle.std.specs.Prelude.{⊤}
use Rattle.std.proofs.lemmas.Int.{ints}
use Rattle.std.proofs.lemmas.Bool.{cases_lt}
use Rattle.std.proofs.lemmas.List.Elements.{All-nil, All-cons, All-weaker}
use Rattle.tgap_model.specs.declared.geometry.Seg.{Seg}
use Rattle.tgap_model.specs.declared.segment.LabelledSegment.{LabelledSegment}
use Rattle.tgap_model.specs.Segment.{Line, line_after, run, rightward}
use Rattle.planar_stack.proofs.Crossings.{turned}
use Rattle.planar_stack.proofs.Heights.{higher}
use Rattle.generator.proofs.Rungs.{Rung, members, with_member, IfThere, AreOrdered}
use Rattle.generator.proofs.Layouts.{Layout, IsLayout, level_first, level_second, upright_first, upright_second, first_flat, second_flat, first_steep, second_steep}
use Rattle.generator.proofs.Strips.{IsOver, IsUnder, higher_between, under_more, rightward_same, rightward_turned, over_level, under_level, start_over_falling, start_under_rising, start_over_rising, start_under_falling, start_over, start_under, end_over_falling, end_under_rising, end_over_rising, end_under_falling, end_over, end_under}
use Rattle.generator.proofs.Columns.{AreLeft}
use Rattle.generator.proofs.Ladders.{Side, behind_node, before_node, level_at, upper_at, lower_at, node_side, bend_side, level_rung, upper_rung, lower_rung, rungs}

-- ---- a ladder that hangs under a height

module _ (k : Line) where
  -- the segment is under the height z and over the height w
  pub record IsBetween (w z : ℤ) (s : LabelledSegment) : Type 0 where
    pub under : IsUnder k z (rightward s.segment)
    pub over : IsOver k w (rightward s.segment)

  abbrev pub Hangs : ℤ → List (Rung LabelledSegment) → Type 0
  Hangs z [] = ⊤
  Hangs z (r ∷ rs) = (w : ℤ) × (w ≤ℤ z) × IfThere (IsBetween w z) r.member × Hangs w rs

  abbrev AllUnder : ℤ → List LabelledSegment → Type 0
  AllUnder z ss = All (λ s. IsUnder k z (rightward s.segment)) ss

  all_under : (z : ℤ) (rs : List (Rung LabelledSegment)) → Hangs z rs → AllUnder z (members rs)
  all_under z [] h = All-nil (λ (s : LabelledSegment). IsUnder k z (rightward s.segment))
  all_under z (r ∷ rs) h = by r.member h.2 (All-weaker (λ (s : LabelledSegment). IsUnder k h.0 (rightward s.segment)) (λ s. IsUnder k z (rightward s.segment))
      (λ s u. under_more k h.0 z (rightward s.segment) h.1 u) (members rs) (all_under h.0 rs h.3))
    where
      by : (o : Option LabelledSegment) → IfThere (IsBetween h.0 z) o → AllUnder z (members rs) → AllUnder z (with_member o (members rs))
      by None b m = m
      by (Some x) b m = All-cons (λ (s : LabelledSegment). IsUnder k z (rightward s.segment)) x (members rs) b.under m

  pub ordered_by_height : (z : ℤ) (rs : List (Rung LabelledSegment)) → Hangs z rs → AreOrdered (higher k) rs
  ordered_by_height z [] h = tt
  ordered_by_height z (r ∷ rs) h = (by r.member h.2, ordered_by_height h.0 rs h.3)
    where
      by : (o : Option LabelledSegment) → IfThere (IsBetween h.0 z) o → IfThere (λ x. All (λ y. higher k x y ≡ true) (members rs)) o
      by None b = tt
      by (Some x) b = All-weaker (λ (s : LabelledSegment). IsUnder k h.0 (rightward s.segment)) (λ s. higher k x s ≡ true) (λ s u. higher_between k h.0 x s b.over u) (members rs) (all_under h.0 rs h.3)

  -- by the direction of the segment
  pub between_rightward : (w z : ℤ) (s : LabelledSegment) → s.segment.a.x <ℤ s.segment.b.x → IsUnder k z s.segment → IsOver k w s.segment → IsBetween w z s
  between_rightward w z s h u o =
      let e = rightward_same s.segment h in
      record { under = subst (λ (r : Seg). IsUnder k z r) (sym e) u; over = subst (λ (r : Seg). IsOver k w r) (sym e) o }

  pub between_leftward : (w z : ℤ) (s : LabelledSegment) → s.segment.b.x <ℤ s.segment.a.x → IsUnder k z (turned s.segment) → IsOver k w (turned s.segment) → IsBetween w z s
  between_leftward w z s h u o =
      let e = rightward_turned s.segment h in
      record { under = subst (λ (r : Seg). IsUnder k z r) (sym e) u; over = subst (λ (r : Seg). IsOver k w r) (sym e) o }

-- ---- the ladder of a line

-- Heights between its rungs, by row: under and over the level segment, and at the bends between this row and the next one.
pub record AreHeights (l : Layout) (n i : ℕ) (k : Line) (lows highs middles : ℕ → ℤ) : Type 0 where
  pub level : (j : ℕ) → IfThere (IsBetween k (lows j) (highs j)) (level_rung l n i j).member
  pub upper : (j : ℕ) → IfThere (IsBetween k (middles j) (lows (j + 1))) (upper_rung l n i j).member
  pub lower : (j : ℕ) → IfThere (IsBetween k (highs j) (middles j)) (lower_rung l n i j).member
  pub narrow : (j : ℕ) → lows j ≤ℤ highs j
  pub below_bends : (j : ℕ) → highs j ≤ℤ middles j
  pub above_bends : (j : ℕ) → middles j ≤ℤ lows (j + 1)

pub ladder_hangs : (l : Layout) (n i : ℕ) (k : Line) (lows highs middles : ℕ → ℤ) → AreHeights l n i k lows highs middles → (j : ℕ) → Hangs k (highs j) (rungs l n i j)
ladder_hangs l n i k lows highs middles h zero = (lows 0, h.narrow 0, h.level 0, tt)
ladder_hangs l n i k lows highs middles h (suc j) =
    let one : j + 1 ≡ suc j = omega arith in
    subst (λ (m : ℕ). Hangs k (highs m) (rungs l n i (suc j))) one
    (lows (j + 1), h.narrow (j + 1), h.level (j + 1), (middles j, h.above_bends j, h.upper j, (highs j, h.below_bends j, h.lower j, ladder_hangs l n i k lows highs middles h j)))

module _ (l : Layout) (is : IsLayout l) (v : ℤ) (n i : ℕ) (left : AreLeft v n) (low : 16 * i ≤ n) where
  abbrev k : Line
  k = line_after v

  -- how far the line is behind an abscissa, and before it, times its denominator
  abbrev behind : ℕ → ℤ
  behind x = k.a -ℤ k.c *ℤ pos x

  abbrev before : ℕ → ℤ
  before x = k.c *ℤ pos x -ℤ k.a

  is_behind : (x : ℕ) → x < n → pos 0 <ℤ behind x
  is_behind x h = let at = left.at_left x h in omega (arith, ints)

  is_before : (x : ℕ) → n ≤ x → pos 0 <ℤ before x
  is_before x h = let at = left.at_right x h in omega (arith, ints)

  abbrev height_of : ℕ → ℤ
  height_of y = k.c *ℤ pos y

  abbrev middle_of : ℕ → ℤ
  middle_of j = height_of (16 * j + 8)

  -- ---- near the nodes of the column

  abbrev under_node : (j : ℕ) → Side l n i (l.node_x i j) → ℤ
  under_node j (inl p) = height_of (l.node_y i j) -ℤ behind (l.node_x i j)
  under_node j (inr p) = height_of (l.node_y i j) -ℤ before (l.node_x i j)

  abbrev over_node : (j : ℕ) → Side l n i (l.node_x i j) → ℤ
  over_node j (inl p) = height_of (l.node_y i j) +ℤ behind (l.node_x i j)
  over_node j (inr p) = height_of (l.node_y i j) +ℤ before (l.node_x i j)

  module _ (near : n ≤ 16 * i + 3) where
    near_behind : (j : ℕ) (p : l.node_x i j < n) (q : (i < l.size) ⊎ (l.size ≤ i)) (r : Side l n i (16 * i + 8))
        → IfThere (IsBetween k (under_node j (inl p)) (over_node j (inl p))) (behind_node l n i j q r)
    near_behind j p (inl q) (inl r) = absurd (omega arith)
    near_behind j p (inl q) (inr r) =
        let s = level_first l i j in
        let f = first_flat l is i j in
        let up = f.rising in let down = f.falling in
        let runs : pos 0 <ℤ run s.segment = omega (arith, ints) in
        between_rightward k (under_node j (inl p)) (over_node j (inl p)) s (omega (arith, ints))
        (start_under_rising k s.segment runs (is_behind (l.node_x i j) p) down) (start_over_falling k s.segment runs (is_behind (l.node_x i j) p) up)
    near_behind j p (inr q) r = tt

    near_second : (m j : ℕ) → n ≤ l.node_x (m + 1) j
        → IsBetween k (height_of (l.node_y (m + 1) j) -ℤ before (l.node_x (m + 1) j)) (height_of (l.node_y (m + 1) j) +ℤ before (l.node_x (m + 1) j)) (level_second l m j)
    near_second m j h =
        let s = level_second l m j in
        let f = second_flat l is m j in
        let up = f.rising in let down = f.falling in
        let runs : pos 0 <ℤ run s.segment = omega (arith, ints) in
        between_rightward k (height_of (l.node_y (m + 1) j) -ℤ before (l.node_x (m + 1) j)) (height_of (l.node_y (m + 1) j) +ℤ before (l.node_x (m + 1) j)) s (omega (arith, ints))
        (end_under_rising k s.segment runs (is_before (l.node_x (m + 1) j) h) up) (end_over_falling k s.segment runs (is_before (l.node_x (m + 1) j) h) down)

    near_before : (j : ℕ) (p : n ≤ l.node_x i j) (q : (0 < i) ⊎ (i ≤ 0)) (r : (l.size < i) ⊎ (i ≤ l.size))
        → IfThere (IsBetween k (under_node j (inr p)) (over_node j (inr p))) (before_node l n i j q r)
    near_before j p (inl q) (inl r) = tt
    near_before j p (inl q) (inr r) =
        subst (λ (m : ℕ). n ≤ l.node_x m j → IsBetween k (height_of (l.node_y m j) -ℤ before (l.node_x m j)) (height_of (l.node_y m j) +ℤ before (l.node_x m j)) (level_second l (i - 1) j))
        (omega arith) (near_second (i - 1) j) p
    near_before j p (inr q) r = tt

    near_level : (j : ℕ) (d : Side l n i (l.node_x i j)) → IfThere (IsBetween k (under_node j d) (over_node j d)) (level_at l n i j d)
    near_level j (inl p) = near_behind j p (cases_lt i l.size) (cases_lt (16 * i + 8) n)
    near_level j (inr p) = near_before j p (cases_lt 0 i) (cases_lt l.size i)

    near_upper : (j : ℕ) (d : Side l n i (l.bend_x i j)) (e : Side l n i (l.node_x i (j + 1))) (r : (l.size < i) ⊎ (i ≤ l.size))
        → IfThere (IsBetween k (middle_of j) (under_node (j + 1) e)) (upper_at l n i j d e r)
    near_upper j (inl p) (inl q) r = tt
    near_upper j (inl p) (inr q) (inl r) = tt
    near_upper j (inl p) (inr q) (inr r) =
        let s = upright_second l i j in
        let f = second_steep l is i j in
        let right = f.rightwards in let back = f.leftwards in
        let runs : pos 0 <ℤ run s.segment = omega (arith, ints) in
        between_rightward k (middle_of j) (under_node (j + 1) (inr q)) s (omega (arith, ints))
        (end_under_falling k s.segment runs (is_before (l.node_x i (j + 1)) q) back) (start_over k s.segment runs (is_behind (l.bend_x i j) p) (omega (arith, ints)))
    near_upper j (inr p) (inl q) (inl r) = tt
    near_upper j (inr p) (inl q) (inr r) =
        let s = upright_second l i j in
        let f = second_steep l is i j in
        let right = f.rightwards in let back = f.leftwards in
        let runs : pos 0 <ℤ run (turned s.segment) = omega (arith, ints) in
        between_leftward k (middle_of j) (under_node (j + 1) (inl q)) s (omega (arith, ints))
        (start_under_falling k (turned s.segment) runs (is_behind (l.node_x i (j + 1)) q) (omega (arith, ints))) (end_over k (turned s.segment) runs (is_before (l.bend_x i j) p) (omega (arith, ints)))
    near_upper j (inr p) (inr q) r = tt

    near_lower : (j : ℕ) (d : Side l n i (l.node_x i j)) (e : Side l n i (l.bend_x i j)) (r : (l.size < i) ⊎ (i ≤ l.size))
        → IfThere (IsBetween k (over_node j d) (middle_of j)) (lower_at l n i j d e r)
    near_lower j (inl p) (inl q) r = tt
    near_lower j (inl p) (inr q) (inl r) = tt
    near_lower j (inl p) (inr q) (inr r) =
        let s = upright_first l i j in
        let f = first_steep l is i j in
        let right = f.rightwards in let back = f.leftwards in
        let runs : pos 0 <ℤ run s.segment = omega (arith, ints) in
        between_rightward k (over_node j (inl p)) (middle_of j) s (omega (arith, ints))
        (end_under k s.segment runs (is_before (l.bend_x i j) q) (omega (arith, ints))) (start_over_rising k s.segment runs (is_behind (l.node_x i j) p) back)
    near_lower j (inr p) (inl q) (inl r) = tt
    near_lower j (inr p) (inl q) (inr r) =
        let s = upright_first l i j in
        let f = first_steep l is i j in
        let right = f.rightwards in let back = f.leftwards in
        let runs : pos 0 <ℤ run (turned s.segment) = omega (arith, ints) in
        between_leftward k (over_node j (inr p)) (middle_of j) s (omega (arith, ints))
        (start_under k (turned s.segment) runs (is_behind (l.bend_x i j) q) (omega (arith, ints))) (end_over_rising k (turned s.segment) runs (is_before (l.node_x i j) p) (omega (arith, ints)))
    near_lower j (inr p) (inr q) r = tt

    near_narrow : (j : ℕ) (d : Side l n i (l.node_x i j)) → under_node j d ≤ℤ over_node j d
    near_narrow j (inl p) = let g = is_behind (l.node_x i j) p in omega (arith, ints)
    near_narrow j (inr p) = let g = is_before (l.node_x i j) p in omega (arith, ints)

    module _ (some : 0 < n) where
      near_below : (j : ℕ) (d : Side l n i (l.node_x i j)) → over_node j d ≤ℤ middle_of j
      near_below j (inl p) =
          let x = is.node_x i j in let y = is.node_y i j in
          let at = left.at_right (16 * i + 3) near in
          omega (arith, ints)
      near_below j (inr p) =
          let x = is.node_x i j in let y = is.node_y i j in
          let at = left.at_left (n - 1) (omega arith) in
          omega (arith, ints)

      near_above : (j : ℕ) (d : Side l n i (l.node_x i (j + 1))) → middle_of j ≤ℤ under_node (j + 1) d
      near_above j (inl p) =
          let x = is.node_x i (j + 1) in let y = is.node_y i (j + 1) in
          let at = left.at_right (16 * i + 3) near in
          omega (arith, ints)
      near_above j (inr p) =
          let x = is.node_x i (j + 1) in let y = is.node_y i (j + 1) in
          let at = left.at_left (n - 1) (omega arith) in
          omega (arith, ints)

      pub near_heights : AreHeights l n i k (λ j. under_node j (node_side l n i j)) (λ j. over_node j (node_side l n i j)) middle_of
      near_heights = record {
        level = λ j. near_level j (node_side l n i j);
        upper = λ j. near_upper j (bend_side l n i j) (node_side l n i (j + 1)) (cases_lt l.size i);
        lower = λ j. near_lower j (node_side l n i j) (bend_side l n i j) (cases_lt l.size i);
        narrow = λ j. near_narrow j (node_side l n i j);
        below_bends = λ j. near_below j (node_side l n i j);
        above_bends = λ j. near_above j (node_side l n i (j + 1));
      }

  -- ---- behind the nodes of the column and before those of the next one

  abbrev floor_of : ℕ → ℤ
  floor_of j = k.c *ℤ (pos (16 * j) -ℤ pos 1)

  abbrev ceiling_of : ℕ → ℤ
  ceiling_of j = k.c *ℤ pos (16 * j + 4)

  far_order : (j : ℕ) → floor_of j ≤ℤ ceiling_of j
  far_order j = omega (arith, ints)

  far_below : (j : ℕ) → ceiling_of j ≤ℤ middle_of j
  far_below j = omega (arith, ints)

  far_above : (j : ℕ) → middle_of j ≤ℤ floor_of (j + 1)
  far_above j = omega (arith, ints)

  module _ (far : 16 * i + 3 < n) (high : n < 16 * i + 16) where
    far_behind : (j : ℕ) (q : (i < l.size) ⊎ (l.size ≤ i)) (r : Side l n i (16 * i + 8)) → IfThere (IsBetween k (floor_of j) (ceiling_of j)) (behind_node l n i j q r)
    far_behind j (inl q) (inl r) =
        let s = level_second l i j in
        let x = is.node_x (i + 1) j in let y = is.node_y (i + 1) j in let b = is.bend_y i j in
        let runs : pos 0 <ℤ run s.segment = omega (arith, ints) in
        let starts = is_behind (16 * i + 8) r in
        let ends = is_before (l.node_x (i + 1) j) (omega arith) in
        between_rightward k (floor_of j) (ceiling_of j) s (omega (arith, ints))
        (under_level k s.segment runs (pos (16 * j + 4)) starts ends (omega (arith, ints)) (omega (arith, ints)))
        (over_level k s.segment runs (pos (16 * j) -ℤ pos 1) starts ends (omega (arith, ints)) (omega (arith, ints)))
    far_behind j (inl q) (inr r) =
        let s = level_first l i j in
        let x = is.node_x i j in let y = is.node_y i j in let b = is.bend_y i j in
        let runs : pos 0 <ℤ run s.segment = omega (arith, ints) in
        let starts = is_behind (l.node_x i j) (omega arith) in
        let ends = is_before (16 * i + 8) r in
        between_rightward k (floor_of j) (ceiling_of j) s (omega (arith, ints))
        (under_level k s.segment runs (pos (16 * j + 4)) starts ends (omega (arith, ints)) (omega (arith, ints)))
        (over_level k s.segment runs (pos (16 * j) -ℤ pos 1) starts ends (omega (arith, ints)) (omega (arith, ints)))
    far_behind j (inr q) r = tt

    far_level : (j : ℕ) (d : Side l n i (l.node_x i j)) → IfThere (IsBetween k (floor_of j) (ceiling_of j)) (level_at l n i j d)
    far_level j (inl p) = far_behind j (cases_lt i l.size) (cases_lt (16 * i + 8) n)
    far_level j (inr p) = let x = is.node_x i j in absurd (omega arith)

    far_upper : (j : ℕ) (d : Side l n i (l.bend_x i j)) (e : Side l n i (l.node_x i (j + 1))) (r : (l.size < i) ⊎ (i ≤ l.size))
        → IfThere (IsBetween k (middle_of j) (floor_of (j + 1))) (upper_at l n i j d e r)
    far_upper j (inl p) (inl q) r = tt
    far_upper j (inl p) (inr q) r = let x = is.node_x i (j + 1) in absurd (omega arith)
    far_upper j (inr p) e r = let x = is.bend_x i j in absurd (omega arith)

    far_lower : (j : ℕ) (d : Side l n i (l.node_x i j)) (e : Side l n i (l.bend_x i j)) (r : (l.size < i) ⊎ (i ≤ l.size))
        → IfThere (IsBetween k (ceiling_of j) (middle_of j)) (lower_at l n i j d e r)
    far_lower j (inl p) (inl q) r = tt
    far_lower j (inl p) (inr q) r = let x = is.bend_x i j in absurd (omega arith)
    far_lower j (inr p) e r = let x = is.node_x i j in absurd (omega arith)

    pub far_heights : AreHeights l n i k floor_of ceiling_of middle_of
    far_heights = record {
      level = λ j. far_level j (node_side l n i j);
      upper = λ j. far_upper j (bend_side l n i j) (node_side l n i (j + 1)) (cases_lt l.size i);
      lower = λ j. far_lower j (node_side l n i j) (bend_side l n i j) (cases_lt l.size i);
      narrow = far_order;
      below_bends = far_below;
      above_bends = far_above;
    }

  -- ---- before all nodes

  module _ (none : n ≡ 0) where
    no_level : (j : ℕ) (d : Side l n i (l.node_x i j)) → IfThere (IsBetween k (floor_of j) (ceiling_of j)) (level_at l n i j d)
    no_level j (inl p) = absurd (omega arith)
    no_level j (inr p) = by (cases_lt 0 i) (cases_lt l.size i)
      where
        by : (q : (0 < i) ⊎ (i ≤ 0)) (r : (l.size < i) ⊎ (i ≤ l.size)) → IfThere (IsBetween k (floor_of j) (ceiling_of j)) (before_node l n i j q r)
        by (inl q) r = absurd (omega arith)
        by (inr q) r = tt

    no_upper : (j : ℕ) (d : Side l n i (l.bend_x i j)) (e : Side l n i (l.node_x i (j + 1))) (r : (l.size < i) ⊎ (i ≤ l.size))
        → IfThere (IsBetween k (middle_of j) (floor_of (j + 1))) (upper_at l n i j d e r)
    no_upper j (inl p) e r = absurd (omega arith)
    no_upper j (inr p) (inl q) r = absurd (omega arith)
    no_upper j (inr p) (inr q) r = tt

    no_lower : (j : ℕ) (d : Side l n i (l.node_x i j)) (e : Side l n i (l.bend_x i j)) (r : (l.size < i) ⊎ (i ≤ l.size))
        → IfThere (IsBetween k (ceiling_of j) (middle_of j)) (lower_at l n i j d e r)
    no_lower j (inl p) e r = absurd (omega arith)
    no_lower j (inr p) (inl q) r = absurd (omega arith)
    no_lower j (inr p) (inr q) r = tt

    pub no_heights : AreHeights l n i k floor_of ceiling_of middle_of
    no_heights = record {
      level = λ j. no_level j (node_side l n i j);
      upper = λ j. no_upper j (bend_side l n i j) (node_side l n i (j + 1)) (cases_lt l.size i);
      lower = λ j. no_lower j (node_side l n i j) (bend_side l n i j) (cases_lt l.size i);
      narrow = far_order;
      below_bends = far_below;
      above_bends = far_above;
    }

  -- ---- in all cases

  pub ladder_ordered : n < 16 * i + 16 → AreOrdered (higher k) (rungs l n i l.size)
  ladder_ordered high = elim (cases_lt (16 * i + 3) n) [
    | inl far ↦ by floor_of ceiling_of (far_heights far high)
    | inr near ↦ elim (cases_lt 0 n) [
      | inl some ↦ by (λ j. under_node j (node_side l n i j)) (λ j. over_node j (node_side l n i j)) (near_heights near some)
      | inr none ↦ by floor_of ceiling_of (no_heights (omega arith))
    ]
  ]
    where
      by : (lows highs : ℕ → ℤ) → AreHeights l n i k lows highs middle_of → AreOrdered (higher k) (rungs l n i l.size)
      by lows highs h = ordered_by_height k (highs l.size) (rungs l n i l.size) (ladder_hangs l n i k lows highs middle_of h l.size)
