-- The height of a segment on a line that crosses it, against a height that has a whole number over the line's denominator: by how fast it
-- rises or falls from one of its ends, or by the heights of both.
use Rattle.std.proofs.Common.{◌≡◌, Bool, true, false, cond, [], ◌∷◌, ℤ, pos, negsuc, neg_ℤ, ◌+ℤ◌, ◌-ℤ◌, ◌*ℤ◌, ◌<ℤ◌, ◌≤ℤ◌, int_lt, refl, sym, ap, subst, arith}
use Rattle.std.proofs.lemmas.Int.{ints}
use Rattle.std.proofs.Math.IntN.{zero-*ℤ}
use Rattle.lemmas.proofs.Integers.{*ℤ_right_comm, one-*ℤ}
use Rattle.lemmas.proofs.Polynomials.{same_value, var, number, minus, ◌⊕◌, ◌⊖◌, ◌⊗◌}
use Rattle.lemmas.proofs.Signs.{Decides-int_lt, int_lt-from_le, le_from_lt, lt_lt_trans, lt_le_trans, lt_from_sub, sub_positive, mul_positive, mul_lt_right, mul_le_right}
use Rattle.tgap_model.specs.declared.geometry.Seg.{Seg}
use Rattle.tgap_model.specs.declared.segment.LabelledSegment.{LabelledSegment}
use Rattle.tgap_model.specs.Segment.{Line, run, rise, height, rightward}
use Rattle.tgap_model.specs.Partition.{Sides, sides}
use Rattle.planar_stack.proofs.Crossings.{turned}
use Rattle.planar_stack.proofs.Heights.{higher, higher_from_heights}

-- a segment that goes to the right is higher than z over the denominator of the line, or lower
pub record IsOver (k : Line) (z : ℤ) (r : Seg) : Type 0 where
  pub runs : pos 0 <ℤ run r
  pub over : (z *ℤ run r) <ℤ height k r

pub record IsUnder (k : Line) (z : ℤ) (r : Seg) : Type 0 where
  pub runs : pos 0 <ℤ run r
  pub under : height k r <ℤ (z *ℤ run r)

-- one that is over a height is higher than one that is under it
pub higher_between : (k : Line) (z : ℤ) (s t : LabelledSegment) → IsOver k z (rightward s.segment) → IsUnder k z (rightward t.segment) → higher k s t ≡ true
higher_between k z s t f g =
    higher_from_heights k s t (lt_lt_trans (mul_lt_right f.runs g.under)
    (subst (λ (w : ℤ). w <ℤ (height k (rightward s.segment) *ℤ run (rightward t.segment))) (*ℤ_right_comm z (run (rightward s.segment)) (run (rightward t.segment))) (mul_lt_right g.runs f.over)))

-- what is under a height is under a greater one
pub under_more : (k : Line) (z w : ℤ) (r : Seg) → z ≤ℤ w → IsUnder k z r → IsUnder k w r
under_more k z w r h f = record { runs = f.runs; under = lt_le_trans f.under (mul_le_right (le_from_lt f.runs) h) }

-- ---- the direction of a segment

pub rightward_same : (s : Seg) → s.a.x <ℤ s.b.x → rightward s ≡ s
rightward_same s h = ap (λ (b : Bool). cond b s (turned s)) ((Decides-int_lt s.a.x s.b.x).1 h)

pub rightward_turned : (s : Seg) → s.b.x <ℤ s.a.x → rightward s ≡ turned s
rightward_turned s h = ap (λ (b : Bool). cond b s (turned s)) (int_lt-from_le (le_from_lt h))

-- ---- from an end

-- how far the line is behind the first end of a segment, and before the last one, times its denominator
abbrev pub from_start : Line → Seg → ℤ
from_start k r = k.a -ℤ k.c *ℤ r.a.x

abbrev pub to_end : Line → Seg → ℤ
to_end k r = k.c *ℤ r.b.x -ℤ k.a

-- the height that is m times as far from that of the end
abbrev pub past_start : Line → Seg → ℤ → ℤ
past_start k r m = k.c *ℤ r.a.y +ℤ m *ℤ from_start k r

abbrev pub past_end : Line → Seg → ℤ → ℤ
past_end k r m = k.c *ℤ r.b.y +ℤ m *ℤ to_end k r

module _ (k : Line) (r : Seg) (runs : pos 0 <ℤ run r) where
  by_start : (m : ℤ) → height k r -ℤ past_start k r m *ℤ run r ≡ from_start k r *ℤ (rise r -ℤ m *ℤ run r)
  by_start m = same_value (k.a ∷ k.c ∷ r.a.x ∷ r.a.y ∷ r.b.x ∷ r.b.y ∷ m ∷ [])
      ((var 0 ⊗ (var 5 ⊖ var 3) ⊖ var 1 ⊗ (var 2 ⊗ var 5 ⊖ var 4 ⊗ var 3)) ⊖ (var 1 ⊗ var 3 ⊕ var 6 ⊗ (var 0 ⊖ var 1 ⊗ var 2)) ⊗ (var 4 ⊖ var 2))
      ((var 0 ⊖ var 1 ⊗ var 2) ⊗ ((var 5 ⊖ var 3) ⊖ var 6 ⊗ (var 4 ⊖ var 2))) refl

  by_start_turned : (m : ℤ) → past_start k r m *ℤ run r -ℤ height k r ≡ from_start k r *ℤ (m *ℤ run r -ℤ rise r)
  by_start_turned m = same_value (k.a ∷ k.c ∷ r.a.x ∷ r.a.y ∷ r.b.x ∷ r.b.y ∷ m ∷ [])
      ((var 1 ⊗ var 3 ⊕ var 6 ⊗ (var 0 ⊖ var 1 ⊗ var 2)) ⊗ (var 4 ⊖ var 2) ⊖ (var 0 ⊗ (var 5 ⊖ var 3) ⊖ var 1 ⊗ (var 2 ⊗ var 5 ⊖ var 4 ⊗ var 3)))
      ((var 0 ⊖ var 1 ⊗ var 2) ⊗ (var 6 ⊗ (var 4 ⊖ var 2) ⊖ (var 5 ⊖ var 3))) refl

  by_end : (m : ℤ) → height k r -ℤ past_end k r m *ℤ run r ≡ to_end k r *ℤ (neg_ℤ (rise r) -ℤ m *ℤ run r)
  by_end m = same_value (k.a ∷ k.c ∷ r.a.x ∷ r.a.y ∷ r.b.x ∷ r.b.y ∷ m ∷ [])
      ((var 0 ⊗ (var 5 ⊖ var 3) ⊖ var 1 ⊗ (var 2 ⊗ var 5 ⊖ var 4 ⊗ var 3)) ⊖ (var 1 ⊗ var 5 ⊕ var 6 ⊗ (var 1 ⊗ var 4 ⊖ var 0)) ⊗ (var 4 ⊖ var 2))
      ((var 1 ⊗ var 4 ⊖ var 0) ⊗ (minus (var 5 ⊖ var 3) ⊖ var 6 ⊗ (var 4 ⊖ var 2))) refl

  by_end_turned : (m : ℤ) → past_end k r m *ℤ run r -ℤ height k r ≡ to_end k r *ℤ (m *ℤ run r -ℤ neg_ℤ (rise r))
  by_end_turned m = same_value (k.a ∷ k.c ∷ r.a.x ∷ r.a.y ∷ r.b.x ∷ r.b.y ∷ m ∷ [])
      ((var 1 ⊗ var 5 ⊕ var 6 ⊗ (var 1 ⊗ var 4 ⊖ var 0)) ⊗ (var 4 ⊖ var 2) ⊖ (var 0 ⊗ (var 5 ⊖ var 3) ⊖ var 1 ⊗ (var 2 ⊗ var 5 ⊖ var 4 ⊗ var 3)))
      ((var 1 ⊗ var 4 ⊖ var 0) ⊗ (var 6 ⊗ (var 4 ⊖ var 2) ⊖ minus (var 5 ⊖ var 3))) refl

  product_over : (p q : ℤ) {x y : ℤ} → y -ℤ x ≡ p *ℤ q → pos 0 <ℤ p → pos 0 <ℤ q → x <ℤ y
  product_over p q {x} {y} e f g = lt_from_sub x y (subst (λ (w : ℤ). pos 0 <ℤ w) (sym e) (mul_positive f g))

  over_from_start : (m : ℤ) → pos 0 <ℤ from_start k r → (m *ℤ run r) <ℤ rise r → IsOver k (past_start k r m) r
  over_from_start m f g = record { runs = runs; over = product_over (from_start k r) (rise r -ℤ m *ℤ run r) (by_start m) f (sub_positive g) }

  under_from_start : (m : ℤ) → pos 0 <ℤ from_start k r → rise r <ℤ (m *ℤ run r) → IsUnder k (past_start k r m) r
  under_from_start m f g = record { runs = runs; under = product_over (from_start k r) (m *ℤ run r -ℤ rise r) (by_start_turned m) f (sub_positive g) }

  over_from_end : (m : ℤ) → pos 0 <ℤ to_end k r → (m *ℤ run r) <ℤ neg_ℤ (rise r) → IsOver k (past_end k r m) r
  over_from_end m f g = record { runs = runs; over = product_over (to_end k r) (neg_ℤ (rise r) -ℤ m *ℤ run r) (by_end m) f (sub_positive g) }

  under_from_end : (m : ℤ) → pos 0 <ℤ to_end k r → neg_ℤ (rise r) <ℤ (m *ℤ run r) → IsUnder k (past_end k r m) r
  under_from_end m f g = record { runs = runs; under = product_over (to_end k r) (m *ℤ run r -ℤ neg_ℤ (rise r)) (by_end_turned m) f (sub_positive g) }

  -- ---- by both ends

  sum_over : (p q u v : ℤ) {x y : ℤ} → y -ℤ x ≡ p *ℤ q +ℤ u *ℤ v → pos 0 <ℤ p → pos 0 <ℤ q → pos 0 <ℤ u → pos 0 <ℤ v → x <ℤ y
  sum_over p q u v {x} {y} e f g h i = let first = mul_positive f g in let second = mul_positive h i in omega (arith, ints)

  pub over_level : (z : ℤ) → pos 0 <ℤ from_start k r → pos 0 <ℤ to_end k r → z <ℤ r.a.y → z <ℤ r.b.y → IsOver k (k.c *ℤ z) r
  over_level z f g h i = record {
    runs = runs;
    over = sum_over (to_end k r) (r.a.y -ℤ z) (from_start k r) (r.b.y -ℤ z)
        (same_value (k.a ∷ k.c ∷ r.a.x ∷ r.a.y ∷ r.b.x ∷ r.b.y ∷ z ∷ [])
        ((var 0 ⊗ (var 5 ⊖ var 3) ⊖ var 1 ⊗ (var 2 ⊗ var 5 ⊖ var 4 ⊗ var 3)) ⊖ var 1 ⊗ var 6 ⊗ (var 4 ⊖ var 2))
        ((var 1 ⊗ var 4 ⊖ var 0) ⊗ (var 3 ⊖ var 6) ⊕ (var 0 ⊖ var 1 ⊗ var 2) ⊗ (var 5 ⊖ var 6)) refl)
        g (sub_positive h) f (sub_positive i);
  }

  pub under_level : (z : ℤ) → pos 0 <ℤ from_start k r → pos 0 <ℤ to_end k r → r.a.y <ℤ z → r.b.y <ℤ z → IsUnder k (k.c *ℤ z) r
  under_level z f g h i = record {
    runs = runs;
    under = sum_over (to_end k r) (z -ℤ r.a.y) (from_start k r) (z -ℤ r.b.y)
        (same_value (k.a ∷ k.c ∷ r.a.x ∷ r.a.y ∷ r.b.x ∷ r.b.y ∷ z ∷ [])
        (var 1 ⊗ var 6 ⊗ (var 4 ⊖ var 2) ⊖ (var 0 ⊗ (var 5 ⊖ var 3) ⊖ var 1 ⊗ (var 2 ⊗ var 5 ⊖ var 4 ⊗ var 3)))
        ((var 1 ⊗ var 4 ⊖ var 0) ⊗ (var 6 ⊖ var 3) ⊕ (var 0 ⊖ var 1 ⊗ var 2) ⊗ (var 6 ⊖ var 5)) refl)
        g (sub_positive h) f (sub_positive i);
  }

  -- ---- as fast as the abscissa, or at the height of the end

  up_from : (x g : ℤ) → x +ℤ pos 1 *ℤ g ≡ x +ℤ g
  up_from x g = same_value (x ∷ g ∷ []) (var 0 ⊕ number (pos 1) ⊗ var 1) (var 0 ⊕ var 1) refl

  down_from : (x g : ℤ) → x +ℤ negsuc 0 *ℤ g ≡ x -ℤ g
  down_from x g = same_value (x ∷ g ∷ []) (var 0 ⊕ number (negsuc 0) ⊗ var 1) (var 0 ⊖ var 1) refl

  level_from : (x g : ℤ) → x +ℤ pos 0 *ℤ g ≡ x
  level_from x g = same_value (x ∷ g ∷ []) (var 0 ⊕ number (pos 0) ⊗ var 1) (var 0) refl

  once : pos 1 *ℤ run r ≡ run r
  once = one-*ℤ (run r)

  opposite : negsuc 0 *ℤ run r ≡ neg_ℤ (run r)
  opposite = same_value (run r ∷ []) (number (negsuc 0) ⊗ var 0) (minus (var 0)) refl

  never : pos 0 *ℤ run r ≡ pos 0
  never = zero-*ℤ (run r)

  module _ (f : pos 0 <ℤ from_start k r) where
    pub start_over_falling : pos 0 <ℤ (run r +ℤ rise r) → IsOver k (k.c *ℤ r.a.y -ℤ from_start k r) r
    start_over_falling g = subst (λ (z : ℤ). IsOver k z r) (down_from (k.c *ℤ r.a.y) (from_start k r)) (over_from_start (negsuc 0) f (omega (arith, ints, g, opposite)))

    pub start_under_rising : pos 0 <ℤ (run r -ℤ rise r) → IsUnder k (k.c *ℤ r.a.y +ℤ from_start k r) r
    start_under_rising g = subst (λ (z : ℤ). IsUnder k z r) (up_from (k.c *ℤ r.a.y) (from_start k r)) (under_from_start (pos 1) f (omega (arith, ints, g, once)))

    pub start_over_rising : pos 0 <ℤ (rise r -ℤ run r) → IsOver k (k.c *ℤ r.a.y +ℤ from_start k r) r
    start_over_rising g = subst (λ (z : ℤ). IsOver k z r) (up_from (k.c *ℤ r.a.y) (from_start k r)) (over_from_start (pos 1) f (omega (arith, ints, g, once)))

    pub start_under_falling : (rise r +ℤ run r) <ℤ pos 0 → IsUnder k (k.c *ℤ r.a.y -ℤ from_start k r) r
    start_under_falling g = subst (λ (z : ℤ). IsUnder k z r) (down_from (k.c *ℤ r.a.y) (from_start k r)) (under_from_start (negsuc 0) f (omega (arith, ints, g, opposite)))

    pub start_over : pos 0 <ℤ rise r → IsOver k (k.c *ℤ r.a.y) r
    start_over g = subst (λ (z : ℤ). IsOver k z r) (level_from (k.c *ℤ r.a.y) (from_start k r)) (over_from_start (pos 0) f (omega (arith, ints, g, never)))

    pub start_under : rise r <ℤ pos 0 → IsUnder k (k.c *ℤ r.a.y) r
    start_under g = subst (λ (z : ℤ). IsUnder k z r) (level_from (k.c *ℤ r.a.y) (from_start k r)) (under_from_start (pos 0) f (omega (arith, ints, g, never)))

  module _ (f : pos 0 <ℤ to_end k r) where
    pub end_over_falling : pos 0 <ℤ (run r -ℤ rise r) → IsOver k (k.c *ℤ r.b.y -ℤ to_end k r) r
    end_over_falling g = subst (λ (z : ℤ). IsOver k z r) (down_from (k.c *ℤ r.b.y) (to_end k r)) (over_from_end (negsuc 0) f (omega (arith, ints, g, opposite)))

    pub end_under_rising : pos 0 <ℤ (run r +ℤ rise r) → IsUnder k (k.c *ℤ r.b.y +ℤ to_end k r) r
    end_under_rising g = subst (λ (z : ℤ). IsUnder k z r) (up_from (k.c *ℤ r.b.y) (to_end k r)) (under_from_end (pos 1) f (omega (arith, ints, g, once)))

    pub end_over_rising : (rise r +ℤ run r) <ℤ pos 0 → IsOver k (k.c *ℤ r.b.y +ℤ to_end k r) r
    end_over_rising g = subst (λ (z : ℤ). IsOver k z r) (up_from (k.c *ℤ r.b.y) (to_end k r)) (over_from_end (pos 1) f (omega (arith, ints, g, once)))

    pub end_under_falling : pos 0 <ℤ (rise r -ℤ run r) → IsUnder k (k.c *ℤ r.b.y -ℤ to_end k r) r
    end_under_falling g = subst (λ (z : ℤ). IsUnder k z r) (down_from (k.c *ℤ r.b.y) (to_end k r)) (under_from_end (negsuc 0) f (omega (arith, ints, g, opposite)))

    pub end_over : rise r <ℤ pos 0 → IsOver k (k.c *ℤ r.b.y) r
    end_over g = subst (λ (z : ℤ). IsOver k z r) (level_from (k.c *ℤ r.b.y) (to_end k r)) (over_from_end (pos 0) f (omega (arith, ints, g, never)))

    pub end_under : pos 0 <ℤ rise r → IsUnder k (k.c *ℤ r.b.y) r
    end_under g = subst (λ (z : ℤ). IsUnder k z r) (level_from (k.c *ℤ r.b.y) (to_end k r)) (under_from_end (pos 0) f (omega (arith, ints, g, never)))

-- the faces of a segment that goes to the right, and of one that goes to the left
pub sides_rightward : (s : LabelledSegment) → s.segment.a.x <ℤ s.segment.b.x → ((sides s).upper ≡ s.left) × ((sides s).lower ≡ s.right)
sides_rightward s h =
    let e = (Decides-int_lt s.segment.a.x s.segment.b.x).1 h in
    (ap (λ (b : Bool). (facing b).upper) e, ap (λ (b : Bool). (facing b).lower) e)
  where
    facing : Bool → Sides
    facing b = cond b (record { upper = s.left; lower = s.right }) (record { upper = s.right; lower = s.left })

pub sides_leftward : (s : LabelledSegment) → s.segment.b.x <ℤ s.segment.a.x → ((sides s).upper ≡ s.right) × ((sides s).lower ≡ s.left)
sides_leftward s h =
    let e : int_lt s.segment.a.x s.segment.b.x ≡ false = int_lt-from_le (le_from_lt h) in
    (ap (λ (b : Bool). (facing b).upper) e, ap (λ (b : Bool). (facing b).lower) e)
  where
    facing : Bool → Sides
    facing b = cond b (record { upper = s.left; lower = s.right }) (record { upper = s.right; lower = s.left })
