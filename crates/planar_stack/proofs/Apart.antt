-- A segment whose ends all have greater ordinates than those of another one is higher on each line that crosses both.
use Rattle.std.proofs.Common.{◌≡◌, Bool, true, false, cond, [], ◌∷◌, ℤ, pos, ◌+ℤ◌, ◌-ℤ◌, ◌*ℤ◌, ◌<ℤ◌, refl, sym, ap₂, ◌∙◌, arith}
use Rattle.std.proofs.lemmas.Int.{ints, int_max_is, int_min_is}
use Rattle.lemmas.proofs.Polynomials.{same_value, var, ◌⊕◌, ◌⊖◌, ◌⊗◌}
use Rattle.lemmas.proofs.Signs.{Decides-int_lt, int_lt-from_le, le_from_lt, sub_positive, lt_from_sub, mul_positive, positive_by}
use Rattle.tgap_model.specs.declared.geometry.Seg.{Seg}
use Rattle.tgap_model.specs.Segment.{Line, crosses, goes_right, rightward, run, height, is_higher}
use Rattle.planar_stack.specs.Sweep.{lowest, highest}
use Rattle.planar_stack.proofs.Crossings.{Spans, turned, spans_from_crosses}

-- each end of the first segment has a greater ordinate than each of the second
record AreOver (q r : Seg) : Type 0 where
  aa : r.a.y <ℤ q.a.y
  ab : r.b.y <ℤ q.a.y
  ba : r.a.y <ℤ q.b.y
  bb : r.b.y <ℤ q.b.y

over_from_ordinates : (s t : Seg) → highest t <ℤ lowest s → AreOver s t
over_from_ordinates s t h = record {
  aa = omega (arith, ints, h, int_max_is t.a.y t.b.y, int_min_is s.a.y s.b.y);
  ab = omega (arith, ints, h, int_max_is t.a.y t.b.y, int_min_is s.a.y s.b.y);
  ba = omega (arith, ints, h, int_max_is t.a.y t.b.y, int_min_is s.a.y s.b.y);
  bb = omega (arith, ints, h, int_max_is t.a.y t.b.y, int_min_is s.a.y s.b.y);
}

over_rightward : (s t : Seg) → AreOver s t → AreOver (rightward s) (rightward t)
over_rightward s t o = by (goes_right s) (goes_right t)
  where
    by : (b c : Bool) → AreOver (cond b s (turned s)) (cond c t (turned t))
    by true true = o
    by true false = record { aa = o.ab; ab = o.aa; ba = o.bb; bb = o.ba }
    by false true = record { aa = o.ba; ab = o.bb; ba = o.aa; bb = o.ab }
    by false false = record { aa = o.bb; ab = o.ba; ba = o.ab; bb = o.aa }

-- ---- weights: how far the line is from the abscissa of the other end

-- the height is that of the ends, each with its weight
weighted : (l : Line) (q : Seg) → height l q ≡ (l.c *ℤ q.b.x -ℤ l.a) *ℤ q.a.y +ℤ (l.a -ℤ l.c *ℤ q.a.x) *ℤ q.b.y
weighted l q = same_value (l.a ∷ l.c ∷ q.a.x ∷ q.a.y ∷ q.b.x ∷ q.b.y ∷ [])
    (var 0 ⊗ (var 5 ⊖ var 3) ⊖ var 1 ⊗ (var 2 ⊗ var 5 ⊖ var 4 ⊗ var 3))
    ((var 1 ⊗ var 4 ⊖ var 0) ⊗ var 3 ⊕ (var 0 ⊖ var 1 ⊗ var 2) ⊗ var 5) refl

-- and the weights together are the run
weights : (l : Line) (q : Seg) → l.c *ℤ run q ≡ (l.c *ℤ q.b.x -ℤ l.a) +ℤ (l.a -ℤ l.c *ℤ q.a.x)
weights l q = same_value (l.a ∷ l.c ∷ q.a.x ∷ q.b.x ∷ [])
    (var 1 ⊗ (var 3 ⊖ var 2))
    ((var 1 ⊗ var 3 ⊖ var 0) ⊕ (var 0 ⊖ var 1 ⊗ var 2)) refl

sum_positive : {a b : ℤ} → pos 0 <ℤ a → pos 0 <ℤ b → pos 0 <ℤ (a +ℤ b)
sum_positive {a} {b} h k = omega (arith, ints, h, k)

-- the differences of the ordinates, each with the weights of both ends
differences : (w v u t y z p r : ℤ) → w *ℤ (u *ℤ (y -ℤ p) +ℤ t *ℤ (y -ℤ r)) +ℤ v *ℤ (u *ℤ (z -ℤ p) +ℤ t *ℤ (z -ℤ r))
    ≡ (w *ℤ y +ℤ v *ℤ z) *ℤ (u +ℤ t) -ℤ (u *ℤ p +ℤ t *ℤ r) *ℤ (w +ℤ v)
differences w v u t y z p r = same_value (w ∷ v ∷ u ∷ t ∷ y ∷ z ∷ p ∷ r ∷ [])
    (var 0 ⊗ (var 2 ⊗ (var 4 ⊖ var 6) ⊕ var 3 ⊗ (var 4 ⊖ var 7)) ⊕ var 1 ⊗ (var 2 ⊗ (var 5 ⊖ var 6) ⊕ var 3 ⊗ (var 5 ⊖ var 7)))
    ((var 0 ⊗ var 4 ⊕ var 1 ⊗ var 5) ⊗ (var 2 ⊕ var 3) ⊖ (var 2 ⊗ var 6 ⊕ var 3 ⊗ var 7) ⊗ (var 0 ⊕ var 1)) refl

common_factor : (c h n g m : ℤ) → h *ℤ (c *ℤ n) -ℤ g *ℤ (c *ℤ m) ≡ c *ℤ (h *ℤ n -ℤ g *ℤ m)
common_factor c h n g m = same_value (c ∷ h ∷ n ∷ g ∷ m ∷ [])
    (var 1 ⊗ (var 0 ⊗ var 2) ⊖ var 3 ⊗ (var 0 ⊗ var 4))
    (var 0 ⊗ (var 1 ⊗ var 2 ⊖ var 3 ⊗ var 4)) refl

-- ---- heights

over_is_higher : (l : Line) (q r : Seg) → pos 0 <ℤ l.c → Spans l q → Spans l r → AreOver q r → (height l r *ℤ run q) <ℤ (height l q *ℤ run r)
over_is_higher l q r c sq sr o = lt_from_sub (height l r *ℤ run q) (height l q *ℤ run r)
    (positive_by w v c
    (sum_positive (mul_positive u (sub_positive o.aa)) (mul_positive t (sub_positive o.ab)))
    (sum_positive (mul_positive u (sub_positive o.ba)) (mul_positive t (sub_positive o.bb)))
    (differences (l.c *ℤ q.b.x -ℤ l.a) (l.a -ℤ l.c *ℤ q.a.x) (l.c *ℤ r.b.x -ℤ l.a) (l.a -ℤ l.c *ℤ r.a.x) q.a.y q.b.y r.a.y r.b.y
    ∙ sym (ap₂ (λ (x y : ℤ). x -ℤ y) (ap₂ (λ (x y : ℤ). x *ℤ y) (weighted l q) (weights l r)) (ap₂ (λ (x y : ℤ). x *ℤ y) (weighted l r) (weights l q)))
    ∙ common_factor l.c (height l q) (run r) (height l r) (run q)))
  where
    w : pos 0 <ℤ (l.c *ℤ q.b.x -ℤ l.a)
    w = sub_positive sq.right

    v : pos 0 <ℤ (l.a -ℤ l.c *ℤ q.a.x)
    v = sub_positive sq.left

    u : pos 0 <ℤ (l.c *ℤ r.b.x -ℤ l.a)
    u = sub_positive sr.right

    t : pos 0 <ℤ (l.a -ℤ l.c *ℤ r.a.x)
    t = sub_positive sr.left

module _ (l : Line) (c : pos 0 <ℤ l.c) (s t : Seg) (cs : crosses l s ≡ true) (ct : crosses l t ≡ true) (apart : highest t <ℤ lowest s) where
  compared : (height l (rightward t) *ℤ run (rightward s)) <ℤ (height l (rightward s) *ℤ run (rightward t))
  compared = over_is_higher l (rightward s) (rightward t) c (spans_from_crosses l s c cs) (spans_from_crosses l t c ct) (over_rightward s t (over_from_ordinates s t apart))

  pub higher_from_ordinates : is_higher l s t ≡ true
  unfolding is_higher
  higher_from_ordinates = (Decides-int_lt (height l (rightward t) *ℤ run (rightward s)) (height l (rightward s) *ℤ run (rightward t))).1 compared

  pub lower_from_ordinates : is_higher l t s ≡ false
  unfolding is_higher
  lower_from_ordinates = int_lt-from_le (le_from_lt compared)
