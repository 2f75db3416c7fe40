-- The four spokes that a node of a layout may have, counter-clockwise: to the right, up, to the left, and down. The one to the right is
-- the first of them where it does not fall, and the last where it does.
use Rattle.std.proofs.Common.{◌≡◌, ◌⊎◌, inl, inr, ℕ, ◌&&◌, ◌||◌, ◌==◌, Bool, true, false, cond, nat_lt, ℤ, pos, ◌+ℤ◌, ◌-ℤ◌, ◌*ℤ◌, ◌<ℤ◌, ◌≤ℤ◌, int_lt, [], ◌∷◌, refl, sym, ap, ap₂, ◌∙◌, subst, arith}
use Rattle.std.specs.Ordering.{int_eq}
use Rattle.std.proofs.lemmas.Int.{ints}
use Rattle.std.proofs.lemmas.Bool.{or_left, or_right, and_from, and_left, and_right, false_from_ne_true}
use Rattle.std.proofs.lemmas.Bool.Decides.{Decides-int_eq}
use Rattle.lemmas.proofs.Polynomials.{same_value, var, ◌⊕◌, ◌⊖◌, ◌⊗◌}
use Rattle.lemmas.proofs.Signs.{Decides-int_lt, by_order, int_lt-from_le, le_from_lt, le_from_same, sub_positive, apart_from_lt, mul_positive, mul_not_negative}
use Rattle.tgap_model.specs.declared.geometry.Point.{Point}
use Rattle.tgap_model.specs.declared.geometry.Seg.{Seg}
use Rattle.tgap_model.specs.Point.{cross}
use Rattle.tgap_model.specs.Segment.{half_turn, turns_before}
use Rattle.generator.proofs.Layouts.{IsFlat, IsSteep}
use Rattle.generator.proofs.Touching.{turn_positive}

-- ---- the two halves of a turn

half_by : (o p : Point) (b : Bool) → (int_lt o.y p.y || (int_eq o.y p.y && int_lt o.x p.x)) ≡ b → half_turn o p ≡ cond b 0 1
half_by o p b e = ap (λ (c : Bool). cond c 0 1) e

first_half : (o p : Point) → (o.y <ℤ p.y) ⊎ ((o.y ≡ p.y) × (o.x <ℤ p.x)) → half_turn o p ≡ 0
first_half o p (inl h) = half_by o p true (or_left _ _ ((Decides-int_lt o.y p.y).1 h))
first_half o p (inr h) = half_by o p true (or_right (int_lt o.y p.y) _ (and_from _ _ ((Decides-int_eq o.y p.y).1 h.0) ((Decides-int_lt o.x p.x).1 h.1)))

second_half : (o p : Point) → p.y ≤ℤ o.y → (p.y <ℤ o.y) ⊎ (p.x ≤ℤ o.x) → half_turn o p ≡ 1
second_half o p h k = half_by o p false (ap (λ (b : Bool). b || (int_eq o.y p.y && int_lt o.x p.x)) (int_lt-from_le h) ∙ by k)
  where
    by : (p.y <ℤ o.y) ⊎ (p.x ≤ℤ o.x) → (int_eq o.y p.y && int_lt o.x p.x) ≡ false
    by (inl m) = and_left (int_eq o.y p.y) (int_lt o.x p.x) (false_from_ne_true (int_eq o.y p.y) (λ e. apart_from_lt m (sym ((Decides-int_eq o.y p.y).0 e))))
    by (inr m) = and_right (int_eq o.y p.y) (int_lt o.x p.x) (int_lt-from_le m)

half_cases : (o p : Point) → (half_turn o p ≡ 0) ⊎ (half_turn o p ≡ 1)
half_cases o p = by (int_lt o.y p.y || (int_eq o.y p.y && int_lt o.x p.x)) refl
  where
    by : (b : Bool) → (int_lt o.y p.y || (int_eq o.y p.y && int_lt o.x p.x)) ≡ b → (half_turn o p ≡ 0) ⊎ (half_turn o p ≡ 1)
    by true e = inl (half_by o p true e)
    by false e = inr (half_by o p false e)

in_halves : (o p q : Point) (a b : ℕ) → half_turn o p ≡ a → half_turn o q ≡ b → turns_before o p q ≡ (nat_lt a b || ((a == b) && int_lt (pos 0) (cross o p q)))
unfolding turns_before
in_halves o p q a b h k = ap₂ (λ (m n : ℕ). nat_lt m n || ((m == n) && int_lt (pos 0) (cross o p q))) h k

-- a direction of the first half comes before one of the second
before_by_halves : (o p q : Point) → half_turn o p ≡ 0 → half_turn o q ≡ 1 → turns_before o p q ≡ true
before_by_halves o p q h k = in_halves o p q 0 1 h k

-- a turn to the left from a direction of the first half, and to one of the second
before_from_first : (o p q : Point) → half_turn o p ≡ 0 → pos 0 <ℤ cross o p q → turns_before o p q ≡ true
before_from_first o p q h k = elim (half_cases o q) [
  | inl e ↦ in_halves o p q 0 0 h e ∙ (Decides-int_lt (pos 0) (cross o p q)).1 k
  | inr e ↦ before_by_halves o p q h e
]

before_to_second : (o p q : Point) → half_turn o q ≡ 1 → pos 0 <ℤ cross o p q → turns_before o p q ≡ true
before_to_second o p q h k = elim (half_cases o p) [
  | inl e ↦ before_by_halves o p q e h
  | inr e ↦ in_halves o p q 1 1 e h ∙ (Decides-int_lt (pos 0) (cross o p q)).1 k
]

-- ---- a node o, and the points to the right, up, to the left and down toward which its spokes go

abbrev pub between : Point → Point → Seg
between a b = record { a = a; b = b }

up_half : (o u : Point) → IsSteep (between o u) → half_turn o u ≡ 0
up_half o u f = let right = f.rightwards in let left = f.leftwards in first_half o u (inl (omega (arith, ints)))

down_half : (o d : Point) → IsSteep (between d o) → half_turn o d ≡ 1
down_half o d f = let right = f.rightwards in let left = f.leftwards in second_half o d (omega (arith, ints)) (inl (omega (arith, ints)))

rising_half : (o r : Point) → IsFlat (between o r) → o.y ≤ℤ r.y → half_turn o r ≡ 0
rising_half o r f h =
    let up = f.rising in let down = f.falling in
    first_half o r (by_order o.y r.y inl (λ e. inr (e, omega (arith, ints))) (λ k. absurd (omega (arith, ints))))

falling_half : (o r : Point) → r.y <ℤ o.y → half_turn o r ≡ 1
falling_half o r h = second_half o r (le_from_lt h) (inl h)

left_half : (o w : Point) → IsFlat (between w o) → w.y ≤ℤ o.y → half_turn o w ≡ 1
left_half o w f h = let up = f.rising in let down = f.falling in second_half o w h (inr (omega (arith, ints)))

pub right_up : (o r u : Point) → IsFlat (between o r) → IsSteep (between o u) → o.y ≤ℤ r.y → turns_before o r u ≡ true
right_up o r u f g h = before_from_first o r u (rising_half o r f h) (turn_positive (between o r) (between o u) f g)

pub right_left : (o r w : Point) → IsFlat (between o r) → IsFlat (between w o) → o.y ≤ℤ r.y → turns_before o r w ≡ true
right_left o r w f g h = by_order o.y w.y
    (λ k. before_from_first o r w (rising_half o r f h) (opposite k))
    (λ e. before_by_halves o r w (rising_half o r f h) (left_half o w g (le_from_same (sym e))))
    (λ k. before_by_halves o r w (rising_half o r f h) (left_half o w g (le_from_lt k)))
  where
    opposite : o.y <ℤ w.y → pos 0 <ℤ cross o r w
    opposite k =
        let up = f.rising in let down = f.falling in let rise = g.rising in let fall = g.falling in
        let first : pos 0 <ℤ ((r.x -ℤ o.x) *ℤ (w.y -ℤ o.y)) = mul_positive {a = r.x -ℤ o.x} {b = w.y -ℤ o.y} (omega (arith, ints)) (sub_positive k) in
        let second : pos 0 ≤ℤ ((r.y -ℤ o.y) *ℤ (o.x -ℤ w.x)) = mul_not_negative {a = r.y -ℤ o.y} {b = o.x -ℤ w.x} (omega (arith, ints)) (omega (arith, ints)) in
        let sum : cross o r w ≡ (r.x -ℤ o.x) *ℤ (w.y -ℤ o.y) +ℤ (r.y -ℤ o.y) *ℤ (o.x -ℤ w.x)
        = same_value (o.x ∷ o.y ∷ r.x ∷ r.y ∷ w.x ∷ w.y ∷ []) ((var 2 ⊖ var 0) ⊗ (var 5 ⊖ var 1) ⊖ (var 3 ⊖ var 1) ⊗ (var 4 ⊖ var 0))
        ((var 2 ⊖ var 0) ⊗ (var 5 ⊖ var 1) ⊕ (var 3 ⊖ var 1) ⊗ (var 0 ⊖ var 4)) refl in
        subst (λ (z : ℤ). pos 0 <ℤ z) (sym sum) (positive_sum first second)
      where
        positive_sum : {x y : ℤ} → pos 0 <ℤ x → pos 0 ≤ℤ y → pos 0 <ℤ (x +ℤ y)
        positive_sum h k = omega (arith, ints)

pub right_down : (o r d : Point) → IsFlat (between o r) → IsSteep (between d o) → o.y ≤ℤ r.y → turns_before o r d ≡ true
right_down o r d f g h = before_by_halves o r d (rising_half o r f h) (down_half o d g)

pub up_left : (o u w : Point) → IsSteep (between o u) → IsFlat (between w o) → turns_before o u w ≡ true
up_left o u w f g = before_from_first o u w (up_half o u f) (subst (λ (z : ℤ). pos 0 <ℤ z)
    (same_value (o.x ∷ o.y ∷ u.x ∷ u.y ∷ w.x ∷ w.y ∷ []) ((var 0 ⊖ var 4) ⊗ (var 3 ⊖ var 1) ⊖ (var 1 ⊖ var 5) ⊗ (var 2 ⊖ var 0))
    ((var 2 ⊖ var 0) ⊗ (var 5 ⊖ var 1) ⊖ (var 3 ⊖ var 1) ⊗ (var 4 ⊖ var 0)) refl)
    (turn_positive (between w o) (between o u) g f))

pub up_down : (o u d : Point) → IsSteep (between o u) → IsSteep (between d o) → turns_before o u d ≡ true
up_down o u d f g = before_by_halves o u d (up_half o u f) (down_half o d g)

pub up_right : (o u r : Point) → IsSteep (between o u) → r.y <ℤ o.y → turns_before o u r ≡ true
up_right o u r f h = before_by_halves o u r (up_half o u f) (falling_half o r h)

pub left_down : (o w d : Point) → IsFlat (between w o) → IsSteep (between d o) → turns_before o w d ≡ true
left_down o w d f g = before_to_second o w d (down_half o d g) (subst (λ (z : ℤ). pos 0 <ℤ z)
    (same_value (o.x ∷ o.y ∷ w.x ∷ w.y ∷ d.x ∷ d.y ∷ []) ((var 0 ⊖ var 2) ⊗ (var 1 ⊖ var 5) ⊖ (var 1 ⊖ var 3) ⊗ (var 0 ⊖ var 4))
    ((var 2 ⊖ var 0) ⊗ (var 5 ⊖ var 1) ⊖ (var 3 ⊖ var 1) ⊗ (var 4 ⊖ var 0)) refl)
    (turn_positive (between w o) (between d o) f g))

pub left_right : (o w r : Point) → IsFlat (between w o) → IsFlat (between o r) → r.y <ℤ o.y → turns_before o w r ≡ true
left_right o w r f g h = by_order o.y w.y
    (λ k. before_by_halves o w r (first_half o w (inl k)) (falling_half o r h))
    (λ e. before_to_second o w r (falling_half o r h) (opposite (le_from_same (sym e))))
    (λ k. before_to_second o w r (falling_half o r h) (opposite (le_from_lt k)))
  where
    opposite : w.y ≤ℤ o.y → pos 0 <ℤ cross o w r
    opposite k =
        let up = f.rising in let down = f.falling in let rise = g.rising in let fall = g.falling in
        let first : pos 0 <ℤ ((o.x -ℤ w.x) *ℤ (o.y -ℤ r.y)) = mul_positive {a = o.x -ℤ w.x} {b = o.y -ℤ r.y} (omega (arith, ints)) (sub_positive h) in
        let second : pos 0 ≤ℤ ((o.y -ℤ w.y) *ℤ (r.x -ℤ o.x)) = mul_not_negative {a = o.y -ℤ w.y} {b = r.x -ℤ o.x} (omega (arith, ints)) (omega (arith, ints)) in
        let sum : cross o w r ≡ (o.x -ℤ w.x) *ℤ (o.y -ℤ r.y) +ℤ (o.y -ℤ w.y) *ℤ (r.x -ℤ o.x)
        = same_value (o.x ∷ o.y ∷ w.x ∷ w.y ∷ r.x ∷ r.y ∷ []) ((var 2 ⊖ var 0) ⊗ (var 5 ⊖ var 1) ⊖ (var 3 ⊖ var 1) ⊗ (var 4 ⊖ var 0))
        ((var 0 ⊖ var 2) ⊗ (var 1 ⊖ var 5) ⊕ (var 1 ⊖ var 3) ⊗ (var 4 ⊖ var 0)) refl in
        subst (λ (z : ℤ). pos 0 <ℤ z) (sym sum) (positive_sum first second)
      where
        positive_sum : {x y : ℤ} → pos 0 <ℤ x → pos 0 ≤ℤ y → pos 0 <ℤ (x +ℤ y)
        positive_sum h k = omega (arith, ints)

pub down_right : (o d r : Point) → IsSteep (between d o) → IsFlat (between o r) → r.y <ℤ o.y → turns_before o d r ≡ true
down_right o d r f g h = before_to_second o d r (falling_half o r h) (subst (λ (z : ℤ). pos 0 <ℤ z)
    (same_value (o.x ∷ o.y ∷ d.x ∷ d.y ∷ r.x ∷ r.y ∷ []) ((var 4 ⊖ var 0) ⊗ (var 1 ⊖ var 3) ⊖ (var 5 ⊖ var 1) ⊗ (var 0 ⊖ var 2))
    ((var 2 ⊖ var 0) ⊗ (var 5 ⊖ var 1) ⊖ (var 3 ⊖ var 1) ⊗ (var 4 ⊖ var 0)) refl)
    (turn_positive (between o r) (between d o) g f))
