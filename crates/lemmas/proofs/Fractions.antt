-- Fractions with positive denominators, in order by cross multiplication, and the root of an affine function between two of them.
-- The fraction a / b stands before c / d where a * d is less than c * b.
use Rattle.std.proofs.Common.{◌≡◌, ◌≢◌, ◌⊎◌, inl, inr, ⊎_elim, ℕ, [], ◌∷◌, ℤ, pos, ◌+ℤ◌, ◌-ℤ◌, ◌*ℤ◌, neg_ℤ, ◌<ℤ◌, ◌≤ℤ◌, refl, sym, ap, ◌∙◌, subst}
use Rattle.std.specs.Int.Signed.{clash_ℤ}
use Rattle.lemmas.proofs.Integers.{*ℤ_right_comm}
use Rattle.lemmas.proofs.Polynomials.{Polynomial, same_value, var, number, ◌⊕◌, ◌⊖◌, ◌⊗◌, minus}
use Rattle.lemmas.proofs.Signs.{by_order, le_from_same, neg_positive, sub_negative, lt_by, apart_from_lt, mul_negative_right, mul_positive, negative_by, not_positive_by, lt_lt_trans, lt_le_trans, le_lt_trans, le_le_trans, le_from_lt, same_from_le, sub_positive, sub_not_negative, mul_lt_right, mul_le_right, lt_from_mul_left, le_from_mul_left, positive_by, not_negative_by, positive_by_first, positive_by_second, negative_by_first, negative_by_second}

-- ---- transitivity: a / b, c / d and e / f

lt_moved : {x y z w : ℤ} → x <ℤ y → x ≡ z → y ≡ w → z <ℤ w
lt_moved {x} {y} {z} {w} h e f = subst (λ (t : ℤ). z <ℤ t) f (subst (λ (t : ℤ). t <ℤ y) e h)

le_moved : {x y z w : ℤ} → x ≤ℤ y → x ≡ z → y ≡ w → z ≤ℤ w
le_moved {x} {y} {z} {w} h e f = subst (λ (t : ℤ). z ≤ℤ t) f (subst (λ (t : ℤ). t ≤ℤ y) e h)

-- the middle denominator as the first factor
to_front : (a d f : ℤ) → (a *ℤ d) *ℤ f ≡ d *ℤ (a *ℤ f)
to_front a d f = same_value (a ∷ d ∷ f ∷ []) (var 0 ⊗ var 1 ⊗ var 2) (var 1 ⊗ (var 0 ⊗ var 2)) refl

module _ (a c e : ℤ) {b d f : ℤ} (p : pos 0 <ℤ b) (q : pos 0 <ℤ d) (r : pos 0 <ℤ f) where
  pub fraction_lt_lt : (a *ℤ d) <ℤ (c *ℤ b) → (c *ℤ f) <ℤ (e *ℤ d) → (a *ℤ f) <ℤ (e *ℤ b)
  fraction_lt_lt h k = lt_from_mul_left d q (lt_lt_trans (lt_moved (mul_lt_right r h) (to_front a d f) (*ℤ_right_comm c b f)) (lt_moved (mul_lt_right p k) refl (to_front e d b)))

  pub fraction_lt_le : (a *ℤ d) <ℤ (c *ℤ b) → (c *ℤ f) ≤ℤ (e *ℤ d) → (a *ℤ f) <ℤ (e *ℤ b)
  fraction_lt_le h k = lt_from_mul_left d q (lt_le_trans (lt_moved (mul_lt_right r h) (to_front a d f) (*ℤ_right_comm c b f)) (le_moved (mul_le_right (le_from_lt p) k) refl (to_front e d b)))

  pub fraction_le_lt : (a *ℤ d) ≤ℤ (c *ℤ b) → (c *ℤ f) <ℤ (e *ℤ d) → (a *ℤ f) <ℤ (e *ℤ b)
  fraction_le_lt h k = lt_from_mul_left d q (le_lt_trans (le_moved (mul_le_right (le_from_lt r) h) (to_front a d f) (*ℤ_right_comm c b f)) (lt_moved (mul_lt_right p k) refl (to_front e d b)))

  pub fraction_le_le : (a *ℤ d) ≤ℤ (c *ℤ b) → (c *ℤ f) ≤ℤ (e *ℤ d) → (a *ℤ f) ≤ℤ (e *ℤ b)
  fraction_le_le h k = le_from_mul_left d q (le_le_trans (le_moved (mul_le_right (le_from_lt r) h) (to_front a d f) (*ℤ_right_comm c b f)) (le_moved (mul_le_right (le_from_lt p) k) refl (to_front e d b)))

-- equal fractions
pub fraction_same_same : (a c e : ℤ) {b d f : ℤ} → pos 0 <ℤ b → pos 0 <ℤ d → pos 0 <ℤ f → a *ℤ d ≡ c *ℤ b → c *ℤ f ≡ e *ℤ d → a *ℤ f ≡ e *ℤ b
fraction_same_same a c e p q r h k = same_from_le
    (fraction_le_le a c e p q r (le_from_same h) (le_from_same k))
    (fraction_le_le e c a r q p (le_from_same (sym k)) (le_from_same (sym h)))

pub fraction_same_lt : (a c e : ℤ) {b d f : ℤ} → pos 0 <ℤ b → pos 0 <ℤ d → pos 0 <ℤ f → a *ℤ d ≡ c *ℤ b → (c *ℤ f) <ℤ (e *ℤ d) → (a *ℤ f) <ℤ (e *ℤ b)
fraction_same_lt a c e p q r h k = fraction_le_lt a c e p q r (le_from_same h) k

pub fraction_lt_same : (a c e : ℤ) {b d f : ℤ} → pos 0 <ℤ b → pos 0 <ℤ d → pos 0 <ℤ f → (a *ℤ d) <ℤ (c *ℤ b) → c *ℤ f ≡ e *ℤ d → (a *ℤ f) <ℤ (e *ℤ b)
fraction_lt_same a c e p q r h k = fraction_lt_le a c e p q r h (le_from_same k)

-- ---- an affine function p * x + q, which has at u / c the sign of p * u + q * c

-- a root of it, under a positive denominator: strictly after u / c and strictly before v / d
pub record RootBetween (p q u c v d : ℤ) : Type 0 where
  pub root : ℤ
  pub under : ℤ
  pub positive : pos 0 <ℤ under
  pub is_root : p *ℤ root +ℤ q *ℤ under ≡ pos 0
  pub after : (u *ℤ under) <ℤ (root *ℤ c)
  pub before : (root *ℤ d) <ℤ (v *ℤ under)

-- the polynomial of p * u + q * c, at the numbers of u and c, where p has number 0 and q number 1
abbrev affine : ℕ → ℕ → Polynomial
affine i j = var 0 ⊗ var i ⊕ var 1 ⊗ var j

module _ (p q u v : ℤ) {c d : ℤ} (c_positive : pos 0 <ℤ c) (d_positive : pos 0 <ℤ d) where
  -- it rises from u / c to v / d where it is less at u / c, and v / d is after u / c
  pub slope_positive : (u *ℤ d) <ℤ (v *ℤ c) → (p *ℤ u +ℤ q *ℤ c) <ℤ pos 0 → pos 0 <ℤ (p *ℤ v +ℤ q *ℤ d) → pos 0 <ℤ p
  slope_positive further low high = positive_by {e = p *ℤ v +ℤ q *ℤ d} {f = pos 0 -ℤ (p *ℤ u +ℤ q *ℤ c)} c_positive d_positive (sub_positive further) high (sub_positive low)
      (same_value (p ∷ q ∷ u ∷ c ∷ v ∷ d ∷ []) (var 3 ⊗ affine 4 5 ⊕ var 5 ⊗ (number (pos 0) ⊖ affine 2 3)) ((var 4 ⊗ var 3 ⊖ var 2 ⊗ var 5) ⊗ var 0) refl)

  -- it falls
  pub slope_negative : (u *ℤ d) <ℤ (v *ℤ c) → pos 0 <ℤ (p *ℤ u +ℤ q *ℤ c) → (p *ℤ v +ℤ q *ℤ d) <ℤ pos 0 → p <ℤ pos 0
  slope_negative further high low = negative_by {e = p *ℤ v +ℤ q *ℤ d} {f = pos 0 -ℤ (p *ℤ u +ℤ q *ℤ c)} c_positive d_positive (sub_positive further) low (sub_negative high)
      (same_value (p ∷ q ∷ u ∷ c ∷ v ∷ d ∷ []) (var 3 ⊗ affine 4 5 ⊕ var 5 ⊗ (number (pos 0) ⊖ affine 2 3)) ((var 4 ⊗ var 3 ⊖ var 2 ⊗ var 5) ⊗ var 0) refl)

  -- a sign that changes from u / c to v / d leaves a root between, at -q / p
  pub root_rising : (u *ℤ d) <ℤ (v *ℤ c) → (p *ℤ u +ℤ q *ℤ c) <ℤ pos 0 → pos 0 <ℤ (p *ℤ v +ℤ q *ℤ d) → RootBetween p q u c v d
  root_rising further low high = record {
    root = neg_ℤ q;
    under = p;
    positive = slope_positive further low high;
    is_root = same_value (p ∷ q ∷ []) (var 0 ⊗ minus (var 1) ⊕ var 1 ⊗ var 0) (number (pos 0)) refl;
    after = lt_by low (same_value (p ∷ q ∷ u ∷ c ∷ []) (minus (var 1) ⊗ var 3 ⊖ var 2 ⊗ var 0) (number (pos 0) ⊖ affine 2 3) refl);
    before = lt_by high (same_value (p ∷ q ∷ v ∷ d ∷ []) (var 2 ⊗ var 0 ⊖ minus (var 1) ⊗ var 3) (affine 2 3 ⊖ number (pos 0)) refl);
  }

  pub root_falling : (u *ℤ d) <ℤ (v *ℤ c) → pos 0 <ℤ (p *ℤ u +ℤ q *ℤ c) → (p *ℤ v +ℤ q *ℤ d) <ℤ pos 0 → RootBetween p q u c v d
  root_falling further high low = record {
    root = q;
    under = neg_ℤ p;
    positive = neg_positive (slope_negative further high low);
    is_root = same_value (p ∷ q ∷ []) (var 0 ⊗ var 1 ⊕ var 1 ⊗ minus (var 0)) (number (pos 0)) refl;
    after = lt_by high (same_value (p ∷ q ∷ u ∷ c ∷ []) (var 1 ⊗ var 3 ⊖ var 2 ⊗ minus (var 0)) (affine 2 3 ⊖ number (pos 0)) refl);
    before = lt_by low (same_value (p ∷ q ∷ v ∷ d ∷ []) (var 2 ⊗ minus (var 0) ⊖ var 1 ⊗ var 3) (number (pos 0) ⊖ affine 2 3) refl);
  }

-- negative at u / c and positive at v / d: these are two places, and a root is between them, whichever comes first
pub root_between : (p q u v : ℤ) {c d : ℤ} → pos 0 <ℤ c → pos 0 <ℤ d → (p *ℤ u +ℤ q *ℤ c) <ℤ pos 0 → pos 0 <ℤ (p *ℤ v +ℤ q *ℤ d)
    → (((u *ℤ d) <ℤ (v *ℤ c)) × RootBetween p q u c v d) ⊎ (((v *ℤ c) <ℤ (u *ℤ d)) × RootBetween p q v d u c)
root_between p q u v {c} {d} i j low high = by_order (u *ℤ d) (v *ℤ c)
    (λ further. inl (further, root_rising p q u v i j further low high))
    (λ e. absurd (one_place e))
    (λ further. inr (further, root_falling p q v u j i further high low))
  where
    one_place : u *ℤ d ≡ v *ℤ c → ⊥
    one_place e = apart_from_lt (lt_lt_trans (mul_negative_right j low) (mul_positive i high))
        (same_value (p ∷ q ∷ u ∷ c ∷ v ∷ d ∷ []) (var 5 ⊗ affine 2 3) (var 0 ⊗ (var 2 ⊗ var 5) ⊕ var 1 ⊗ (var 3 ⊗ var 5)) refl
        ∙ ap (λ (z : ℤ). p *ℤ z +ℤ q *ℤ (c *ℤ d)) e
        ∙ same_value (p ∷ q ∷ u ∷ c ∷ v ∷ d ∷ []) (var 0 ⊗ (var 4 ⊗ var 3) ⊕ var 1 ⊗ (var 3 ⊗ var 5)) (var 3 ⊗ affine 4 5) refl)

-- a function whose sign changes is not constant
pub slope_not_zero : (p q u v : ℤ) {c d : ℤ} → pos 0 <ℤ c → pos 0 <ℤ d → (p *ℤ u +ℤ q *ℤ c) <ℤ pos 0 → pos 0 <ℤ (p *ℤ v +ℤ q *ℤ d) → p ≢ pos 0
slope_not_zero p q u v i j low high e = ⊎_elim
    (λ r. apart_from_lt (slope_positive p q u v i j r.0 low high) (sym e))
    (λ r. apart_from_lt (slope_negative p q v u j i r.0 high low) e)
    (root_between p q u v i j low high)

-- what it is at both ends it is between them: w / e is from u / c to v / d
module _ (p q u v w e : ℤ) {c d : ℤ} (c_positive : pos 0 <ℤ c) (d_positive : pos 0 <ℤ d) (further : (u *ℤ d) <ℤ (v *ℤ c)) (from : (u *ℤ e) ≤ℤ (w *ℤ c)) (to : (w *ℤ d) ≤ℤ (v *ℤ e)) where
  weighted : (v *ℤ e -ℤ w *ℤ d) *ℤ (p *ℤ u +ℤ q *ℤ c) +ℤ (w *ℤ c -ℤ u *ℤ e) *ℤ (p *ℤ v +ℤ q *ℤ d) ≡ (v *ℤ c -ℤ u *ℤ d) *ℤ (p *ℤ w +ℤ q *ℤ e)
  weighted = same_value (p ∷ q ∷ u ∷ c ∷ v ∷ d ∷ w ∷ e ∷ [])
      ((var 4 ⊗ var 7 ⊖ var 6 ⊗ var 5) ⊗ affine 2 3 ⊕ (var 6 ⊗ var 3 ⊖ var 2 ⊗ var 7) ⊗ affine 4 5)
      ((var 4 ⊗ var 3 ⊖ var 2 ⊗ var 5) ⊗ affine 6 7) refl

  pub affine_not_negative : pos 0 ≤ℤ (p *ℤ u +ℤ q *ℤ c) → pos 0 ≤ℤ (p *ℤ v +ℤ q *ℤ d) → pos 0 ≤ℤ (p *ℤ w +ℤ q *ℤ e)
  affine_not_negative h k = not_negative_by (sub_not_negative to) (sub_not_negative from) (sub_positive further) h k weighted

  pub affine_not_positive : (p *ℤ u +ℤ q *ℤ c) ≤ℤ pos 0 → (p *ℤ v +ℤ q *ℤ d) ≤ℤ pos 0 → (p *ℤ w +ℤ q *ℤ e) ≤ℤ pos 0
  affine_not_positive h k = not_positive_by (sub_not_negative to) (sub_not_negative from) (sub_positive further) h k weighted

  pub affine_positive : pos 0 <ℤ e → pos 0 <ℤ (p *ℤ u +ℤ q *ℤ c) → pos 0 <ℤ (p *ℤ v +ℤ q *ℤ d) → pos 0 <ℤ (p *ℤ w +ℤ q *ℤ e)
  affine_positive e_positive h k = by_order (u *ℤ e) (w *ℤ c)
      (λ l. positive_by_second (sub_not_negative to) (sub_positive l) (sub_positive further) (le_from_lt h) k weighted)
      (λ s. positive_by_first (sub_positive (fraction_same_lt w u v e_positive c_positive d_positive (sym s) further)) (sub_not_negative from) (sub_positive further) h (le_from_lt k) weighted)
      (λ l. clash_ℤ l from)

  pub affine_negative : pos 0 <ℤ e → (p *ℤ u +ℤ q *ℤ c) <ℤ pos 0 → (p *ℤ v +ℤ q *ℤ d) <ℤ pos 0 → (p *ℤ w +ℤ q *ℤ e) <ℤ pos 0
  affine_negative e_positive h k = by_order (u *ℤ e) (w *ℤ c)
      (λ l. negative_by_second (sub_not_negative to) (sub_positive l) (sub_positive further) (le_from_lt h) k weighted)
      (λ s. negative_by_first (sub_positive (fraction_same_lt w u v e_positive c_positive d_positive (sym s) further)) (sub_not_negative from) (sub_positive further) h (le_from_lt k) weighted)
      (λ l. clash_ℤ l from)
