-- A triangle and two points that are farther in some direction than all its corners: the line of a side of the triangle, or the line
-- through the two points, parts them.
use Rattle.std.proofs.Common.{◌≡◌, ◌≢◌, ◌⊎◌, inl, inr, ℕ, List, [], ◌∷◌, ℤ, pos, ◌+ℤ◌, ◌-ℤ◌, ◌*ℤ◌, neg_ℤ, ◌<ℤ◌, ◌≤ℤ◌, refl, ap, ◌∙◌, arith}
use Rattle.std.specs.Int.Signed.{clash_ℤ}
use Rattle.std.proofs.lemmas.Int.{ints, by_lt_z}
use Rattle.lemmas.proofs.Polynomials.{Polynomial, same_value, var, ◌⊕◌, ◌⊖◌, ◌⊗◌, minus, x_of, y_of, cross}
use Rattle.lemmas.proofs.Signs.{le_from_lt, le_lt_trans, sub_positive, sub_not_negative, mul_positive, mul_negative_right, mul_not_negative, mul_not_positive, neg_not_negative, square_positive}
use Rattle.tgap_model.specs.declared.geometry.Point.{Point}
use Rattle.tgap_model.specs.Point.{cross as cross_of}

-- how far a point is along the direction (m, n), times the length of (m, n)
abbrev pub height : ℤ → ℤ → Point → ℤ
height m n p = m *ℤ p.x +ℤ n *ℤ p.y

-- the polynomial of the height of point i of four, after whose coordinates m and n come
abbrev height_of : ℕ → Polynomial
height_of i = var 8 ⊗ x_of i ⊕ var 9 ⊗ y_of i

-- ---- how heights go with orientations

module _ (m n : ℤ) (k l p q : Point) where
  abbrev values : List ℤ
  values = k.x ∷ k.y ∷ l.x ∷ l.y ∷ p.x ∷ p.y ∷ q.x ∷ q.y ∷ m ∷ n ∷ []

  -- the turn from p to q about the first point of a line, by their heights and on which sides of the line they are
  turn_at_first : (height m n l -ℤ height m n k) *ℤ cross_of p q k
      ≡ (height m n p -ℤ height m n k) *ℤ cross_of k l q -ℤ (height m n q -ℤ height m n k) *ℤ cross_of k l p
  turn_at_first = same_value values ((height_of 1 ⊖ height_of 0) ⊗ cross 2 3 0)
      ((height_of 2 ⊖ height_of 0) ⊗ cross 0 1 3 ⊖ (height_of 3 ⊖ height_of 0) ⊗ cross 0 1 2) refl

  -- the turn from p to q about the last point of the line
  turn_at_last : (height m n l -ℤ height m n k) *ℤ cross_of p q l
      ≡ (height m n p -ℤ height m n l) *ℤ cross_of k l q -ℤ (height m n q -ℤ height m n l) *ℤ cross_of k l p
  turn_at_last = same_value values ((height_of 1 ⊖ height_of 0) ⊗ cross 2 3 1)
      ((height_of 2 ⊖ height_of 1) ⊗ cross 0 1 3 ⊖ (height_of 3 ⊖ height_of 1) ⊗ cross 0 1 2) refl

-- the height of p over the corner v of a triangle, as a mean of those of the two other corners
mean_height : (m n : ℤ) (u v w p : Point) → (height m n p -ℤ height m n v) *ℤ cross_of u v w
    ≡ (height m n u -ℤ height m n v) *ℤ cross_of v w p +ℤ (height m n w -ℤ height m n v) *ℤ cross_of u v p
mean_height m n u v w p = same_value (values m n u v w p) ((height_of 3 ⊖ height_of 1) ⊗ cross 0 1 2)
    ((height_of 0 ⊖ height_of 1) ⊗ cross 1 2 3 ⊕ (height_of 2 ⊖ height_of 1) ⊗ cross 0 1 3) refl

-- ---- signs

-- the sign of a factor, where that of the product is known and the other factor is not negative
positive_from_times : (a b : ℤ) → pos 0 ≤ℤ a → pos 0 <ℤ (a *ℤ b) → pos 0 <ℤ b
positive_from_times a b h k = by_lt_z (pos 0) b (λ l. l) (λ l. clash_ℤ k (mul_not_positive h l))

minus_positive : (x y z : ℤ) → pos 0 ≤ℤ x → y <ℤ pos 0 → z ≡ x -ℤ y → pos 0 <ℤ z
minus_positive x y z h k e = omega (arith, ints)

plus_not_positive : (x y z : ℤ) → x ≤ℤ pos 0 → y ≤ℤ pos 0 → z ≡ x +ℤ y → z ≤ℤ pos 0
plus_not_positive x y z h k e = omega (arith, ints)

sub_not_positive : {x y : ℤ} → x ≤ℤ y → (x -ℤ y) ≤ℤ pos 0
sub_not_positive h = omega (arith, ints)

-- The turn z from p to q about a corner has the sign of d, where the line goes up by t, p is g over the corner and q is i over it,
-- and y says that p is beyond the line, and x that q is not.
turn_by_up : (d t g i x y z : ℤ) → pos 0 ≤ℤ t → pos 0 <ℤ g → pos 0 <ℤ i → pos 0 ≤ℤ (d *ℤ x) → (d *ℤ y) <ℤ pos 0
    → t *ℤ z ≡ g *ℤ x -ℤ i *ℤ y → pos 0 <ℤ (d *ℤ z)
turn_by_up d t g i x y z h k l a b e =
    positive_from_times t (d *ℤ z) h (minus_positive _ _ _ (mul_not_negative (le_from_lt k) a) (mul_negative_right l b)
    (same_value (d ∷ t ∷ z ∷ []) (var 1 ⊗ (var 0 ⊗ var 2)) (var 0 ⊗ (var 1 ⊗ var 2)) refl
    ∙ ap (λ (o : ℤ). d *ℤ o) e
    ∙ same_value (d ∷ g ∷ i ∷ x ∷ y ∷ []) (var 0 ⊗ (var 1 ⊗ var 3 ⊖ var 2 ⊗ var 4)) (var 1 ⊗ (var 0 ⊗ var 3) ⊖ var 2 ⊗ (var 0 ⊗ var 4)) refl))

-- that turn has the sign of d also where the line goes down, q is beyond it and p is not
turn_by_down : (d t g i x y z : ℤ) → t ≤ℤ pos 0 → pos 0 <ℤ g → pos 0 <ℤ i → (d *ℤ x) <ℤ pos 0 → pos 0 ≤ℤ (d *ℤ y)
    → t *ℤ z ≡ g *ℤ x -ℤ i *ℤ y → pos 0 <ℤ (d *ℤ z)
turn_by_down d t g i x y z h k l a b e = turn_by_up d (neg_ℤ t) i g y x z (neg_not_negative h) l k b a
    (same_value (t ∷ z ∷ []) (minus (var 0) ⊗ var 1) (minus (var 0 ⊗ var 1)) refl ∙ ap neg_ℤ e
    ∙ same_value ((g *ℤ x) ∷ (i *ℤ y) ∷ []) (minus (var 0 ⊖ var 1)) (var 1 ⊖ var 0) refl)

-- a mean e of two heights s and t that are not positive is not positive, where no weight, x or y, has the other sign than their total d
not_over : (d e s t x y : ℤ) → d ≢ pos 0 → pos 0 <ℤ e → s ≤ℤ pos 0 → t ≤ℤ pos 0 → pos 0 ≤ℤ (d *ℤ x) → pos 0 ≤ℤ (d *ℤ y)
    → e *ℤ d ≡ s *ℤ x +ℤ t *ℤ y → ⊥
not_over d e s t x y area h i j a b q =
    clash_ℤ (mul_positive h (square_positive d area)) (plus_not_positive _ _ _ (mul_not_positive a i) (mul_not_positive b j)
    (same_value (d ∷ e ∷ []) (var 1 ⊗ (var 0 ⊗ var 0)) (var 0 ⊗ (var 1 ⊗ var 0)) refl
    ∙ ap (λ (o : ℤ). d *ℤ o) q
    ∙ same_value (d ∷ s ∷ t ∷ x ∷ y ∷ []) (var 0 ⊗ (var 1 ⊗ var 3 ⊕ var 2 ⊗ var 4)) ((var 0 ⊗ var 3) ⊗ var 1 ⊕ (var 0 ⊗ var 4) ⊗ var 2) refl))

-- ---- the line that parts

-- both points are strictly beyond the line from u to v of a triangle with orientation d
abbrev pub AreBeyond : ℤ → Point → Point → Point → Point → Type 0
AreBeyond d u v p q = ((d *ℤ cross_of u v p) <ℤ pos 0) × ((d *ℤ cross_of u v q) <ℤ pos 0)

-- the corners u, v and w of a triangle with orientation d are strictly on the side d of the line from p to q
abbrev pub AreBeside : ℤ → Point → Point → Point → Point → Point → Type 0
AreBeside d u v w p q = (pos 0 <ℤ (d *ℤ cross_of p q u)) × (pos 0 <ℤ (d *ℤ cross_of p q v)) × (pos 0 <ℤ (d *ℤ cross_of p q w))

-- v is the highest corner
module _ (m n : ℤ) (u v w : Point) (area : cross_of u v w ≢ pos 0) (first : height m n u ≤ℤ height m n v)
    (last : height m n w ≤ℤ height m n v) where
  abbrev d : ℤ
  d = cross_of u v w

  -- a point over the highest corner is beyond one of the sides that meet there
  not_between : (p : Point) → height m n v <ℤ height m n p → pos 0 ≤ℤ (d *ℤ cross_of u v p) → pos 0 ≤ℤ (d *ℤ cross_of v w p) → ⊥
  not_between p h a b = not_over d _ _ _ _ _ area (sub_positive h) (sub_not_positive first) (sub_not_positive last) b a (mean_height m n u v w p)

  -- with p beyond the first of these sides alone, and q beyond the second alone, the corners are beside the line from p to q
  beside : (p q : Point) → height m n v <ℤ height m n p → height m n v <ℤ height m n q
      → (d *ℤ cross_of u v p) <ℤ pos 0 → pos 0 ≤ℤ (d *ℤ cross_of v w p) → pos 0 ≤ℤ (d *ℤ cross_of u v q)
      → (d *ℤ cross_of v w q) <ℤ pos 0 → AreBeside d u v w p q
  beside p q h k a b e f = (
    turn_by_up d _ _ _ _ _ _ (sub_not_negative first) (sub_positive (le_lt_trans first h)) (sub_positive (le_lt_trans first k)) e a (turn_at_first m n u v p q),
    turn_by_up d _ _ _ _ _ _ (sub_not_negative first) (sub_positive h) (sub_positive k) e a (turn_at_last m n u v p q),
    turn_by_down d _ _ _ _ _ _ (sub_not_positive last) (sub_positive (le_lt_trans last h)) (sub_positive (le_lt_trans last k)) f b (turn_at_last m n v w p q),
  )

  -- the line of a side that meets there, or the line through two points over the corner, parts them from the triangle
  pub parted : (p q : Point) → height m n v <ℤ height m n p → height m n v <ℤ height m n q
      → AreBeyond d u v p q ⊎ AreBeyond d v w p q ⊎ AreBeside d u v w p q ⊎ AreBeside d u v w q p
  parted p q h k =
      by_lt_z (d *ℤ cross_of u v p) (pos 0)
      (λ a. by_lt_z (d *ℤ cross_of u v q) (pos 0)
      (λ b. inl (a, b))
      (λ b. by_lt_z (d *ℤ cross_of v w q) (pos 0)
      (λ e. by_lt_z (d *ℤ cross_of v w p) (pos 0) (λ f. inr (inl (f, e))) (λ f. inr (inr (inl (beside p q h k a f b e)))))
      (λ e. absurd (not_between q k b e))))
      (λ a. by_lt_z (d *ℤ cross_of v w p) (pos 0)
      (λ e. by_lt_z (d *ℤ cross_of v w q) (pos 0) (λ f. inr (inl (e, f)))
      (λ f. by_lt_z (d *ℤ cross_of u v q) (pos 0) (λ b. inr (inr (inr (beside q p k h b f a e)))) (λ b. absurd (not_between q k b f))))
      (λ e. absurd (not_between p h a e)))
