-- A triangle that is clear of a segment meets it at most in a corner a or c at which the segment ends.
use Rattle.std.proofs.Common.{◌≡◌, ◌≢◌, ◌⊎◌, inl, inr, true, false, ◌&&◌, ◌||◌, not, [], ◌∷◌, ℤ, pos, negsuc, ◌+ℤ◌, ◌*ℤ◌, neg_ℤ, ◌<ℤ◌, ◌≤ℤ◌, refl, sym, ap, ◌∙◌, subst, arith}
use Rattle.std.specs.Int.{int_signum}
use Rattle.std.specs.Int.Signed.{clash_ℤ}
use Rattle.std.specs.Ordering.{int_eq}
use Rattle.std.proofs.lemmas.Bool.{and_parts, and_from, or_cases, or_left, or_right, true≢false, not-true}
use Rattle.std.proofs.lemmas.Bool.Decides.{Decides-int_eq}
use Rattle.std.proofs.lemmas.Int.{ints}
use Rattle.lemmas.proofs.Polynomials.{same_value, var, number, ◌⊕◌, ◌⊖◌, ◌⊗◌, x_of, y_of, x_step, y_step, cross}
use Rattle.lemmas.proofs.Signs.{by_sign, by_signum, le_from_lt, le_from_same, mul_positive, mul_negatives, mul_negative_left, mul_negative_right, mul_not_negative, square_not_negative, not_negative_from_mul, mul_not_zero, apart_from_lt}
use Rattle.lemmas.proofs.Products.{zero_from_mul_left}
use Rattle.tgap_model.specs.declared.geometry.Point.{Point}
use Rattle.tgap_model.specs.declared.geometry.Fraction.{Fraction}
use Rattle.tgap_model.specs.declared.geometry.Seg.{Seg}
use Rattle.tgap_model.specs.Base.{same_point}
use Rattle.tgap_model.specs.Point.{cross as cross_of, side}
use Rattle.tgap_model.specs.Segment.{cross_at, is_at}
use Rattle.tgap_model.specs.Clear.{is_base_corner, lies_away, is_beyond, is_at_side, is_beside, is_clear}
use Rattle.tgap_model.proofs.Points.{same_point-true}
use Rattle.removal_laws.specs.TriangleLaws.{IsInTriangle, ClearIsApart, ClearOfBase}
use Rattle.removal_laws.proofs.Between.{IsBetween, is_between, cross_between, cross_at_of, at_near, at_far, on_line, lone_weight, by_parts}

-- a weight of a number below 0 whose product is not negative is none
no_weight : (m x : ℤ) → pos 0 ≤ℤ m → x <ℤ pos 0 → pos 0 ≤ℤ (m *ℤ x) → m ≡ pos 0
no_weight m x h k l = by_sign m (λ i. clash_ℤ i h) (λ e. e) (λ i. clash_ℤ (mul_negative_right i k) l)

-- a product with 0
times_zero : (m x : ℤ) → x ≡ pos 0 → m *ℤ x ≡ pos 0
times_zero m x e = ap (λ (z : ℤ). m *ℤ z) e ∙ same_value (m ∷ []) (var 0 ⊗ number (pos 0)) (number (pos 0)) refl

zero_times : (m x : ℤ) → m ≡ pos 0 → m *ℤ x ≡ pos 0
zero_times m x e = ap (λ (z : ℤ). z *ℤ x) e ∙ same_value (x ∷ []) (number (pos 0) ⊗ var 0) (number (pos 0)) refl

first_alone : (x y : ℤ) → y ≡ pos 0 → pos 0 ≤ℤ (x +ℤ y) → pos 0 ≤ℤ x
first_alone x y e h = omega (arith, ints)

second_alone : (x y : ℤ) → x ≡ pos 0 → pos 0 ≤ℤ (x +ℤ y) → pos 0 ≤ℤ y
second_alone x y e h = omega (arith, ints)

-- ---- a corner that is an end

-- the point is a or c, and an end of the segment
abbrev pub IsSharedEnd : Point → Point → Seg → Fraction → Type 0
IsSharedEnd a c s p = ((is_at p a || is_at p c) && (is_at p s.a || is_at p s.b)) ≡ true

at_corner : (a c v : Point) (p : Fraction) → is_base_corner a c v ≡ true → is_at p v ≡ true → (is_at p a || is_at p c) ≡ true
at_corner a c v p h e = elim (or_cases (same_point v a) (same_point v c) h) [
  | inl f ↦ or_left (is_at p a) (is_at p c) (subst (λ w. is_at p w ≡ true) (same_point-true v a f) e)
  | inr f ↦ or_right (is_at p a) (is_at p c) (subst (λ w. is_at p w ≡ true) (same_point-true v c f) e)
]

-- ---- a side of the triangle has the segment on the other side

-- the end is strictly on the other side, or it is a or c on the line
pub away_cases : (a c u v w e : Point) → cross_of u v w ≢ pos 0 → lies_away a c u v w e ≡ true
    → ((cross_of u v w *ℤ cross_of u v e) <ℤ pos 0) ⊎ ((is_base_corner a c e ≡ true) × (cross_of u v e ≡ pos 0))
away_cases a c u v w e area h = elim (or_cases (not (int_eq (side u v e) (pos 0)) && int_eq (side u v e) (neg_ℤ (side u v w))) (is_base_corner a c e && int_eq (side u v e) (pos 0)) h) [
  | inl f ↦ inl (opposite (cross_of u v w) (cross_of u v e) area ((Decides-int_eq _ _).0 (and_parts (not (int_eq (side u v e) (pos 0))) _ f).1))
  | inr f ↦
      let parts = and_parts (is_base_corner a c e) (int_eq (side u v e) (pos 0)) f in
      inr (parts.0, zero_signum (cross_of u v e) ((Decides-int_eq (side u v e) (pos 0)).0 parts.1))
]
  where
    zero_signum : (z : ℤ) → int_signum z ≡ pos 0 → z ≡ pos 0
    zero_signum z k = by_signum z (λ _ f. (cc)) (λ l _. l) (λ _ f. (cc))

    opposite : (d z : ℤ) → d ≢ pos 0 → int_signum z ≡ neg_ℤ (int_signum d) → (d *ℤ z) <ℤ pos 0
    opposite d z n k = by_signum d
        (λ l f. mul_negative_left l (by_signum z (λ _ g. let x : negsuc 0 ≡ pos 1 = sym g ∙ k ∙ ap neg_ℤ f in (cc)) (λ _ g. let x : pos 0 ≡ pos 1 = sym g ∙ k ∙ ap neg_ℤ f in (cc)) (λ i _. i)))
        (λ l f. absurd (n l))
        (λ l f. mul_negative_right l (by_signum z (λ i _. i) (λ _ g. let x : pos 0 ≡ negsuc 0 = sym g ∙ k ∙ ap neg_ℤ f in (cc)) (λ _ g. let x : pos 1 ≡ negsuc 0 = sym g ∙ k ∙ ap neg_ℤ f in (cc))))

module _ (a c u v w : Point) (s : Seg) (p : Fraction) (area : cross_of u v w ≢ pos 0) (positive : pos 0 <ℤ p.d)
    (h : IsBetween p s.a s.b) (lone : (is_base_corner a c s.a && is_base_corner a c s.b) ≡ false) where
  -- the orientation of the point is the weighted mean of those of the ends, each times that of the triangle
  weighted : h.total *ℤ (cross_of u v w *ℤ cross_at u v p) ≡ h.near *ℤ (cross_of u v w *ℤ cross_of u v s.a) +ℤ h.far *ℤ (cross_of u v w *ℤ cross_of u v s.b)
  weighted =
      same_value (h.total ∷ cross_of u v w ∷ cross_at u v p ∷ []) (var 0 ⊗ (var 1 ⊗ var 2)) (var 1 ⊗ (var 0 ⊗ var 2)) refl
      ∙ ap (λ (z : ℤ). cross_of u v w *ℤ z) (cross_between p s.a s.b h u v)
      ∙ same_value (cross_of u v w ∷ h.near ∷ h.far ∷ cross_of u v s.a ∷ cross_of u v s.b ∷ []) (var 0 ⊗ (var 1 ⊗ var 3 ⊕ var 2 ⊗ var 4)) (var 1 ⊗ (var 0 ⊗ var 3) ⊕ var 2 ⊗ (var 0 ⊗ var 4)) refl

  beyond_apart : is_beyond a c u v w s ≡ true → pos 0 ≤ℤ (cross_of u v w *ℤ cross_at u v p) → IsSharedEnd a c s p
  beyond_apart beyond inside =
      let parts = and_parts (lies_away a c u v w s.a) (lies_away a c u v w s.b) beyond in
      by (away_cases a c u v w s.a area parts.0) (away_cases a c u v w s.b area parts.1)
    where
      sum : pos 0 ≤ℤ (h.near *ℤ (cross_of u v w *ℤ cross_of u v s.a) +ℤ h.far *ℤ (cross_of u v w *ℤ cross_of u v s.b))
      sum = subst (λ (z : ℤ). pos 0 ≤ℤ z) weighted (mul_not_negative (le_from_lt h.positive) inside)

      none_left : (x y t d : ℤ) → pos 0 <ℤ t → pos 0 <ℤ d → t *ℤ d ≡ x +ℤ y → x ≡ pos 0 → y ≡ pos 0 → ⊥
      none_left x y t d i j e f g = apart_from_lt (mul_positive i j) (sym (e ∙ ap (λ (z : ℤ). z +ℤ y) f ∙ ap (λ (z : ℤ). pos 0 +ℤ z) g))

      both_negative : (x y : ℤ) → x <ℤ pos 0 → y <ℤ pos 0 → pos 0 ≤ℤ (h.near *ℤ x +ℤ h.far *ℤ y) → ⊥
      both_negative x y i j k = by_sign h.near
          (λ l. clash_ℤ l h.near_sign)
          (λ e. none_left h.near h.far h.total p.d h.positive positive h.under e (no_weight h.far y h.far_sign j (second_alone _ _ (zero_times h.near x e) k)))
          (λ l. clash_ℤ (add_negative (mul_negative_right l i) (below h.far y h.far_sign j)) k)
        where
          below : (m y : ℤ) → pos 0 ≤ℤ m → y <ℤ pos 0 → (m *ℤ y) ≤ℤ pos 0
          below m y f g = by_sign m (λ l. clash_ℤ l f) (λ e. le_from_same (zero_times m y e)) (λ l. le_from_lt (mul_negative_right l g))

          add_negative : {x y : ℤ} → x <ℤ pos 0 → y ≤ℤ pos 0 → (x +ℤ y) <ℤ pos 0
          add_negative f g = omega (arith, ints)

      by : ((cross_of u v w *ℤ cross_of u v s.a) <ℤ pos 0) ⊎ ((is_base_corner a c s.a ≡ true) × (cross_of u v s.a ≡ pos 0))
          → ((cross_of u v w *ℤ cross_of u v s.b) <ℤ pos 0) ⊎ ((is_base_corner a c s.b ≡ true) × (cross_of u v s.b ≡ pos 0)) → IsSharedEnd a c s p
      by (inl i) (inl j) = absurd (both_negative _ _ i j sum)
      by (inl i) (inr j) =
          let at = at_far p s.a s.b h (no_weight h.near _ h.near_sign i (first_alone _ _ (times_zero h.far _ (times_zero (cross_of u v w) _ j.1)) sum)) in
          and_from _ _ (at_corner a c s.b p j.0 at) (or_right (is_at p s.a) _ at)
      by (inr i) (inl j) =
          let at = at_near p s.a s.b h (no_weight h.far _ h.far_sign j (second_alone _ _ (times_zero h.near _ (times_zero (cross_of u v w) _ i.1)) sum)) in
          and_from _ _ (at_corner a c s.a p i.0 at) (or_left _ (is_at p s.b) at)
      by (inr i) (inr j) = absurd (true≢false (sym (and_from _ _ i.0 j.0) ∙ lone))

-- ---- the segment has the triangle on one side

-- the corner is strictly on this side of the segment's line, or it is a or c and an end of the segment
pub at_side_cases : (a c v : Point) (s : Seg) (z : ℤ) → is_at_side a c s z v ≡ true
    → (int_signum (cross_of s.a s.b v) ≡ z) ⊎ ((is_base_corner a c v ≡ true) × ((s.a ≡ v) ⊎ (s.b ≡ v)))
at_side_cases a c v s z h = elim (or_cases (int_eq (side s.a s.b v) z) (is_base_corner a c v && (same_point v s.a || same_point v s.b)) h) [
  | inl f ↦ inl ((Decides-int_eq (side s.a s.b v) z).0 f)
  | inr f ↦
      let parts = and_parts (is_base_corner a c v) (same_point v s.a || same_point v s.b) f in
      inr (
        parts.0,
        elim (or_cases (same_point v s.a) (same_point v s.b) parts.1) [
          | inl g ↦ inl (sym (same_point-true v s.a g))
          | inr g ↦ inr (sym (same_point-true v s.b g))
        ],
      )
]

-- an end of a segment is on its line
end_on_line : (s : Seg) (v : Point) → (s.a ≡ v) ⊎ (s.b ≡ v) → cross_of s.a s.b v ≡ pos 0
end_on_line s v (inl e) = ap (λ (w : Point). cross_of s.a s.b w) (sym e) ∙ same_value (s.a.x ∷ s.a.y ∷ s.b.x ∷ s.b.y ∷ []) (cross 0 1 0) (number (pos 0)) refl
end_on_line s v (inr e) = ap (λ (w : Point). cross_of s.a s.b w) (sym e) ∙ same_value (s.a.x ∷ s.a.y ∷ s.b.x ∷ s.b.y ∷ []) (cross 0 1 1) (number (pos 0)) refl

-- a point is at an end that it is at
at_end : (s : Seg) (v : Point) (p : Fraction) → (s.a ≡ v) ⊎ (s.b ≡ v) → is_at p v ≡ true → (is_at p s.a || is_at p s.b) ≡ true
at_end s v p (inl e) h = or_left (is_at p s.a) (is_at p s.b) (subst (λ w. is_at p w ≡ true) (sym e) h)
at_end s v p (inr e) h = or_right (is_at p s.a) (is_at p s.b) (subst (λ w. is_at p w ≡ true) (sym e) h)

module _ (a b c : Point) (p : Fraction) where
  by_d : cross_of a b c *ℤ p.d ≡ cross_at b c p +ℤ cross_at c a p +ℤ cross_at a b p
  by_d = same_value (a.x ∷ a.y ∷ b.x ∷ b.y ∷ c.x ∷ c.y ∷ p.nx ∷ p.ny ∷ p.d ∷ []) (cross 0 1 2 ⊗ var 8) (cross_at_of 1 2 6 ⊕ cross_at_of 2 0 6 ⊕ cross_at_of 0 1 6) refl

  by_x : cross_of a b c *ℤ p.nx ≡ cross_at b c p *ℤ a.x +ℤ cross_at c a p *ℤ b.x +ℤ cross_at a b p *ℤ c.x
  by_x = same_value (a.x ∷ a.y ∷ b.x ∷ b.y ∷ c.x ∷ c.y ∷ p.nx ∷ p.ny ∷ p.d ∷ []) (cross 0 1 2 ⊗ var 6) (cross_at_of 1 2 6 ⊗ x_of 0 ⊕ cross_at_of 2 0 6 ⊗ x_of 1 ⊕ cross_at_of 0 1 6 ⊗ x_of 2) refl

  by_y : cross_of a b c *ℤ p.ny ≡ cross_at b c p *ℤ a.y +ℤ cross_at c a p *ℤ b.y +ℤ cross_at a b p *ℤ c.y
  by_y = same_value (a.x ∷ a.y ∷ b.x ∷ b.y ∷ c.x ∷ c.y ∷ p.nx ∷ p.ny ∷ p.d ∷ []) (cross 0 1 2 ⊗ var 7) (cross_at_of 1 2 6 ⊗ y_of 0 ⊕ cross_at_of 2 0 6 ⊗ y_of 1 ⊕ cross_at_of 0 1 6 ⊗ y_of 2) refl

  -- the point by its orientations against the sides
  heavy : (k l : Point) → cross_of a b c *ℤ cross_at k l p ≡ cross_at b c p *ℤ cross_of k l a +ℤ cross_at c a p *ℤ cross_of k l b +ℤ cross_at a b p *ℤ cross_of k l c
  heavy k l =
      same_value (k.x ∷ k.y ∷ l.x ∷ l.y ∷ p.nx ∷ p.ny ∷ p.d ∷ cross_of a b c ∷ []) (var 7 ⊗ cross_at_of 0 1 4)
      (x_step 0 1 ⊗ (var 7 ⊗ var 5 ⊖ (var 7 ⊗ var 6) ⊗ y_of 0) ⊖ y_step 0 1 ⊗ (var 7 ⊗ var 4 ⊖ (var 7 ⊗ var 6) ⊗ x_of 0)) refl
      ∙ ap (λ (z : ℤ). by_parts k l z (cross_of a b c *ℤ p.ny) (cross_of a b c *ℤ p.d)) by_x
      ∙ ap (λ (z : ℤ). by_parts k l (cross_at b c p *ℤ a.x +ℤ cross_at c a p *ℤ b.x +ℤ cross_at a b p *ℤ c.x) z (cross_of a b c *ℤ p.d)) by_y
      ∙ ap (λ (z : ℤ). by_parts k l (cross_at b c p *ℤ a.x +ℤ cross_at c a p *ℤ b.x +ℤ cross_at a b p *ℤ c.x) (cross_at b c p *ℤ a.y +ℤ cross_at c a p *ℤ b.y +ℤ cross_at a b p *ℤ c.y) z) by_d
      ∙ same_value (k.x ∷ k.y ∷ l.x ∷ l.y ∷ a.x ∷ a.y ∷ b.x ∷ b.y ∷ c.x ∷ c.y ∷ cross_at b c p ∷ cross_at c a p ∷ cross_at a b p ∷ [])
      (x_step 0 1 ⊗ ((var 10 ⊗ y_of 2 ⊕ var 11 ⊗ y_of 3 ⊕ var 12 ⊗ y_of 4) ⊖ (var 10 ⊕ var 11 ⊕ var 12) ⊗ y_of 0)
      ⊖ y_step 0 1 ⊗ ((var 10 ⊗ x_of 2 ⊕ var 11 ⊗ x_of 3 ⊕ var 12 ⊗ x_of 4) ⊖ (var 10 ⊕ var 11 ⊕ var 12) ⊗ x_of 0))
      (var 10 ⊗ cross 0 1 2 ⊕ var 11 ⊗ cross 0 1 3 ⊕ var 12 ⊗ cross 0 1 4) refl

-- products that are not negative and add up to 0 are 0
three_zeros : (x y z : ℤ) → pos 0 ≤ℤ x → pos 0 ≤ℤ y → pos 0 ≤ℤ z → x +ℤ y +ℤ z ≡ pos 0 → (x ≡ pos 0) × (y ≡ pos 0) × (z ≡ pos 0)
three_zeros x y z h k l e = (omega (arith, ints), omega (arith, ints), omega (arith, ints))

-- with no weight of two corners the point is the third one
lone_first : (t n d l m k x y z : ℤ) → t ≢ pos 0 → m ≡ pos 0 → k ≡ pos 0 → t *ℤ d ≡ l +ℤ m +ℤ k → t *ℤ n ≡ l *ℤ x +ℤ m *ℤ y +ℤ k *ℤ z → n ≡ d *ℤ x
lone_first t n d l m k x y z h e f i j = lone_weight t n d l (pos 0) x y h refl
    (i ∙ ap (λ (w : ℤ). l +ℤ w +ℤ k) e ∙ ap (λ (w : ℤ). l +ℤ pos 0 +ℤ w) f ∙ same_value (l ∷ []) (var 0 ⊕ number (pos 0) ⊕ number (pos 0)) (var 0 ⊕ number (pos 0)) refl)
    (j ∙ ap (λ (w : ℤ). l *ℤ x +ℤ w *ℤ y +ℤ k *ℤ z) e ∙ ap (λ (w : ℤ). l *ℤ x +ℤ pos 0 *ℤ y +ℤ w *ℤ z) f
    ∙ same_value (l ∷ x ∷ y ∷ z ∷ []) (var 0 ⊗ var 1 ⊕ number (pos 0) ⊗ var 2 ⊕ number (pos 0) ⊗ var 3) (var 0 ⊗ var 1 ⊕ number (pos 0) ⊗ var 2) refl)

lone_third : (t n d l m k x y z : ℤ) → t ≢ pos 0 → l ≡ pos 0 → m ≡ pos 0 → t *ℤ d ≡ l +ℤ m +ℤ k → t *ℤ n ≡ l *ℤ x +ℤ m *ℤ y +ℤ k *ℤ z → n ≡ d *ℤ z
lone_third t n d l m k x y z h e f i j = lone_first t n d k m l z y x h f e
    (i ∙ same_value (l ∷ m ∷ k ∷ []) (var 0 ⊕ var 1 ⊕ var 2) (var 2 ⊕ var 1 ⊕ var 0) refl)
    (j ∙ same_value (l ∷ m ∷ k ∷ x ∷ y ∷ z ∷ []) (var 0 ⊗ var 3 ⊕ var 1 ⊗ var 4 ⊕ var 2 ⊗ var 5) (var 2 ⊗ var 5 ⊕ var 1 ⊗ var 4 ⊕ var 0 ⊗ var 3) refl)

module _ (a b c : Point) (s : Seg) (p : Fraction) (area : cross_of a b c ≢ pos 0) (positive : pos 0 <ℤ p.d) (inside : IsInTriangle a b c p)
    (on : cross_at s.a s.b p ≡ pos 0) (lone : (is_base_corner a c s.a && is_base_corner a c s.b) ≡ false) (z : ℤ) (unit : z *ℤ z ≡ pos 1) where
  -- a corner strictly on the side has a positive product with it
  strictly : (v : Point) → int_signum (cross_of s.a s.b v) ≡ z → pos 0 <ℤ (z *ℤ cross_of s.a s.b v)
  strictly v e = by_signum (cross_of s.a s.b v)
      (λ l f. subst (λ w. pos 0 <ℤ (w *ℤ cross_of s.a s.b v)) (sym f ∙ e) (mul_negatives {a = negsuc 0} (omega (arith, ints)) l))
      (λ l f. absurd (nothing (sym f ∙ e)))
      (λ l f. subst (λ w. pos 0 <ℤ (w *ℤ cross_of s.a s.b v)) (sym f ∙ e) (mul_positive {a = pos 1} (omega (arith, ints)) l))
    where
      nothing : pos 0 ≡ z → ⊥
      nothing f = let g : pos 0 ≡ pos 1 = ap (λ (w : ℤ). w *ℤ w) f ∙ unit in cc

  -- a corner's weight times its product with the side
  abbrev part : ℤ → Point → ℤ
  part w v = (cross_of a b c *ℤ w) *ℤ (z *ℤ cross_of s.a s.b v)

  total : part (cross_at b c p) a +ℤ part (cross_at c a p) b +ℤ part (cross_at a b p) c ≡ pos 0
  total =
      same_value (cross_of a b c ∷ cross_at b c p ∷ cross_at c a p ∷ cross_at a b p ∷ z ∷ cross_of s.a s.b a ∷ cross_of s.a s.b b ∷ cross_of s.a s.b c ∷ [])
      ((var 0 ⊗ var 1) ⊗ (var 4 ⊗ var 5) ⊕ (var 0 ⊗ var 2) ⊗ (var 4 ⊗ var 6) ⊕ (var 0 ⊗ var 3) ⊗ (var 4 ⊗ var 7))
      ((var 0 ⊗ var 4) ⊗ (var 1 ⊗ var 5 ⊕ var 2 ⊗ var 6 ⊕ var 3 ⊗ var 7)) refl
      ∙ ap (λ (w : ℤ). (cross_of a b c *ℤ z) *ℤ w) (sym (heavy a b c p s.a s.b))
      ∙ ap (λ (w : ℤ). (cross_of a b c *ℤ z) *ℤ (cross_of a b c *ℤ w)) on
      ∙ same_value (cross_of a b c ∷ z ∷ []) ((var 0 ⊗ var 1) ⊗ (var 0 ⊗ number (pos 0))) (number (pos 0)) refl

  abbrev Cases : Point → Type 0
  Cases v = (int_signum (cross_of s.a s.b v) ≡ z) ⊎ ((is_base_corner a c v ≡ true) × ((s.a ≡ v) ⊎ (s.b ≡ v)))

  not_negative_part : (w : ℤ) (v : Point) → pos 0 ≤ℤ (cross_of a b c *ℤ w) → Cases v → pos 0 ≤ℤ part w v
  not_negative_part w v h (inl e) = mul_not_negative h (le_from_lt (strictly v e))
  not_negative_part w v h (inr e) = le_from_same (sym (times_zero (cross_of a b c *ℤ w) _ (times_zero z _ (end_on_line s v e.1))))

  -- a corner strictly on the side has no weight
  no_part : (w : ℤ) (v : Point) → int_signum (cross_of s.a s.b v) ≡ z → part w v ≡ pos 0 → w ≡ pos 0
  no_part w v e f = zero_from_mul_left (cross_of a b c) area (zero_from_mul_left (z *ℤ cross_of s.a s.b v) (λ g. apart_from_lt (strictly v e) (sym g))
      (same_value ((cross_of a b c *ℤ w) ∷ (z *ℤ cross_of s.a s.b v) ∷ []) (var 1 ⊗ var 0) (var 0 ⊗ var 1) refl ∙ f))

  -- two corners that are one point leave no area
  no_area_first : b ≡ a → ⊥
  no_area_first e = area (ap (λ (v : Point). cross_of a v c) e ∙ same_value (a.x ∷ a.y ∷ c.x ∷ c.y ∷ []) (cross 0 0 1) (number (pos 0)) refl)

  no_area_second : b ≡ c → ⊥
  no_area_second e = area (ap (λ (v : Point). cross_of a v c) e ∙ same_value (a.x ∷ a.y ∷ c.x ∷ c.y ∷ []) (cross 0 1 1) (number (pos 0)) refl)

  no_area_third : a ≡ c → ⊥
  no_area_third e = area (ap (λ (v : Point). cross_of v b c) e ∙ same_value (b.x ∷ b.y ∷ c.x ∷ c.y ∷ []) (cross 1 0 1) (number (pos 0)) refl)

  not_corner : is_base_corner a c b ≡ true → ⊥
  not_corner e = elim (or_cases (same_point b a) (same_point b c) e) [
    | inl f ↦ no_area_first (same_point-true b a f)
    | inr f ↦ no_area_second (same_point-true b c f)
  ]

  -- a and c are not both ends
  both_ends : is_base_corner a c a ≡ true → is_base_corner a c c ≡ true → (s.a ≡ a) ⊎ (s.b ≡ a) → (s.a ≡ c) ⊎ (s.b ≡ c) → ⊥
  both_ends h k (inl e) (inl f) = no_area_third (sym e ∙ f)
  both_ends h k (inl e) (inr f) = true≢false (sym (and_from _ _ (subst (λ v. is_base_corner a c v ≡ true) (sym e) h) (subst (λ v. is_base_corner a c v ≡ true) (sym f) k)) ∙ lone)
  both_ends h k (inr e) (inl f) = true≢false (sym (and_from _ _ (subst (λ v. is_base_corner a c v ≡ true) (sym f) k) (subst (λ v. is_base_corner a c v ≡ true) (sym e) h)) ∙ lone)
  both_ends h k (inr e) (inr f) = no_area_third (sym e ∙ f)

  beside_apart : is_beside a b c s z ≡ true → IsSharedEnd a c s p
  beside_apart beside = by (at_side_cases a c a s z first.0) (at_side_cases a c b s z first.1) (at_side_cases a c c s z last)
    where
      first : (is_at_side a c s z a ≡ true) × (is_at_side a c s z b ≡ true)
      first = and_parts _ _ (and_parts _ (is_at_side a c s z c) beside).0

      last : is_at_side a c s z c ≡ true
      last = (and_parts (is_at_side a c s z a && is_at_side a c s z b) (is_at_side a c s z c) beside).1

      zeros : Cases a → Cases b → Cases c → (part (cross_at b c p) a ≡ pos 0) × (part (cross_at c a p) b ≡ pos 0) × (part (cross_at a b p) c ≡ pos 0)
      zeros i j k = three_zeros _ _ _ (not_negative_part _ a inside.second i) (not_negative_part _ b inside.third j) (not_negative_part _ c inside.first k) total

      by : Cases a → Cases b → Cases c → IsSharedEnd a c s p
      by i (inr j) k = absurd (not_corner j.0)
      by (inl i) (inl j) (inl k) =
          let parts = zeros (inl i) (inl j) (inl k) in
          absurd (nothing _ _ _ (no_part _ a i parts.0) (no_part _ b j parts.1) (no_part _ c k parts.2) (by_d a b c p))
        where
          zero_sum : (x y w : ℤ) → x ≡ pos 0 → y ≡ pos 0 → w ≡ pos 0 → x +ℤ y +ℤ w ≡ pos 0
          zero_sum x y w e f g = omega (arith, ints)

          nothing : (x y w : ℤ) → x ≡ pos 0 → y ≡ pos 0 → w ≡ pos 0 → cross_of a b c *ℤ p.d ≡ x +ℤ y +ℤ w → ⊥
          nothing x y w e f g h = mul_not_zero area (λ i. apart_from_lt positive (sym i)) (h ∙ zero_sum x y w e f g)
      by (inr i) (inl j) (inl k) =
          let parts = zeros (inr i) (inl j) (inl k) in
          let no_b = no_part _ b j parts.1 in
          let no_c = no_part _ c k parts.2 in
          let at : is_at p a ≡ true = and_from _ _
          ((Decides-int_eq _ _).1 (lone_first (cross_of a b c) p.nx p.d _ _ _ a.x b.x c.x area no_b no_c (by_d a b c p) (by_x a b c p)))
          ((Decides-int_eq _ _).1 (lone_first (cross_of a b c) p.ny p.d _ _ _ a.y b.y c.y area no_b no_c (by_d a b c p) (by_y a b c p))) in
          and_from _ _ (or_left (is_at p a) (is_at p c) at) (at_end s a p i.1 at)
      by (inl i) (inl j) (inr k) =
          let parts = zeros (inl i) (inl j) (inr k) in
          let no_a = no_part _ a i parts.0 in
          let no_b = no_part _ b j parts.1 in
          let at : is_at p c ≡ true = and_from _ _
          ((Decides-int_eq _ _).1 (lone_third (cross_of a b c) p.nx p.d _ _ _ a.x b.x c.x area no_a no_b (by_d a b c p) (by_x a b c p)))
          ((Decides-int_eq _ _).1 (lone_third (cross_of a b c) p.ny p.d _ _ _ a.y b.y c.y area no_a no_b (by_d a b c p) (by_y a b c p))) in
          and_from _ _ (or_right (is_at p a) (is_at p c) at) (at_end s c p k.1 at)
      by (inr i) (inl j) (inr k) = absurd (both_ends i.0 k.0 i.1 k.1)

-- ---- the two cases together

pub clear_is_apart : ClearIsApart
unfolding is_clear
clear_is_apart a b c s p area clear positive inside on =
    elim (or_cases (is_beyond a c a b c s || is_beyond a c b c a s || is_beyond a c c a b s || is_beside a b c s (pos 1)) (is_beside a b c s (neg_ℤ (pos 1))) parts.1) [
      | inr e ↦ beside_apart a b c s p area positive inside line lone (neg_ℤ (pos 1)) refl e
      | inl e ↦ elim (or_cases (is_beyond a c a b c s || is_beyond a c b c a s || is_beyond a c c a b s) (is_beside a b c s (pos 1)) e) [
        | inr f ↦ beside_apart a b c s p area positive inside line lone (pos 1) refl f
        | inl f ↦ elim (or_cases (is_beyond a c a b c s || is_beyond a c b c a s) (is_beyond a c c a b s) f) [
          | inr g ↦ beyond_apart a c c a b s p (λ h. area (third ∙ h)) positive h lone g (subst (λ (z : ℤ). pos 0 ≤ℤ (z *ℤ cross_at c a p)) third inside.third)
          | inl g ↦ elim (or_cases (is_beyond a c a b c s) (is_beyond a c b c a s) g) [
            | inr i ↦ beyond_apart a c b c a s p (λ h. area (second ∙ h)) positive h lone i (subst (λ (z : ℤ). pos 0 ≤ℤ (z *ℤ cross_at b c p)) second inside.second)
            | inl i ↦ beyond_apart a c a b c s p area positive h lone i inside.first
          ]
        ]
      ]
    ]
  where
    parts : (not (is_base_corner a c s.a && is_base_corner a c s.b) ≡ true)
        × ((is_beyond a c a b c s || is_beyond a c b c a s || is_beyond a c c a b s || is_beside a b c s (pos 1) || is_beside a b c s (neg_ℤ (pos 1))) ≡ true)
    parts = and_parts (not (is_base_corner a c s.a && is_base_corner a c s.b)) _ clear

    lone : (is_base_corner a c s.a && is_base_corner a c s.b) ≡ false
    lone = not-true _ parts.0

    h : IsBetween p s.a s.b
    h = is_between p s.a s.b positive on

    line : cross_at s.a s.b p ≡ pos 0
    line = on_line p s.a s.b on

    second : cross_of a b c ≡ cross_of b c a
    second = same_value (a.x ∷ a.y ∷ b.x ∷ b.y ∷ c.x ∷ c.y ∷ []) (cross 0 1 2) (cross 1 2 0) refl

    third : cross_of a b c ≡ cross_of c a b
    third = same_value (a.x ∷ a.y ∷ b.x ∷ b.y ∷ c.x ∷ c.y ∷ []) (cross 0 1 2) (cross 2 0 1) refl

-- the segment from a to c is a side of the triangle
base_in_triangle : (a b c : Point) (p : Fraction) → IsBetween p a c → IsInTriangle a b c p
base_in_triangle a b c p h = record {
  first = scaled (cross_at a b p) h.far (h.far_sign) (cross_between p a c h a b
      ∙ same_value (a.x ∷ a.y ∷ b.x ∷ b.y ∷ c.x ∷ c.y ∷ h.near ∷ h.far ∷ []) (var 6 ⊗ cross 0 1 0 ⊕ var 7 ⊗ cross 0 1 2) (var 7 ⊗ cross 0 1 2) refl);
  second = scaled (cross_at b c p) h.near (h.near_sign) (cross_between p a c h b c
      ∙ same_value (a.x ∷ a.y ∷ b.x ∷ b.y ∷ c.x ∷ c.y ∷ h.near ∷ h.far ∷ []) (var 6 ⊗ cross 1 2 0 ⊕ var 7 ⊗ cross 1 2 2) (var 6 ⊗ cross 0 1 2) refl);
  third = scaled (cross_at c a p) (pos 0) (le_from_same refl) (cross_between p a c h c a
      ∙ same_value (a.x ∷ a.y ∷ b.x ∷ b.y ∷ c.x ∷ c.y ∷ h.near ∷ h.far ∷ []) (var 6 ⊗ cross 2 0 0 ⊕ var 7 ⊗ cross 2 0 2) (number (pos 0) ⊗ cross 0 1 2) refl);
}
  where
    scaled : (z m : ℤ) → pos 0 ≤ℤ m → h.total *ℤ z ≡ m *ℤ cross_of a b c → pos 0 ≤ℤ (cross_of a b c *ℤ z)
    scaled z m k e = not_negative_from_mul h.total (cross_of a b c *ℤ z) h.positive (subst (λ (w : ℤ). pos 0 ≤ℤ w)
        (same_value (m ∷ cross_of a b c ∷ []) (var 0 ⊗ (var 1 ⊗ var 1)) (var 1 ⊗ (var 0 ⊗ var 1)) refl
        ∙ ap (λ (w : ℤ). cross_of a b c *ℤ w) (sym e) ∙ same_value (h.total ∷ cross_of a b c ∷ z ∷ []) (var 1 ⊗ (var 0 ⊗ var 2)) (var 0 ⊗ (var 1 ⊗ var 2)) refl)
        (mul_not_negative k (square_not_negative (cross_of a b c))))

pub clear_of_base : ClearOfBase
clear_of_base a b c s p area clear positive base on =
    clear_is_apart a b c s p area clear positive (base_in_triangle a b c p (is_between p a c positive base)) on
