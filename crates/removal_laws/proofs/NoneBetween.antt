-- Two sides of a triangle that a line crosses: a segment that the triangle is clear of is not between them there.
use Rattle.std.proofs.Common.{◌≡◌, ◌≢◌, ◌⊎◌, inl, inr, ⊎_elim, Bool, true, false, cond, ◌||◌, [], ◌∷◌, ℤ, pos, ◌+ℤ◌, ◌-ℤ◌, ◌*ℤ◌, ◌<ℤ◌, ◌≤ℤ◌, refl, sym, ap, ◌∙◌, subst, true≢false, arith}
use Rattle.std.proofs.lemmas.Bool.{and_parts, or_cases, cases_Bool}
use Rattle.std.proofs.lemmas.Int.{ints}
use Rattle.lemmas.specs.Sorting.{IsStrictOrderOn}
use Rattle.lemmas.proofs.Orders.{one_order}
use Rattle.lemmas.proofs.Fractions.{fraction_lt_lt, affine_not_negative}
use Rattle.lemmas.proofs.Polynomials.{same_value, var, number, ◌⊕◌, ◌⊖◌, ◌⊗◌, x_of, y_of, x_step, y_step, cross}
use Rattle.lemmas.proofs.Products.{zero_from_mul_left}
use Rattle.lemmas.proofs.Signs.{Decides-int_lt, le_from_lt, le_from_same, mul_positive, mul_not_negative, square_not_negative, not_negative_from_mul, apart_from_lt, same_from_sub}
use Rattle.tgap_model.specs.declared.geometry.Point.{Point}
use Rattle.tgap_model.specs.declared.geometry.Fraction.{Fraction}
use Rattle.tgap_model.specs.declared.geometry.Seg.{Seg}
use Rattle.tgap_model.specs.Point.{cross as cross_of}
use Rattle.tgap_model.specs.Clear.{is_clear}
use Rattle.tgap_model.specs.Segment.{Line, IsBetweenColumns, cross_at, is_at, goes_right, rightward, run, height, is_higher}
use Rattle.tgap_model.specs.declared.segment.LabelledSegment.{LabelledSegment}
use Rattle.removal_laws.specs.TriangleLaws.{IsInTriangle}
use Rattle.removal_laws.proofs.Between.{IsBetween, is_on_from, cross_between}
use Rattle.removal_laws.proofs.ClearTriangle.{clear_is_apart}
use Rattle.removal_laws.proofs.Spots.{spot, HasSpot, spot_of, no_vertex, IsCrossed, higher, IsDecided, height_order}

-- ---- points of the triangle

-- the orientation times another number keeps its sign between two points
mean_sign : (p : Fraction) (u v k l : Point) (d : ℤ) → IsBetween p u v → pos 0 ≤ℤ (d *ℤ cross_of k l u) → pos 0 ≤ℤ (d *ℤ cross_of k l v) → pos 0 ≤ℤ (d *ℤ cross_at k l p)
mean_sign p u v k l d h i j = not_negative_from_mul h.total (d *ℤ cross_at k l p) h.positive (subst (λ (z : ℤ). pos 0 ≤ℤ z) (sym weighted)
    (sum _ _ (mul_not_negative h.near_sign i) (mul_not_negative h.far_sign j)))
  where
    sum : (x y : ℤ) → pos 0 ≤ℤ x → pos 0 ≤ℤ y → pos 0 ≤ℤ (x +ℤ y)
    sum x y f g = omega (arith, ints)

    weighted : h.total *ℤ (d *ℤ cross_at k l p) ≡ h.near *ℤ (d *ℤ cross_of k l u) +ℤ h.far *ℤ (d *ℤ cross_of k l v)
    weighted =
        same_value (h.total ∷ d ∷ cross_at k l p ∷ []) (var 0 ⊗ (var 1 ⊗ var 2)) (var 1 ⊗ (var 0 ⊗ var 2)) refl
        ∙ ap (λ (z : ℤ). d *ℤ z) (cross_between p u v h k l)
        ∙ same_value (d ∷ h.near ∷ h.far ∷ cross_of k l u ∷ cross_of k l v ∷ []) (var 0 ⊗ (var 1 ⊗ var 3 ⊕ var 2 ⊗ var 4)) (var 1 ⊗ (var 0 ⊗ var 3) ⊕ var 2 ⊗ (var 0 ⊗ var 4)) refl

module _ (a b c : Point) where
  -- a grid point of the closed triangle
  pub record IsCorner (v : Point) : Type 0 where
    pub first : pos 0 ≤ℤ (cross_of a b c *ℤ cross_of a b v)
    pub second : pos 0 ≤ℤ (cross_of a b c *ℤ cross_of b c v)
    pub third : pos 0 ≤ℤ (cross_of a b c *ℤ cross_of c a v)

  nothing : (z : ℤ) → z ≡ pos 0 → pos 0 ≤ℤ (cross_of a b c *ℤ z)
  nothing z e = le_from_same (sym (ap (λ (w : ℤ). cross_of a b c *ℤ w) e ∙ same_value (cross_of a b c ∷ []) (var 0 ⊗ number (pos 0)) (number (pos 0)) refl))

  square : (z : ℤ) → z ≡ cross_of a b c → pos 0 ≤ℤ (cross_of a b c *ℤ z)
  square z e = subst (λ (w : ℤ). pos 0 ≤ℤ (cross_of a b c *ℤ w)) (sym e) (square_not_negative (cross_of a b c))

  at_start : (u v : Point) → cross_of u v u ≡ pos 0
  at_start u v = same_value (u.x ∷ u.y ∷ v.x ∷ v.y ∷ []) (cross 0 1 0) (number (pos 0)) refl

  at_end : (u v : Point) → cross_of u v v ≡ pos 0
  at_end u v = same_value (u.x ∷ u.y ∷ v.x ∷ v.y ∷ []) (cross 0 1 1) (number (pos 0)) refl

  from_b : cross_of b c a ≡ cross_of a b c
  from_b = same_value (a.x ∷ a.y ∷ b.x ∷ b.y ∷ c.x ∷ c.y ∷ []) (cross 1 2 0) (cross 0 1 2) refl

  from_c : cross_of c a b ≡ cross_of a b c
  from_c = same_value (a.x ∷ a.y ∷ b.x ∷ b.y ∷ c.x ∷ c.y ∷ []) (cross 2 0 1) (cross 0 1 2) refl

  pub corner_a : IsCorner a
  corner_a = record { first = nothing _ (at_start a b); second = square _ from_b; third = nothing _ (at_end c a) }

  pub corner_b : IsCorner b
  corner_b = record { first = nothing _ (at_end a b); second = nothing _ (at_start b c); third = square _ from_c }

  pub corner_c : IsCorner c
  corner_c = record { first = square _ refl; second = nothing _ (at_end b c); third = nothing _ (at_start c a) }

  -- a point between two of them is one of the triangle
  pub side_in_triangle : (p : Fraction) (u v : Point) → IsCorner u → IsCorner v → IsBetween p u v → IsInTriangle a b c p
  side_in_triangle p u v i j h = record {
    first = mean_sign p u v a b (cross_of a b c) h i.first j.first;
    second = mean_sign p u v b c (cross_of a b c) h i.second j.second;
    third = mean_sign p u v c a (cross_of a b c) h i.third j.third;
  }

  -- a point of a line between two of the triangle is one too
  module _ (l : Line) (n r m q : ℤ) (i j : ℤ) (r_positive : pos 0 <ℤ r) (q_positive : pos 0 <ℤ q)
      (further : (n *ℤ q) <ℤ (m *ℤ r)) (from : (n *ℤ j) ≤ℤ (i *ℤ r)) (to : (i *ℤ q) ≤ℤ (m *ℤ j)) where
    sign_between : (u v : Point) → pos 0 ≤ℤ (cross_of a b c *ℤ cross_at u v (spot l n r)) → pos 0 ≤ℤ (cross_of a b c *ℤ cross_at u v (spot l m q))
        → pos 0 ≤ℤ (cross_of a b c *ℤ cross_at u v (spot l i j))
    sign_between u v f g = subst (λ (z : ℤ). pos 0 ≤ℤ z) (sym (affine i j))
        (affine_not_negative slope shift n m i j r_positive q_positive further from to
        (subst (λ (z : ℤ). pos 0 ≤ℤ z) (affine n r) f) (subst (λ (z : ℤ). pos 0 ≤ℤ z) (affine m q) g))
      where
        slope : ℤ
        slope = cross_of a b c *ℤ (v.x -ℤ u.x)

        shift : ℤ
        shift = cross_of a b c *ℤ (pos 0 -ℤ ((v.x -ℤ u.x) *ℤ (l.c *ℤ u.y) +ℤ (v.y -ℤ u.y) *ℤ (l.a -ℤ l.c *ℤ u.x)))

        affine : (x y : ℤ) → cross_of a b c *ℤ cross_at u v (spot l x y) ≡ slope *ℤ x +ℤ shift *ℤ y
        affine x y = same_value (u.x ∷ u.y ∷ v.x ∷ v.y ∷ l.a ∷ l.c ∷ x ∷ y ∷ cross_of a b c ∷ [])
            (var 8 ⊗ (x_step 0 1 ⊗ (var 6 ⊖ (var 5 ⊗ var 7) ⊗ y_of 0) ⊖ y_step 0 1 ⊗ (var 4 ⊗ var 7 ⊖ (var 5 ⊗ var 7) ⊗ x_of 0)))
            ((var 8 ⊗ x_step 0 1) ⊗ var 6 ⊕ (var 8 ⊗ (number (pos 0) ⊖ (x_step 0 1 ⊗ (var 5 ⊗ y_of 0) ⊕ y_step 0 1 ⊗ (var 4 ⊖ var 5 ⊗ x_of 0)))) ⊗ var 7) refl

    pub spot_in_triangle : IsInTriangle a b c (spot l n r) → IsInTriangle a b c (spot l m q) → IsInTriangle a b c (spot l i j)
    spot_in_triangle f g = record {
      first = sign_between a b f.first g.first;
      second = sign_between b c f.second g.second;
      third = sign_between c a f.third g.third;
    }

-- ---- none is between

-- a segment with a run is not vertical
not_vertical : (s : Seg) → pos 0 <ℤ run (rightward s) → s.b.x -ℤ s.a.x ≢ pos 0
not_vertical s h e = by (goes_right s) h
  where
    back : (x y : ℤ) → y -ℤ x ≡ pos 0 → x -ℤ y ≡ pos 0
    back x y f = omega (arith, ints)

    by : (v : Bool) → pos 0 <ℤ run (cond v s (record { a = s.b; b = s.a })) → ⊥
    by true k = apart_from_lt k (sym e)
    by false k = apart_from_lt k (sym (back s.a.x s.b.x e))

-- what the triangle of a, b and c is to a segment: without area, or clear of it
abbrev pub IsFreeOf : Point → Point → Point → Seg → Type 0
IsFreeOf a b c s = (cross_of a b c ≡ pos 0) ⊎ ((cross_of a b c ≢ pos 0) × (is_clear a b c s ≡ true))

-- Two segments whose ends are corners; without area they are on one line.
pub record AreSides (a b c : Point) (e f : Seg) : Type 0 where
  pub first_start : IsCorner a b c e.a
  pub first_end : IsCorner a b c e.b
  pub second_start : IsCorner a b c f.a
  pub second_end : IsCorner a b c f.b
  pub flat_start : cross_of a b c ≡ pos 0 → cross_of e.a e.b f.a ≡ pos 0
  pub flat_end : cross_of a b c ≡ pos 0 → cross_of e.a e.b f.b ≡ pos 0

module _ (a b c : Point) (l : Line) (columns : IsBetweenColumns l) (s e f : LabelledSegment) (crossed_s : IsCrossed l s) (crossed_e : IsCrossed l e) (crossed_f : IsCrossed l f)
    (sides : AreSides a b c e.segment f.segment) (free : IsFreeOf a b c s.segment) where
  of_s : HasSpot l s.segment
  of_s = spot_of l columns.rational s.segment crossed_s

  of_e : HasSpot l e.segment
  of_e = spot_of l columns.rational e.segment crossed_e

  of_f : HasSpot l f.segment
  of_f = spot_of l columns.rational f.segment crossed_f

  height_of : LabelledSegment → ℤ
  height_of t = height l (rightward t.segment)

  run_of : LabelledSegment → ℤ
  run_of t = run (rightward t.segment)

  spot_at : LabelledSegment → Fraction
  spot_at t = spot l (height l (rightward t.segment)) (run (rightward t.segment))

  pub none_between : higher l s e ≡ true → higher l f s ≡ true → ⊥
  unfolding is_higher height_of run_of spot_at
  none_between up down = ⊎_elim flat with_area free
    where
      above_e : (height_of e *ℤ run_of s) <ℤ (height_of s *ℤ run_of e)
      above_e = (Decides-int_lt (height_of e *ℤ run_of s) (height_of s *ℤ run_of e)).0 up

      below_f : (height_of s *ℤ run_of f) <ℤ (height_of f *ℤ run_of s)
      below_f = (Decides-int_lt (height_of s *ℤ run_of f) (height_of f *ℤ run_of s)).0 down

      further : (height_of e *ℤ run_of f) <ℤ (height_of f *ℤ run_of e)
      further = fraction_lt_lt (height_of e) (height_of s) (height_of f) of_e.positive of_s.positive of_f.positive above_e below_f

      with_area : (cross_of a b c ≢ pos 0) × (is_clear a b c s.segment ≡ true) → ⊥
      with_area k =
          let here = clear_is_apart a b c s.segment (spot_at s) k.0 k.1 (mul_positive columns.rational of_s.positive)
          (spot_in_triangle a b c l (height_of e) (run_of e) (height_of f) (run_of f) (height_of s) (run_of s) of_e.positive of_f.positive further (le_from_lt above_e) (le_from_lt below_f)
          (side_in_triangle a b c (spot_at e) e.segment.a e.segment.b sides.first_start sides.first_end of_e.between)
          (side_in_triangle a b c (spot_at f) f.segment.a f.segment.b sides.second_start sides.second_end of_f.between))
          (is_on_from (spot_at s) s.segment.a s.segment.b of_s.between) in
          elim (or_cases (is_at (spot_at s) a) (is_at (spot_at s) c) (and_parts (is_at (spot_at s) a || is_at (spot_at s) c) _ here).0) [
            | inl g ↦ no_vertex l columns.rational (height_of s) (run_of s) a of_s.positive columns.apart g
            | inr g ↦ no_vertex l columns.rational (height_of s) (run_of s) c of_s.positive columns.apart g
          ]

      slope : ℤ
      slope = e.segment.b.x -ℤ e.segment.a.x

      shift : ℤ
      shift = pos 0 -ℤ ((e.segment.b.x -ℤ e.segment.a.x) *ℤ (l.c *ℤ e.segment.a.y) +ℤ (e.segment.b.y -ℤ e.segment.a.y) *ℤ (l.a -ℤ l.c *ℤ e.segment.a.x))

      affine : (x y : ℤ) → cross_at e.segment.a e.segment.b (spot l x y) ≡ slope *ℤ x +ℤ shift *ℤ y
      affine x y = same_value (e.segment.a.x ∷ e.segment.a.y ∷ e.segment.b.x ∷ e.segment.b.y ∷ l.a ∷ l.c ∷ x ∷ y ∷ [])
          (x_step 0 1 ⊗ (var 6 ⊖ (var 5 ⊗ var 7) ⊗ y_of 0) ⊖ y_step 0 1 ⊗ (var 4 ⊗ var 7 ⊖ (var 5 ⊗ var 7) ⊗ x_of 0))
          (x_step 0 1 ⊗ var 6 ⊕ (number (pos 0) ⊖ (x_step 0 1 ⊗ (var 5 ⊗ y_of 0) ⊕ y_step 0 1 ⊗ (var 4 ⊖ var 5 ⊗ x_of 0))) ⊗ var 7) refl

      -- a point between two points of the line of e is on that line
      on_line : (p : Fraction) (u v : Point) → IsBetween p u v → cross_of e.segment.a e.segment.b u ≡ pos 0 → cross_of e.segment.a e.segment.b v ≡ pos 0
          → cross_at e.segment.a e.segment.b p ≡ pos 0
      on_line p u v h i j = zero_from_mul_left h.total (λ z. apart_from_lt h.positive (sym z)) (
          cross_between p u v h e.segment.a e.segment.b
          ∙ ap (λ (z : ℤ). h.near *ℤ z +ℤ h.far *ℤ cross_of e.segment.a e.segment.b v) i
          ∙ ap (λ (z : ℤ). h.near *ℤ pos 0 +ℤ h.far *ℤ z) j
          ∙ same_value (h.near ∷ h.far ∷ []) (var 0 ⊗ number (pos 0) ⊕ var 1 ⊗ number (pos 0)) (number (pos 0)) refl)

      flat : cross_of a b c ≡ pos 0 → ⊥
      flat k = apart_from_lt further (same_from_sub _ _ (zero_from_mul_left slope (not_vertical e.segment of_e.positive) (
          same_value (slope ∷ shift ∷ height_of e ∷ run_of e ∷ height_of f ∷ run_of f ∷ [])
          (var 0 ⊗ (var 4 ⊗ var 3 ⊖ var 2 ⊗ var 5)) ((var 0 ⊗ var 4 ⊕ var 1 ⊗ var 5) ⊗ var 3 ⊖ (var 0 ⊗ var 2 ⊕ var 1 ⊗ var 3) ⊗ var 5) refl
          ∙ ap (λ (z : ℤ). z *ℤ run_of e -ℤ (slope *ℤ height_of e +ℤ shift *ℤ run_of e) *ℤ run_of f)
          (sym (affine (height_of f) (run_of f)) ∙ on_line (spot_at f) f.segment.a f.segment.b of_f.between (sides.flat_start k) (sides.flat_end k))
          ∙ ap (λ (z : ℤ). pos 0 *ℤ run_of e -ℤ z *ℤ run_of f)
          (sym (affine (height_of e) (run_of e)) ∙ on_line (spot_at e) e.segment.a e.segment.b of_e.between (at_start a b c e.segment.a e.segment.b) (at_end a b c e.segment.a e.segment.b))
          ∙ same_value (run_of e ∷ run_of f ∷ []) (number (pos 0) ⊗ var 0 ⊖ number (pos 0) ⊗ var 1) (number (pos 0)) refl)))

-- so the segment stands to both sides in one order
pub same_order : (a b c : Point) (l : Line) (columns : IsBetweenColumns l) (s e f : LabelledSegment) → IsCrossed l s → IsCrossed l e → IsCrossed l f
    → AreSides a b c e.segment f.segment → AreSides a b c f.segment e.segment → IsFreeOf a b c s.segment
    → IsDecided l s e → IsDecided l s f → (higher l s e ≡ higher l s f) × (higher l e s ≡ higher l f s)
same_order a b c l columns s e f cs ce cf sides back free with_e with_f = by (cases_Bool (higher l s e)) (cases_Bool (higher l s f))
  where
    order : IsStrictOrderOn (IsCrossed l) (higher l)
    order = height_order l columns

    other : (t : LabelledSegment) → IsCrossed l t → IsDecided l s t → higher l s t ≡ false → higher l t s ≡ true
    other t ct decided g = ⊎_elim (λ h. absurd (true≢false (sym h ∙ g))) (λ h. h) (or_cases (higher l s t) (higher l t s) (decided cs ct))

    by : ((higher l s e ≡ true) ⊎ (higher l s e ≡ false)) → ((higher l s f ≡ true) ⊎ (higher l s f ≡ false)) → (higher l s e ≡ higher l s f) × (higher l e s ≡ higher l f s)
    by (inl g) (inl h) = (g ∙ sym h, one_order order s e cs ce g ∙ sym (one_order order s f cs cf h))
    by (inl g) (inr h) = absurd (none_between a b c l columns s e f cs ce cf sides free g (other f cf with_f h))
    by (inr g) (inl h) = absurd (none_between a b c l columns s f e cs cf ce back free h (other e ce with_e g))
    by (inr g) (inr h) = (g ∙ sym h, other e ce with_e g ∙ sym (other f cf with_f h))
