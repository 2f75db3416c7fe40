-- No other segment leaves an end of the segment that takes the place of two in a direction between that to the vertex that is taken out
-- and that to the other end.
use Rattle.std.proofs.Common.{◌≡◌, ◌≢◌, ◌⊎◌, inl, inr, ⊎_elim, true, false, not, ◌&&◌, ◌||◌, ◌==◌, List, [], ◌∷◌, ◌++◌, All, Contains, ℤ, pos, negsuc, ◌*ℤ◌, ◌+ℤ◌, ◌-ℤ◌, neg_ℤ, ◌<ℤ◌, unsigned_abs, refl, sym, ap, ap₂, ◌∙◌, subst, true≢false, arith}
use Rattle.std.specs.List.{list_all}
use Rattle.std.specs.Int.{int_signum}
use Rattle.std.specs.Int.Signed.{clash_ℤ}
use Rattle.std.proofs.lemmas.Bool.{and_parts, and_from, or_cases, or_left, or_right, not-true, eqb-true, eqb-false, cases_Bool, cases_eq}
use Rattle.std.proofs.lemmas.Int.{ints}
use Rattle.std.proofs.lemmas.List.Elements.{All-contains}
use Rattle.lemmas.proofs.Polynomials.{same_value, var, number, minus, ◌⊕◌, ◌⊖◌, ◌⊗◌, x_of, y_of, x_step, y_step, cross, Polynomial}
use Rattle.lemmas.proofs.Signs.{by_order, by_signum, le_from_lt, mul_positive, mul_negatives, mul_not_zero, positive_from_mul, square_not_negative, square_positive, apart_from_lt, zero_from_unsigned_abs}
use Rattle.tgap_model.specs.declared.geometry.Point.{Point}
use Rattle.tgap_model.specs.declared.geometry.Fraction.{Fraction}
use Rattle.tgap_model.specs.declared.geometry.Seg.{Seg}
use Rattle.tgap_model.specs.declared.geometry.Shared.{Shared}
use Rattle.tgap_model.specs.declared.slice.Edge.{Edge}
use Rattle.tgap_model.specs.declared.segment.LabelledSegment.{LabelledSegment}
use Rattle.tgap_model.specs.Base.{same_point}
use Rattle.tgap_model.specs.Point.{cross as cross_of, area2}
use Rattle.tgap_model.specs.Segment.{is_at, is_on, half_turn}
use Rattle.tgap_model.specs.Clear.{is_base_corner, lies_away, is_beyond, is_at_side, is_beside, is_clear}
use Rattle.tgap_model.specs.Partition.{AreApart, shared_ends, is_empty}
use Rattle.tgap_model.proofs.Points.{same_point-true, same_point-from}
use Rattle.removal_laws.specs.ReplaceLaws.{is_free, other_segments}
use Rattle.removal_laws.specs.StandLaws.{AreSound}
use Rattle.removal_laws.specs.WedgeLaws.{AreJoined, HaveOnePlace, NeighboursHaveOnePlace}
use Rattle.removal_laws.proofs.Between.{IsBetween, is_between, between_turned, is_on_from}
use Rattle.removal_laws.proofs.ClearTriangle.{away_cases, at_side_cases}
use Rattle.removal_laws.proofs.Pairs.{all_pass}
use Rattle.removal_laws.proofs.Apart.{at_first, at_last, whole, at_itself, at_whole, permitted_common, first_of_two, second_of_two}
use Rattle.removal_laws.proofs.Replaced.{ab, bc, m}
use Rattle.removal_laws.proofs.Sound.{others, next_apart, a_apart, c_apart, ends_apart}
use Rattle.removal_laws.proofs.Opposite.{dot, dot_negative, square_step, parallel_alike}
use Rattle.removal_laws.proofs.OnePlace.{IsOutside, have_one_place}

-- ---- a triangle that is clear of a segment from one of its corners

-- the segment joins the two points
abbrev pub Joins : Seg → Point → Point → Type 0
Joins s o q = ((s.a ≡ o) × (s.b ≡ q)) ⊎ ((s.a ≡ q) × (s.b ≡ o))

-- points where the orientations of the other two corners against the segment have one sign are outside the wedge
one_side_outside : (d x y : ℤ) → d ≢ pos 0 → pos 0 <ℤ (x *ℤ y) → ((d *ℤ x) <ℤ pos 0) ⊎ (pos 0 <ℤ (d *ℤ y))
one_side_outside d x y n h = by_order (d *ℤ x) (pos 0) inl
    (λ e. absurd (mul_not_zero n other e))
    (λ l. inr (positive_from_mul (x *ℤ x) (d *ℤ y) (square_positive x other) (subst (λ (z : ℤ). pos 0 <ℤ z)
    (same_value (d ∷ x ∷ y ∷ []) ((var 0 ⊗ var 1) ⊗ (var 1 ⊗ var 2)) ((var 1 ⊗ var 1) ⊗ (var 0 ⊗ var 2)) refl) (mul_positive l h))))
  where
    other : x ≢ pos 0
    other e = apart_from_lt h (sym (ap (λ (z : ℤ). z *ℤ y) e ∙ same_value (y ∷ []) (number (pos 0) ⊗ var 0) (number (pos 0)) refl))

module _ (a b c : Point) (area : cross_of a b c ≢ pos 0) where
  -- the corners are three points
  b_not_a : a ≢ b
  b_not_a e = area (ap (λ (v : Point). cross_of a v c) (sym e) ∙ same_value (a.x ∷ a.y ∷ c.x ∷ c.y ∷ []) (cross 0 0 1) (number (pos 0)) refl)

  b_not_c : c ≢ b
  b_not_c e = area (ap (λ (v : Point). cross_of a v c) (sym e) ∙ same_value (a.x ∷ a.y ∷ c.x ∷ c.y ∷ []) (cross 0 1 1) (number (pos 0)) refl)

  a_not_c : a ≢ c
  a_not_c e = area (ap (λ (v : Point). cross_of v b c) e ∙ same_value (b.x ∷ b.y ∷ c.x ∷ c.y ∷ []) (cross 1 0 1) (number (pos 0)) refl)

  not_corner : is_base_corner a c b ≡ true → ⊥
  not_corner e = elim (or_cases (same_point b a) (same_point b c) e) [
    | inl f ↦ b_not_a (sym (same_point-true b a f))
    | inr f ↦ b_not_c (sym (same_point-true b c f))
  ]

  -- no corner is on the far side of the side opposite to it
  never_away : (u v w : Point) → cross_of u v w ≢ pos 0 → lies_away a c u v w w ≡ true → ⊥
  never_away u v w n h = elim (away_cases a c u v w w n h) [
    | inl l ↦ clash_ℤ l (square_not_negative (cross_of u v w))
    | inr e ↦ n e.1
  ]

  -- a corner o that is a or c, the other one f, and the far end q of the segment from o
  module _ (s : Seg) (o f q : Point) (corner : is_base_corner a c o ≡ true) (apart : o ≢ f)
      (lone : (is_base_corner a c s.a && is_base_corner a c s.b) ≡ false) (joins : Joins s o q) where
    far_not_corner : is_base_corner a c q ≡ true → ⊥
    far_not_corner e = elim joins [
      | inl j ↦ true≢false (sym (and_from _ _ (at j.0 corner) (at j.1 e)) ∙ lone)
      | inr j ↦ true≢false (sym (and_from _ _ (at j.0 e) (at j.1 corner)) ∙ lone)
    ]
      where
        at : {u v : Point} → u ≡ v → is_base_corner a c v ≡ true → is_base_corner a c u ≡ true
        at {u} {v} g h = subst (λ (w : Point). is_base_corner a c w ≡ true) (sym g) h

    both_away : (u v w : Point) → is_beyond a c u v w s ≡ true → (lies_away a c u v w o ≡ true) × (lies_away a c u v w q ≡ true)
    both_away u v w h =
        let parts = and_parts (lies_away a c u v w s.a) (lies_away a c u v w s.b) h in
        elim joins [
          | inl j ↦ (subst (λ (x : Point). lies_away a c u v w x ≡ true) j.0 parts.0, subst (λ (x : Point). lies_away a c u v w x ≡ true) j.1 parts.1)
          | inr j ↦ (subst (λ (x : Point). lies_away a c u v w x ≡ true) j.1 parts.1, subst (λ (x : Point). lies_away a c u v w x ≡ true) j.0 parts.0)
        ]

    -- the far end is strictly on the other side
    far_away : (u v w : Point) → cross_of u v w ≢ pos 0 → is_beyond a c u v w s ≡ true → (cross_of u v w *ℤ cross_of u v q) <ℤ pos 0
    far_away u v w n h = elim (away_cases a c u v w q n (both_away u v w h).1) [ inl l ↦ l | inr e ↦ absurd (far_not_corner e.0) ]

    -- the two other corners are strictly on one side
    module _ (z : ℤ) (unit : z *ℤ z ≡ pos 1) (beside : is_beside a b c s z ≡ true) (other : is_base_corner a c f ≡ true → is_at_side a c s z f ≡ true)
        (f_corner : is_base_corner a c f ≡ true) where
      at_b : int_signum (cross_of s.a s.b b) ≡ z
      at_b = elim (at_side_cases a c b s z (and_parts _ _ (and_parts _ (is_at_side a c s z c) beside).0).1) [ inl e ↦ e | inr e ↦ absurd (not_corner e.0) ]

      at_f : int_signum (cross_of s.a s.b f) ≡ z
      at_f = elim (at_side_cases a c f s z (other f_corner)) [
        | inl e ↦ e
        | inr e ↦ absurd (by joins e.1)
      ]
        where
          by : Joins s o q → (s.a ≡ f) ⊎ (s.b ≡ f) → ⊥
          by (inl j) (inl e) = apart (sym j.0 ∙ e)
          by (inl j) (inr e) = far_not_corner (subst (λ (v : Point). is_base_corner a c v ≡ true) (sym e ∙ j.1) f_corner)
          by (inr j) (inl e) = far_not_corner (subst (λ (v : Point). is_base_corner a c v ≡ true) (sym e ∙ j.0) f_corner)
          by (inr j) (inr e) = apart (sym j.1 ∙ e)

      -- numbers of one sign that is not 0
      one_sign : (x y : ℤ) → int_signum x ≡ z → int_signum y ≡ z → pos 0 <ℤ (x *ℤ y)
      one_sign x y g h = by_signum x
          (λ l e. by_signum y (λ k i. mul_negatives l k) (λ k i. absurd (nothing (sym i ∙ h))) (λ k i. absurd (two (sym e ∙ g) (sym i ∙ h))))
          (λ l e. absurd (nothing (sym e ∙ g)))
          (λ l e. by_signum y (λ k i. absurd (two (sym i ∙ h) (sym e ∙ g))) (λ k i. absurd (nothing (sym i ∙ h))) (λ k i. mul_positive l k))
        where
          nothing : pos 0 ≡ z → ⊥
          nothing i = let k : pos 0 ≡ pos 1 = ap (λ (w : ℤ). w *ℤ w) i ∙ unit in cc

          two : negsuc 0 ≡ z → pos 1 ≡ z → ⊥
          two i k = let l : negsuc 0 ≡ pos 1 = i ∙ sym k in cc

      beside_outside : pos 0 <ℤ (cross_of o b q *ℤ cross_of o f q)
      beside_outside = subst (λ (w : ℤ). pos 0 <ℤ w) (by joins) (one_sign _ _ at_b at_f)
        where
          by : Joins s o q → cross_of s.a s.b b *ℤ cross_of s.a s.b f ≡ cross_of o b q *ℤ cross_of o f q
          by (inl j) =
              ap₂ (λ (u v : Point). cross_of u v b *ℤ cross_of u v f) j.0 j.1
              ∙ same_value (o.x ∷ o.y ∷ q.x ∷ q.y ∷ b.x ∷ b.y ∷ f.x ∷ f.y ∷ []) (cross 0 1 2 ⊗ cross 0 1 3) (cross 0 2 1 ⊗ cross 0 3 1) refl
          by (inr j) =
              ap₂ (λ (u v : Point). cross_of u v b *ℤ cross_of u v f) j.0 j.1
              ∙ same_value (o.x ∷ o.y ∷ q.x ∷ q.y ∷ b.x ∷ b.y ∷ f.x ∷ f.y ∷ []) (cross 1 0 2 ⊗ cross 1 0 3) (cross 0 2 1 ⊗ cross 0 3 1) refl

  -- ---- a segment of which the triangle is clear

  module _ (s : Seg) (clear : is_clear a b c s ≡ true) where
    parts : (not (is_base_corner a c s.a && is_base_corner a c s.b) ≡ true)
        × ((is_beyond a c a b c s || is_beyond a c b c a s || is_beyond a c c a b s || is_beside a b c s (pos 1) || is_beside a b c s (neg_ℤ (pos 1))) ≡ true)
    unfolding is_clear
    parts = and_parts (not (is_base_corner a c s.a && is_base_corner a c s.b)) _ clear

    lone : (is_base_corner a c s.a && is_base_corner a c s.b) ≡ false
    lone = not-true _ parts.0

    by_cases : {P : Type 0} → (is_beyond a c a b c s ≡ true → P) → (is_beyond a c b c a s ≡ true → P) → (is_beyond a c c a b s ≡ true → P)
        → ((z : ℤ) → z *ℤ z ≡ pos 1 → is_beside a b c s z ≡ true → P) → P
    by_cases {P} first second third beside =
        ⊎_elim
        (λ e. ⊎_elim
        (λ f. ⊎_elim
        (λ g. ⊎_elim first second (or_cases (is_beyond a c a b c s) (is_beyond a c b c a s) g))
        third (or_cases (is_beyond a c a b c s || is_beyond a c b c a s) (is_beyond a c c a b s) f))
        (beside (pos 1) refl) (or_cases (is_beyond a c a b c s || is_beyond a c b c a s || is_beyond a c c a b s) (is_beside a b c s (pos 1)) e))
        (beside (neg_ℤ (pos 1)) refl)
        (or_cases (is_beyond a c a b c s || is_beyond a c b c a s || is_beyond a c c a b s || is_beside a b c s (pos 1)) (is_beside a b c s (neg_ℤ (pos 1))) parts.1)

    corner_a : is_base_corner a c a ≡ true
    corner_a = or_left (same_point a a) (same_point a c) (same_point-from a a refl)

    corner_c : is_base_corner a c c ≡ true
    corner_c = or_right (same_point c a) (same_point c c) (same_point-from c c refl)

    beside_a : (z : ℤ) → is_beside a b c s z ≡ true → is_at_side a c s z a ≡ true
    beside_a z h = (and_parts _ _ (and_parts _ (is_at_side a c s z c) h).0).0

    beside_c : (z : ℤ) → is_beside a b c s z ≡ true → is_at_side a c s z c ≡ true
    beside_c z h = (and_parts (is_at_side a c s z a && is_at_side a c s z b) (is_at_side a c s z c) h).1

    turned : cross_of b c a ≡ cross_of a b c
    turned = same_value (a.x ∷ a.y ∷ b.x ∷ b.y ∷ c.x ∷ c.y ∷ []) (cross 1 2 0) (cross 0 1 2) refl

    turned_twice : cross_of c a b ≡ cross_of a b c
    turned_twice = same_value (a.x ∷ a.y ∷ b.x ∷ b.y ∷ c.x ∷ c.y ∷ []) (cross 2 0 1) (cross 0 1 2) refl

    back : cross_of c b a ≡ neg_ℤ (cross_of a b c)
    back = same_value (a.x ∷ a.y ∷ b.x ∷ b.y ∷ c.x ∷ c.y ∷ []) (cross 2 1 0) (minus (cross 0 1 2)) refl

    positive_by : (x y : ℤ) → x <ℤ pos 0 → neg_ℤ x ≡ y → pos 0 <ℤ y
    positive_by x y h e = omega (arith, ints)

    negative : (x : ℤ) → neg_ℤ x ≡ pos 0 → x ≡ pos 0
    negative x e = omega (arith, ints)

    outside_at_a : (q : Point) → Joins s a q → (a ≢ q) × IsOutside a b c q
    outside_at_a q joins = (
      (λ e. far_not_corner s a c q corner_a a_not_c lone joins (subst (λ (v : Point). is_base_corner a c v ≡ true) e corner_a)),
      by_cases
          (λ h. inl (far_away s a c q corner_a a_not_c lone joins a b c area h))
          (λ h. absurd (never_away b c a (λ e. area (sym turned ∙ e)) (both_away s a c q corner_a a_not_c lone joins b c a h).0))
          (λ h. inr (positive_by _ _ (far_away s a c q corner_a a_not_c lone joins c a b (λ e. area (sym turned_twice ∙ e)) h)
          (same_value (a.x ∷ a.y ∷ b.x ∷ b.y ∷ c.x ∷ c.y ∷ q.x ∷ q.y ∷ []) (minus (cross 2 0 1 ⊗ cross 2 0 3)) (cross 0 1 2 ⊗ cross 0 2 3) refl)))
          (λ z unit h. one_side_outside (cross_of a b c) (cross_of a b q) (cross_of a c q) area
          (beside_outside s a c q corner_a a_not_c lone joins z unit h (λ e. beside_c z h) corner_c)),
    )

    outside_at_c : (q : Point) → Joins s c q → (c ≢ q) × IsOutside c b a q
    outside_at_c q joins = (
      (λ e. far_not_corner s c a q corner_c c_not_a lone joins (subst (λ (v : Point). is_base_corner a c v ≡ true) e corner_c)),
      by_cases
          (λ h. absurd (never_away a b c area (both_away s c a q corner_c c_not_a lone joins a b c h).0))
          (λ h. inl (subst (λ (z : ℤ). z <ℤ pos 0)
          (same_value (a.x ∷ a.y ∷ b.x ∷ b.y ∷ c.x ∷ c.y ∷ q.x ∷ q.y ∷ []) (cross 1 2 0 ⊗ cross 1 2 3) (cross 2 1 0 ⊗ cross 2 1 3) refl)
          (far_away s c a q corner_c c_not_a lone joins b c a (λ e. area (sym turned ∙ e)) h)))
          (λ h. inr (positive_by _ _ (far_away s c a q corner_c c_not_a lone joins c a b (λ e. area (sym turned_twice ∙ e)) h)
          (same_value (a.x ∷ a.y ∷ b.x ∷ b.y ∷ c.x ∷ c.y ∷ q.x ∷ q.y ∷ []) (minus (cross 2 0 1 ⊗ cross 2 0 3)) (cross 2 1 0 ⊗ cross 2 0 3) refl)))
          (λ z unit h. one_side_outside (cross_of c b a) (cross_of c b q) (cross_of c a q) other_area
          (beside_outside s c a q corner_c c_not_a lone joins z unit h (λ e. beside_a z h) corner_a)),
    )
      where
        c_not_a : c ≢ a
        c_not_a e = a_not_c (sym e)

        other_area : cross_of c b a ≢ pos 0
        other_area e = area (negative (cross_of a b c) (sym back ∙ e))

-- ---- three points on one line

-- where a is not between b and c, the two are of one half turn seen from a
not_between : (a b c : Point) → a ≢ b → a ≢ c → cross_of a b c ≡ pos 0 → (is_on (whole a) (record { a = b; b = c }) ≡ true → ⊥) → half_turn a b ≡ half_turn a c
not_between a b c nb nc line off = by (cases_eq (half_turn a b) (half_turn a c))
  where
    covers : half_turn a b ≢ half_turn a c → IsBetween (whole a) b c
    covers n =
        let opposed = dot_negative a b c nb nc n line in
        let square = square_step a b nb in
        record {
          total = neg_ℤ (dot a b c) +ℤ dot a b b;
          near = neg_ℤ (dot a b c);
          far = dot a b b;
          positive = both opposed square;
          near_sign = le_from_lt opposed;
          far_sign = le_from_lt square;
          under = same_value (dot a b c ∷ dot a b b ∷ []) ((minus (var 0) ⊕ var 1) ⊗ number (pos 1)) (minus (var 0) ⊕ var 1) refl;
          over_x =
              same_value (a.x ∷ a.y ∷ b.x ∷ b.y ∷ c.x ∷ c.y ∷ []) ((minus inner ⊕ square_of) ⊗ x_of 0) ((minus inner ⊗ x_of 1 ⊕ square_of ⊗ x_of 2) ⊕ y_step 0 1 ⊗ cross 0 1 2) refl
              ∙ ap (λ (z : ℤ). (neg_ℤ (dot a b c) *ℤ b.x +ℤ dot a b b *ℤ c.x) +ℤ (b.y -ℤ a.y) *ℤ z) line
              ∙ same_value ((neg_ℤ (dot a b c) *ℤ b.x +ℤ dot a b b *ℤ c.x) ∷ (b.y -ℤ a.y) ∷ []) (var 0 ⊕ var 1 ⊗ number (pos 0)) (var 0) refl;
          over_y =
              same_value (a.x ∷ a.y ∷ b.x ∷ b.y ∷ c.x ∷ c.y ∷ []) ((minus inner ⊕ square_of) ⊗ y_of 0) ((minus inner ⊗ y_of 1 ⊕ square_of ⊗ y_of 2) ⊖ x_step 0 1 ⊗ cross 0 1 2) refl
              ∙ ap (λ (z : ℤ). (neg_ℤ (dot a b c) *ℤ b.y +ℤ dot a b b *ℤ c.y) -ℤ (b.x -ℤ a.x) *ℤ z) line
              ∙ same_value ((neg_ℤ (dot a b c) *ℤ b.y +ℤ dot a b b *ℤ c.y) ∷ (b.x -ℤ a.x) ∷ []) (var 0 ⊖ var 1 ⊗ number (pos 0)) (var 0) refl;
        }
      where
        both : {x y : ℤ} → pos 0 <ℤ x → pos 0 <ℤ y → pos 0 <ℤ (x +ℤ y)
        both h k = omega (arith, ints)

        inner : Polynomial
        inner = x_step 0 1 ⊗ x_step 0 2 ⊕ y_step 0 1 ⊗ y_step 0 2

        square_of : Polynomial
        square_of = x_step 0 1 ⊗ x_step 0 1 ⊕ y_step 0 1 ⊗ y_step 0 1

    by : (half_turn a b ≡ half_turn a c) ⊎ (half_turn a b ≢ half_turn a c) → half_turn a b ≡ half_turn a c
    by (inl e) = e
    by (inr n) = absurd (off (is_on_from (whole a) b c (covers n)))

module _ (before after : List Edge) (e : Edge) (front rest : List Point) (a b c : Point)
    (sound : AreSound (before ++ record e { points = front ++ a ∷ b ∷ c ∷ rest } ∷ after))
    (free : is_free (other_segments before after front a c rest) a b c ≡ true) where
  alone : All (λ f. e.key ≢ f.key) (before ++ after)
  alone = others before after (record e { points = front ++ a ∷ b ∷ c ∷ rest }) front rest a b c refl sound

  not_b : a ≢ b
  not_b = a_apart before after (record e { points = front ++ a ∷ b ∷ c ∷ rest }) front rest a b c refl sound

  far_not_b : c ≢ b
  far_not_b = c_apart before after (record e { points = front ++ a ∷ b ∷ c ∷ rest }) front rest a b c refl sound

  not_c : a ≢ c
  not_c = ends_apart before after (record e { points = front ++ a ∷ b ∷ c ∷ rest }) front rest a b c refl sound

  abbrev first : LabelledSegment
  first = first_of_two e.key (m before after e front rest a b c alone) e.left e.right a b c (is_empty rest)

  abbrev second : LabelledSegment
  second = second_of_two e.key (m before after e front rest a b c alone) e.left e.right a b c (is_empty rest)

  two_apart : AreApart first second
  unfolding ab bc alone m
  two_apart = next_apart before after (record e { points = front ++ a ∷ b ∷ c ∷ rest }) front rest a b c refl sound

  -- a is not on b-c, nor c on a-b
  a_off : is_on (whole a) (record { a = b; b = c }) ≡ true → ⊥
  a_off h =
      elim (or_cases ((old.aa || old.ab) && is_at (whole a) a) ((old.ba || old.bb) && is_at (whole a) b)
      (permitted_common first second two_apart (whole a) (record { lt = tt }) (at_first (whole a) a b (record { lt = tt }) (at_itself a)) h)) [
        | inl f ↦ elim (or_cases old.aa old.ab (and_parts (old.aa || old.ab) (is_at (whole a) a) f).0) [
          | inl g ↦ not_b (same_point-true a b (and_parts (same_point a b) _ (and_parts (same_point a b && first.starts) second.starts g).0).0)
          | inr g ↦ not_c (same_point-true a c (and_parts (same_point a c) _ g).0)
        ]
        | inr f ↦ not_b (at_whole a b (and_parts (old.ba || old.bb) (is_at (whole a) b) f).1)
      ]
    where
      old : Shared
      old = shared_ends first second

  c_off : is_on (whole c) (record { a = b; b = a }) ≡ true → ⊥
  c_off h =
      elim (or_cases ((old.aa || old.ab) && is_at (whole c) a) ((old.ba || old.bb) && is_at (whole c) b)
      (permitted_common first second two_apart (whole c) (record { lt = tt }) (turned_on (whole c) b a (record { lt = tt }) h) (at_last (whole c) b c (record { lt = tt }) (at_itself c)))) [
        | inl f ↦ not_c (sym (at_whole c a (and_parts (old.aa || old.ab) (is_at (whole c) a) f).1))
        | inr f ↦ far_not_b (at_whole c b (and_parts (old.ba || old.bb) (is_at (whole c) b) f).1)
      ]
    where
      old : Shared
      old = shared_ends first second

      turned_on : (p : Fraction) (u v : Point) → pos 0 <ℤ p.d → is_on p (record { a = u; b = v }) ≡ true → is_on p (record { a = v; b = u }) ≡ true
      turned_on p u v positive on = is_on_from p v u (between_turned p u v (is_between p u v positive on))

  -- on one line
  on_line : cross_of a b c ≡ pos 0 → (Other Another : Point → Type 0) → HaveOnePlace a b c Other × HaveOnePlace c b a Another
  on_line line Other Another = (
    inl (λ r h. parallel_alike a b c not_b not_c (not_between a b c not_b not_c line a_off) line r),
    inl (λ r h. parallel_alike c b a far_not_b (λ f. not_c (sym f)) (not_between c b a far_not_b (λ f. not_c (sym f)) back_line c_off) back_line r),
  )
    where
      back_line : cross_of c b a ≡ pos 0
      back_line = same_value (a.x ∷ a.y ∷ b.x ∷ b.y ∷ c.x ∷ c.y ∷ []) (cross 2 1 0) (minus (cross 0 1 2)) refl ∙ ap neg_ℤ line

  -- with area
  with_area : cross_of a b c ≢ pos 0 → list_all (is_clear a b c) (other_segments before after front a c rest) ≡ true
      → HaveOnePlace a b c (AreJoined (other_segments before after front a c rest) a) × HaveOnePlace c b a (AreJoined (other_segments before after front a c rest) c)
  with_area area clear = (
    have_one_place a b c not_b not_c area (AreJoined all a) (λ r h. outside_at_a a b c area h.0 (each h.0 h.1) r h.2),
    have_one_place c b a far_not_b (λ f. not_c (sym f)) other_area (AreJoined all c) (λ r h. outside_at_c a b c area h.0 (each h.0 h.1) r h.2),
  )
    where
      all : List Seg
      all = other_segments before after front a c rest

      each : (s : Seg) → Contains all s → is_clear a b c s ≡ true
      each s k = All-contains (λ (t : Seg). is_clear a b c t ≡ true) all s (all_pass (is_clear a b c) all clear) k

      negative_zero : (x : ℤ) → neg_ℤ x ≡ pos 0 → x ≡ pos 0
      negative_zero x h = omega (arith, ints)

      other_area : cross_of c b a ≢ pos 0
      other_area f = area (negative_zero (cross_of a b c) (sym (same_value (a.x ∷ a.y ∷ b.x ∷ b.y ∷ c.x ∷ c.y ∷ []) (cross 2 1 0) (minus (cross 0 1 2)) refl) ∙ f))

  one_place : HaveOnePlace a b c (AreJoined (other_segments before after front a c rest) a) × HaveOnePlace c b a (AreJoined (other_segments before after front a c rest) c)
  one_place = by (cases_Bool (area2 a b c == 0))
    where
      by : ((area2 a b c == 0) ≡ true) ⊎ ((area2 a b c == 0) ≡ false)
          → HaveOnePlace a b c (AreJoined (other_segments before after front a c rest) a) × HaveOnePlace c b a (AreJoined (other_segments before after front a c rest) c)
      by (inl f) = on_line (zero_from_unsigned_abs (cross_of a b c) (eqb-true (area2 a b c) 0 f)) _ _
      by (inr f) = with_area (λ z. eqb-false (area2 a b c) 0 f (ap unsigned_abs z)) (⊎_elim (λ g. absurd (true≢false (sym g ∙ f))) (λ g. g)
          (or_cases (area2 a b c == 0) (list_all (is_clear a b c) (other_segments before after front a c rest)) free))

pub neighbours_have_one_place : NeighboursHaveOnePlace
neighbours_have_one_place before after e front rest a b c sound free = one_place before after e front rest a b c sound free
