-- The order of directions round a point: on the other points it is a strict weak order, by half turn and then by cross product.
use Rattle.std.proofs.Common.{◌≡◌, ◌≢◌, ◌⊎◌, inl, inr, ℕ, zero, suc, if◌then◌else◌, Bool, true, false, ◌&&◌, ◌||◌, ◌==◌, nat_lt, ℤ, pos, ◌-ℤ◌, ◌*ℤ◌, neg_ℤ, ◌<ℤ◌, ◌≤ℤ◌, int_lt, [], ◌∷◌, refl, sym, ap, ◌∙◌, subst, true≢false}
use Rattle.std.specs.Ordering.{int_eq}
use Rattle.std.proofs.lemmas.Bool.{or_left, or_right, or_cases, and_from, and_parts}
use Rattle.std.proofs.lemmas.Bool.Decides.{Decides-int_eq}
use Rattle.lemmas.specs.Sorting.{IsStrictOrderOn}
use Rattle.lemmas.proofs.Keys.{tied, joined_one_way, joined_chain, strict_from_weak, numbers}
use Rattle.lemmas.proofs.Polynomials.{same_value, var, number, minus, ◌⊕◌, ◌⊖◌, ◌⊗◌}
use Rattle.lemmas.proofs.Signs.{Decides-int_lt, int_lt-false, int_lt-from_le, by_order, not_positive_by, le_from_lt, le_from_same, mul_not_negative, not_positive_from_mul, le_by, same_from_le, neg_positive, apart_from_lt, sub_positive, sub_negative, sub_zero}
use Rattle.tgap_model.specs.declared.geometry.Point.{Point}
use Rattle.tgap_model.specs.Point.{cross}
use Rattle.tgap_model.specs.Segment.{half_turn, turns_before}
use Rattle.tgap_model.proofs.Points.{point_same}

-- ---- directions of one half turn

-- a direction that goes up, or to positive x
pub record IsUpper (x y : ℤ) : Type 0 where
  pub cases : (pos 0 <ℤ y) ⊎ ((y ≡ pos 0) × (pos 0 <ℤ x))

-- what the number of the half turn says of a direction
abbrev pub HalfCase : ℤ → ℤ → ℕ → Type 0
HalfCase x y zero = IsUpper x y
HalfCase x y (suc n) = IsUpper (neg_ℤ x) (neg_ℤ y)

pub half_case : (o p : Point) → o ≢ p → HalfCase (p.x -ℤ o.x) (p.y -ℤ o.y) (half_turn o p)
half_case o p apart = by (int_lt o.y p.y || (int_eq o.y p.y && int_lt o.x p.x)) refl
  where
    by : (b : Bool) → (int_lt o.y p.y || (int_eq o.y p.y && int_lt o.x p.x)) ≡ b → HalfCase (p.x -ℤ o.x) (p.y -ℤ o.y) (if b then 0 else 1)
    by true e = record {
      cases = elim (or_cases (int_lt o.y p.y) (int_eq o.y p.y && int_lt o.x p.x) e) [
        | inl f ↦ inl (sub_positive ((Decides-int_lt o.y p.y).0 f))
        | inr f ↦
            let parts = and_parts (int_eq o.y p.y) (int_lt o.x p.x) f in
            inr (sub_zero ((Decides-int_eq o.y p.y).0 parts.0), sub_positive ((Decides-int_lt o.x p.x).0 parts.1))
      ];
    }
    by false e = record {
      cases = by_order o.y p.y
          (λ h. absurd (true≢false (sym (or_left _ _ ((Decides-int_lt o.y p.y).1 h)) ∙ e)))
          (λ s. by_order o.x p.x
          (λ h. absurd (true≢false (sym (or_right _ _ (and_from _ _ ((Decides-int_eq o.y p.y).1 s) ((Decides-int_lt o.x p.x).1 h))) ∙ e)))
          (λ t. absurd (apart (point_same o p t s)))
          (λ h. inr (ap neg_ℤ (sub_zero s), neg_positive (sub_negative h))))
          (λ h. inl (neg_positive (sub_negative h)));
    }

upper_height : {x y : ℤ} → IsUpper x y → pos 0 ≤ℤ y
upper_height u = elim u.cases [ inl h ↦ le_from_lt h | inr h ↦ le_from_same (sym h.0) ]

-- of three directions that go up, where no step turns to the left, neither do both together
upper_chain : (a b c d e f : ℤ) → IsUpper a b → IsUpper c d → IsUpper e f → (a *ℤ d -ℤ b *ℤ c) ≤ℤ pos 0 → (c *ℤ f -ℤ d *ℤ e) ≤ℤ pos 0 → (a *ℤ f -ℤ b *ℤ e) ≤ℤ pos 0
upper_chain a b c d e f x y z h k = elim y.cases [
  | inl high ↦ not_positive_by (upper_height z) (upper_height x) high h k
      (same_value (a ∷ b ∷ c ∷ d ∷ e ∷ f ∷ []) (var 5 ⊗ (var 0 ⊗ var 3 ⊖ var 1 ⊗ var 2) ⊕ var 1 ⊗ (var 2 ⊗ var 5 ⊖ var 3 ⊗ var 4)) (var 3 ⊗ (var 0 ⊗ var 5 ⊖ var 1 ⊗ var 4)) refl)
  | inr flat ↦
      let no_rise = not_positive_from_mul c f flat.1 (subst (λ (t : ℤ). t ≤ℤ pos 0) (ap (λ (t : ℤ). c *ℤ f -ℤ t *ℤ e) flat.0 ∙ same_value (c ∷ e ∷ f ∷ []) (var 0 ⊗ var 2 ⊖ number (pos 0) ⊗ var 1) (var 0 ⊗ var 2) refl) k) in
      let level = same_from_le no_rise (upper_height z) in
      let right : pos 0 <ℤ e = elim z.cases [ inl up ↦ absurd (apart_from_lt up (sym level)) | inr r ↦ r.1 ] in
      le_by (mul_not_negative (upper_height x) (le_from_lt right))
      (ap (λ (t : ℤ). pos 0 -ℤ (a *ℤ t -ℤ b *ℤ e)) level ∙ same_value (a ∷ b ∷ e ∷ []) (number (pos 0) ⊖ (var 0 ⊗ number (pos 0) ⊖ var 1 ⊗ var 2)) (var 1 ⊗ var 2 ⊖ number (pos 0)) refl)
]

-- the opposite directions turn alike
opposite_turn : (a b c d : ℤ) → neg_ℤ a *ℤ neg_ℤ d -ℤ neg_ℤ b *ℤ neg_ℤ c ≡ a *ℤ d -ℤ b *ℤ c
opposite_turn a b c d = same_value (a ∷ b ∷ c ∷ d ∷ []) (minus (var 0) ⊗ minus (var 3) ⊖ minus (var 1) ⊗ minus (var 2)) (var 0 ⊗ var 3 ⊖ var 1 ⊗ var 2) refl

-- of three directions of either half turn, where no step turns to the left, neither do both together
turn_chain : (n : ℕ) (a b c d e f : ℤ) → HalfCase a b n → HalfCase c d n → HalfCase e f n
    → (a *ℤ d -ℤ b *ℤ c) ≤ℤ pos 0 → (c *ℤ f -ℤ d *ℤ e) ≤ℤ pos 0 → (a *ℤ f -ℤ b *ℤ e) ≤ℤ pos 0
turn_chain zero a b c d e f p q r h k = upper_chain a b c d e f p q r h k
turn_chain (suc n) a b c d e f p q r h k =
    subst (λ (t : ℤ). t ≤ℤ pos 0) (opposite_turn a b e f)
    (upper_chain (neg_ℤ a) (neg_ℤ b) (neg_ℤ c) (neg_ℤ d) (neg_ℤ e) (neg_ℤ f) p q r
    (subst (λ (t : ℤ). t ≤ℤ pos 0) (sym (opposite_turn a b c d)) h) (subst (λ (t : ℤ). t ≤ℤ pos 0) (sym (opposite_turn c d e f)) k))

-- ---- the order

module _ (o : Point) where
  -- q is left of the direction from o to p
  abbrev leftward : Point → Point → Bool
  leftward p q = int_lt (pos 0) (cross o p q)

  turned_back : (p q : Point) → pos 0 <ℤ cross o p q → cross o q p ≤ℤ pos 0
  turned_back p q h = le_by (le_from_lt h)
      (same_value ((p.x -ℤ o.x) ∷ (p.y -ℤ o.y) ∷ (q.x -ℤ o.x) ∷ (q.y -ℤ o.y) ∷ [])
      (number (pos 0) ⊖ (var 2 ⊗ var 1 ⊖ var 3 ⊗ var 0)) (var 0 ⊗ var 3 ⊖ var 1 ⊗ var 2 ⊖ number (pos 0)) refl)

  left_one_way : (p q : Point) → half_turn o p ≡ half_turn o q → leftward p q ≡ true → leftward q p ≡ false
  left_one_way p q e h = int_lt-from_le (turned_back p q ((Decides-int_lt (pos 0) (cross o p q)).0 h))

  left_chain : (p q r : Point) → o ≢ p → o ≢ q → o ≢ r → half_turn o p ≡ half_turn o q → half_turn o q ≡ half_turn o r
      → leftward p q ≡ false → leftward q r ≡ false → leftward p r ≡ false
  left_chain p q r np nq nr e f h k = int_lt-from_le (turn_chain (half_turn o p)
      (p.x -ℤ o.x) (p.y -ℤ o.y) (q.x -ℤ o.x) (q.y -ℤ o.y) (r.x -ℤ o.x) (r.y -ℤ o.y)
      (half_case o p np)
      (subst (HalfCase (q.x -ℤ o.x) (q.y -ℤ o.y)) (sym e) (half_case o q nq))
      (subst (HalfCase (r.x -ℤ o.x) (r.y -ℤ o.y)) (sym f ∙ sym e) (half_case o r nr))
      (int_lt-false (pos 0) (cross o p q) h) (int_lt-false (pos 0) (cross o q r) k))

  -- two directions come in one order at most
  pub turns_one_way : (p q : Point) → turns_before o p q ≡ true → turns_before o q p ≡ false
  unfolding turns_before
  turns_one_way = joined_one_way (λ p. o ≢ p) (half_turn o) nat_lt (λ m n. m == n) numbers leftward left_one_way left_chain

  -- and what is not before another one, which is not before a third one, is not before that
  pub turns_chain : (p q r : Point) → o ≢ p → o ≢ q → o ≢ r → turns_before o p q ≡ false → turns_before o q r ≡ false → turns_before o p r ≡ false
  unfolding turns_before
  turns_chain = joined_chain (λ p. o ≢ p) (half_turn o) nat_lt (λ m n. m == n) numbers leftward left_one_way left_chain

  -- where neither comes first, the half turns are one and there is no turn
  pub turns_tied : (p q : Point) → turns_before o p q ≡ false → turns_before o q p ≡ false
      → (half_turn o p ≡ half_turn o q) × ((int_lt (pos 0) (cross o p q) ≡ false) × (int_lt (pos 0) (cross o q p) ≡ false))
  unfolding turns_before
  turns_tied = tied (λ p. o ≢ p) (half_turn o) nat_lt (λ m n. m == n) numbers leftward left_one_way left_chain

  pub turns_strict : IsStrictOrderOn (λ p. o ≢ p) (turns_before o)
  turns_strict = strict_from_weak (λ p. o ≢ p) (turns_before o) turns_one_way turns_chain
