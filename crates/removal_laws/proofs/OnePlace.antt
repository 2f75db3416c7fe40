-- Two directions from o have one place among those that are outside the wedge between them.
use Rattle.std.proofs.Common.{◌≡◌, ◌≢◌, ◌⊎◌, inl, inr, ℕ, ◌≤◌, Bool, true, false, ◌&&◌, ◌==◌, nat_lt, ℤ, pos, ◌*ℤ◌, neg_ℤ, ◌<ℤ◌, ◌≤ℤ◌, int_lt, refl, sym, ◌∙◌, subst, true≢false, eq-eqb, arith}
use Rattle.std.specs.Int.Signed.{clash_ℤ}
use Rattle.std.proofs.lemmas.Bool.{or_left, or_right, or_cases, and_from, and_parts, cases_eq, false_from_ne_true}
use Rattle.std.proofs.lemmas.Bool.Decides.{nat_tests}
use Rattle.std.proofs.lemmas.Int.{ints}
use Rattle.lemmas.proofs.Products.{mul_not_positive_left}
use Rattle.lemmas.proofs.Signs.{Decides-int_lt, int_lt-false, int_lt-from_le, by_order, le_from_lt, mul_not_negative, mul_not_positive, neg_positive}
use Rattle.tgap_model.specs.declared.geometry.Point.{Point}
use Rattle.tgap_model.specs.Point.{cross}
use Rattle.tgap_model.specs.Segment.{half_turn, turns_before}
use Rattle.grid_geo.proofs.Turns.{turns_one_way, turns_chain, turns_tied, turns_strict}
use Rattle.removal_laws.specs.WedgeLaws.{HaveOnePlace}
use Rattle.removal_laws.proofs.Between.{negatives}
use Rattle.removal_laws.proofs.Opposite.{opposite, opposite_apart, opposite_other, other_half, cross_opposite_left, cross_opposite_right, cross_turned}

true_unless : (b : Bool) → (b ≡ false → ⊥) → b ≡ true
true_unless true n = refl
true_unless false n = absurd (n refl)

-- two tests of which each passes where the other does
same_test : (b c : Bool) → (b ≡ true → c ≡ true) → (c ≡ true → b ≡ false → ⊥) → b ≡ c
same_test true c f g = sym (f refl)
same_test false true f g = absurd (g refl refl)
same_test false false f g = refl

module _ (o : Point) where
  -- ---- what the order says of half turns and of the cross product

  not_less : (m n : ℕ) → nat_lt m n ≡ false → n ≤ m
  not_less m n e = grind (arith, nat_tests)

  half_order : (p q : Point) → turns_before o p q ≡ false → half_turn o q ≤ half_turn o p
  unfolding turns_before
  half_order p q e = not_less (half_turn o p) (half_turn o q) (false_from_ne_true (nat_lt (half_turn o p) (half_turn o q)) (λ f. true≢false (sym (or_left _ _ f) ∙ e)))

  not_left : (p q : Point) → half_turn o p ≡ half_turn o q → turns_before o p q ≡ false → cross o p q ≤ℤ pos 0
  unfolding turns_before
  not_left p q half e = int_lt-false (pos 0) (cross o p q) (false_from_ne_true (int_lt (pos 0) (cross o p q)) (λ f.
      true≢false (sym (or_right _ _ (and_from _ _ (eq-eqb (half_turn o p) (half_turn o q) half) f)) ∙ e)))

  itself_not_less : (m n : ℕ) → m ≡ n → nat_lt m n ≡ false
  itself_not_less m n e = grind (arith, nat_tests)

  not_before : (p q : Point) → half_turn o p ≡ half_turn o q → cross o p q ≤ℤ pos 0 → turns_before o p q ≡ false
  unfolding turns_before
  not_before p q half h = false_from_ne_true (turns_before o p q) (λ e.
      elim (or_cases (nat_lt (half_turn o p) (half_turn o q)) ((half_turn o p == half_turn o q) && int_lt (pos 0) (cross o p q)) e) [
        | inl f ↦ true≢false (sym f ∙ itself_not_less (half_turn o p) (half_turn o q) half)
        | inr f ↦ true≢false (sym (and_parts (half_turn o p == half_turn o q) (int_lt (pos 0) (cross o p q)) f).1 ∙ int_lt-from_le h)
      ])

  -- ---- inside the wedge from p to q, which is less than half a turn

  abbrev IsInside : Point → Point → Point → Type 0
  IsInside p q r = (pos 0 ≤ℤ cross o p r) × (cross o q r ≤ℤ pos 0)

  back : (p q : Point) → cross o q p ≤ℤ pos 0 → pos 0 ≤ℤ cross o p q
  back p q h = subst (λ (z : ℤ). pos 0 ≤ℤ z) (sym (cross_turned o p q)) (up (cross o q p) h)
    where
      up : (z : ℤ) → z ≤ℤ pos 0 → pos 0 ≤ℤ neg_ℤ z
      up z h = omega (arith, ints)

  down : (z : ℤ) → pos 0 <ℤ z → neg_ℤ z ≤ℤ pos 0
  down z h = omega (arith, ints)

  up_again : (z : ℤ) → neg_ℤ z ≤ℤ pos 0 → pos 0 ≤ℤ z
  up_again z h = omega (arith, ints)

  down_again : (z : ℤ) → pos 0 ≤ℤ neg_ℤ z → z ≤ℤ pos 0
  down_again z h = omega (arith, ints)

  module _ (p q r : Point) (np : o ≢ p) (nq : o ≢ q) (nr : o ≢ r) (left : pos 0 <ℤ cross o p q) where
    -- r is of the half turn of p, and not before it
    near_first : half_turn o p ≡ half_turn o r → turns_before o r p ≡ false → (half_turn o q ≡ half_turn o p → turns_before o q r ≡ false) → IsInside p q r
    near_first half e same = (back p r (not_left r p (sym half) e), by (cases_eq (half_turn o q) (half_turn o p)))
      where
        by : (half_turn o q ≡ half_turn o p) ⊎ (half_turn o q ≢ half_turn o p) → cross o q r ≤ℤ pos 0
        by (inl f) = not_left q r (f ∙ half) (same f)
        by (inr n) =
            let other : half_turn o (opposite o q) ≡ half_turn o p = opposite_other o q p nq n in
            let chain : turns_before o r (opposite o q) ≡ false
            = turns_chain o r p (opposite o q) nr np (opposite_apart o q nq) e
            (not_before p (opposite o q) (sym other) (subst (λ (z : ℤ). z ≤ℤ pos 0) (sym (cross_opposite_right o p q)) (down (cross o p q) left))) in
            down_again (cross o q r) (subst (λ (z : ℤ). pos 0 ≤ℤ z) (cross_turned o r q)
            (up_again (cross o r q) (subst (λ (z : ℤ). z ≤ℤ pos 0) (cross_opposite_right o r q) (not_left r (opposite o q) (sym half ∙ sym other) chain))))

    -- r is of the half turn of q, and not behind it
    near_last : half_turn o q ≡ half_turn o r → turns_before o q r ≡ false → (half_turn o p ≡ half_turn o q → turns_before o r p ≡ false) → IsInside p q r
    near_last half e same = (by (cases_eq (half_turn o p) (half_turn o q)), not_left q r half e)
      where
        by : (half_turn o p ≡ half_turn o q) ⊎ (half_turn o p ≢ half_turn o q) → pos 0 ≤ℤ cross o p r
        by (inl f) = back p r (not_left r p (sym half ∙ sym f) (same f))
        by (inr n) =
            let other : half_turn o (opposite o p) ≡ half_turn o q = opposite_other o p q np n in
            let chain : turns_before o (opposite o p) r ≡ false
            = turns_chain o (opposite o p) q r (opposite_apart o p np) nq nr
            (not_before (opposite o p) q other (subst (λ (z : ℤ). z ≤ℤ pos 0) (sym (cross_opposite_left o p q)) (down (cross o p q) left))) e in
            up_again (cross o p r) (subst (λ (z : ℤ). z ≤ℤ pos 0) (cross_opposite_left o p r) (not_left (opposite o p) r (other ∙ half) chain))

    -- between the two in the order
    between : turns_before o r p ≡ false → turns_before o q r ≡ false → IsInside p q r
    between e f = by (cases_eq (half_turn o p) (half_turn o r))
      where
        by : (half_turn o p ≡ half_turn o r) ⊎ (half_turn o p ≢ half_turn o r) → IsInside p q r
        by (inl half) = near_first half e (λ same. f)
        by (inr n) = near_last (other_half o q p r (λ same. n (omega (arith, same, half_order r p e, half_order q r f))) (λ same. n (sym same))) f (λ same. e)

    -- where q comes before p: the two are of two half turns
    halves_differ : turns_before o q p ≡ true → half_turn o q ≢ half_turn o p
    halves_differ e half = true≢false (sym e ∙ not_before q p half (subst (λ (z : ℤ). z ≤ℤ pos 0) (sym (cross_turned o q p)) (down (cross o p q) left)))

    -- behind p, or before q
    behind_first : turns_before o q p ≡ true → turns_before o r p ≡ false → IsInside p q r
    behind_first e f =
        let n = halves_differ e in
        near_first (other_half o p q r (λ same. n (sym same)) (λ same. n (omega (arith, same, half_order r p f, half_order p q (turns_one_way o q p e)))))
        f (λ same. absurd (n same))

    before_last : turns_before o q p ≡ true → turns_before o q r ≡ false → IsInside p q r
    before_last e f =
        let n = halves_differ e in
        near_last (other_half o q p r n (λ same. n (omega (arith, same, half_order q r f, half_order p q (turns_one_way o q p e)))))
        f (λ same. absurd (n (sym same)))

  -- ---- outside the wedge

  module _ (p q : Point) (np : o ≢ p) (nq : o ≢ q) (left : pos 0 <ℤ cross o p q) (Other : Point → Type 0)
      (outside : (r : Point) → Other r → (o ≢ r) × (IsInside p q r → ⊥)) where
    turned_place : HaveOnePlace o p q Other
    turned_place = by (turns_before o p q) refl
      where
        by : (b : Bool) → turns_before o p q ≡ b → HaveOnePlace o p q Other
        by true e = inl (λ r h.
            let out = outside r h in (
              same_test (turns_before o q r) (turns_before o p r)
                  (λ f. (turns_strict o).passes p q r np nq out.0 e f)
                  (λ f g. out.1 (between p q r np nq out.0 left (turns_one_way o p r f) g)),
              sym (same_test (turns_before o r p) (turns_before o r q)
                  (λ f. (turns_strict o).passes r p q out.0 np nq f e)
                  (λ f g. out.1 (between p q r np nq out.0 left g (turns_one_way o r q f)))),
            ))
        by false e =
            let first : turns_before o q p ≡ true = true_unless (turns_before o q p) (λ f. true≢false (sym ((Decides-int_lt (pos 0) (cross o p q)).1 left) ∙ (turns_tied o p q e f).1.0)) in
            inr (inr (λ r h.
            let out = outside r h in (
              true_unless (turns_before o q r) (λ f. out.1 (before_last p q r np nq out.0 left first f)),
              true_unless (turns_before o r p) (λ f. out.1 (behind_first p q r np nq out.0 left first f)),
            )))

  -- outside a wedge that opens to either side, by products with the turn from p to q
  abbrev pub IsOutside : Point → Point → Point → Type 0
  IsOutside p q r = ((cross o p q *ℤ cross o p r) <ℤ pos 0) ⊎ (pos 0 <ℤ (cross o p q *ℤ cross o q r))

  swapped : (p q : Point) (Other : Point → Type 0) → HaveOnePlace o q p Other → HaveOnePlace o p q Other
  swapped p q Other (inl h) = inl (λ r k. let a = h r k in (sym a.0, sym a.1))
  swapped p q Other (inr (inl h)) = inr (inr h)
  swapped p q Other (inr (inr h)) = inr (inl h)

  pub have_one_place : (p q : Point) → o ≢ p → o ≢ q → cross o p q ≢ pos 0 → (Other : Point → Type 0)
      → ((r : Point) → Other r → (o ≢ r) × IsOutside p q r) → HaveOnePlace o p q Other
  have_one_place p q np nq area Other outside = by_order (cross o p q) (pos 0)
      (λ l. swapped p q Other (turned_place q p nq np (subst (λ (z : ℤ). pos 0 <ℤ z) (sym (cross_turned o q p)) (neg_positive l)) Other
      (λ r h. let out = outside r h in (out.0, λ inside. on_right l r inside out.1))))
      (λ e. absurd (area e))
      (λ l. turned_place p q np nq l Other (λ r h. let out = outside r h in (out.0, λ inside. on_left l r inside out.1)))
    where
      -- a factor of the sign of d and one whose product with it has another sign
      on_left : pos 0 <ℤ cross o p q → (r : Point) → IsInside p q r → IsOutside p q r → ⊥
      on_left l r inside (inl h) = clash_ℤ h (keeps l inside.0)
        where
          keeps : {a b : ℤ} → pos 0 <ℤ a → pos 0 ≤ℤ b → pos 0 ≤ℤ (a *ℤ b)
          keeps f g = mul_not_negative (le_from_lt f) g
      on_left l r inside (inr h) = clash_ℤ h (mul_not_positive (le_from_lt l) inside.1)

      on_right : cross o p q <ℤ pos 0 → (r : Point) → IsInside q p r → IsOutside p q r → ⊥
      on_right l r inside (inl h) = clash_ℤ h (negatives _ _ (le_from_lt l) inside.1)
      on_right l r inside (inr h) = clash_ℤ h (mul_not_positive_left (le_from_lt l) inside.0)
