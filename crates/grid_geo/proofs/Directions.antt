-- The order of two directions round a point: the half turns decide it where they differ, and else the cross product.
use Rattle.std.proofs.Common.{◌≡◌, ℕ, ◌==◌, Bool, true, false, cond, ◌&&◌, ◌||◌, nat_lt, int_lt, [], ◌∷◌, ℤ, pos, neg_ℤ, ◌<ℤ◌, Ordering, Less, Equal, Greater, nat_cmp, refl, sym, ap, ◌∙◌, arith}
use Rattle.std.specs.Ordering.{int_cmp}
use Rattle.std.specs.Cmp.{both_ways}
use Rattle.std.proofs.lemmas.Int.{ints}
use Rattle.std.proofs.lemmas.Bool.Decides.{nat_tests}
use Rattle.lemmas.proofs.Polynomials.{same_value, minus, cross}
use Rattle.lemmas.proofs.Signs.{Decides-int_lt}
use Rattle.tgap_model.specs.declared.geometry.Point.{Point}
use Rattle.tgap_model.specs.Point.{cross as cross_of}

-- which of two comes first, from the two tests of their order
abbrev pub first_by : Bool → Bool → Ordering
first_by b c = cond b Less (cond c Greater Equal)

-- the cross product the other way round has the other sign
pub turned_round : (o p q : Point) → int_lt (pos 0) (cross_of o q p) ≡ int_lt (cross_of o p q) (pos 0)
turned_round o p q =
    ap (λ (z : ℤ). int_lt (pos 0) z) (same_value (o.x ∷ o.y ∷ p.x ∷ p.y ∷ q.x ∷ q.y ∷ []) (cross 0 2 1) (minus (cross 0 1 2)) refl)
    ∙ opposite (cross_of o p q)
  where
    up : (z : ℤ) → pos 0 <ℤ neg_ℤ z → z <ℤ pos 0
    up z h = omega (arith, ints)

    down : (z : ℤ) → z <ℤ pos 0 → pos 0 <ℤ neg_ℤ z
    down z h = omega (arith, ints)

    opposite : (z : ℤ) → int_lt (pos 0) (neg_ℤ z) ≡ int_lt z (pos 0)
    opposite z = both_ways _ _
        (λ e. (Decides-int_lt z (pos 0)).1 (up z ((Decides-int_lt (pos 0) (neg_ℤ z)).0 e)))
        (λ e. (Decides-int_lt (pos 0) (neg_ℤ z)).1 (down z ((Decides-int_lt z (pos 0)).0 e)))

-- m and n are the half turns, z and w the cross products one way and the other
module _ (m n : ℕ) (z w : ℤ) where
  abbrev pub order_by_turns : Ordering
  order_by_turns = first_by (nat_lt m n || ((m == n) && int_lt (pos 0) z)) (nat_lt n m || ((n == m) && int_lt (pos 0) w))

  pub halves_same : nat_cmp m n ≡ Equal → int_lt (pos 0) w ≡ int_lt z (pos 0) → int_cmp (pos 0) z ≡ order_by_turns
  halves_same e f = by (nat_lt m n) (m == n) (nat_lt n m) (n == m) (int_lt (pos 0) w) refl refl refl refl e f
    where
      by : (a b c d g : Bool) → nat_lt m n ≡ a → (m == n) ≡ b → nat_lt n m ≡ c → (n == m) ≡ d → cond a Less (cond b Equal Greater) ≡ Equal → g ≡ int_lt z (pos 0)
          → int_cmp (pos 0) z ≡ first_by (a || (b && int_lt (pos 0) z)) (c || (d && g))
      by true b c d g ea eb ec ed h i = absurd cc
      by false false c d g ea eb ec ed h i = absurd cc
      by false true true d g ea eb ec ed h i = absurd (grind (arith, nat_tests))
      by false true false false g ea eb ec ed h i = absurd (grind (arith, nat_tests))
      by false true false true g ea eb ec ed h i = ap (λ (b : Bool). cond (int_lt (pos 0) z) Less (cond b Greater Equal)) (sym i)

  pub halves_differ : (nat_cmp m n ≡ Equal → ⊥) → nat_cmp m n ≡ order_by_turns
  halves_differ e = by (nat_lt m n) (m == n) (nat_lt n m) refl refl refl e
    where
      by : (a b c : Bool) → nat_lt m n ≡ a → (m == n) ≡ b → nat_lt n m ≡ c → (cond a Less (cond b Equal Greater) ≡ Equal → ⊥)
          → cond a Less (cond b Equal Greater) ≡ first_by (a || (b && int_lt (pos 0) z)) (c || ((n == m) && int_lt (pos 0) w))
      by true b c ea eb ec h = refl
      by false true c ea eb ec h = absurd (h refl)
      by false false true ea eb ec h = refl
      by false false false ea eb ec h = absurd (grind (arith, nat_tests))
