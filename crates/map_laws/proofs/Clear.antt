-- Whether a triangle is clear of a segment does not depend on the segment's direction.
use Rattle.std.proofs.Common.{◌≡◌, Bool, true, false, ◌&&◌, ◌||◌, not, ℤ, pos, neg_ℤ, [], ◌∷◌, refl, sym, ap, ◌∙◌}
use Rattle.std.proofs.Math.Bool.{and_comm, or_comm}
use Rattle.std.proofs.Math.IntN.{neg_ℤ-neg_ℤ}
use Rattle.std.specs.Ordering.{int_eq}
use Rattle.std.specs.Int.{int_signum}
use Rattle.std.specs.Cmp.{both_ways}
use Rattle.std.proofs.lemmas.Bool.Decides.{Decides-int_eq}
use Rattle.lemmas.proofs.Polynomials.{same_value, cross, minus}
use Rattle.lemmas.proofs.Signs.{int_signum-neg}
use Rattle.tgap_model.specs.declared.geometry.Point.{Point}
use Rattle.tgap_model.specs.declared.geometry.Seg.{Seg}
use Rattle.tgap_model.specs.Base.{same_point}
use Rattle.tgap_model.specs.Point.{side}
use Rattle.tgap_model.specs.Clear.{is_base_corner, is_beyond, is_at_side, is_beside, is_clear, lies_away}
use Rattle.map_laws.specs.PlaneLaws.{ClearIsSymmetric}

-- the side of a point against a line in the other direction
side_turned : (p q v : Point) → side q p v ≡ neg_ℤ (side p q v)
side_turned p q v = ap int_signum (same_value (p.x ∷ p.y ∷ q.x ∷ q.y ∷ v.x ∷ v.y ∷ []) (cross 1 0 2) (minus (cross 0 1 2)) refl) ∙ int_signum-neg _

-- a number and its negative
eq_negated : (a b : ℤ) → int_eq (neg_ℤ a) b ≡ int_eq a (neg_ℤ b)
eq_negated a b =
    both_ways (int_eq (neg_ℤ a) b) (int_eq a (neg_ℤ b))
    (λ e. (Decides-int_eq a (neg_ℤ b)).1 (sym (neg_ℤ-neg_ℤ a) ∙ ap neg_ℤ ((Decides-int_eq (neg_ℤ a) b).0 e)))
    (λ e. (Decides-int_eq (neg_ℤ a) b).1 (ap neg_ℤ ((Decides-int_eq a (neg_ℤ b)).0 e) ∙ neg_ℤ-neg_ℤ b))

at_side_turned : (a c p q v : Point) (z : ℤ) → is_at_side a c (record { a = q; b = p }) z v ≡ is_at_side a c (record { a = p; b = q }) (neg_ℤ z) v
at_side_turned a c p q v z = rw (side_turned p q v, eq_negated (side p q v) z, or_comm (same_point v q) (same_point v p)) refl

beside_turned : (a b c p q : Point) (z : ℤ) → is_beside a b c (record { a = q; b = p }) z ≡ is_beside a b c (record { a = p; b = q }) (neg_ℤ z)
beside_turned a b c p q z = rw (at_side_turned a c p q a z, at_side_turned a c p q b z, at_side_turned a c p q c z) refl

beyond_turned : (a c u v w p q : Point) → is_beyond a c u v w (record { a = q; b = p }) ≡ is_beyond a c u v w (record { a = p; b = q })
beyond_turned a c u v w p q = and_comm (lies_away a c u v w q) (lies_away a c u v w p)

-- the last two alternatives in the other order
last_two : (w u v : Bool) → (w || u || v) ≡ (w || v || u)
last_two true u v = refl
last_two false u v = or_comm u v

pub clear_is_symmetric : ClearIsSymmetric
unfolding is_clear
clear_is_symmetric a b c p q =
    sym (rw (
      beyond_turned a c a b c p q,
      beyond_turned a c b c a p q,
      beyond_turned a c c a b p q,
      beside_turned a b c p q (pos 1),
      beside_turned a b c p q (neg_ℤ (pos 1)),
      and_comm (is_base_corner a c q) (is_base_corner a c p),
    )
    (ap (λ (r : Bool). not (is_base_corner a c p && is_base_corner a c q) && r)
    (last_two (is_beyond a c a b c s || is_beyond a c b c a s || is_beyond a c c a b s) (is_beside a b c s (neg_ℤ (pos 1))) (is_beside a b c s (pos 1)))))
  where
    s : Seg
    s = record { a = p; b = q }
