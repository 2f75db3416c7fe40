-- Where a point of a forward segment stands against the ends, and that the segment has a point on each vertical line from its first end
-- to its last one.
use Rattle.std.proofs.Common.{◌≡◌, ◌⊎◌, inl, inr, [], ◌∷◌, ℤ, pos, ◌+ℤ◌, ◌-ℤ◌, ◌*ℤ◌, ◌<ℤ◌, ◌≤ℤ◌, refl, sym, ap, ◌∙◌, subst, arith}
use Rattle.std.proofs.lemmas.Int.{ints}
use Rattle.lemmas.proofs.Polynomials.{same_value, var, number, ◌⊕◌, ◌⊖◌, ◌⊗◌}
use Rattle.lemmas.proofs.Products.{not_positive_cases}
use Rattle.lemmas.proofs.Signs.{le_from_lt, le_from_same, mul_le_left, mul_positive, mul_not_negative, mul_not_positive, not_negative_from_mul, not_positive_from_mul, square_not_negative, sub_positive}
use Rattle.tgap_model.specs.declared.geometry.Point.{Point}
use Rattle.tgap_model.specs.declared.geometry.Fraction.{Fraction}
use Rattle.tgap_model.specs.declared.geometry.Seg.{Seg}
use Rattle.tgap_model.specs.Segment.{run, rise}
use Rattle.grid_geo.proofs.Places.{x_gap, IsOn}
use Rattle.planar_sweep.specs.Over.{GoesForward}

-- n / d is from one number to another that is not less
pub from_gaps : (n d u v : ℤ) → pos 0 <ℤ d → u ≤ℤ v → ((n -ℤ d *ℤ u) *ℤ (n -ℤ d *ℤ v)) ≤ℤ pos 0 → (pos 0 ≤ℤ (n -ℤ d *ℤ u)) × ((n -ℤ d *ℤ v) ≤ℤ pos 0)
from_gaps n d u v rational up h = by (not_positive_cases (n -ℤ d *ℤ u) (n -ℤ d *ℤ v) h)
  where
    scaled : (d *ℤ u) ≤ℤ (d *ℤ v)
    scaled = mul_le_left (le_from_lt rational) up

    low : (x y m : ℤ) → x ≤ℤ y → (m -ℤ x) ≤ℤ pos 0 → pos 0 ≤ℤ (m -ℤ y) → pos 0 ≤ℤ (m -ℤ x)
    low x y m le i j = omega (arith, ints)

    high : (x y m : ℤ) → x ≤ℤ y → (m -ℤ x) ≤ℤ pos 0 → pos 0 ≤ℤ (m -ℤ y) → (m -ℤ y) ≤ℤ pos 0
    high x y m le i j = omega (arith, ints)

    by : (((n -ℤ d *ℤ u) ≤ℤ pos 0) × (pos 0 ≤ℤ (n -ℤ d *ℤ v))) ⊎ ((pos 0 ≤ℤ (n -ℤ d *ℤ u)) × ((n -ℤ d *ℤ v) ≤ℤ pos 0)) → (pos 0 ≤ℤ (n -ℤ d *ℤ u)) × ((n -ℤ d *ℤ v) ≤ℤ pos 0)
    by (inl k) = (low (d *ℤ u) (d *ℤ v) n scaled k.0 k.1, high (d *ℤ u) (d *ℤ v) n scaled k.0 k.1)
    by (inr k) = k

-- a vertical line through the point meets the segment
pub record Reaches (p : Fraction) (s : Seg) : Type 0 where
  pub from : pos 0 ≤ℤ x_gap p s.a
  pub to : x_gap p s.b ≤ℤ pos 0

x_up : (s : Seg) → GoesForward s → s.a.x ≤ℤ s.b.x
x_up s (inl h) = le_from_lt h
x_up s (inr h) = le_from_same h.0

-- the line through a point of the segment does
pub reaches_itself : (p : Fraction) (s : Seg) → pos 0 <ℤ p.d → GoesForward s → IsOn p s → Reaches p s
reaches_itself p s rational f on = let g = from_gaps p.nx p.d s.a.x s.b.x rational (x_up s f) on.x in record { from = g.0; to = g.1 }

-- two points on one vertical line
abbrev pub OnOneLine : Fraction → Fraction → Type 0
OnOneLine p q = p.nx *ℤ q.d ≡ q.nx *ℤ p.d

-- a point of the segment on the line through another point
pub record PointAt (p : Fraction) (s : Seg) : Type 0 where
  pub point : Fraction
  pub rational : pos 0 <ℤ point.d
  pub on : IsOn point s
  pub line : OnOneLine p point

pub point_at : (p : Fraction) (s : Seg) → pos 0 <ℤ p.d → GoesForward s → Reaches p s → PointAt p s
point_at p s rational (inl right) r = record {
  point = q;
  rational = mul_positive (sub_positive right) rational;
  on = record {
    line = same_value (s.a.x ∷ s.a.y ∷ s.b.x ∷ s.b.y ∷ p.nx ∷ p.d ∷ [])
        ((var 2 ⊖ var 0) ⊗ (((var 2 ⊖ var 0) ⊗ (var 5 ⊗ var 1) ⊕ (var 3 ⊖ var 1) ⊗ (var 4 ⊖ var 5 ⊗ var 0)) ⊖ ((var 2 ⊖ var 0) ⊗ var 5) ⊗ var 1) ⊖ (var 3 ⊖ var 1) ⊗ ((var 2 ⊖ var 0) ⊗ var 4 ⊖ ((var 2 ⊖ var 0) ⊗ var 5) ⊗ var 0))
        (number (pos 0)) refl;
    x = subst (λ (z : ℤ). z ≤ℤ pos 0)
        (same_value (s.a.x ∷ s.a.y ∷ s.b.x ∷ s.b.y ∷ p.nx ∷ p.d ∷ [])
        (((var 2 ⊖ var 0) ⊗ (var 2 ⊖ var 0)) ⊗ ((var 4 ⊖ var 5 ⊗ var 0) ⊗ (var 4 ⊖ var 5 ⊗ var 2)))
        (((var 2 ⊖ var 0) ⊗ var 4 ⊖ ((var 2 ⊖ var 0) ⊗ var 5) ⊗ var 0) ⊗ ((var 2 ⊖ var 0) ⊗ var 4 ⊖ ((var 2 ⊖ var 0) ⊗ var 5) ⊗ var 2)) refl)
        (mul_not_positive (square_not_negative (run s)) (mul_not_positive r.from r.to));
    y = subst (λ (z : ℤ). z ≤ℤ pos 0)
        (same_value (s.a.x ∷ s.a.y ∷ s.b.x ∷ s.b.y ∷ p.nx ∷ p.d ∷ [])
        (((var 3 ⊖ var 1) ⊗ (var 3 ⊖ var 1)) ⊗ ((var 4 ⊖ var 5 ⊗ var 0) ⊗ (var 4 ⊖ var 5 ⊗ var 2)))
        ((((var 2 ⊖ var 0) ⊗ (var 5 ⊗ var 1) ⊕ (var 3 ⊖ var 1) ⊗ (var 4 ⊖ var 5 ⊗ var 0)) ⊖ ((var 2 ⊖ var 0) ⊗ var 5) ⊗ var 1)
        ⊗ (((var 2 ⊖ var 0) ⊗ (var 5 ⊗ var 1) ⊕ (var 3 ⊖ var 1) ⊗ (var 4 ⊖ var 5 ⊗ var 0)) ⊖ ((var 2 ⊖ var 0) ⊗ var 5) ⊗ var 3)) refl)
        (mul_not_positive (square_not_negative (rise s)) (mul_not_positive r.from r.to));
  };
  line = same_value (s.a.x ∷ s.b.x ∷ p.nx ∷ p.d ∷ []) (var 2 ⊗ ((var 1 ⊖ var 0) ⊗ var 3)) (((var 1 ⊖ var 0) ⊗ var 2) ⊗ var 3) refl;
}
  where
    q : Fraction
    q = record { nx = run s *ℤ p.nx; ny = run s *ℤ (p.d *ℤ s.a.y) +ℤ rise s *ℤ x_gap p s.a; d = run s *ℤ p.d }
point_at p s rational (inr up) r = record {
  point = q;
  rational = rational;
  on = record {
    line = subst (λ (z : ℤ). z *ℤ (p.d *ℤ s.a.y -ℤ p.d *ℤ s.a.y) -ℤ rise s *ℤ x_gap p s.a ≡ pos 0) (sym no_run)
        (ap (λ (z : ℤ). pos 0 *ℤ (p.d *ℤ s.a.y -ℤ p.d *ℤ s.a.y) -ℤ rise s *ℤ z) no_gap
        ∙ same_value (rise s ∷ (p.d *ℤ s.a.y) ∷ []) (number (pos 0) ⊗ (var 1 ⊖ var 1) ⊖ var 0 ⊗ number (pos 0)) (number (pos 0)) refl);
    x = mul_not_positive r.from r.to;
    y = le_from_same (same_value ((p.d *ℤ s.a.y) ∷ (p.d *ℤ s.b.y) ∷ []) ((var 0 ⊖ var 0) ⊗ (var 0 ⊖ var 1)) (number (pos 0)) refl);
  };
  line = refl;
}
  where
    q : Fraction
    q = record { nx = p.nx; ny = p.d *ℤ s.a.y; d = p.d }

    no_run : run s ≡ pos 0
    no_run = zero s.a.x s.b.x up.0
      where
        zero : (u v : ℤ) → u ≡ v → v -ℤ u ≡ pos 0
        zero u v e = omega (arith, ints)

    no_gap : x_gap p s.a ≡ pos 0
    no_gap = zero (x_gap p s.a) r.from (subst (λ (z : ℤ). (p.nx -ℤ p.d *ℤ z) ≤ℤ pos 0) (sym up.0) r.to)
      where
        zero : (z : ℤ) → pos 0 ≤ℤ z → z ≤ℤ pos 0 → z ≡ pos 0
        zero z h k = omega (arith, ints)

-- the line through another point of the same abscissa meets it too
pub reaches_again : (p q : Fraction) (s : Seg) → pos 0 <ℤ p.d → pos 0 <ℤ q.d → OnOneLine p q → Reaches p s → Reaches q s
reaches_again p q s i j e r = record { from = not_negative (moved s.a) r.from; to = not_positive (moved s.b) r.to }
  where
    moved : (v : Point) → q.d *ℤ x_gap p v ≡ p.d *ℤ x_gap q v
    moved v = same_value (p.nx ∷ p.d ∷ q.d ∷ v.x ∷ []) (var 2 ⊗ (var 0 ⊖ var 1 ⊗ var 3)) (var 0 ⊗ var 2 ⊖ var 1 ⊗ var 2 ⊗ var 3) refl
        ∙ ap (λ (z : ℤ). z -ℤ p.d *ℤ q.d *ℤ v.x) e
        ∙ same_value (q.nx ∷ p.d ∷ q.d ∷ v.x ∷ []) (var 0 ⊗ var 1 ⊖ var 1 ⊗ var 2 ⊗ var 3) (var 1 ⊗ (var 0 ⊖ var 2 ⊗ var 3)) refl

    not_negative : {x y : ℤ} → q.d *ℤ x ≡ p.d *ℤ y → pos 0 ≤ℤ x → pos 0 ≤ℤ y
    not_negative {x} {y} f h = not_negative_from_mul p.d y i (subst (λ (z : ℤ). pos 0 ≤ℤ z) f (mul_not_negative (le_from_lt j) h))

    not_positive : {x y : ℤ} → q.d *ℤ x ≡ p.d *ℤ y → x ≤ℤ pos 0 → y ≤ℤ pos 0
    not_positive {x} {y} f h = not_positive_from_mul p.d y i (subst (λ (z : ℤ). z ≤ℤ pos 0) f (mul_not_positive (le_from_lt j) h))
