-- Two segments that are not parallel: the point of their lines is on both lines, and no other point is on both.
use Rattle.std.proofs.Common.{◌≡◌, ℕ, ◌+◌, [], ◌∷◌, List, ℤ, pos, ◌-ℤ◌, ◌+ℤ◌, ◌*ℤ◌, negsuc, Bool, ◌&&◌, cond, Some, None, unsigned_abs, refl, sym, ap, ◌∙◌}
use Rattle.std.specs.Int.{int_signum}
use Rattle.lemmas.proofs.Polynomials.{Polynomial, same_value, var, number, ◌⊕◌, ◌⊖◌, ◌⊗◌, minus, x_of, y_of, x_step, y_step, cross}
use Rattle.lemmas.proofs.Signs.{same_from_sub, by_signum, le_from_lt, unsigned_abs-not_positive, unsigned_abs-not_negative}
use Rattle.tgap_model.specs.declared.geometry.Fraction.{Fraction}
use Rattle.tgap_model.specs.declared.geometry.Seg.{Seg}
use Rattle.tgap_model.specs.Point.{cross as cross_of}
use Rattle.tgap_model.specs.Segment.{cross_at, is_on, lies_between, crossing, intersection, turn, run, rise}
use Rattle.std.proofs.lemmas.Bool.Decides.{Decides-int_eq}
use Rattle.grid_geo.specs.Within.{is_within}
use Rattle.grid_geo.proofs.Places.{IsSame}

-- the polynomials of two segments, of which the ends are points 0 to 3, and of a fraction with the variables 8, 9 and 10
abbrev run_of : ℕ → Polynomial
run_of i = x_step i (i + 1)

abbrev rise_of : ℕ → Polynomial
rise_of i = y_step i (i + 1)

abbrev turn_of : Polynomial
turn_of = run_of 0 ⊗ rise_of 2 ⊖ rise_of 0 ⊗ run_of 2

abbrev cross_at_of : ℕ → Polynomial
cross_at_of i = run_of i ⊗ (var 9 ⊖ var 10 ⊗ y_of i) ⊖ rise_of i ⊗ (var 8 ⊖ var 10 ⊗ x_of i)

abbrev ends : Seg → Seg → List ℤ → List ℤ
ends s t rest = s.a.x ∷ s.a.y ∷ s.b.x ∷ s.b.y ∷ t.a.x ∷ t.a.y ∷ t.b.x ∷ t.b.y ∷ rest

-- the numerators of the crossing, but for the sign
abbrev x_over : Seg → Seg → ℤ
x_over s t = turn s t *ℤ s.a.x +ℤ cross_of t.a t.b s.a *ℤ run s

abbrev y_over : Seg → Seg → ℤ
y_over s t = turn s t *ℤ s.a.y +ℤ cross_of t.a t.b s.a *ℤ rise s

-- the absolute value is the sign times the number
pub abs_is : (z : ℤ) → pos (unsigned_abs z) ≡ int_signum z *ℤ z
abs_is z = by_signum z
    (λ h e. unsigned_abs-not_positive (le_from_lt h) ∙ sym (ap (λ (s : ℤ). s *ℤ z) e ∙ same_value (z ∷ []) (number (negsuc 0) ⊗ var 0) (minus (var 0)) refl))
    (λ h e. ap (λ (w : ℤ). pos (unsigned_abs w)) h ∙ sym (ap (λ (s : ℤ). s *ℤ z) e ∙ same_value (z ∷ []) (number (pos 0) ⊗ var 0) (number (pos 0)) refl))
    (λ h e. unsigned_abs-not_negative (le_from_lt h) ∙ sym (ap (λ (s : ℤ). s *ℤ z) e ∙ same_value (z ∷ []) (number (pos 1) ⊗ var 0) (var 0) refl))

-- the point of two lines is on both
pub on_first_line : (s t : Seg) → cross_at s.a s.b (crossing s t) ≡ pos 0
on_first_line s t =
    ap (λ (d : ℤ). run s *ℤ (g *ℤ y_over s t -ℤ d *ℤ s.a.y) -ℤ rise s *ℤ (g *ℤ x_over s t -ℤ d *ℤ s.a.x)) (abs_is (turn s t))
    ∙ same_value (s.a.x ∷ s.a.y ∷ run s ∷ rise s ∷ g ∷ turn s t ∷ cross_of t.a t.b s.a ∷ [])
    (var 2 ⊗ (var 4 ⊗ (var 5 ⊗ var 1 ⊕ var 6 ⊗ var 3) ⊖ var 4 ⊗ var 5 ⊗ var 1) ⊖ var 3 ⊗ (var 4 ⊗ (var 5 ⊗ var 0 ⊕ var 6 ⊗ var 2) ⊖ var 4 ⊗ var 5 ⊗ var 0))
    (number (pos 0)) refl
  where
    g : ℤ
    g = int_signum (turn s t)

pub on_second_line : (s t : Seg) → cross_at t.a t.b (crossing s t) ≡ pos 0
on_second_line s t =
    ap (λ (d : ℤ). run t *ℤ (g *ℤ y_over s t -ℤ d *ℤ t.a.y) -ℤ rise t *ℤ (g *ℤ x_over s t -ℤ d *ℤ t.a.x)) (abs_is (turn s t))
    ∙ same_value (s.a.x ∷ s.a.y ∷ run s ∷ rise s ∷ t.a.x ∷ t.a.y ∷ run t ∷ rise t ∷ g ∷ [])
    (var 6 ⊗ (var 8 ⊗ (turn_by ⊗ var 1 ⊕ across_by ⊗ var 3) ⊖ var 8 ⊗ turn_by ⊗ var 5) ⊖ var 7 ⊗ (var 8 ⊗ (turn_by ⊗ var 0 ⊕ across_by ⊗ var 2) ⊖ var 8 ⊗ turn_by ⊗ var 4))
    (number (pos 0)) refl
  where
    g : ℤ
    g = int_signum (turn s t)

    turn_by : Polynomial
    turn_by = var 2 ⊗ var 7 ⊖ var 3 ⊗ var 6

    across_by : Polynomial
    across_by = var 6 ⊗ (var 1 ⊖ var 5) ⊖ var 7 ⊗ (var 0 ⊖ var 4)

-- so it is on both segments where its coordinates are between those of their ends
pub intersection_by_ends : (s t : Seg) (p : Fraction) → p ≡ crossing s t → intersection s t ≡ cond (is_within p s && is_within p t) (Some p) None
intersection_by_ends s t p e =
    ap (λ (b : Bool). cond (b && is_on (crossing s t) t) (Some (crossing s t)) None) (on_line_within (crossing s t) s (on_first_line s t))
    ∙ ap (λ (b : Bool). cond (is_within (crossing s t) s && b) (Some (crossing s t)) None) (on_line_within (crossing s t) t (on_second_line s t))
    ∙ ap (λ (q : Fraction). cond (is_within q s && is_within q t) (Some q) None) (sym e)
  where
    on_line_within : (q : Fraction) (w : Seg) → cross_at w.a w.b q ≡ pos 0 → is_on q w ≡ is_within q w
    on_line_within q w h = ap (λ (b : Bool). b && lies_between w.a.x w.b.x q.nx q.d && lies_between w.a.y w.b.y q.ny q.d) ((Decides-int_eq (cross_at w.a w.b q) (pos 0)).1 h)

-- a point that is on both lines is that point
pub same_as_crossing : (s t : Seg) (p : Fraction) → cross_at s.a s.b p ≡ pos 0 → cross_at t.a t.b p ≡ pos 0 → IsSame p (crossing s t)
same_as_crossing s t p h k = record {
  x = with_sign p.nx p.d (x_over s t) (no_difference _ _ _ _ h k x_identity);
  y = with_sign p.ny p.d (y_over s t) (no_difference _ _ _ _ h k y_identity);
}
  where
    -- both sides times the sign
    with_sign : (n d over : ℤ) → turn s t *ℤ n ≡ d *ℤ over → n *ℤ pos (unsigned_abs (turn s t)) ≡ (int_signum (turn s t) *ℤ over) *ℤ d
    with_sign n d over e =
        let g = int_signum (turn s t) in
        ap (λ (z : ℤ). n *ℤ z) (abs_is (turn s t))
        ∙ same_value (n ∷ g ∷ turn s t ∷ []) (var 0 ⊗ (var 1 ⊗ var 2)) (var 1 ⊗ (var 2 ⊗ var 0)) refl
        ∙ ap (λ (z : ℤ). g *ℤ z) e
        ∙ same_value (g ∷ d ∷ over ∷ []) (var 0 ⊗ (var 1 ⊗ var 2)) ((var 0 ⊗ var 2) ⊗ var 1) refl

    -- what differs by two parts that are 0 is the same
    no_difference : (m e n f : ℤ) {z w : ℤ} → e ≡ pos 0 → f ≡ pos 0 → w -ℤ z ≡ m *ℤ e -ℤ n *ℤ f → w ≡ z
    no_difference m e n f {z} {w} h k i = sym (same_from_sub z w (
        i ∙ ap (λ (x : ℤ). m *ℤ x -ℤ n *ℤ f) h ∙ ap (λ (x : ℤ). m *ℤ pos 0 -ℤ n *ℤ x) k
        ∙ same_value (m ∷ n ∷ []) (var 0 ⊗ number (pos 0) ⊖ var 1 ⊗ number (pos 0)) (number (pos 0)) refl))

    x_identity : turn s t *ℤ p.nx -ℤ p.d *ℤ x_over s t ≡ run t *ℤ cross_at s.a s.b p -ℤ run s *ℤ cross_at t.a t.b p
    x_identity = same_value (ends s t (p.nx ∷ p.ny ∷ p.d ∷ []))
        (turn_of ⊗ var 8 ⊖ var 10 ⊗ (turn_of ⊗ x_of 0 ⊕ cross 2 3 0 ⊗ run_of 0))
        (run_of 2 ⊗ cross_at_of 0 ⊖ run_of 0 ⊗ cross_at_of 2) refl

    y_identity : turn s t *ℤ p.ny -ℤ p.d *ℤ y_over s t ≡ rise t *ℤ cross_at s.a s.b p -ℤ rise s *ℤ cross_at t.a t.b p
    y_identity = same_value (ends s t (p.nx ∷ p.ny ∷ p.d ∷ []))
        (turn_of ⊗ var 9 ⊖ var 10 ⊗ (turn_of ⊗ y_of 0 ⊕ cross 2 3 0 ⊗ rise_of 0))
        (rise_of 2 ⊗ cross_at_of 0 ⊖ rise_of 0 ⊗ cross_at_of 2) refl
