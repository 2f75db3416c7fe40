-- Whether a segment crosses a ray does not depend on its direction.
use Rattle.std.proofs.Common.{◌≡◌, inl, inr, ℕ, Bool, true, false, cond, not, ◌&&◌, ◌||◌, ◌==◌, ℤ, ◌*ℤ◌, ◌<ℤ◌, ◌≤ℤ◌, int_lt, refl, sym, ap, ◌∙◌, subst, arith}
use Rattle.std.proofs.lemmas.Int.{ints}
use Rattle.std.proofs.lemmas.Bool.{and_parts, or_cases}
use Rattle.lemmas.proofs.Signs.{Decides-int_lt, int_lt-false}
use Rattle.tgap_model.specs.declared.geometry.Fraction.{Fraction}
use Rattle.tgap_model.specs.declared.geometry.Seg.{Seg}
use Rattle.tgap_model.specs.Segment.{Line, line_through, passes, crosses, goes_right, rightward, height, run, is_above}
use Rattle.map_laws.specs.Inside.{borders}
use Rattle.slice_laws.proofs.Paths.{flip}

either_order : (a b : Bool) → (a || b) ≡ (b || a)
either_order true true = refl
either_order true false = refl
either_order false true = refl
either_order false false = refl

-- the line crosses it in both directions or in none
pub crosses_flip : (l : Line) (s : Seg) → crosses l (flip s) ≡ crosses l s
crosses_flip l s = either_order (passes l s.b.x s.a.x) (passes l s.a.x s.b.x)

never_both : (a b : ℤ) → a <ℤ b → b <ℤ a → ⊥
never_both a b h k = omega (arith, ints)

one_abscissa : (a b : ℤ) → b ≤ℤ a → a ≤ℤ b → a ≡ b
one_abscissa a b h k = omega (arith, ints)

-- no line passes between an abscissa and itself
passes_apart : (l : Line) (u v : ℤ) → passes l u v ≡ true → u ≡ v → ⊥
passes_apart l u v h e =
    let b = and_parts (int_lt (l.c *ℤ u) l.a) (int_lt l.a (l.c *ℤ v)) h in
    never_both (l.c *ℤ u) l.a ((Decides-int_lt _ _).0 b.0) (subst (λ (x : ℤ). l.a <ℤ (l.c *ℤ x)) (sym e) ((Decides-int_lt _ _).0 b.1))

-- a segment that a line crosses goes to the right in one direction alone
pub one_direction : (l : Line) (s : Seg) → crosses l s ≡ true → goes_right (flip s) ≡ not (goes_right s)
one_direction l s h = by (goes_right s) refl (goes_right (flip s)) refl
  where
    upright : s.a.x ≡ s.b.x → ⊥
    upright e = elim (or_cases (passes l s.a.x s.b.x) (passes l s.b.x s.a.x) h) [
      | inl c ↦ passes_apart l s.a.x s.b.x c e
      | inr c ↦ passes_apart l s.b.x s.a.x c (sym e)
    ]

    by : (b : Bool) → goes_right s ≡ b → (c : Bool) → goes_right (flip s) ≡ c → c ≡ not b
    by true e true f = absurd (never_both s.a.x s.b.x ((Decides-int_lt s.a.x s.b.x).0 e) ((Decides-int_lt s.b.x s.a.x).0 f))
    by true e false f = refl
    by false e true f = refl
    by false e false f = absurd (upright (one_abscissa s.a.x s.b.x (int_lt-false s.a.x s.b.x e) (int_lt-false s.b.x s.a.x f)))

-- so it has one direction to the right
rightward_flip : (l : Line) (s : Seg) → crosses l s ≡ true → rightward (flip s) ≡ rightward s
rightward_flip l s h = ap (λ (b : Bool). cond b (flip s) s) (one_direction l s h) ∙ by (goes_right s)
  where
    by : (b : Bool) → cond (not b) (flip s) s ≡ cond b s (flip s)
    by true = refl
    by false = refl

-- so it is above a point in both directions
above_flip : (p : Fraction) (s : Seg) → crosses (line_through p) s ≡ true → is_above (flip s) p ≡ is_above s p
unfolding is_above
above_flip p s h = ap (λ (r : Seg). int_lt (p.ny *ℤ run r) (height (line_through p) r)) (rightward_flip (line_through p) s h)

-- the segment crosses the ray up from a point
abbrev pub meets_ray : Fraction → Seg → Bool
meets_ray p s = crosses (line_through p) s && is_above s p

pub meets_ray_flip : (p : Fraction) (s : Seg) → meets_ray p (flip s) ≡ meets_ray p s
meets_ray_flip p s = by (crosses (line_through p) s) refl
  where
    by : (b : Bool) → crosses (line_through p) s ≡ b → meets_ray p (flip s) ≡ (b && is_above s p)
    by true e = ap (λ (c : Bool). c && is_above (flip s) p) (crosses_flip (line_through p) s ∙ e) ∙ above_flip p s e
    by false e = ap (λ (c : Bool). c && is_above (flip s) p) (crosses_flip (line_through p) s ∙ e)

-- it borders a face whichever side is which
pub borders_flip : (f l r : ℕ) → borders f r l ≡ borders f l r
borders_flip f l r = either_order ((r == f) && not (l == f)) ((l == f) && not (r == f))

-- and borders none where both sides are one face
pub borders_none : (f l : ℕ) → borders f l l ≡ false
borders_none f l = by (l == f)
  where
    by : (b : Bool) → ((b && not b) || (b && not b)) ≡ false
    by true = refl
    by false = refl
