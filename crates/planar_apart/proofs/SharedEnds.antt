-- Two segments that share an end at which they may meet, and do not lie on one line, meet nowhere else.
use Rattle.std.proofs.Common.{◌≡◌, ◌≢◌, inl, inr, ◌&&◌, ◌||◌, Bool, true, [], ◌∷◌, ℤ, pos, ◌-ℤ◌, ◌*ℤ◌, Option, Some, None, refl, sym, ap, ◌∙◌, subst, true≢false}
use Rattle.std.specs.Int.{int_signum}
use Rattle.std.specs.Ordering.{int_eq}
use Rattle.std.proofs.lemmas.Bool.{and_parts, or_cases, or_left, or_right, and_from, not-true}
use Rattle.std.proofs.lemmas.Bool.Decides.{Decides-int_eq}
use Rattle.lemmas.proofs.Polynomials.{same_value, number, ◌⊖◌, ◌⊗◌, var, x_step, y_step, cross}
use Rattle.lemmas.proofs.Signs.{same_from_sub}
use Rattle.lemmas.proofs.Products.{zero_from_mul_left}
use Rattle.tgap_model.specs.declared.geometry.Point.{Point}
use Rattle.tgap_model.specs.declared.geometry.Fraction.{Fraction}
use Rattle.tgap_model.specs.declared.geometry.Seg.{Seg}
use Rattle.tgap_model.specs.declared.geometry.Shared.{Shared}
use Rattle.tgap_model.specs.declared.segment.LabelledSegment.{LabelledSegment}
use Rattle.tgap_model.specs.Base.{same_point}
use Rattle.tgap_model.specs.Point.{side}
use Rattle.tgap_model.specs.Point.{cross as cross_of}
use Rattle.tgap_model.specs.Segment.{run, rise, turn, is_at, is_permitted, common_point}
use Rattle.tgap_model.specs.Partition.{follows, shared_ends}
use Rattle.tgap_model.proofs.Points.{same_point-true}
use Rattle.grid_geo.proofs.Places.{x_gap, y_gap, IsAt, on_facts, at_from_facts}
use Rattle.grid_geo.proofs.Lines.{IsOnLine, first_end_on_line, second_end_on_line, gaps_on_line}
use Rattle.grid_geo.proofs.CommonPoint.{common_point_found}
use Rattle.planar_apart.specs.Ends.{leaves_line, parts_at_end}

-- ---- one point on two lines that are not parallel

-- of two directions (a, b) and (c, e) that are not parallel, only nothing lies along both
nothing_along_both : (a b c e x y : ℤ) → a *ℤ e -ℤ b *ℤ c ≢ pos 0 → a *ℤ y -ℤ b *ℤ x ≡ pos 0 → c *ℤ y -ℤ e *ℤ x ≡ pos 0 → (x ≡ pos 0) × (y ≡ pos 0)
nothing_along_both a b c e x y n h k = (
  zero_from_mul_left (a *ℤ e -ℤ b *ℤ c) n (
      same_value (a ∷ b ∷ c ∷ e ∷ x ∷ y ∷ []) ((var 0 ⊗ var 3 ⊖ var 1 ⊗ var 2) ⊗ var 4)
      (var 2 ⊗ (var 0 ⊗ var 5 ⊖ var 1 ⊗ var 4) ⊖ var 0 ⊗ (var 2 ⊗ var 5 ⊖ var 3 ⊗ var 4)) refl ∙ nothing c a),
  zero_from_mul_left (a *ℤ e -ℤ b *ℤ c) n (
      same_value (a ∷ b ∷ c ∷ e ∷ x ∷ y ∷ []) ((var 0 ⊗ var 3 ⊖ var 1 ⊗ var 2) ⊗ var 5)
      (var 3 ⊗ (var 0 ⊗ var 5 ⊖ var 1 ⊗ var 4) ⊖ var 1 ⊗ (var 2 ⊗ var 5 ⊖ var 3 ⊗ var 4)) refl ∙ nothing e b),
)
  where
    nothing : (m l : ℤ) → m *ℤ (a *ℤ y -ℤ b *ℤ x) -ℤ l *ℤ (c *ℤ y -ℤ e *ℤ x) ≡ pos 0
    nothing m l =
        ap (λ (z : ℤ). m *ℤ z -ℤ l *ℤ (c *ℤ y -ℤ e *ℤ x)) h ∙ ap (λ (z : ℤ). m *ℤ pos 0 -ℤ l *ℤ z) k
        ∙ same_value (m ∷ l ∷ []) (var 0 ⊗ number (pos 0) ⊖ var 1 ⊗ number (pos 0)) (number (pos 0)) refl

-- a point on both lines is where a grid point on both is
at_shared : (s t : Seg) (p : Fraction) (v : Point) → turn s t ≢ pos 0 → run s *ℤ y_gap p v -ℤ rise s *ℤ x_gap p v ≡ pos 0 → run t *ℤ y_gap p v -ℤ rise t *ℤ x_gap p v ≡ pos 0 → IsAt p v
at_shared s t p v n e f = let gaps = nothing_along_both (run s) (rise s) (run t) (rise t) (x_gap p v) (y_gap p v) n e f in record { x = gaps.0; y = gaps.1 }

-- ---- the test

-- the ends of the second are on the line of the first together, where both are parallel
parallel_ends : (s t : Seg) → turn s t ≡ pos 0 → cross_of s.a s.b t.a ≡ cross_of s.a s.b t.b
parallel_ends s t e = same_from_sub (cross_of s.a s.b t.a) (cross_of s.a s.b t.b) (
    same_value (s.a.x ∷ s.a.y ∷ s.b.x ∷ s.b.y ∷ t.a.x ∷ t.a.y ∷ t.b.x ∷ t.b.y ∷ []) (cross 0 1 3 ⊖ cross 0 1 2) (x_step 0 1 ⊗ y_step 2 3 ⊖ y_step 0 1 ⊗ x_step 2 3) refl ∙ e)

-- a point that leaves the line is not on it
leaves : (s : Seg) (w : Point) → leaves_line s w ≡ true → cross_of s.a s.b w ≢ pos 0
leaves s w h e =
    true≢false (sym ((Decides-int_eq (side s.a s.b w) (pos 0)).1 (ap int_signum e)) ∙ not-true (int_eq (side s.a s.b w) (pos 0)) h)

module _ (s t : Seg) (shared : Shared) (apart : s.a ≢ s.b) where
  -- they have one point on both lines, and it is permitted
  one_point : (v : Point) → turn s t ≢ pos 0 → IsOnLine s v → IsOnLine t v → ((p : Fraction) → is_at p v ≡ true → is_permitted shared s t p ≡ true) → common_point s t shared ≡ None
  one_point v n first second permitted = by (common_point s t shared) refl
    where
      by : (o : Option Fraction) → common_point s t shared ≡ o → o ≡ None
      by None e = refl
      by (Some p) e =
          let h = common_point_found s t apart shared p e in
          let here = at_shared s t p v n (gaps_on_line s p v (on_facts p s h.first).line first) (gaps_on_line t p v (on_facts p t h.second).line second) in
          absurd (true≢false (sym (permitted p (at_from_facts p v here)) ∙ h.forbidden))

  -- an end of the first that is permitted
  first_permitted : shared.aa || shared.ab ≡ true → (p : Fraction) → is_at p s.a ≡ true → is_permitted shared s t p ≡ true
  first_permitted e p h = or_left ((shared.aa || shared.ab) && is_at p s.a) ((shared.ba || shared.bb) && is_at p s.b) (and_from (shared.aa || shared.ab) (is_at p s.a) e h)

  second_permitted : shared.ba || shared.bb ≡ true → (p : Fraction) → is_at p s.b ≡ true → is_permitted shared s t p ≡ true
  second_permitted e p h = or_right ((shared.aa || shared.ab) && is_at p s.a) ((shared.ba || shared.bb) && is_at p s.b) (and_from (shared.ba || shared.bb) (is_at p s.b) e h)

  -- the first end of the second segment is shared, and the other one leaves the line
  at_first : (v : Point) → v ≡ t.a → IsOnLine s v → ((p : Fraction) → is_at p v ≡ true → is_permitted shared s t p ≡ true) → leaves_line s t.b ≡ true → common_point s t shared ≡ None
  at_first v is first permitted h =
      one_point v (λ e. leaves s t.b h (sym (parallel_ends s t e) ∙ ap (cross_of s.a s.b) (sym is) ∙ first.line)) first (subst (IsOnLine t) (sym is) (first_end_on_line t)) permitted

  -- the second end of the second segment is shared, and the first one leaves the line
  at_second : (v : Point) → v ≡ t.b → IsOnLine s v → ((p : Fraction) → is_at p v ≡ true → is_permitted shared s t p ≡ true) → leaves_line s t.a ≡ true → common_point s t shared ≡ None
  at_second v is first permitted h =
      one_point v (λ e. leaves s t.a h (parallel_ends s t e ∙ ap (cross_of s.a s.b) (sym is) ∙ first.line)) first (subst (IsOnLine t) (sym is) (second_end_on_line t)) permitted

-- the ends that two segments may share are points of both
module _ (s t : LabelledSegment) (apart : s.segment.a ≢ s.segment.b) where
  pub parted : parts_at_end s.segment t.segment (shared_ends s t) ≡ true → common_point s.segment t.segment (shared_ends s t) ≡ None
  parted h = elim (or_cases ((aa || ba) && leaves_line p q.b) ((ab || bb) && leaves_line p q.a) h) [
    | inl e ↦
        let parts = and_parts (aa || ba) (leaves_line p q.b) e in
        elim (or_cases aa ba parts.0) [
          | inl f ↦ at_first p q (shared_ends s t) apart p.a (same_point-true p.a q.a (and_parts (same_point p.a q.a) s.starts (and_parts (same_point p.a q.a && s.starts) t.starts f).0).0) (first_end_on_line p)
              (first_permitted p q (shared_ends s t) apart (or_left aa ab f)) parts.1
          | inr f ↦ at_first p q (shared_ends s t) apart p.b (same_point-true p.b q.a (and_parts (same_point p.b q.a) ((s.ends && t.starts) || follows s t) f).0) (second_end_on_line p)
              (second_permitted p q (shared_ends s t) apart (or_left ba bb f)) parts.1
        ]
    | inr e ↦
        let parts = and_parts (ab || bb) (leaves_line p q.a) e in
        elim (or_cases ab bb parts.0) [
          | inl f ↦ at_second p q (shared_ends s t) apart p.a (same_point-true p.a q.b (and_parts (same_point p.a q.b) ((s.starts && t.ends) || follows t s) f).0) (first_end_on_line p)
              (first_permitted p q (shared_ends s t) apart (or_right aa ab f)) parts.1
          | inr f ↦ at_second p q (shared_ends s t) apart p.b (same_point-true p.b q.b (and_parts (same_point p.b q.b) s.ends (and_parts (same_point p.b q.b && s.ends) t.ends f).0).0) (second_end_on_line p)
              (second_permitted p q (shared_ends s t) apart (or_right ba bb f)) parts.1
        ]
  ]
    where
      p : Seg
      p = s.segment

      q : Seg
      q = t.segment

      aa : Bool
      aa = (shared_ends s t).aa

      ab : Bool
      ab = (shared_ends s t).ab

      ba : Bool
      ba = (shared_ends s t).ba

      bb : Bool
      bb = (shared_ends s t).bb
