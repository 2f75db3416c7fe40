-- The common point of two segments, the first of which has two different ends: it is on both and forbidden, and where there is
-- none every point that both hold is permitted.
use Rattle.std.proofs.Common.{◌≡◌, ◌≢◌, inl, inr, ◌&&◌, ◌||◌, Bool, true, false, cond, ℤ, pos, ◌<ℤ◌, unsigned_abs, Option, Some, None, refl, sym, ap, subst, ◌∙◌, arith}
use Rattle.std.specs.Ordering.{int_eq}
use Rattle.std.proofs.lemmas.Int.{ints}
use Rattle.std.proofs.lemmas.Bool.{and_parts, and_from, or_cases, or_left, or_right, true≢false, false_from_ne_true}
use Rattle.std.proofs.lemmas.Bool.Decides.{Decides-int_eq, not_from_Decides}
use Rattle.lemmas.proofs.Signs.{by_sign}
use Rattle.tgap_model.specs.declared.geometry.Point.{Point}
use Rattle.tgap_model.specs.declared.geometry.Fraction.{Fraction}
use Rattle.tgap_model.specs.declared.geometry.Seg.{Seg}
use Rattle.tgap_model.specs.declared.geometry.Shared.{Shared}
use Rattle.tgap_model.specs.Segment.{is_at, is_on, turn, crossing, overlap, intersection, any_common, is_permitted, common_point, HaveInCommon}
use Rattle.grid_geo.proofs.Places.{IsAt, IsCommon, IsSame, on_facts, on_from_facts, at_facts, at_from_facts, on_again, at_again}
use Rattle.grid_geo.proofs.Crossing.{same_as_crossing}
use Rattle.grid_geo.proofs.Overlap.{if_some, if_none, overlap_is_common, overlap_at_first_end, overlap_at_second_end, overlap_holds_all}

-- ---- two segments that are not parallel

-- the absolute value of a number other than 0
positive_abs : (z : ℤ) → z ≢ pos 0 → pos 0 <ℤ pos (unsigned_abs z)
positive_abs z n = by_sign z (λ h. omega (arith, ints)) (λ e. absurd (n e)) (λ h. omega (arith, ints))

module _ (s t : Seg) (turns : turn s t ≢ pos 0) where
  -- what is found is the crossing, which both hold
  crossing_tests : (m : Fraction) → intersection s t ≡ Some m → IsCommon s t (crossing s t) × (crossing s t ≡ m)
  crossing_tests m e =
      let found = if_some (is_on (crossing s t) s && is_on (crossing s t) t) (crossing s t) m e in
      let tests = and_parts (is_on (crossing s t) s) (is_on (crossing s t) t) found.0 in
      (record { rational = positive_abs (turn s t) turns; first = on_facts (crossing s t) s tests.0; second = on_facts (crossing s t) t tests.1 }, found.1)

  -- both segments hold what is found
  intersection_is_common : (m : Fraction) → intersection s t ≡ Some m → IsCommon s t m
  intersection_is_common m e = let found = crossing_tests m e in subst (IsCommon s t) found.1 found.0

  -- a point that both hold is the crossing
  one_crossing : (p : Fraction) → IsCommon s t p → IsSame p (crossing s t)
  one_crossing p c = same_as_crossing s t p c.first.line c.second.line

  -- so it is at every grid point where the crossing is
  intersection_at : (m p : Fraction) (v : Point) → intersection s t ≡ Some m → IsCommon s t p → IsAt m v → IsAt p v
  intersection_at m p v e c i =
      let same = one_crossing p c in
      at_again (crossing s t) p (positive_abs (turn s t) turns) (record { x = sym same.x; y = sym same.y }) v
      (subst (λ (n : Fraction). IsAt n v) (sym (crossing_tests m e).1) i)

  -- and where nothing is found both hold no point
  intersection_holds_all : intersection s t ≡ None → (p : Fraction) → IsCommon s t p → ⊥
  intersection_holds_all e p c =
      true≢false (sym (and_from (is_on (crossing s t) s) (is_on (crossing s t) t)
      (on_from_facts (crossing s t) s (on_again p (crossing s t) c.rational (one_crossing p c) s c.first))
      (on_from_facts (crossing s t) t (on_again p (crossing s t) c.rational (one_crossing p c) t c.second)))
      ∙ if_none (is_on (crossing s t) s && is_on (crossing s t) t) (crossing s t) e)

-- ---- any two segments

-- parallel segments have the overlap, others the intersection
pub any_parallel : (s t : Seg) → turn s t ≡ pos 0 → any_common s t ≡ overlap s t
unfolding any_common
any_parallel s t e = ap (λ (b : Bool). cond b (overlap s t) (intersection s t)) ((Decides-int_eq (turn s t) (pos 0)).1 e)

pub any_turning : (s t : Seg) → turn s t ≢ pos 0 → any_common s t ≡ intersection s t
unfolding any_common
any_turning s t n = ap (λ (b : Bool). cond b (overlap s t) (intersection s t)) (false_from_ne_true (int_eq (turn s t) (pos 0)) (λ e. n ((Decides-int_eq (turn s t) (pos 0)).0 e)))

-- the point, where it is there and not permitted
abbrev pub unless_permitted : Seg → Seg → Shared → Option Fraction → Option Fraction
unless_permitted s t shared None = None
unless_permitted s t shared (Some p) = cond (is_permitted shared s t p) None (Some p)

-- what is found: both hold it, and every other point that both hold is at an end of the first where it is
record IsFound (s t : Seg) (m : Fraction) : Type 0 where
  common : IsCommon s t m
  at_first_end : (p : Fraction) → IsCommon s t p → IsAt m s.a → IsAt p s.a
  at_second_end : (p : Fraction) → IsCommon s t p → IsAt m s.b → IsAt p s.b

module _ (s t : Seg) (apart : s.a ≢ s.b) where
  -- the test for parallel segments that fails
  apart_by_test : int_eq (turn s t) (pos 0) ≡ false → turn s t ≢ pos 0
  apart_by_test e = not_from_Decides (int_eq (turn s t) (pos 0)) (Decides-int_eq (turn s t) (pos 0)) e

  -- whatever is found is found in this sense
  any_found : (m : Fraction) → any_common s t ≡ Some m → IsFound s t m
  unfolding any_common
  any_found m e = by (int_eq (turn s t) (pos 0)) refl e
    where
      by : (b : Bool) → int_eq (turn s t) (pos 0) ≡ b → cond b (overlap s t) (intersection s t) ≡ Some m → IsFound s t m
      by true z e =
          let parallel = (Decides-int_eq (turn s t) (pos 0)).0 z in
          record {
            common = overlap_is_common s t apart parallel m e;
            at_first_end = λ p c i. overlap_at_first_end s t apart parallel m p e c i;
            at_second_end = λ p c i. overlap_at_second_end s t apart parallel m p e c i;
          }
      by false z e =
          let turns = apart_by_test z in
          record {
            common = intersection_is_common s t turns m e;
            at_first_end = λ p c i. intersection_at s t turns m p s.a e c i;
            at_second_end = λ p c i. intersection_at s t turns m p s.b e c i;
          }

  -- where nothing is found both hold no point
  any_holds_all : any_common s t ≡ None → (p : Fraction) → IsCommon s t p → ⊥
  unfolding any_common
  any_holds_all e p c = by (int_eq (turn s t) (pos 0)) refl e
    where
      by : (b : Bool) → int_eq (turn s t) (pos 0) ≡ b → cond b (overlap s t) (intersection s t) ≡ None → ⊥
      by true z e = overlap_holds_all s t apart ((Decides-int_eq (turn s t) (pos 0)).0 z) e p c
      by false z e = intersection_holds_all s t (apart_by_test z) e p c

  -- what is at no other place is permitted with it
  permitted_again : (shared : Shared) (m p : Fraction) → (IsAt m s.a → IsAt p s.a) → (IsAt m s.b → IsAt p s.b) → is_permitted shared s t m ≡ true → is_permitted shared s t p ≡ true
  permitted_again shared m p f g h =
      elim (or_cases (a && is_at m s.a) (b && is_at m s.b) h) [
        | inl e ↦
            let parts = and_parts a (is_at m s.a) e in
            or_left (a && is_at p s.a) (b && is_at p s.b) (and_from a (is_at p s.a) parts.0 (at_from_facts p s.a (f (at_facts m s.a parts.1))))
        | inr e ↦
            let parts = and_parts b (is_at m s.b) e in
            or_right (a && is_at p s.a) (b && is_at p s.b) (and_from b (is_at p s.b) parts.0 (at_from_facts p s.b (g (at_facts m s.b parts.1))))
      ]
    where
      a : Bool
      a = shared.aa || shared.ab

      b : Bool
      b = shared.ba || shared.bb

  -- a forbidden common point is a common point
  common_from : (shared : Shared) (p : Fraction) → HaveInCommon s t shared p → IsCommon s t p
  common_from shared p h = record { rational = h.rational; first = on_facts p s h.first; second = on_facts p t h.second }

  -- the common point is on both segments, and forbidden
  pub common_point_found : (shared : Shared) (m : Fraction) → common_point s t shared ≡ Some m → HaveInCommon s t shared m
  unfolding common_point
  common_point_found shared m e = by (any_common s t) refl e
    where
      forbidden : (q : Fraction) → IsCommon s t q → (b : Bool) → is_permitted shared s t q ≡ b → cond b None (Some q) ≡ Some m → HaveInCommon s t shared m
      forbidden q c true i e = cc
      forbidden q c false i e =
          let same : q ≡ m = cc in
          subst (HaveInCommon s t shared) same (record { rational = c.rational; first = on_from_facts q s c.first; second = on_from_facts q t c.second; forbidden = i })

      by : (o : Option Fraction) → any_common s t ≡ o → unless_permitted s t shared o ≡ Some m → HaveInCommon s t shared m
      by None f e = cc
      by (Some q) f e = forbidden q (any_found q f).common (is_permitted shared s t q) refl e

  -- where there is none, no point is on both segments and forbidden
  pub common_point_none : (shared : Shared) → common_point s t shared ≡ None → (p : Fraction) → HaveInCommon s t shared p → ⊥
  unfolding common_point
  common_point_none shared e p h = by (any_common s t) refl e
    where
      permitted : (q : Fraction) → IsFound s t q → (b : Bool) → is_permitted shared s t q ≡ b → cond b None (Some q) ≡ None → ⊥
      permitted q f true i e = true≢false (sym (permitted_again shared q p (f.at_first_end p (common_from shared p h)) (f.at_second_end p (common_from shared p h)) i) ∙ h.forbidden)
      permitted q f false i e = cc

      by : (o : Option Fraction) → any_common s t ≡ o → unless_permitted s t shared o ≡ None → ⊥
      by None f e = any_holds_all f p (common_from shared p h)
      by (Some q) f e = permitted q (any_found q f) (is_permitted shared s t q) refl e

-- ---- what the point is, by what both have in common

module _ (s t : Seg) (shared : Shared) where
  -- no common point, a permitted one, and a forbidden one
  pub none_in_common : any_common s t ≡ None → common_point s t shared ≡ None
  unfolding common_point
  none_in_common e = ap (unless_permitted s t shared) e

  pub permitted_in_common : (p : Fraction) → any_common s t ≡ Some p → is_permitted shared s t p ≡ true → common_point s t shared ≡ None
  unfolding common_point
  permitted_in_common p e f = ap (unless_permitted s t shared) e ∙ ap (λ (b : Bool). cond b None (Some p)) f

  pub forbidden_in_common : (p : Fraction) → any_common s t ≡ Some p → is_permitted shared s t p ≡ false → common_point s t shared ≡ Some p
  unfolding common_point
  forbidden_in_common p e f = ap (unless_permitted s t shared) e ∙ ap (λ (b : Bool). cond b None (Some p)) f
