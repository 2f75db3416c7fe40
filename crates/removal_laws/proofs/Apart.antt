-- Segments that are apart: in any order, with other places, and from a segment that takes the place of two.
use Rattle.std.proofs.Common.{◌≡◌, ◌≢◌, ◌⊎◌, inl, inr, ⊎_elim, ℕ, ◌+◌, ◌==◌, ◌&&◌, ◌||◌, Bool, true, false, [], ◌∷◌, ℤ, pos, ◌*ℤ◌, ◌+ℤ◌, ◌<ℤ◌, refl, sym, ap, ap₂, ◌∙◌, subst, arith}
use Rattle.std.proofs.lemmas.Bool.{and_parts, and_from, or_cases, or_left, or_right, true≢false, ne_eqb, true_from_ne_false, false_from_ne_true}
use Rattle.std.proofs.lemmas.Bool.Decides.{Decides-int_eq}
use Rattle.std.specs.Ordering.{int_eq}
use Rattle.std.proofs.lemmas.Int.{ints}
use Rattle.lemmas.proofs.Integers.{one-*ℤ}
use Rattle.lemmas.proofs.Polynomials.{same_value, var, number, ◌⊕◌, ◌⊗◌}
use Rattle.lemmas.proofs.Signs.{le_from_lt, le_from_same}
use Rattle.tgap_model.specs.declared.geometry.Point.{Point}
use Rattle.tgap_model.specs.declared.geometry.Fraction.{Fraction}
use Rattle.tgap_model.specs.declared.geometry.Seg.{Seg}
use Rattle.tgap_model.specs.declared.geometry.Shared.{Shared}
use Rattle.tgap_model.specs.declared.segment.LabelledSegment.{LabelledSegment}
use Rattle.tgap_model.specs.Base.{same_point}
use Rattle.tgap_model.specs.Segment.{is_at, is_on, is_permitted}
use Rattle.tgap_model.specs.Point.{cross as cross_of}
use Rattle.tgap_model.specs.Clear.{is_clear}
use Rattle.tgap_model.specs.Partition.{AreApart, follows, shared_ends}
use Rattle.tgap_model.proofs.Points.{point_same, same_point-true, same_point-from}
use Rattle.removal_laws.proofs.Between.{is_on_from}
use Rattle.removal_laws.proofs.ClearTriangle.{clear_of_base}
use Rattle.removal_laws.proofs.Places.{moved, IsElsewhere, follows_moved, before_joined, after_joined, not_here, not_next}

-- ---- in the other order

-- the second flag of an end, seen from the other segment
turned_flag : (u v : Point) (x y f : Bool) → (same_point u v && ((x && y) || f)) ≡ true → (u ≡ v) × ((same_point v u && ((y && x) || f)) ≡ true)
turned_flag u v x y f h =
    let parts = and_parts (same_point u v) ((x && y) || f) h in
    let e = same_point-true u v parts.0 in (
      e,
      and_from (same_point v u) ((y && x) || f) (same_point-from v u (sym e)) (⊎_elim
          (λ g. let both = and_parts x y g in or_left (y && x) f (and_from y x both.1 both.0))
          (λ g. or_right (y && x) f g) (or_cases (x && y) f parts.1)),
    )

turned_both : (u v : Point) (x y : Bool) → (same_point u v && x && y) ≡ true → (u ≡ v) × ((same_point v u && y && x) ≡ true)
turned_both u v x y h =
    let parts = and_parts (same_point u v && x) y h in
    let first = and_parts (same_point u v) x parts.0 in
    let e = same_point-true u v first.0 in
    (e, and_from (same_point v u && y) x (and_from (same_point v u) y (same_point-from v u (sym e)) parts.1) first.1)

moved_at : (u v : Point) (p : Fraction) → u ≡ v → is_at p u ≡ true → is_at p v ≡ true
moved_at u v p e h = subst (λ w. is_at p w ≡ true) e h

permitted_turned : (s t : LabelledSegment) (p : Fraction)
    → is_permitted (shared_ends s t) s.segment t.segment p ≡ true → is_permitted (shared_ends t s) t.segment s.segment p ≡ true
permitted_turned s t p h =
    elim (or_cases ((first.aa || first.ab) && is_at p s.segment.a) ((first.ba || first.bb) && is_at p s.segment.b) h) [
      | inl e ↦
          let parts = and_parts (first.aa || first.ab) (is_at p s.segment.a) e in
          elim (or_cases first.aa first.ab parts.0) [
            | inl f ↦
                let g = turned_both s.segment.a t.segment.a s.starts t.starts f in
                at_a (or_left second.aa second.ab g.1) (moved_at _ _ p g.0 parts.1)
            | inr f ↦
                let g = turned_flag s.segment.a t.segment.b s.starts t.ends (follows t s) f in
                at_b (or_left second.ba second.bb g.1) (moved_at _ _ p g.0 parts.1)
          ]
      | inr e ↦
          let parts = and_parts (first.ba || first.bb) (is_at p s.segment.b) e in
          elim (or_cases first.ba first.bb parts.0) [
            | inl f ↦
                let g = turned_flag s.segment.b t.segment.a s.ends t.starts (follows s t) f in
                at_a (or_right second.aa second.ab g.1) (moved_at _ _ p g.0 parts.1)
            | inr f ↦
                let g = turned_both s.segment.b t.segment.b s.ends t.ends f in
                at_b (or_right second.ba second.bb g.1) (moved_at _ _ p g.0 parts.1)
          ]
    ]
  where
    first : Shared
    first = shared_ends s t

    second : Shared
    second = shared_ends t s

    at_a : (second.aa || second.ab) ≡ true → is_at p t.segment.a ≡ true → is_permitted second t.segment s.segment p ≡ true
    at_a f g = or_left _ _ (and_from _ _ f g)

    at_b : (second.ba || second.bb) ≡ true → is_at p t.segment.b ≡ true → is_permitted second t.segment s.segment p ≡ true
    at_b f g = or_right _ _ (and_from _ _ f g)

pub apart_turned : (s t : LabelledSegment) → AreApart s t → AreApart t s
apart_turned s t apart p h = apart p (record {
  rational = h.rational;
  first = h.second;
  second = h.first;
  forbidden = false_from_ne_true (is_permitted (shared_ends s t) s.segment t.segment p)
      (λ e. true≢false (sym (permitted_turned s t p e) ∙ h.forbidden));
})

-- where both hold a point, it is permitted
pub permitted_common : (s t : LabelledSegment) → AreApart s t → (p : Fraction) → pos 0 <ℤ p.d → is_on p s.segment ≡ true → is_on p t.segment ≡ true
    → is_permitted (shared_ends s t) s.segment t.segment p ≡ true
permitted_common s t apart p positive h k = true_from_ne_false (is_permitted (shared_ends s t) s.segment t.segment p)
    (λ e. apart p (record { rational = positive; first = h; second = k; forbidden = e }))

-- at the end of a segment a point is on it
pub at_first : (p : Fraction) (u v : Point) → pos 0 <ℤ p.d → is_at p u ≡ true → is_on p (record { a = u; b = v }) ≡ true
at_first p u v positive h = is_on_from p u v (record {
  total = pos 1;
  near = p.d;
  far = pos 0;
  positive = record { lt = tt };
  near_sign = le_from_lt positive;
  far_sign = le_from_same refl;
  under = same_value (p.d ∷ []) (number (pos 1) ⊗ var 0) (var 0 ⊕ number (pos 0)) refl;
  over_x = coordinate p.nx u.x v.x ((Decides-int_eq p.nx (p.d *ℤ u.x)).0 parts.0);
  over_y = coordinate p.ny u.y v.y ((Decides-int_eq p.ny (p.d *ℤ u.y)).0 parts.1);
})
  where
    parts : (int_eq p.nx (p.d *ℤ u.x) ≡ true) × (int_eq p.ny (p.d *ℤ u.y) ≡ true)
    parts = and_parts (int_eq p.nx (p.d *ℤ u.x)) (int_eq p.ny (p.d *ℤ u.y)) h

    coordinate : (n x y : ℤ) → n ≡ p.d *ℤ x → pos 1 *ℤ n ≡ p.d *ℤ x +ℤ pos 0 *ℤ y
    coordinate n x y e = ap (λ (z : ℤ). pos 1 *ℤ z) e ∙ same_value (p.d ∷ x ∷ y ∷ []) (number (pos 1) ⊗ (var 0 ⊗ var 1)) (var 0 ⊗ var 1 ⊕ number (pos 0) ⊗ var 2) refl

pub at_last : (p : Fraction) (u v : Point) → pos 0 <ℤ p.d → is_at p v ≡ true → is_on p (record { a = u; b = v }) ≡ true
at_last p u v positive h = is_on_from p u v (record {
  total = pos 1;
  near = pos 0;
  far = p.d;
  positive = record { lt = tt };
  near_sign = le_from_same refl;
  far_sign = le_from_lt positive;
  under = same_value (p.d ∷ []) (number (pos 1) ⊗ var 0) (number (pos 0) ⊕ var 0) refl;
  over_x = coordinate p.nx u.x v.x ((Decides-int_eq p.nx (p.d *ℤ v.x)).0 parts.0);
  over_y = coordinate p.ny u.y v.y ((Decides-int_eq p.ny (p.d *ℤ v.y)).0 parts.1);
})
  where
    parts : (int_eq p.nx (p.d *ℤ v.x) ≡ true) × (int_eq p.ny (p.d *ℤ v.y) ≡ true)
    parts = and_parts (int_eq p.nx (p.d *ℤ v.x)) (int_eq p.ny (p.d *ℤ v.y)) h

    coordinate : (n x y : ℤ) → n ≡ p.d *ℤ y → pos 1 *ℤ n ≡ pos 0 *ℤ x +ℤ p.d *ℤ y
    coordinate n x y e = ap (λ (z : ℤ). pos 1 *ℤ z) e ∙ same_value (p.d ∷ x ∷ y ∷ []) (number (pos 1) ⊗ (var 0 ⊗ var 2)) (number (pos 0) ⊗ var 1 ⊕ var 0 ⊗ var 2) refl

-- a point over 1
abbrev pub whole : Point → Fraction
whole v = record { nx = v.x; ny = v.y; d = pos 1 }

pub at_itself : (v : Point) → is_at (whole v) v ≡ true
at_itself v = and_from (int_eq v.x (pos 1 *ℤ v.x)) (int_eq v.y (pos 1 *ℤ v.y))
    ((Decides-int_eq v.x (pos 1 *ℤ v.x)).1 (sym (one-*ℤ v.x))) ((Decides-int_eq v.y (pos 1 *ℤ v.y)).1 (sym (one-*ℤ v.y)))

pub at_whole : (v w : Point) → is_at (whole v) w ≡ true → v ≡ w
at_whole v w h =
    let parts = and_parts (int_eq v.x (pos 1 *ℤ w.x)) (int_eq v.y (pos 1 *ℤ w.y)) h in
    point_same v w ((Decides-int_eq v.x (pos 1 *ℤ w.x)).0 parts.0 ∙ one-*ℤ w.x) ((Decides-int_eq v.y (pos 1 *ℤ w.y)).0 parts.1 ∙ one-*ℤ w.y)

-- a segment and the same one turned round, one after the other, are not apart
pub turns_back : (s t : LabelledSegment) → AreApart s t → s.segment.b ≡ t.segment.a → s.segment.a ≡ t.segment.b → s.segment.a ≡ s.segment.b
turns_back s t apart e f =
    let h = permitted_common s t apart halfway two (half_on s.segment.a s.segment.b halfway refl refl refl) (subst (λ (v : Point). is_on halfway (record { a = v; b = t.segment.b }) ≡ true) e
    (subst (λ (v : Point). is_on halfway (record { a = s.segment.b; b = v }) ≡ true) f
    (half_on s.segment.b s.segment.a halfway (swapped s.segment.a.x s.segment.b.x) (swapped s.segment.a.y s.segment.b.y) refl))) in
    elim (or_cases ((old.aa || old.ab) && is_at halfway s.segment.a) ((old.ba || old.bb) && is_at halfway s.segment.b) h) [
      | inl g ↦ at_first_end (and_parts (old.aa || old.ab) (is_at halfway s.segment.a) g).1
      | inr g ↦ at_second_end (and_parts (old.ba || old.bb) (is_at halfway s.segment.b) g).1
    ]
  where
    old : Shared
    old = shared_ends s t

    halfway : Fraction
    halfway = record { nx = s.segment.a.x +ℤ s.segment.b.x; ny = s.segment.a.y +ℤ s.segment.b.y; d = pos 2 }

    two : pos 0 <ℤ pos 2
    two = record { lt = tt }

    swapped : (x y : ℤ) → x +ℤ y ≡ y +ℤ x
    swapped x y = same_value (x ∷ y ∷ []) (var 0 ⊕ var 1) (var 1 ⊕ var 0) refl

    half_on : (u v : Point) (p : Fraction) → p.nx ≡ u.x +ℤ v.x → p.ny ≡ u.y +ℤ v.y → p.d ≡ pos 2 → is_on p (record { a = u; b = v }) ≡ true
    half_on u v p i j k = is_on_from p u v (record {
      total = pos 1;
      near = pos 1;
      far = pos 1;
      positive = record { lt = tt };
      near_sign = le_from_lt (record { lt = tt });
      far_sign = le_from_lt (record { lt = tt });
      under = ap (λ (z : ℤ). pos 1 *ℤ z) k;
      over_x = ap (λ (z : ℤ). pos 1 *ℤ z) i ∙ same_value (u.x ∷ v.x ∷ []) (number (pos 1) ⊗ (var 0 ⊕ var 1)) (number (pos 1) ⊗ var 0 ⊕ number (pos 1) ⊗ var 1) refl;
      over_y = ap (λ (z : ℤ). pos 1 *ℤ z) j ∙ same_value (u.y ∷ v.y ∷ []) (number (pos 1) ⊗ (var 0 ⊕ var 1)) (number (pos 1) ⊗ var 0 ⊕ number (pos 1) ⊗ var 1) refl;
    })

    first_same : (x y : ℤ) → x +ℤ y ≡ pos 2 *ℤ x → x ≡ y
    first_same x y k = omega (arith, ints)

    second_same : (x y : ℤ) → x +ℤ y ≡ pos 2 *ℤ y → x ≡ y
    second_same x y k = omega (arith, ints)

    at_first_end : is_at halfway s.segment.a ≡ true → s.segment.a ≡ s.segment.b
    at_first_end g =
        let parts = and_parts (int_eq halfway.nx (pos 2 *ℤ s.segment.a.x)) (int_eq halfway.ny (pos 2 *ℤ s.segment.a.y)) g in
        point_same s.segment.a s.segment.b (first_same _ _ ((Decides-int_eq halfway.nx (pos 2 *ℤ s.segment.a.x)).0 parts.0))
        (first_same _ _ ((Decides-int_eq halfway.ny (pos 2 *ℤ s.segment.a.y)).0 parts.1))

    at_second_end : is_at halfway s.segment.b ≡ true → s.segment.a ≡ s.segment.b
    at_second_end g =
        let parts = and_parts (int_eq halfway.nx (pos 2 *ℤ s.segment.b.x)) (int_eq halfway.ny (pos 2 *ℤ s.segment.b.y)) g in
        point_same s.segment.a s.segment.b (second_same _ _ ((Decides-int_eq halfway.nx (pos 2 *ℤ s.segment.b.x)).0 parts.0))
        (second_same _ _ ((Decides-int_eq halfway.ny (pos 2 *ℤ s.segment.b.y)).0 parts.1))

-- ---- with other places

module _ (key m : ℕ) where
  -- the shared ends depend on the places by which follows which alone
  abbrev ends_by : LabelledSegment → LabelledSegment → Bool → Bool → Shared
  ends_by s t back on = record {
    aa = same_point s.segment.a t.segment.a && s.starts && t.starts;
    ab = same_point s.segment.a t.segment.b && ((s.starts && t.ends) || back);
    ba = same_point s.segment.b t.segment.a && ((s.ends && t.starts) || on);
    bb = same_point s.segment.b t.segment.b && s.ends && t.ends;
  }

  pub apart_moved : (s t : LabelledSegment) → IsElsewhere key m s → IsElsewhere key m t → AreApart s t → AreApart (moved key m s) (moved key m t)
  apart_moved s t p q apart x h = apart x (record {
    rational = h.rational;
    first = h.first;
    second = h.second;
    forbidden =
        ap₂ (λ (back on : Bool). is_permitted (ends_by s t back on) s.segment t.segment x)
        (sym (follows_moved key m t s q p)) (sym (follows_moved key m s t p q)) ∙ h.forbidden;
  })

  -- ---- the segment a-c in the place of a-b and b-c

  module _ (left right : ℕ) (a b c : Point) (ends : Bool) where
    abbrev pub first_of_two : LabelledSegment
    first_of_two = record { segment = record { a = a; b = b }; left = left; right = right; arc = key; place = m; starts = m == 0; ends = false }

    abbrev pub second_of_two : LabelledSegment
    second_of_two = record { segment = record { a = b; b = c }; left = left; right = right; arc = key; place = m + 1; starts = m + 1 == 0; ends = ends }

    abbrev pub joined : LabelledSegment
    joined = record { segment = record { a = a; b = c }; left = left; right = right; arc = key; place = m; starts = m == 0; ends = ends }

    module _ (s : LabelledSegment) (p : IsElsewhere key m s) where
      -- at b the two may meet no other segment
      not_at_last : (same_point b s.segment.a && ((false && s.starts) || follows first_of_two s)) ≡ true → ⊥
      not_at_last h = elim (or_cases (false && s.starts) (follows first_of_two s) (and_parts (same_point b s.segment.a) _ h).1) [
        | inl e ↦ true≢false (sym e)
        | inr e ↦ true≢false (sym e ∙ not_here key m s (m + 1) (inr refl) p)
      ]

      no_end : (same_point b s.segment.b && false && s.ends) ≡ true → ⊥
      no_end h = true≢false (sym (and_parts (same_point b s.segment.b) false (and_parts (same_point b s.segment.b && false) s.ends h).0).1)

      no_start : second_of_two.starts ≡ false
      no_start = ne_eqb (m + 1) 0 (λ e. absurd (omega arith))

      not_at_first : (same_point b s.segment.b && ((second_of_two.starts && s.ends) || follows s second_of_two)) ≡ true → ⊥
      not_at_first h = elim (or_cases (second_of_two.starts && s.ends) (follows s second_of_two) (and_parts (same_point b s.segment.b) _ h).1) [
        | inl e ↦ true≢false (sym (and_parts second_of_two.starts s.ends e).0 ∙ no_start)
        | inr e ↦ true≢false (sym e ∙ not_next key m s p)
      ]

      no_begin : (same_point b s.segment.a && second_of_two.starts && s.starts) ≡ true → ⊥
      no_begin h = true≢false (sym (and_parts (same_point b s.segment.a) second_of_two.starts (and_parts (same_point b s.segment.a && second_of_two.starts) s.starts h).0).1 ∙ no_start)

      -- what a may share with a segment it may share as the end of the one that is put in
      keeps_first : (x : Fraction) → is_permitted (shared_ends first_of_two s) first_of_two.segment s.segment x ≡ true
          → is_permitted (shared_ends joined (moved key m s)) joined.segment s.segment x ≡ true
      keeps_first x h = elim (or_cases ((old.aa || old.ab) && is_at x a) ((old.ba || old.bb) && is_at x b) h) [
        | inl e ↦
            let parts = and_parts (old.aa || old.ab) (is_at x a) e in
            or_left ((new.aa || new.ab) && is_at x a) ((new.ba || new.bb) && is_at x c)
            (and_from (new.aa || new.ab) (is_at x a)
            (ap (λ (f : Bool). (same_point a s.segment.a && (m == 0) && s.starts) || (same_point a s.segment.b && (((m == 0) && s.ends) || f))) (before_joined key m s p) ∙ parts.0)
            parts.1)
        | inr e ↦ elim (or_cases old.ba old.bb (and_parts (old.ba || old.bb) (is_at x b) e).0) [
          | inl f ↦ absurd (not_at_last f)
          | inr f ↦ absurd (no_end f)
        ]
      ]
        where
          old : Shared
          old = shared_ends first_of_two s

          new : Shared
          new = shared_ends joined (moved key m s)

      keeps_second : (x : Fraction) → is_permitted (shared_ends second_of_two s) second_of_two.segment s.segment x ≡ true
          → is_permitted (shared_ends joined (moved key m s)) joined.segment s.segment x ≡ true
      keeps_second x h = elim (or_cases ((old.aa || old.ab) && is_at x b) ((old.ba || old.bb) && is_at x c) h) [
        | inl e ↦ elim (or_cases old.aa old.ab (and_parts (old.aa || old.ab) (is_at x b) e).0) [
          | inl f ↦ absurd (no_begin f)
          | inr f ↦ absurd (not_at_first f)
        ]
        | inr e ↦
            let parts = and_parts (old.ba || old.bb) (is_at x c) e in
            or_right ((new.aa || new.ab) && is_at x a) ((new.ba || new.bb) && is_at x c)
            (and_from (new.ba || new.bb) (is_at x c)
            (ap (λ (f : Bool). (same_point c s.segment.a && ((ends && s.starts) || f)) || (same_point c s.segment.b && ends && s.ends)) (after_joined key m s p) ∙ parts.0)
            parts.1)
      ]
        where
          old : Shared
          old = shared_ends second_of_two s

          new : Shared
          new = shared_ends joined (moved key m s)

      -- where a common point of the new segment is one of an old segment, the new one is apart where they are
      pub joined_apart : AreApart first_of_two s → AreApart second_of_two s
          → ((x : Fraction) → pos 0 <ℤ x.d → is_on x joined.segment ≡ true → is_on x s.segment ≡ true
          → (is_on x first_of_two.segment ≡ true) ⊎ (is_on x second_of_two.segment ≡ true))
          → AreApart joined (moved key m s)
      joined_apart first second covers x h = elim (covers x h.rational h.first h.second) [
        | inl e ↦ true≢false (sym (keeps_first x (permitted_common first_of_two s first x h.rational e h.second)) ∙ h.forbidden)
        | inr e ↦ true≢false (sym (keeps_second x (permitted_common second_of_two s second x h.rational e h.second)) ∙ h.forbidden)
      ]

      -- it does not touch b, where b is not a
      pub away_from_second : AreApart first_of_two s → a ≢ b → (s.segment.a ≢ b) × (s.segment.b ≢ b)
      away_from_second apart other = (
        (λ e. touched (at_first (whole b) s.segment.a s.segment.b one (subst (λ v. is_at (whole b) v ≡ true) (sym e) (at_itself b)))),
        (λ e. touched (at_last (whole b) s.segment.a s.segment.b one (subst (λ v. is_at (whole b) v ≡ true) (sym e) (at_itself b)))),
      )
        where
          one : pos 0 <ℤ pos 1
          one = record { lt = tt }

          old : Shared
          old = shared_ends first_of_two s

          touched : is_on (whole b) s.segment ≡ true → ⊥
          touched on =
              let h = permitted_common first_of_two s apart (whole b) one (at_last (whole b) a b one (at_itself b)) on in
              elim (or_cases ((old.aa || old.ab) && is_at (whole b) a) ((old.ba || old.bb) && is_at (whole b) b) h) [
                | inl e ↦ other (sym (at_whole b a (and_parts (old.aa || old.ab) (is_at (whole b) a) e).1))
                | inr e ↦ elim (or_cases old.ba old.bb (and_parts (old.ba || old.bb) (is_at (whole b) b) e).0) [
                  | inl f ↦ not_at_last f
                  | inr f ↦ no_end f
                ]
              ]

-- ---- points of a-c that another segment holds are points of a-b or b-c

-- of a segment of which the triangle is clear
pub clear_covers : (a b c : Point) (s : Seg) → cross_of a b c ≢ pos 0 → is_clear a b c s ≡ true → (x : Fraction) → pos 0 <ℤ x.d
    → is_on x (record { a = a; b = c }) ≡ true → is_on x s ≡ true
    → (is_on x (record { a = a; b = b }) ≡ true) ⊎ (is_on x (record { a = b; b = c }) ≡ true)
clear_covers a b c s area clear x positive h k =
    elim (or_cases (is_at x a) (is_at x c) (and_parts (is_at x a || is_at x c) _ (clear_of_base a b c s x area clear positive h k)).0) [
      | inl e ↦ inl (at_first x a b positive e)
      | inr e ↦ inr (at_last x b c positive e)
    ]
