-- Where two segments may meet: at the ends of arcs, and between two segments of which one is the next of the other.
use Rattle.std.proofs.Common.{◌≡◌, ◌≢◌, ◌⊎◌, inl, inr, ℕ, Bool, true, false, ◌&&◌, ◌||◌, ℤ, pos, neg_ℤ, ◌*ℤ◌, ◌<ℤ◌, int_le, List, [], ◌∷◌, AllPairs, refl, sym, ap, ◌∙◌, subst}
use Rattle.std.specs.Ordering.{int_eq}
use Rattle.std.proofs.lemmas.Bool.{and_parts, and_from, or_cases, or_left, or_right, true≢false, cases_order}
use Rattle.std.proofs.lemmas.Bool.Decides.{Decides-int_eq}
use Rattle.lemmas.proofs.Polynomials.{same_value, var, minus, ◌⊖◌, ◌⊗◌}
use Rattle.tgap_model.specs.declared.geometry.Point.{Point}
use Rattle.tgap_model.specs.declared.geometry.Fraction.{Fraction}
use Rattle.tgap_model.specs.declared.geometry.Seg.{Seg}
use Rattle.tgap_model.specs.declared.segment.LabelledSegment.{LabelledSegment}
use Rattle.tgap_model.specs.Base.{same_point}
use Rattle.tgap_model.specs.Segment.{is_at, is_on, cross_at, lies_between, is_permitted}
use Rattle.tgap_model.specs.Partition.{follows, shared_ends, AreApart}
use Rattle.tgap_model.proofs.Points.{same_point-true, same_point-from}
use Rattle.slice_laws.proofs.Paths.{flip}
use Rattle.slice_laws.proofs.Places.{At, places_from_pairs}

-- ---- points of a segment that is turned round

either_order : (a b : Bool) → (a || b) ≡ (b || a)
either_order true true = refl
either_order true false = refl
either_order false true = refl
either_order false false = refl

-- what is on a segment is on it the other way round
pub on_flip : (p : Fraction) (s : Seg) → is_on p s ≡ true → is_on p (flip s) ≡ true
on_flip p s h =
    let parts = and_parts _ (lies_between s.a.y s.b.y p.ny p.d) h in
    let front = and_parts (int_eq (cross_at s.a s.b p) (pos 0)) (lies_between s.a.x s.b.x p.nx p.d) parts.0 in
    and_from _ _
    (and_from _ _ ((Decides-int_eq _ _).1 (line ∙ ap neg_ℤ ((Decides-int_eq (cross_at s.a s.b p) (pos 0)).0 front.0))) (turned s.a.x s.b.x p.nx front.1))
    (turned s.a.y s.b.y p.ny parts.1)
  where
    line : cross_at s.b s.a p ≡ neg_ℤ (cross_at s.a s.b p)
    line = same_value (s.b.x ∷ s.b.y ∷ s.a.x ∷ s.a.y ∷ p.nx ∷ p.ny ∷ p.d ∷ [])
        ((var 2 ⊖ var 0) ⊗ (var 5 ⊖ var 6 ⊗ var 1) ⊖ (var 3 ⊖ var 1) ⊗ (var 4 ⊖ var 6 ⊗ var 0))
        (minus ((var 0 ⊖ var 2) ⊗ (var 5 ⊖ var 6 ⊗ var 3) ⊖ (var 1 ⊖ var 3) ⊗ (var 4 ⊖ var 6 ⊗ var 2))) refl

    turned : (u v n : ℤ) → lies_between u v n p.d ≡ true → lies_between v u n p.d ≡ true
    turned u v n e = either_order (int_le (p.d *ℤ v) n && int_le n (p.d *ℤ u)) (int_le (p.d *ℤ u) n && int_le n (p.d *ℤ v)) ∙ e

-- ---- ends

-- v is an end of an arc or edge, at this segment
abbrev pub IsEnd : LabelledSegment → Point → Type 0
IsEnd s v = ((s.starts ≡ true) × (s.segment.a ≡ v)) ⊎ ((s.ends ≡ true) × (s.segment.b ≡ v))

-- v is the vertex between a segment and the next one
abbrev pub IsBetween : LabelledSegment → LabelledSegment → Point → Type 0
IsBetween s t v = (follows s t ≡ true) × (s.segment.b ≡ v) × (t.segment.a ≡ v)

-- two segments may meet at v
abbrev pub MayMeet : LabelledSegment → LabelledSegment → Point → Type 0
MayMeet s t v = (IsEnd s v × IsEnd t v) ⊎ (IsBetween s t v ⊎ IsBetween t s v)

pub may_meet_turned : (s t : LabelledSegment) (v : Point) → MayMeet s t v → MayMeet t s v
may_meet_turned s t v (inl e) = inl (e.1, e.0)
may_meet_turned s t v (inr (inl e)) = inr (inr e)
may_meet_turned s t v (inr (inr e)) = inr (inl e)

-- a permitted point is one at which they may meet
permitted_meets : (s t : LabelledSegment) (p : Fraction) → is_permitted (shared_ends s t) s.segment t.segment p ≡ true
    → (v : Point) × (is_at p v ≡ true) × MayMeet s t v
permitted_meets s t p h = elim (or_cases ((aa || ab) && is_at p s.segment.a) ((ba || bb) && is_at p s.segment.b) h) [
  | inl e ↦ (let both = and_parts (aa || ab) (is_at p s.segment.a) e in (s.segment.a, both.1, at_first (or_cases aa ab both.0)))
  | inr e ↦ (let both = and_parts (ba || bb) (is_at p s.segment.b) e in (s.segment.b, both.1, at_second (or_cases ba bb both.0)))
]
  where
    aa : Bool
    aa = (shared_ends s t).aa

    ab : Bool
    ab = (shared_ends s t).ab

    ba : Bool
    ba = (shared_ends s t).ba

    bb : Bool
    bb = (shared_ends s t).bb

    at_first : ((shared_ends s t).aa ≡ true) ⊎ ((shared_ends s t).ab ≡ true) → MayMeet s t s.segment.a
    at_first (inl e) =
        let x = and_parts _ t.starts e in
        let y = and_parts (same_point s.segment.a t.segment.a) s.starts x.0 in
        inl (inl (y.1, refl), inl (x.1, sym (same_point-true _ _ y.0)))
    at_first (inr e) =
        let x = and_parts (same_point s.segment.a t.segment.b) _ e in
        let at : t.segment.b ≡ s.segment.a = sym (same_point-true _ _ x.0) in
        elim (or_cases (s.starts && t.ends) (follows t s) x.1) [
          | inl f ↦ (let y = and_parts s.starts t.ends f in inl (inl (y.0, refl), inr (y.1, at)))
          | inr f ↦ inr (inr (f, at, refl))
        ]

    at_second : ((shared_ends s t).ba ≡ true) ⊎ ((shared_ends s t).bb ≡ true) → MayMeet s t s.segment.b
    at_second (inl e) =
        let x = and_parts (same_point s.segment.b t.segment.a) _ e in
        let at : t.segment.a ≡ s.segment.b = sym (same_point-true _ _ x.0) in
        elim (or_cases (s.ends && t.starts) (follows s t) x.1) [
          | inl f ↦ (let y = and_parts s.ends t.starts f in inl (inr (y.0, refl), inl (y.1, at)))
          | inr f ↦ inr (inl (f, refl, at))
        ]
    at_second (inr e) =
        let x = and_parts _ t.ends e in
        let y = and_parts (same_point s.segment.b t.segment.b) s.ends x.0 in
        inl (inr (y.1, refl), inr (x.1, sym (same_point-true _ _ y.0)))

-- and a point at which they may meet is permitted
meets_permitted : (s t : LabelledSegment) (p : Fraction) (v : Point) → is_at p v ≡ true → MayMeet s t v
    → is_permitted (shared_ends s t) s.segment t.segment p ≡ true
meets_permitted s t p v at m = by m
  where
    here : (w : Point) → w ≡ v → is_at p w ≡ true
    here w e = subst (λ (u : Point). is_at p u ≡ true) (sym e) at

    one : (u w : Point) → u ≡ v → w ≡ v → same_point u w ≡ true
    one u w e f = same_point-from u w (e ∙ sym f)

    first : s.segment.a ≡ v → ((shared_ends s t).aa || (shared_ends s t).ab) ≡ true → is_permitted (shared_ends s t) s.segment t.segment p ≡ true
    first e h = or_left _ _ (and_from _ _ h (here s.segment.a e))

    second : s.segment.b ≡ v → ((shared_ends s t).ba || (shared_ends s t).bb) ≡ true → is_permitted (shared_ends s t) s.segment t.segment p ≡ true
    second e h = or_right ((((shared_ends s t).aa || (shared_ends s t).ab)) && is_at p s.segment.a) _ (and_from _ _ h (here s.segment.b e))

    by : MayMeet s t v → is_permitted (shared_ends s t) s.segment t.segment p ≡ true
    by (inl (inl (x, e), inl (y, f))) = first e (or_left _ _ (and_from _ _ (and_from _ _ (one _ _ e f) x) y))
    by (inl (inl (x, e), inr (y, f))) = first e (or_right (shared_ends s t).aa _ (and_from _ _ (one _ _ e f) (or_left _ _ (and_from _ _ x y))))
    by (inl (inr (x, e), inl (y, f))) = second e (or_left _ _ (and_from _ _ (one _ _ e f) (or_left _ _ (and_from _ _ x y))))
    by (inl (inr (x, e), inr (y, f))) = second e (or_right (shared_ends s t).ba _ (and_from _ _ (and_from _ _ (one _ _ e f) x) y))
    by (inr (inl (x, e, f))) = second e (or_left _ _ (and_from _ _ (one _ _ e f) (or_right (s.ends && t.starts) _ x)))
    by (inr (inr (x, e, f))) = first f (or_right (shared_ends s t).aa _ (and_from _ _ (one _ _ f e) (or_right (s.starts && t.ends) _ x)))

-- ---- apart

-- common points of two segments that are apart are points at which they may meet
apart_meets : (s t : LabelledSegment) → AreApart s t → (p : Fraction) → pos 0 <ℤ p.d → is_on p s.segment ≡ true → is_on p t.segment ≡ true
    → (v : Point) × (is_at p v ≡ true) × MayMeet s t v
apart_meets s t apart p d h k = permitted_meets s t p (by (is_permitted (shared_ends s t) s.segment t.segment p) refl)
  where
    by : (b : Bool) → is_permitted (shared_ends s t) s.segment t.segment p ≡ b → b ≡ true
    by true e = refl
    by false e = absurd (apart p (record { rational = d; first = h; second = k; forbidden = e }))

-- and the other way round
pub apart_from_meets : (s t : LabelledSegment)
    → ((p : Fraction) → pos 0 <ℤ p.d → is_on p s.segment ≡ true → is_on p t.segment ≡ true → (v : Point) × (is_at p v ≡ true) × MayMeet s t v)
    → AreApart s t
apart_from_meets s t h p c =
    let m = h p c.rational c.first c.second in
    true≢false (sym (meets_permitted s t p m.0 m.1 m.2) ∙ c.forbidden)

-- two different members of a list whose segments are apart
pub members_meet : (segments : List LabelledSegment) → AllPairs AreApart segments → (s t : LabelledSegment) (i j : ℕ) → At segments i s
    → At segments j t → i ≢ j
    → (p : Fraction) → pos 0 <ℤ p.d → is_on p s.segment ≡ true → is_on p t.segment ≡ true → (v : Point) × (is_at p v ≡ true) × MayMeet s t v
members_meet segments apart s t i j a b other p d h k = elim (cases_order i j) [
  | inl e ↦ absurd (other e)
  | inr (inl less) ↦ apart_meets s t (places_from_pairs AreApart segments apart i j s t less a b) p d h k
  | inr (inr more) ↦
      (let m = apart_meets t s (places_from_pairs AreApart segments apart j i t s more b a) p d k h in (m.0, m.1, may_meet_turned t s m.0 m.2))
]
