-- The point of a segment on a vertical line that crosses it, and the order of two segments by their heights there.
use Rattle.std.proofs.Common.{◌≡◌, ◌≢◌, inl, inr, Bool, true, false, cond, ◌||◌, ◌&&◌, [], ◌∷◌, ℤ, pos, ◌-ℤ◌, ◌*ℤ◌, ◌<ℤ◌, int_lt, refl, sym, ap, ◌∙◌, subst}
use Rattle.std.specs.Ordering.{int_eq}
use Rattle.std.proofs.lemmas.Bool.{and_parts, or_cases, or_left, or_right}
use Rattle.std.proofs.lemmas.Bool.Decides.{Decides-int_eq}
use Rattle.lemmas.specs.Sorting.{IsStrictOrderOn}
use Rattle.lemmas.proofs.Orders.{fraction_order, order_reversed, order_on_fewer}
use Rattle.lemmas.proofs.Polynomials.{same_value, var, number, ◌⊕◌, ◌⊖◌, ◌⊗◌}
use Rattle.lemmas.proofs.Signs.{Decides-int_lt, int_lt-from_le, by_order, le_from_lt, lt_lt_trans, sub_positive, lt_from_mul_left, mul_positive, mul_not_negative, apart_from_lt, same_from_mul_right}
use Rattle.tgap_model.specs.declared.geometry.Point.{Point}
use Rattle.tgap_model.specs.declared.geometry.Fraction.{Fraction}
use Rattle.tgap_model.specs.declared.geometry.Seg.{Seg}
use Rattle.tgap_model.specs.declared.geometry.Shared.{Shared}
use Rattle.tgap_model.specs.declared.segment.LabelledSegment.{LabelledSegment}
use Rattle.tgap_model.specs.Segment.{Line, IsBetweenColumns, is_at, passes, crosses, goes_right, rightward, run, height, is_higher}
use Rattle.tgap_model.specs.Partition.{AreApart, shared_ends}
use Rattle.removal_laws.proofs.Between.{IsBetween, between_turned, is_on_from}
use Rattle.removal_laws.proofs.Apart.{permitted_common}

-- the point of a line at the height n / r, over c
abbrev pub spot : Line → ℤ → ℤ → Fraction
spot l n r = record { nx = l.a *ℤ r; ny = n; d = l.c *ℤ r }

-- The segment s goes through the point of r on a line, where r is the same segment from left to right.
pub record IsSpotOf (l : Line) (s r : Seg) : Type 0 where
  pub positive : pos 0 <ℤ run r
  pub between : IsBetween (spot l (height l r) (run r)) s.a s.b

abbrev pub HasSpot : Line → Seg → Type 0
HasSpot l s = IsSpotOf l s (rightward s)

module _ (l : Line) (positive : pos 0 <ℤ l.c) where
  -- of a segment from left to right
  spot_between : (r : Seg) → (l.c *ℤ r.a.x) <ℤ l.a → l.a <ℤ (l.c *ℤ r.b.x) → IsBetween (spot l (height l r) (run r)) r.a r.b
  spot_between r left right = record {
    total = pos 1;
    near = l.c *ℤ r.b.x -ℤ l.a;
    far = l.a -ℤ l.c *ℤ r.a.x;
    positive = record { lt = tt };
    near_sign = le_from_lt (sub_positive right);
    far_sign = le_from_lt (sub_positive left);
    under = same_value (l.a ∷ l.c ∷ r.a.x ∷ r.b.x ∷ []) (number (pos 1) ⊗ (var 1 ⊗ (var 3 ⊖ var 2))) ((var 1 ⊗ var 3 ⊖ var 0) ⊕ (var 0 ⊖ var 1 ⊗ var 2)) refl;
    over_x = same_value (l.a ∷ l.c ∷ r.a.x ∷ r.b.x ∷ []) (number (pos 1) ⊗ (var 0 ⊗ (var 3 ⊖ var 2)))
        ((var 1 ⊗ var 3 ⊖ var 0) ⊗ var 2 ⊕ (var 0 ⊖ var 1 ⊗ var 2) ⊗ var 3) refl;
    over_y = same_value (l.a ∷ l.c ∷ r.a.x ∷ r.b.x ∷ r.a.y ∷ r.b.y ∷ []) (number (pos 1) ⊗ (var 0 ⊗ (var 5 ⊖ var 4) ⊖ var 1 ⊗ (var 2 ⊗ var 5 ⊖ var 3 ⊗ var 4)))
        ((var 1 ⊗ var 3 ⊖ var 0) ⊗ var 4 ⊕ (var 0 ⊖ var 1 ⊗ var 2) ⊗ var 5) refl;
  }

  passes_parts : (u v : ℤ) → passes l u v ≡ true → ((l.c *ℤ u) <ℤ l.a) × (l.a <ℤ (l.c *ℤ v))
  passes_parts u v e =
      let parts = and_parts (int_lt (l.c *ℤ u) l.a) (int_lt l.a (l.c *ℤ v)) e in
      ((Decides-int_lt (l.c *ℤ u) l.a).0 parts.0, (Decides-int_lt l.a (l.c *ℤ v)).0 parts.1)

  in_order : (u v : ℤ) → passes l u v ≡ true → u <ℤ v
  in_order u v e = let parts = passes_parts u v e in lt_from_mul_left l.c positive (lt_lt_trans parts.0 parts.1)

  pub spot_of : (s : Seg) → crosses l s ≡ true → HasSpot l s
  spot_of s h = elim (or_cases (passes l s.a.x s.b.x) (passes l s.b.x s.a.x) h) [
    | inl e ↦
        let right : goes_right s ≡ true = (Decides-int_lt s.a.x s.b.x).1 (in_order s.a.x s.b.x e) in
        let parts = passes_parts s.a.x s.b.x e in
        subst (λ (b : Bool). IsSpotOf l s (cond b s turned)) (sym right)
        (record { positive = sub_positive (in_order s.a.x s.b.x e); between = spot_between s parts.0 parts.1 })
    | inr e ↦
        let left : goes_right s ≡ false = int_lt-from_le (le_from_lt (in_order s.b.x s.a.x e)) in
        let parts = passes_parts s.b.x s.a.x e in
        subst (λ (b : Bool). IsSpotOf l s (cond b s turned)) (sym left)
        (record {
          positive = sub_positive (in_order s.b.x s.a.x e);
          between = between_turned (spot l (height l turned) (run turned)) s.b s.a (spot_between turned parts.0 parts.1);
        })
  ]
    where
      turned : Seg
      turned = record { a = s.b; b = s.a }

  -- such a point is no vertex
  pub no_vertex : (n r : ℤ) (v : Point) → pos 0 <ℤ r → ((x : ℤ) → l.a ≢ l.c *ℤ x) → is_at (spot l n r) v ≡ true → ⊥
  no_vertex n r v k columns h =
      let e = (Decides-int_eq (l.a *ℤ r) ((l.c *ℤ r) *ℤ v.x)).0 (and_parts (int_eq (l.a *ℤ r) ((l.c *ℤ r) *ℤ v.x)) (int_eq n ((l.c *ℤ r) *ℤ v.y)) h).0 in
      columns v.x (same_from_mul_right r (λ z. apart_from_lt k (sym z)) (e ∙ same_value (l.c ∷ r ∷ v.x ∷ []) ((var 0 ⊗ var 1) ⊗ var 2) ((var 0 ⊗ var 2) ⊗ var 1) refl))

-- a point at the same height on another segment is on that one
same_spot : (l : Line) (n r m q : ℤ) (u v : Point) → pos 0 <ℤ r → pos 0 <ℤ q → m *ℤ r ≡ n *ℤ q → IsBetween (spot l n r) u v → IsBetween (spot l m q) u v
same_spot l n r m q u v i k e h = record {
  total = h.total *ℤ r;
  near = h.near *ℤ q;
  far = h.far *ℤ q;
  positive = mul_positive h.positive i;
  near_sign = mul_not_negative h.near_sign (le_from_lt k);
  far_sign = mul_not_negative h.far_sign (le_from_lt k);
  under =
      same_value (h.total ∷ r ∷ l.c ∷ q ∷ []) ((var 0 ⊗ var 1) ⊗ (var 2 ⊗ var 3)) ((var 0 ⊗ (var 2 ⊗ var 1)) ⊗ var 3) refl
      ∙ ap (λ (z : ℤ). z *ℤ q) h.under ∙ same_value (h.near ∷ h.far ∷ q ∷ []) ((var 0 ⊕ var 1) ⊗ var 2) (var 0 ⊗ var 2 ⊕ var 1 ⊗ var 2) refl;
  over_x =
      same_value (h.total ∷ r ∷ l.a ∷ q ∷ []) ((var 0 ⊗ var 1) ⊗ (var 2 ⊗ var 3)) ((var 0 ⊗ (var 2 ⊗ var 1)) ⊗ var 3) refl
      ∙ ap (λ (z : ℤ). z *ℤ q) h.over_x
      ∙ same_value (h.near ∷ h.far ∷ q ∷ u.x ∷ v.x ∷ []) ((var 0 ⊗ var 3 ⊕ var 1 ⊗ var 4) ⊗ var 2) ((var 0 ⊗ var 2) ⊗ var 3 ⊕ (var 1 ⊗ var 2) ⊗ var 4) refl;
  over_y =
      same_value (h.total ∷ r ∷ m ∷ []) ((var 0 ⊗ var 1) ⊗ var 2) (var 0 ⊗ (var 2 ⊗ var 1)) refl
      ∙ ap (λ (z : ℤ). h.total *ℤ z) e ∙ same_value (h.total ∷ n ∷ q ∷ []) (var 0 ⊗ (var 1 ⊗ var 2)) ((var 0 ⊗ var 1) ⊗ var 2) refl
      ∙ ap (λ (z : ℤ). z *ℤ q) h.over_y
      ∙ same_value (h.near ∷ h.far ∷ q ∷ u.y ∷ v.y ∷ []) ((var 0 ⊗ var 3 ⊕ var 1 ⊗ var 4) ⊗ var 2) ((var 0 ⊗ var 2) ⊗ var 3 ⊕ (var 1 ⊗ var 2) ⊗ var 4) refl;
}

-- ---- the order of heights

abbrev pub IsCrossed : Line → LabelledSegment → Type 0
IsCrossed l s = crosses l s.segment ≡ true

abbrev pub higher : Line → LabelledSegment → LabelledSegment → Bool
higher l s t = is_higher l s.segment t.segment

-- one of two segments is higher
abbrev pub IsDecided : Line → LabelledSegment → LabelledSegment → Type 0
IsDecided l s t = IsCrossed l s → IsCrossed l t → (higher l s t || higher l t s) ≡ true

module _ (l : Line) (columns : IsBetweenColumns l) where
  pub height_order : IsStrictOrderOn (IsCrossed l) (higher l)
  unfolding is_higher
  height_order =
      order_on_fewer (λ s h. (spot_of l columns.rational s.segment h).positive)
      (order_reversed (fraction_order (λ (s : LabelledSegment). height l (rightward s.segment)) (λ s. run (rightward s.segment))))

  -- two segments that are apart have different heights
  pub apart_decided : (s t : LabelledSegment) → AreApart s t → IsDecided l s t
  unfolding is_higher
  apart_decided s t apart h k = by_order (height l (rightward t.segment) *ℤ run (rightward s.segment)) (height l (rightward s.segment) *ℤ run (rightward t.segment))
      (λ less. or_left _ _ ((Decides-int_lt _ _).1 less))
      (λ e. absurd (meets e))
      (λ more. or_right (is_higher l s.segment t.segment) _ ((Decides-int_lt _ _).1 more))
    where
      on_s : HasSpot l s.segment
      on_s = spot_of l columns.rational s.segment h

      on_t : HasSpot l t.segment
      on_t = spot_of l columns.rational t.segment k

      here : Fraction
      here = spot l (height l (rightward s.segment)) (run (rightward s.segment))

      old : Shared
      old = shared_ends s t

      meets : height l (rightward t.segment) *ℤ run (rightward s.segment) ≡ height l (rightward s.segment) *ℤ run (rightward t.segment) → ⊥
      meets e =
          let permitted = permitted_common s t apart here (mul_positive columns.rational on_s.positive)
          (is_on_from here s.segment.a s.segment.b on_s.between)
          (is_on_from here t.segment.a t.segment.b (same_spot l (height l (rightward t.segment)) (run (rightward t.segment)) (height l (rightward s.segment)) (run (rightward s.segment))
          t.segment.a t.segment.b on_t.positive on_s.positive (sym e) on_t.between)) in
          elim (or_cases ((old.aa || old.ab) && is_at here s.segment.a) ((old.ba || old.bb) && is_at here s.segment.b) permitted) [
            | inl f ↦ no_vertex l columns.rational _ _ s.segment.a on_s.positive columns.apart (and_parts (old.aa || old.ab) (is_at here s.segment.a) f).1
            | inr f ↦ no_vertex l columns.rational _ _ s.segment.b on_s.positive columns.apart (and_parts (old.ba || old.bb) (is_at here s.segment.b) f).1
          ]
