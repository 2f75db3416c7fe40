-- In a row of which each member stands over the next one, a point of two members is a point of all between them, and so an end of both.
use Rattle.std.proofs.Common.{◌≡◌, ◌≢◌, ◌⊎◌, inl, inr, ℕ, Bool, true, false, ◌&&◌, ◌||◌, List, [], ◌∷◌, All, Contains, pos, ◌<ℤ◌, refl, sym, ◌∙◌, subst}
use Rattle.std.proofs.lemmas.Bool.{and_parts, or_cases}
use Rattle.std.proofs.lemmas.List.Elements.{All-head, All-tail}
use Rattle.lemmas.proofs.Fractions.{fraction_le_le, fraction_same_same}
use Rattle.lemmas.proofs.Members.{in_cases, in_none}
use Rattle.lemmas.proofs.Signs.{same_from_le}
use Rattle.tgap_model.specs.declared.geometry.Point.{Point}
use Rattle.tgap_model.specs.declared.geometry.Fraction.{Fraction}
use Rattle.tgap_model.specs.declared.geometry.Seg.{Seg}
use Rattle.tgap_model.specs.Base.{same_point}
use Rattle.tgap_model.specs.Segment.{is_at, is_permitted}
use Rattle.tgap_model.proofs.Points.{same_point-true}
use Rattle.grid_geo.proofs.Places.{IsOn, on_again, on_from_facts}
use Rattle.planar_sweep.specs.Over.{GoesForward, IsEnd, MeetAtEnds, same_ends}
use Rattle.planar_sweep.specs.Rows.{Adjacent, Over, seg_at}
use Rattle.planar_sweep.proofs.Gaps.{Reaches, OnOneLine, PointAt, point_at}
use Rattle.planar_sweep.proofs.Heights.{IsNotHigher, not_lower}

-- what two segments that meet at ends alone have in common is an end of both
pub touching : (s t : Seg) (p : Fraction) → pos 0 <ℤ p.d → MeetAtEnds s t → IsOn p s → IsOn p t → IsEnd s p × IsEnd t p
touching s t p rational meet on_s on_t = by (is_permitted (same_ends s t) s t p) refl
  where
    moved : (v w : Point) → same_point v w ≡ true → is_at p v ≡ true → is_at p w ≡ true
    moved v w same at = subst (λ (u : Point). is_at p u ≡ true) (same_point-true v w same) at

    other : (v : Point) → same_point v t.a || same_point v t.b ≡ true → is_at p v ≡ true → IsEnd t p
    other v e at = elim (or_cases (same_point v t.a) (same_point v t.b) e) [
      | inl f ↦ inl (moved v t.a f at)
      | inr f ↦ inr (moved v t.b f at)
    ]

    by : (b : Bool) → is_permitted (same_ends s t) s t p ≡ b → IsEnd s p × IsEnd t p
    by false e = absurd (meet p (record { rational = rational; first = on_from_facts p s on_s; second = on_from_facts p t on_t; forbidden = e }))
    by true e = elim (or_cases ((same_point s.a t.a || same_point s.a t.b) && is_at p s.a) ((same_point s.b t.a || same_point s.b t.b) && is_at p s.b) e) [
      | inl f ↦ let parts = and_parts (same_point s.a t.a || same_point s.a t.b) (is_at p s.a) f in (inl parts.1, other s.a parts.0 parts.1)
      | inr f ↦ let parts = and_parts (same_point s.b t.a || same_point s.b t.b) (is_at p s.b) f in (inr parts.1, other s.b parts.0 parts.1)
    ]

module _ (segs : List Seg) (p : Fraction) (rational : pos 0 <ℤ p.d) where
  -- the vertical line through the point meets the segment of a number
  pub record IsMet (n : ℕ) : Type 0 where
    pub forward : GoesForward (seg_at segs n)
    pub reaches : Reaches p (seg_at segs n)

  at_line : (n : ℕ) → IsMet n → PointAt p (seg_at segs n)
  at_line n m = point_at p (seg_at segs n) rational m.forward m.reaches

  turned : (q r : Fraction) → pos 0 <ℤ q.d → pos 0 <ℤ r.d → OnOneLine p q → OnOneLine p r → OnOneLine q r
  turned q r j k e f = fraction_same_same q.nx p.nx r.nx j rational k (sym e) f

  -- no point of a later member is higher than a point of the head
  below : (x : ℕ) (xs : List ℕ) → Adjacent (Over segs) (x ∷ xs) → GoesForward (seg_at segs x) → All IsMet xs → (q : Fraction) → pos 0 <ℤ q.d → OnOneLine p q → IsOn q (seg_at segs x)
      → (y : ℕ) → Contains xs y → IsOn p (seg_at segs y) → IsNotHigher p q
  below x [] adjacent f met q j line on_x y c on_y = absurd (in_none y c)
  below x (z ∷ zs) adjacent f met q j line on_x y c on_y = elim (in_cases z zs y c) [
    | inl e ↦ not_lower (seg_at segs x) (seg_at segs z) f here.forward adjacent.0.over q p j rational on_x (subst (λ (n : ℕ). IsOn p (seg_at segs n)) (sym e) on_y) (sym line)
    | inr d ↦
        let r = at_line z here in
        fraction_le_le p.ny r.point.ny q.ny rational r.rational j
        (below z zs adjacent.1 here.forward (All-tail IsMet z zs met) r.point r.rational r.line r.on y d on_y)
        (not_lower (seg_at segs x) (seg_at segs z) f here.forward adjacent.0.over q r.point j r.rational on_x r.on (turned q r.point j r.rational line r.line))
  ]
    where
      here : IsMet z
      here = All-head IsMet z zs met

  -- a point of the head and of a later member is an end of both
  squeezed : (x : ℕ) (xs : List ℕ) → Adjacent (Over segs) (x ∷ xs) → GoesForward (seg_at segs x) → All IsMet xs → IsOn p (seg_at segs x) → (y : ℕ) → Contains xs y → IsOn p (seg_at segs y)
      → IsEnd (seg_at segs x) p × IsEnd (seg_at segs y) p
  squeezed x [] adjacent f met on_x y c on_y = absurd (in_none y c)
  squeezed x (z ∷ zs) adjacent f met on_x y c on_y = elim (in_cases z zs y c) [
    | inl e ↦ subst (λ (n : ℕ). IsEnd (seg_at segs x) p × IsEnd (seg_at segs n) p) e
        (touching (seg_at segs x) (seg_at segs z) p rational adjacent.0.ends on_x (subst (λ (n : ℕ). IsOn p (seg_at segs n)) (sym e) on_y))
    | inr d ↦
        let r = at_line z here in
        let high = below z zs adjacent.1 here.forward (All-tail IsMet z zs met) r.point r.rational r.line r.on y d on_y in
        let low = not_lower (seg_at segs x) (seg_at segs z) f here.forward adjacent.0.over p r.point rational r.rational on_x r.on r.line in
        let on_z = on_again r.point p r.rational (record { x = sym r.line; y = same_from_le low high }) (seg_at segs z) r.on in
        ((touching (seg_at segs x) (seg_at segs z) p rational adjacent.0.ends on_x on_z).0, (squeezed z zs adjacent.1 here.forward (All-tail IsMet z zs met) on_z y d on_y).1)
  ]
    where
      here : IsMet z
      here = All-head IsMet z zs met

  -- so it is of any two members
  pub common_end : (row : List ℕ) → Adjacent (Over segs) row → All IsMet row → (m n : ℕ) → Contains row m → Contains row n → m ≢ n → IsOn p (seg_at segs m) → IsOn p (seg_at segs n)
      → IsEnd (seg_at segs m) p × IsEnd (seg_at segs n) p
  common_end [] adjacent met m n c d differ on_m on_n = absurd (in_none m c)
  common_end (x ∷ xs) adjacent met m n c d differ on_m on_n =
      by (λ h k. common_end xs adjacent.1 (All-tail IsMet x xs met) m n h k differ on_m on_n) (in_cases x xs m c) (in_cases x xs n d)
    where
      from_head : (k l : ℕ) → x ≡ k → Contains xs l → IsOn p (seg_at segs k) → IsOn p (seg_at segs l) → IsEnd (seg_at segs k) p × IsEnd (seg_at segs l) p
      from_head k l e h on_k on_l = subst (λ (i : ℕ). IsEnd (seg_at segs i) p × IsEnd (seg_at segs l) p) e
          (squeezed x xs adjacent (All-head IsMet x xs met).forward (All-tail IsMet x xs met) (subst (λ (i : ℕ). IsOn p (seg_at segs i)) (sym e) on_k) l h on_l)

      by : (Contains xs m → Contains xs n → IsEnd (seg_at segs m) p × IsEnd (seg_at segs n) p) → (x ≡ m) ⊎ Contains xs m → (x ≡ n) ⊎ Contains xs n → IsEnd (seg_at segs m) p × IsEnd (seg_at segs n) p
      by behind (inl e) (inl f) = absurd (differ (sym e ∙ f))
      by behind (inl e) (inr h) = from_head m n e h on_m on_n
      by behind (inr h) (inl f) = let both = from_head n m f h on_n on_m in (both.1, both.0)
      by behind (inr h) (inr k) = behind h k
