-- A line that crosses a segment, and the point at which it does: two segments with one height on a line that crosses both meet there.
use Rattle.std.proofs.Common.{◌≡◌, ◌⊎◌, inl, inr, Bool, true, false, cond, ◌&&◌, ◌||◌, List, [], ◌∷◌, ℤ, pos, ◌-ℤ◌, ◌*ℤ◌, neg_ℤ, ◌<ℤ◌, ◌≤ℤ◌, int_le, refl, sym, ap, ◌∙◌, subst, true≢false, arith}
use Rattle.std.specs.Ordering.{int_eq}
use Rattle.std.proofs.lemmas.Int.{ints, by_lt_z}
use Rattle.std.proofs.lemmas.Bool.{and_parts, and_from, and_right, or_cases, or_left, or_right, or_from, false_from_ne_true}
use Rattle.std.proofs.lemmas.Bool.Decides.{Decides-int_eq}
use Rattle.lemmas.proofs.Integers.{*ℤ_right_comm}
use Rattle.lemmas.proofs.Polynomials.{same_value, var, ◌⊖◌, ◌⊗◌, minus}
use Rattle.lemmas.proofs.Signs.{Decides-int_lt, Decides-int_le, lt_lt_trans, le_from_lt, lt_from_mul_left, sub_positive, sub_zero, same_from_sub, le_from_sub, mul_positive, mul_lt_right, mul_not_negative, not_negative_from_mul, apart_from_lt, neg_not_negative}
use Rattle.grid_geo.proofs.Heights.{passes_parts}
use Rattle.tgap_model.specs.declared.geometry.Point.{Point}
use Rattle.tgap_model.specs.declared.geometry.Fraction.{Fraction}
use Rattle.tgap_model.specs.declared.geometry.Seg.{Seg}
use Rattle.tgap_model.specs.declared.segment.LabelledSegment.{LabelledSegment}
use Rattle.tgap_model.specs.Point.{shoelace_term}
use Rattle.tgap_model.specs.Segment.{Line, line_through, passes, crosses, goes_right, rightward, run, rise, height, is_at, lies_between, cross_at, is_on}
use Rattle.tgap_model.specs.Partition.{AreApart}

-- the line passes between the ends of a segment that goes to the right
pub record Spans (l : Line) (r : Seg) : Type 0 where
  pub left : (l.c *ℤ r.a.x) <ℤ l.a
  pub right : l.a <ℤ (l.c *ℤ r.b.x)

-- the same segment the other way round
abbrev pub turned : Seg → Seg
turned s = record { a = s.b; b = s.a }

pub passes_from : (l : Line) (u v : ℤ) → (l.c *ℤ u) <ℤ l.a → l.a <ℤ (l.c *ℤ v) → passes l u v ≡ true
passes_from l u v h k = and_from _ _ ((Decides-int_lt (l.c *ℤ u) l.a).1 h) ((Decides-int_lt l.a (l.c *ℤ v)).1 k)

-- a line passes between two abscissas in their order
pub passes_up : (l : Line) (u v : ℤ) → pos 0 <ℤ l.c → passes l u v ≡ true → u <ℤ v
passes_up l u v c e = let parts = passes_parts l u v e in lt_from_mul_left l.c c (lt_lt_trans parts.0 parts.1)

-- A line crosses a segment exactly where it passes between the ends of the same segment from left to right.
pub spans_from_crosses : (l : Line) (s : Seg) → pos 0 <ℤ l.c → crosses l s ≡ true → Spans l (rightward s)
spans_from_crosses l s c h = by (goes_right s) refl (or_cases (passes l s.a.x s.b.x) (passes l s.b.x s.a.x) h)
  where
    spans : (r : Seg) → passes l r.a.x r.b.x ≡ true → Spans l r
    spans r e = let parts = passes_parts l r.a.x r.b.x e in record { left = parts.0; right = parts.1 }

    by : (b : Bool) → goes_right s ≡ b → (passes l s.a.x s.b.x ≡ true) ⊎ (passes l s.b.x s.a.x ≡ true) → Spans l (cond b s (turned s))
    by true e (inl k) = spans s k
    by true e (inr k) = let up = passes_up l s.b.x s.a.x c k in let goes = (Decides-int_lt s.a.x s.b.x).0 e in absurd (omega (arith, ints))
    by false e (inl k) = absurd (true≢false (sym ((Decides-int_lt s.a.x s.b.x).1 (passes_up l s.a.x s.b.x c k)) ∙ e))
    by false e (inr k) = spans (turned s) k

pub crosses_from_spans : (l : Line) (s : Seg) → Spans l (rightward s) → crosses l s ≡ true
crosses_from_spans l s h = by (goes_right s) h
  where
    by : (b : Bool) → Spans l (cond b s (turned s)) → crosses l s ≡ true
    by true k = or_left _ _ (passes_from l s.a.x s.b.x k.left k.right)
    by false k = or_right _ _ (passes_from l s.b.x s.a.x k.left k.right)

-- a segment that is crossed goes on to the right
pub run_positive : (l : Line) (r : Seg) → pos 0 <ℤ l.c → Spans l r → pos 0 <ℤ run r
run_positive l r c h = sub_positive (lt_from_mul_left l.c c (lt_lt_trans h.left h.right))

-- ---- the point of a segment on a line

-- the numbers of a segment that goes to the right and of a point: x0, y0, x1, y1 and nx, ny, d
abbrev values : Seg → Fraction → List ℤ
values r p = r.a.x ∷ r.a.y ∷ r.b.x ∷ r.b.y ∷ p.nx ∷ p.ny ∷ p.d ∷ []

-- a number over d between two others, in either order
lies_up : (u v n d : ℤ) → (d *ℤ u) ≤ℤ n → n ≤ℤ (d *ℤ v) → lies_between u v n d ≡ true
lies_up u v n d h k =
    or_left (int_le (d *ℤ u) n && int_le n (d *ℤ v)) (int_le (d *ℤ v) n && int_le n (d *ℤ u))
    (and_from (int_le (d *ℤ u) n) (int_le n (d *ℤ v)) ((Decides-int_le (d *ℤ u) n).1 h) ((Decides-int_le n (d *ℤ v)).1 k))

lies_turned : (u v n d : ℤ) → lies_between v u n d ≡ true → lies_between u v n d ≡ true
lies_turned u v n d h = or_turned (int_le (d *ℤ v) n && int_le n (d *ℤ u)) (int_le (d *ℤ u) n && int_le n (d *ℤ v)) h
  where
    or_turned : (a b : Bool) → (a || b) ≡ true → (b || a) ≡ true
    or_turned true true e = refl
    or_turned true false e = refl
    or_turned false true e = refl
    or_turned false false e = e

-- both coordinates of the point, each against an end
module _ (p : Fraction) (r : Seg) (positive : pos 0 <ℤ p.d) (spans : Spans (line_through p) r) (on_height : p.ny *ℤ run r ≡ height (line_through p) r) where
  run_r : pos 0 <ℤ run r
  run_r = run_positive (line_through p) r positive spans

  on_line : cross_at r.a r.b p ≡ pos 0
  on_line = same_value (values r p)
      ((var 2 ⊖ var 0) ⊗ (var 5 ⊖ var 6 ⊗ var 1) ⊖ (var 3 ⊖ var 1) ⊗ (var 4 ⊖ var 6 ⊗ var 0))
      (var 5 ⊗ (var 2 ⊖ var 0) ⊖ (var 4 ⊗ (var 3 ⊖ var 1) ⊖ var 6 ⊗ (var 0 ⊗ var 3 ⊖ var 2 ⊗ var 1))) refl
      ∙ sub_zero (sym on_height)

  from_first : run r *ℤ (p.ny -ℤ p.d *ℤ r.a.y) ≡ rise r *ℤ (p.nx -ℤ p.d *ℤ r.a.x)
  from_first = sym (same_from_sub _ _ on_line)

  to_last : run r *ℤ (p.d *ℤ r.b.y -ℤ p.ny) ≡ rise r *ℤ (p.d *ℤ r.b.x -ℤ p.nx)
  to_last = sym (same_from_sub _ _
      (same_value (values r p)
      ((var 2 ⊖ var 0) ⊗ (var 6 ⊗ var 3 ⊖ var 5) ⊖ (var 3 ⊖ var 1) ⊗ (var 6 ⊗ var 2 ⊖ var 4))
      (minus ((var 2 ⊖ var 0) ⊗ (var 5 ⊖ var 6 ⊗ var 1) ⊖ (var 3 ⊖ var 1) ⊗ (var 4 ⊖ var 6 ⊗ var 0))) refl
      ∙ ap neg_ℤ on_line))

  between_x : lies_between r.a.x r.b.x p.nx p.d ≡ true
  between_x = lies_up r.a.x r.b.x p.nx p.d (le_from_lt spans.left) (le_from_lt spans.right)

  -- a part of the way goes up where the whole way does, and down where it goes down
  goes_with : (m z : ℤ) → pos 0 <ℤ m → run r *ℤ z ≡ rise r *ℤ m → pos 0 ≤ℤ rise r → pos 0 ≤ℤ z
  goes_with m z h e up = not_negative_from_mul (run r) z run_r (subst (λ (w : ℤ). pos 0 ≤ℤ w) (sym e) (mul_not_negative up (le_from_lt h)))

  goes_against : (m z : ℤ) → pos 0 <ℤ m → run r *ℤ z ≡ rise r *ℤ m → rise r <ℤ pos 0 → pos 0 ≤ℤ neg_ℤ z
  goes_against m z h e down = not_negative_from_mul (run r) (neg_ℤ z) run_r
      (subst (λ (w : ℤ). pos 0 ≤ℤ w)
      (same_value (rise r ∷ m ∷ []) (minus (var 0) ⊗ var 1) (minus (var 0 ⊗ var 1)) refl ∙ ap neg_ℤ (sym e) ∙ same_value (run r ∷ z ∷ []) (minus (var 0 ⊗ var 1)) (var 0 ⊗ minus (var 1)) refl)
      (mul_not_negative (neg_not_negative (le_from_lt down)) (le_from_lt h)))

  between_y : lies_between r.a.y r.b.y p.ny p.d ≡ true
  between_y = by_lt_z (rise r) (pos 0)
      (λ down. lies_turned r.a.y r.b.y p.ny p.d (lies_up r.b.y r.a.y p.ny p.d
      (below (p.d *ℤ r.b.y) p.ny (goes_against (p.d *ℤ r.b.x -ℤ p.nx) (p.d *ℤ r.b.y -ℤ p.ny) after to_last down))
      (below p.ny (p.d *ℤ r.a.y) (goes_against (p.nx -ℤ p.d *ℤ r.a.x) (p.ny -ℤ p.d *ℤ r.a.y) before from_first down))))
      (λ up. lies_up r.a.y r.b.y p.ny p.d
      (le_from_sub (p.d *ℤ r.a.y) p.ny (goes_with (p.nx -ℤ p.d *ℤ r.a.x) (p.ny -ℤ p.d *ℤ r.a.y) before from_first up))
      (le_from_sub p.ny (p.d *ℤ r.b.y) (goes_with (p.d *ℤ r.b.x -ℤ p.nx) (p.d *ℤ r.b.y -ℤ p.ny) after to_last up)))
    where
      before : pos 0 <ℤ (p.nx -ℤ p.d *ℤ r.a.x)
      before = sub_positive spans.left

      after : pos 0 <ℤ (p.d *ℤ r.b.x -ℤ p.nx)
      after = sub_positive spans.right

      below : (m n : ℤ) → pos 0 ≤ℤ neg_ℤ (m -ℤ n) → m ≤ℤ n
      below m n h = omega (arith, ints)

  on_rightward : is_on p r ≡ true
  on_rightward = and_from _ _ (and_from _ _ ((Decides-int_eq _ _).1 on_line) between_x) between_y

-- what is on a segment is on it the other way round
on_turned : (p : Fraction) (s : Seg) → is_on p (turned s) ≡ true → is_on p s ≡ true
on_turned p s h =
    let parts = and_parts _ (lies_between s.b.y s.a.y p.ny p.d) h in
    let front = and_parts (int_eq (cross_at s.b s.a p) (pos 0)) (lies_between s.b.x s.a.x p.nx p.d) parts.0 in
    and_from _ _ (and_from _ _ ((Decides-int_eq _ _).1 (line ∙ ap neg_ℤ ((Decides-int_eq (cross_at s.b s.a p) (pos 0)).0 front.0))) (lies_turned s.a.x s.b.x p.nx p.d front.1)) (lies_turned s.a.y s.b.y p.ny p.d parts.1)
  where
    line : cross_at s.a s.b p ≡ neg_ℤ (cross_at s.b s.a p)
    line = same_value (values s p)
        ((var 2 ⊖ var 0) ⊗ (var 5 ⊖ var 6 ⊗ var 1) ⊖ (var 3 ⊖ var 1) ⊗ (var 4 ⊖ var 6 ⊗ var 0))
        (minus ((var 0 ⊖ var 2) ⊗ (var 5 ⊖ var 6 ⊗ var 3) ⊖ (var 1 ⊖ var 3) ⊗ (var 4 ⊖ var 6 ⊗ var 2))) refl

-- a point at the height of a segment on a line that crosses it is on the segment
pub on_segment : (p : Fraction) (s : Seg) → pos 0 <ℤ p.d → Spans (line_through p) (rightward s) → p.ny *ℤ run (rightward s) ≡ height (line_through p) (rightward s) → is_on p s ≡ true
on_segment p s positive spans on_height = by (goes_right s) (on_rightward p (rightward s) positive spans on_height)
  where
    by : (b : Bool) → is_on p (cond b s (turned s)) ≡ true → is_on p s ≡ true
    by true h = h
    by false h = on_turned p s h

-- and it is no end of it
pub no_end : (p : Fraction) (s : Seg) → Spans (line_through p) (rightward s) → (is_at p s.a ≡ false) × (is_at p s.b ≡ false)
no_end p s spans = by (goes_right s) spans
  where
    beside : (v : Point) → (p.nx ≡ p.d *ℤ v.x → ⊥) → is_at p v ≡ false
    beside v n = false_from_ne_true (is_at p v) (λ e. n ((Decides-int_eq p.nx (p.d *ℤ v.x)).0 (and_parts (int_eq p.nx (p.d *ℤ v.x)) (int_eq p.ny (p.d *ℤ v.y)) e).0))

    by : (b : Bool) → Spans (line_through p) (cond b s (turned s)) → (is_at p s.a ≡ false) × (is_at p s.b ≡ false)
    by true k = (beside s.a (λ e. apart_from_lt k.left (sym e)), beside s.b (apart_from_lt k.right))
    by false k = (beside s.a (apart_from_lt k.right), beside s.b (λ e. apart_from_lt k.left (sym e)))

-- ---- two segments with one height

-- the point of a segment on a line
abbrev point_on : Line → Seg → Fraction
point_on l r = record { nx = l.a *ℤ run r; ny = height l r; d = l.c *ℤ run r }

-- the line over a greater denominator
wider : (l : Line) (r t : Seg) → pos 0 <ℤ run r → Spans l t → Spans (line_through (point_on l r)) t
wider l r t k h = record {
  left = subst (λ (z : ℤ). z <ℤ (l.a *ℤ run r)) (*ℤ_right_comm l.c t.a.x (run r)) (mul_lt_right k h.left);
  right = subst (λ (z : ℤ). (l.a *ℤ run r) <ℤ z) (*ℤ_right_comm l.c t.b.x (run r)) (mul_lt_right k h.right);
}

-- Two segments that have no forbidden point in common have different heights on a line that crosses both.
pub heights_differ : (l : Line) (s t : LabelledSegment) → pos 0 <ℤ l.c → crosses l s.segment ≡ true → crosses l t.segment ≡ true → AreApart s t
    → height l (rightward s.segment) *ℤ run (rightward t.segment) ≡ height l (rightward t.segment) *ℤ run (rightward s.segment) → ⊥
heights_differ l s t c h k apart e = apart p (record {
  rational = mul_positive c run_q;
  first = on_segment p s.segment (mul_positive c run_q) (wider l q q run_q spans_q)
      (same_value (l.a ∷ l.c ∷ run q ∷ rise q ∷ shoelace_term q.a q.b ∷ []) ((var 0 ⊗ var 3 ⊖ var 1 ⊗ var 4) ⊗ var 2) ((var 0 ⊗ var 2) ⊗ var 3 ⊖ (var 1 ⊗ var 2) ⊗ var 4) refl);
  second = on_segment p t.segment (mul_positive c run_q) (wider l q r run_q spans_r)
      (e ∙ same_value (l.a ∷ l.c ∷ run q ∷ rise r ∷ shoelace_term r.a r.b ∷ []) ((var 0 ⊗ var 3 ⊖ var 1 ⊗ var 4) ⊗ var 2) ((var 0 ⊗ var 2) ⊗ var 3 ⊖ (var 1 ⊗ var 2) ⊗ var 4) refl);
  forbidden = let ends = no_end p s.segment (wider l q q run_q spans_q) in or_from _ _ (and_right _ _ ends.0) (and_right _ _ ends.1);
})
  where
    q : Seg
    q = rightward s.segment

    r : Seg
    r = rightward t.segment

    spans_q : Spans l q
    spans_q = spans_from_crosses l s.segment c h

    spans_r : Spans l r
    spans_r = spans_from_crosses l t.segment c k

    run_q : pos 0 <ℤ run q
    run_q = run_positive l q c spans_q

    p : Fraction
    p = point_on l q
