-- The ends of a segment and the lines that cross it.
use Rattle.std.proofs.Common.{◌≡◌, ◌⊎◌, inl, inr, ⊎_elim, Bool, true, false, cond, ℤ, ◌<ℤ◌, ◌≤ℤ◌, int_lt, refl, sym, ap, ◌∙◌, subst, true≢false, not, arith}
use Rattle.std.specs.Int.{int_min, int_max}
use Rattle.std.specs.Ordering.{int_eq}
use Rattle.std.proofs.lemmas.Int.{ints}
use Rattle.std.proofs.lemmas.Bool.{or_cases, or_left, or_right, not-true, false_from_ne_true}
use Rattle.std.proofs.lemmas.Bool.Decides.{Decides-int_eq}
use Rattle.lemmas.proofs.Signs.{Decides-int_lt, int_lt-false, apart_cases}
use Rattle.tgap_model.specs.declared.segment.LabelledSegment.{LabelledSegment}
use Rattle.tgap_model.specs.Segment.{line_after, passes}
use Rattle.planar_stack.specs.Sweep.{crossed_after, left_end, right_end, is_slanted}
use Rattle.grid_geo.proofs.Heights.{passes_parts}
use Rattle.planar_stack.proofs.Crossings.{passes_from}

-- the line one half beyond v crosses a segment exactly where it begins at v or before, and ends after v
pub crossed_from_ends : (v : ℤ) (s : LabelledSegment) → left_end s ≤ℤ v → v <ℤ right_end s → crossed_after v s ≡ true
crossed_from_ends v s h k = by (int_lt s.segment.b.x s.segment.a.x) refl h k
  where
    at_line : (x y : ℤ) → x ≤ℤ v → v <ℤ y → passes (line_after v) x y ≡ true
    at_line x y l m = passes_from (line_after v) x y (omega (arith, ints)) (omega (arith, ints))

    by : (b : Bool) → int_lt s.segment.b.x s.segment.a.x ≡ b → cond b s.segment.b.x s.segment.a.x ≤ℤ v → v <ℤ cond b s.segment.a.x s.segment.b.x → crossed_after v s ≡ true
    by true e l m = or_right _ _ (at_line s.segment.b.x s.segment.a.x l m)
    by false e l m = or_left _ _ (at_line s.segment.a.x s.segment.b.x l m)

pub ends_from_crossed : (v : ℤ) (s : LabelledSegment) → crossed_after v s ≡ true → (left_end s ≤ℤ v) × (v <ℤ right_end s)
ends_from_crossed v s h = by (int_lt s.segment.b.x s.segment.a.x) refl (or_cases (passes (line_after v) s.segment.a.x s.segment.b.x) (passes (line_after v) s.segment.b.x s.segment.a.x) h)
  where
    beside : (x y : ℤ) → passes (line_after v) x y ≡ true → (x ≤ℤ v) × (v <ℤ y)
    beside x y e = let parts = passes_parts (line_after v) x y e in (omega (arith, ints, parts.0), omega (arith, ints, parts.1))

    wrong : (x y : ℤ) → passes (line_after v) x y ≡ true → y ≤ℤ x → ⊥
    wrong x y e le = let parts = beside x y e in omega (arith, ints, parts.0, parts.1)

    by : (b : Bool) → int_lt s.segment.b.x s.segment.a.x ≡ b → (passes (line_after v) s.segment.a.x s.segment.b.x ≡ true) ⊎ (passes (line_after v) s.segment.b.x s.segment.a.x ≡ true)
        → (cond b s.segment.b.x s.segment.a.x ≤ℤ v) × (v <ℤ cond b s.segment.a.x s.segment.b.x)
    by true e (inl p) = let less = (Decides-int_lt s.segment.b.x s.segment.a.x).0 e in absurd (wrong s.segment.a.x s.segment.b.x p (omega (arith, ints)))
    by true e (inr p) = beside s.segment.b.x s.segment.a.x p
    by false e (inl p) = beside s.segment.a.x s.segment.b.x p
    by false e (inr p) = absurd (wrong s.segment.b.x s.segment.a.x p (int_lt-false s.segment.b.x s.segment.a.x e))

-- a segment that is crossed is not vertical
pub slanted_from_crossed : (v : ℤ) (s : LabelledSegment) → crossed_after v s ≡ true → is_slanted s ≡ true
slanted_from_crossed v s h = ap not (false_from_ne_true (int_eq s.segment.a.x s.segment.b.x) (λ e. level ((Decides-int_eq s.segment.a.x s.segment.b.x).0 e)))
  where
    level : s.segment.a.x ≡ s.segment.b.x → ⊥
    level e =
        let parts = ends_from_crossed v s h in
        let below = subst (λ (z : ℤ). (int_min z s.segment.b.x ≤ℤ v) × (v <ℤ int_max z s.segment.b.x)) e parts in
        one (int_lt s.segment.b.x s.segment.b.x) s.segment.b.x below
      where
        one : (b : Bool) (x : ℤ) → (cond b x x ≤ℤ v) × (v <ℤ cond b x x) → ⊥
        one true x p = omega (arith, ints, p.0, p.1)
        one false x p = omega (arith, ints, p.0, p.1)

-- and one that is not vertical begins before it ends
pub ends_from_slanted : (s : LabelledSegment) → is_slanted s ≡ true → left_end s <ℤ right_end s
ends_from_slanted s h = by (int_lt s.segment.b.x s.segment.a.x) refl
  where
    differ : s.segment.a.x ≡ s.segment.b.x → ⊥
    differ e = true≢false (sym ((Decides-int_eq s.segment.a.x s.segment.b.x).1 e) ∙ not-true (int_eq s.segment.a.x s.segment.b.x) h)

    by : (b : Bool) → int_lt s.segment.b.x s.segment.a.x ≡ b → cond b s.segment.b.x s.segment.a.x <ℤ cond b s.segment.a.x s.segment.b.x
    by true e = (Decides-int_lt s.segment.b.x s.segment.a.x).0 e
    by false e = ⊎_elim (λ l. l) (λ l. absurd (true≢false (sym ((Decides-int_lt s.segment.b.x s.segment.a.x).1 l) ∙ e))) (apart_cases s.segment.a.x s.segment.b.x differ)
