-- An inner vertex stands once where segments have no point in common but permitted ones.
use Rattle.std.proofs.Common.{◌≡◌, ◌≢◌, ◌⊎◌, inl, inr, ⊎_elim, Bool, true, false, ◌&&◌, ◌||◌, ℤ, pos, ◌*ℤ◌, ◌≤ℤ◌, int_le, List, [], ◌∷◌, get_or, refl, sym, ◌∙◌, subst, arith}
use Rattle.std.specs.Ordering.{int_eq}
use Rattle.std.proofs.lemmas.Bool.{and_parts, and_from, and_left, and_right, or_left, or_right, or_from, true≢false, false_from_ne_true, cases_lt, true_from_ne_false}
use Rattle.std.proofs.lemmas.Bool.Decides.{Decides-int_eq}
use Rattle.std.proofs.lemmas.Int.{ints}
use Rattle.lemmas.proofs.Integers.{one-*ℤ}
use Rattle.lemmas.proofs.Polynomials.{same_value, x_of, y_of, x_step, y_step, number, ◌⊖◌, ◌⊗◌}
use Rattle.lemmas.proofs.Signs.{Decides-int_le, by_order, le_from_lt, le_from_same}
use Rattle.tgap_model.specs.declared.geometry.Point.{Point}
use Rattle.tgap_model.specs.declared.geometry.Fraction.{Fraction}
use Rattle.tgap_model.specs.declared.geometry.Seg.{Seg}
use Rattle.tgap_model.specs.declared.geometry.Shared.{Shared}
use Rattle.tgap_model.specs.declared.segment.LabelledSegment.{LabelledSegment}
use Rattle.tgap_model.specs.Base.{same_point}
use Rattle.tgap_model.specs.Segment.{is_on, is_at, is_permitted, lies_between}
use Rattle.tgap_model.specs.Partition.{AreApart, follows, shared_ends}
use Rattle.map_laws.specs.PlaneLaws.{InnerVerticesStandOnce}
use Rattle.tgap_model.proofs.Points.{same_point-true, same_point-from}

-- a point over 1
abbrev whole : Point → Fraction
whole v = record { nx = v.x; ny = v.y; d = pos 1 }

least : (a : ℤ) → int_le (pos 1 *ℤ a) a ≡ true
least a = (Decides-int_le (pos 1 *ℤ a) a).1 (le_from_same (one-*ℤ a))

most : (a : ℤ) → int_le a (pos 1 *ℤ a) ≡ true
most a = (Decides-int_le a (pos 1 *ℤ a)).1 (le_from_same (sym (one-*ℤ a)))

below : (a b : ℤ) → a ≤ℤ b → int_le a (pos 1 *ℤ b) ≡ true
below a b h = (Decides-int_le a (pos 1 *ℤ b)).1 (subst (λ (z : ℤ). a ≤ℤ z) (sym (one-*ℤ b)) h)

above : (a b : ℤ) → a ≤ℤ b → int_le (pos 1 *ℤ a) b ≡ true
above a b h = (Decides-int_le (pos 1 *ℤ a) b).1 (subst (λ (z : ℤ). z ≤ℤ b) (sym (one-*ℤ a)) h)

-- each end lies between both
between_first : (u v : ℤ) → lies_between u v u (pos 1) ≡ true
between_first u v =
    by_order u v
    (λ lt. or_left _ _ (and_from _ _ (least u) (below u v (le_from_lt lt))))
    (λ e. or_left _ _ (and_from _ _ (least u) (below u v (le_from_same e))))
    (λ lt. or_right _ _ (and_from _ _ (above v u (le_from_lt lt)) (most u)))

between_last : (u v : ℤ) → lies_between u v v (pos 1) ≡ true
between_last u v =
    by_order u v
    (λ lt. or_left _ _ (and_from _ _ (above u v (le_from_lt lt)) (most v)))
    (λ e. or_left _ _ (and_from _ _ (above u v (le_from_same e)) (most v)))
    (λ lt. or_right _ _ (and_from _ _ (least v) (below v u (le_from_lt lt))))

abbrev values : Seg → List ℤ
values s = s.a.x ∷ s.a.y ∷ s.b.x ∷ s.b.y ∷ []

first_is_on : (s : Seg) → is_on (whole s.a) s ≡ true
first_is_on s =
    and_from _ _ (and_from _ _ ((Decides-int_eq _ _).1
    (same_value (values s) (x_step 0 1 ⊗ (y_of 0 ⊖ number (pos 1) ⊗ y_of 0) ⊖ y_step 0 1 ⊗ (x_of 0 ⊖ number (pos 1) ⊗ x_of 0)) (number (pos 0)) refl))
    (between_first s.a.x s.b.x)) (between_first s.a.y s.b.y)

last_is_on : (s : Seg) → is_on (whole s.b) s ≡ true
last_is_on s =
    and_from _ _ (and_from _ _ ((Decides-int_eq _ _).1
    (same_value (values s) (x_step 0 1 ⊗ (y_of 1 ⊖ number (pos 1) ⊗ y_of 0) ⊖ y_step 0 1 ⊗ (x_of 1 ⊖ number (pos 1) ⊗ x_of 0)) (number (pos 0)) refl))
    (between_last s.a.x s.b.x)) (between_last s.a.y s.b.y)

-- a point is at no other one
not_at : (v w : Point) → same_point w v ≡ false → is_at (whole v) w ≡ false
not_at v w apart = false_from_ne_true (is_at (whole v) w) (λ e. true≢false (sym (same e) ∙ apart))
  where
    coordinate : (a b : ℤ) → int_eq a (pos 1 *ℤ b) ≡ true → int_eq b a ≡ true
    coordinate a b e = (Decides-int_eq b a).1 (sym (one-*ℤ b) ∙ sym ((Decides-int_eq a (pos 1 *ℤ b)).0 e))

    same : is_at (whole v) w ≡ true → same_point w v ≡ true
    same e =
        let parts = and_parts (int_eq v.x (pos 1 *ℤ w.x)) (int_eq v.y (pos 1 *ℤ w.y)) e in
        and_from _ _ (coordinate v.x w.x parts.0) (coordinate v.y w.y parts.1)

-- a point is no permitted end where at each end of the first segment a flag is missing, or the point is not there
permitted_none : (shared : Shared) (s t : Seg) (p : Fraction) → ((shared.aa || shared.ab) ≡ false) ⊎ (is_at p s.a ≡ false) → ((shared.ba || shared.bb) ≡ false) ⊎ (is_at p s.b ≡ false)
    → is_permitted shared s t p ≡ false
permitted_none shared s t p first last = or_from _ _ (⊎_elim (and_left _ _) (and_right _ _) first) (⊎_elim (and_left _ _) (and_right _ _) last)

apart_points : (v w : Point) → v ≢ w → same_point v w ≡ false
apart_points v w n = false_from_ne_true (same_point v w) (λ e. n (same_point-true v w e))

turned_apart : (v w : Point) → same_point v w ≡ false → same_point w v ≡ false
turned_apart v w e = apart_points w v (λ same. true≢false (sym (same_point-from v w (sym same)) ∙ e))

-- Two segments that are apart in one order or the other: the first one's last point, where it is no end of the arc, is not the
-- last point of the second one, and the first point of it only where the second follows the first.
module _ (s t : LabelledSegment) (apart : AreApart s t ⊎ AreApart t s) (ends_s : same_point s.segment.a s.segment.b ≡ false)
    (ends_t : same_point t.segment.a t.segment.b ≡ false) (inner : s.ends ≡ false) where
  -- the vertex is on the other segment, and neither order of the two permits it
  refuted : is_on (whole s.segment.b) t.segment ≡ true
      → is_permitted (shared_ends s t) s.segment t.segment (whole s.segment.b) ≡ false
      → is_permitted (shared_ends t s) t.segment s.segment (whole s.segment.b) ≡ false → ⊥
  refuted on one other =
      ⊎_elim
      (λ h. h (whole s.segment.b) (record { rational = omega (arith, ints); first = last_is_on s.segment; second = on; forbidden = one }))
      (λ h. h (whole s.segment.b) (record { rational = omega (arith, ints); first = on; second = last_is_on s.segment; forbidden = other }))
      apart

  not_last : s.segment.b ≢ t.segment.b
  not_last e = refuted
      (subst (λ (v : Point). is_on (whole v) t.segment ≡ true) (sym e) (last_is_on t.segment))
      (permitted_none (shared_ends s t) s.segment t.segment (whole s.segment.b) (inr (not_at s.segment.b s.segment.a ends_s))
      (inl (or_from _ _ (and_left _ _ (subst (λ (v : Point). same_point v t.segment.a ≡ false) (sym e) (turned_apart t.segment.a t.segment.b ends_t)))
      (and_left_most (same_point s.segment.b t.segment.b) t.ends))))
      (permitted_none (shared_ends t s) t.segment s.segment (whole s.segment.b)
      (inr (subst (λ (v : Point). is_at (whole v) t.segment.a ≡ false) (sym e) (not_at t.segment.b t.segment.a ends_t)))
      (inl (or_from _ _ (and_left _ _ (subst (λ (v : Point). same_point v s.segment.a ≡ false) e (turned_apart s.segment.a s.segment.b ends_s)))
      (and_right _ _ inner))))
    where
      and_left_most : (p q : Bool) → (p && s.ends && q) ≡ false
      and_left_most p q = and_left _ _ (and_right p _ inner)

  next : s.segment.b ≡ t.segment.a → follows s t ≡ true
  next e = true_from_ne_false (follows s t) (λ alone. refuted
      (subst (λ (v : Point). is_on (whole v) t.segment ≡ true) (sym e) (first_is_on t.segment))
      (permitted_none (shared_ends s t) s.segment t.segment (whole s.segment.b) (inr (not_at s.segment.b s.segment.a ends_s))
      (inl (or_from _ _ (and_right _ _ (or_from _ _ (and_left _ _ inner) alone)) (and_left _ _ (and_right _ _ inner)))))
      (permitted_none (shared_ends t s) t.segment s.segment (whole s.segment.b)
      (inl (or_from _ _ (and_left _ _ (and_left _ _ (subst (λ (v : Point). same_point v s.segment.a ≡ false) e (turned_apart s.segment.a s.segment.b ends_s))))
      (and_right _ _ (or_from _ _ (and_right _ _ inner) alone))))
      (inr (subst (λ (v : Point). is_at (whole v) t.segment.b ≡ false) (sym e) (not_at t.segment.a t.segment.b (turned_apart t.segment.a t.segment.b ends_t))))))

pub inner_vertices_stand_once : InnerVerticesStandOnce
inner_vertices_stand_once segments apart two i j d differ p q inner =
    (not_last (get_or segments i d) (get_or segments j d) one (two i d p) (two j d q) inner, next (get_or segments i d) (get_or segments j d) one (two i d p) (two j d q) inner)
  where
    one : AreApart (get_or segments i d) (get_or segments j d) ⊎ AreApart (get_or segments j d) (get_or segments i d)
    one = ⊎_elim (λ lt. inl (apart i j d lt q)) (λ ge. inr (apart j i d (omega (arith, ge, differ)) p)) (cases_lt i j)
