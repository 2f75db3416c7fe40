-- Boxes that a segment may cross: they meet its bounding box, and where it is slanting do not lie on one side of its line.
use Rattle.std.proofs.Common.{if◌then◌else◌, ◌≡◌, ◌⊎◌, inl, inr, Bool, true, false, ◌&&◌, ◌||◌, not, ℤ, pos, ◌-ℤ◌, ◌+ℤ◌, ◌*ℤ◌, neg_ℤ, ◌<ℤ◌, ◌≤ℤ◌, int_lt, [], ◌∷◌, refl, sym, ap, subst, subst₂, arith}
use Rattle.std.specs.Int.{int_min, int_max}
use Rattle.std.specs.Ordering.{int_eq}
use Rattle.std.proofs.lemmas.Int.{ints, clamps}
use Rattle.std.proofs.lemmas.Bool.{and_parts, and_from, or_cases, or_left, or_right, or_parts, not-true}
use Rattle.std.proofs.lemmas.Bool.Decides.{Decides-int_eq}
use Rattle.lemmas.proofs.Polynomials.{same_value, var, number, minus, ◌⊕◌, ◌⊖◌, ◌⊗◌}
use Rattle.lemmas.proofs.Signs.{Decides-int_lt, int_lt-false, by_sign, mul_positive, mul_not_negative, neg_not_negative, sub_not_negative, le_from_lt, positive_from_signum, int_signum-positive}
use Rattle.tgap_model.specs.declared.limits.TheConstants.{MAX_COORDINATE}
use Rattle.tgap_model.specs.declared.geometry.Point.{Point}
use Rattle.tgap_model.specs.declared.geometry.Seg.{Seg}
use Rattle.tgap_model.specs.declared.geometry.Window.{Window}
use Rattle.tgap_model.specs.Point.{cross, side}
use Rattle.grid_index.specs.Boxes.{meets, Covers}
use Rattle.grid_index.specs.Wider.{meets_wider}

-- a coordinate, or the limit beyond which it lies
abbrev pub limited : ℤ → ℤ
limited z = int_min (int_max z (neg_ℤ MAX_COORDINATE)) MAX_COORDINATE

-- a corner of a box, or the point within the limits next to it
abbrev pub corner : Window → Bool → Bool → Point
corner w right top = record { x = limited (if right then w.x1 else w.x0); y = limited (if top then w.y1 else w.y0) }

-- one who goes from a to b has both corners at the top of the box, or at its foot, at his left
abbrev pub is_left_at : Point → Point → Window → Bool → Bool
is_left_at a b w top = int_eq (side a b (corner w false top)) (pos 1) && int_eq (side a b (corner w true top)) (pos 1)

-- he has all corners of the box there
abbrev pub are_left : Point → Point → Window → Bool
are_left a b w = is_left_at a b w false && is_left_at a b w true

-- the box has no point
abbrev pub is_void : Window → Bool
is_void w = int_lt w.x1 w.x0 || int_lt w.y1 w.y0

-- the box lies on one side of the line of the segment, or has no point
abbrev pub is_beside : Seg → Window → Bool
is_beside s w = is_void w || are_left s.a s.b w || are_left s.b s.a w

-- the segment is neither level nor upright
abbrev pub is_slanting : Seg → Bool
is_slanting s = not (int_eq s.a.x s.b.x) && not (int_eq s.a.y s.b.y)

-- it is slanting, and the box lies beside it; a level or upright one fills its bounding box
abbrev pub is_missed : Seg → Window → Bool
is_missed s w = is_slanting s && is_beside s w

-- the box meets the area, and is not missed by the segment
abbrev pub crosses : Window → Seg → Window → Bool
crosses area s w = meets area w && not (is_missed s w)

-- ---- a point between others is on their side

-- what P says of two coordinates, for each corner of a box
abbrev pub AtCorners : (ℤ → ℤ → Type 0) → ℤ → ℤ → ℤ → ℤ → Type 0
AtCorners P x0 y0 x1 y1 = P x0 y0 × P x1 y0 × P x0 y1 × P x1 y1

abbrev Pick : ℤ → ℤ → ℤ → ℤ → ℤ → Type 0
Pick m e z z0 z1 = (end : ℤ) × ((end ≡ z0) ⊎ (end ≡ z1)) × (pos 0 ≤ℤ (m *ℤ (z -ℤ e *ℤ end)))

-- of the ends of a range that holds a number, the one from which a slope rises to it
pick : (m e z z0 z1 : ℤ) → (e *ℤ z0) ≤ℤ z → z ≤ℤ (e *ℤ z1) → Pick m e z z0 z1
pick m e z z0 z1 low high = by_sign {P = Pick m e z z0 z1} m
    (λ falls. (z1, inr refl, turned m (z -ℤ e *ℤ z1) (le_from_lt falls) (below z (e *ℤ z1) high)))
    (λ flat. (z0, inl refl, subst (λ (k : ℤ). pos 0 ≤ℤ (k *ℤ (z -ℤ e *ℤ z0))) (sym flat) (subst (λ (k : ℤ). pos 0 ≤ℤ k) (same_value ((z -ℤ e *ℤ z0) ∷ []) (number (pos 0)) (number (pos 0) ⊗ var 0) refl) (omega (arith, ints)))))
    (λ rises. (z0, inl refl, mul_not_negative (le_from_lt rises) (sub_not_negative low)))
  where
    below : (a b : ℤ) → a ≤ℤ b → (a -ℤ b) ≤ℤ pos 0
    below a b h = omega (arith, ints, h)

    turned : (a b : ℤ) → a ≤ℤ pos 0 → b ≤ℤ pos 0 → pos 0 ≤ℤ (a *ℤ b)
    turned a b h k = subst (λ (t : ℤ). pos 0 ≤ℤ t) (same_value (a ∷ b ∷ []) (minus (var 0) ⊗ minus (var 1)) (var 0 ⊗ var 1) refl) (mul_not_negative (neg_not_negative h) (neg_not_negative k))

-- where the corners of a box are left of a line, so is each point of it: here of the rational point x / e, y / e, times e
pub left_within : (dx dy ax ay e x y x0 y0 x1 y1 : ℤ) → pos 0 <ℤ e → (e *ℤ x0) ≤ℤ x → x ≤ℤ (e *ℤ x1) → (e *ℤ y0) ≤ℤ y → y ≤ℤ (e *ℤ y1)
    → AtCorners (λ u v. pos 0 <ℤ (dx *ℤ (v -ℤ ay) -ℤ dy *ℤ (u -ℤ ax))) x0 y0 x1 y1 → pos 0 <ℤ (dx *ℤ (y -ℤ e *ℤ ay) -ℤ dy *ℤ (x -ℤ e *ℤ ax))
left_within dx dy ax ay e x y x0 y0 x1 y1 whole xl xh yl yh h =
    let v = pick dx e y y0 y1 yl yh in
    let u = pick (neg_ℤ dy) e x x0 x1 xl xh in
    subst (λ (t : ℤ). pos 0 <ℤ t)
    (same_value (dx ∷ dy ∷ ax ∷ ay ∷ e ∷ x ∷ y ∷ u.0 ∷ v.0 ∷ [])
    (var 0 ⊗ (var 6 ⊖ var 4 ⊗ var 8) ⊕ minus (var 1) ⊗ (var 5 ⊖ var 4 ⊗ var 7) ⊕ var 4 ⊗ (var 0 ⊗ (var 8 ⊖ var 3) ⊖ var 1 ⊗ (var 7 ⊖ var 2)))
    (var 0 ⊗ (var 6 ⊖ var 4 ⊗ var 3) ⊖ var 1 ⊗ (var 5 ⊖ var 4 ⊗ var 2)) refl)
    (sum (dx *ℤ (y -ℤ e *ℤ v.0)) (neg_ℤ dy *ℤ (x -ℤ e *ℤ u.0)) (e *ℤ (dx *ℤ (v.0 -ℤ ay) -ℤ dy *ℤ (u.0 -ℤ ax))) v.2 u.2 (mul_positive whole (at u.0 v.0 u.1 v.1)))
  where
    sum : (a b c : ℤ) → pos 0 ≤ℤ a → pos 0 ≤ℤ b → pos 0 <ℤ c → pos 0 <ℤ (a +ℤ b +ℤ c)
    sum a b c f g k = omega (arith, ints, f, g, k)

    IsLeft : ℤ → ℤ → Type 0
    IsLeft u v = pos 0 <ℤ (dx *ℤ (v -ℤ ay) -ℤ dy *ℤ (u -ℤ ax))

    at : (u v : ℤ) → (u ≡ x0) ⊎ (u ≡ x1) → (v ≡ y0) ⊎ (v ≡ y1) → IsLeft u v
    at u v (inl e) (inl f) = subst₂ IsLeft (sym e) (sym f) h.0
    at u v (inr e) (inl f) = subst₂ IsLeft (sym e) (sym f) h.1
    at u v (inl e) (inr f) = subst₂ IsLeft (sym e) (sym f) h.2
    at u v (inr e) (inr f) = subst₂ IsLeft (sym e) (sym f) h.3

-- ---- the sides of the corners

-- a corner is left of a line
abbrev pub IsLeft : Point → Point → ℤ → ℤ → Type 0
IsLeft a b u v = pos 0 <ℤ cross a b (record { x = u; y = v })

left_from_side : (a b p : Point) → int_eq (side a b p) (pos 1) ≡ true → pos 0 <ℤ cross a b p
left_from_side a b p e = positive_from_signum (cross a b p) ((Decides-int_eq (side a b p) (pos 1)).0 e)

side_from_left : (a b p : Point) → pos 0 <ℤ cross a b p → int_eq (side a b p) (pos 1) ≡ true
side_from_left a b p h = (Decides-int_eq (side a b p) (pos 1)).1 (int_signum-positive h)

-- what the test of the corners says
pub corners_left : (a b : Point) (w : Window) → are_left a b w ≡ true → AtCorners (IsLeft a b) (limited w.x0) (limited w.y0) (limited w.x1) (limited w.y1)
corners_left a b w h =
    let heights = and_parts (is_left_at a b w false) (is_left_at a b w true) h in
    let low = and_parts (is (corner w false false)) (is (corner w true false)) heights.0 in
    let high = and_parts (is (corner w false true)) (is (corner w true true)) heights.1 in
    (left_from_side a b (corner w false false) low.0, left_from_side a b (corner w true false) low.1, left_from_side a b (corner w false true) high.0, left_from_side a b (corner w true true) high.1)
  where
    is : Point → Bool
    is p = int_eq (side a b p) (pos 1)

left_from_corners : (a b : Point) (w : Window) → AtCorners (IsLeft a b) (limited w.x0) (limited w.y0) (limited w.x1) (limited w.y1) → are_left a b w ≡ true
left_from_corners a b w h =
    and_from (is_left_at a b w false) (is_left_at a b w true)
    (and_from (is (corner w false false)) (is (corner w true false)) (side_from_left a b (corner w false false) h.0) (side_from_left a b (corner w true false) h.1))
    (and_from (is (corner w false true)) (is (corner w true true)) (side_from_left a b (corner w false true) h.2) (side_from_left a b (corner w true true) h.3))
  where
    is : Point → Bool
    is p = int_eq (side a b p) (pos 1)

-- ---- what lies beside a segment holds nothing else

-- the limits keep the order
limited_order : (a b : ℤ) → a ≤ℤ b → limited a ≤ℤ limited b
limited_order a b h = omega (arith, ints, clamps, h)

once_low : (a b : ℤ) → a ≤ℤ b → (pos 1 *ℤ a) ≤ℤ b
once_low a b h = subst (λ (t : ℤ). t ≤ℤ b) (same_value (a ∷ []) (var 0) (number (pos 1) ⊗ var 0) refl) h

once_high : (a b : ℤ) → a ≤ℤ b → a ≤ℤ (pos 1 *ℤ b)
once_high a b h = subst (λ (t : ℤ). a ≤ℤ t) (same_value (b ∷ []) (var 0) (number (pos 1) ⊗ var 0) refl) h

once_cross : (dx dy ax ay u v : ℤ) → dx *ℤ (v -ℤ pos 1 *ℤ ay) -ℤ dy *ℤ (u -ℤ pos 1 *ℤ ax) ≡ dx *ℤ (v -ℤ ay) -ℤ dy *ℤ (u -ℤ ax)
once_cross dx dy ax ay u v = same_value (dx ∷ dy ∷ ax ∷ ay ∷ u ∷ v ∷ [])
    (var 0 ⊗ (var 5 ⊖ number (pos 1) ⊗ var 3) ⊖ var 1 ⊗ (var 4 ⊖ number (pos 1) ⊗ var 2)) (var 0 ⊗ (var 5 ⊖ var 3) ⊖ var 1 ⊗ (var 4 ⊖ var 2)) refl

module _ (a b : Point) (up down : Window) (c : Covers up down) (x : down.x0 ≤ℤ down.x1) (y : down.y0 ≤ℤ down.y1) where
  -- a corner of the inner box lies within the outer one
  abbrev IsHeld : ℤ → ℤ → Type 0
  IsHeld u v = (limited up.x0 ≤ℤ u) × (u ≤ℤ limited up.x1) × (limited up.y0 ≤ℤ v) × (v ≤ℤ limited up.y1)

  held : AtCorners IsHeld (limited down.x0) (limited down.y0) (limited down.x1) (limited down.y1)
  held = (
    (xl, x0h, yl, y0h),
    (x1l, xh, yl, y0h),
    (xl, x0h, y1l, yh),
    (x1l, xh, y1l, yh),
  )
    where
      xl : limited up.x0 ≤ℤ limited down.x0
      xl = limited_order up.x0 down.x0 c.left

      xh : limited down.x1 ≤ℤ limited up.x1
      xh = limited_order down.x1 up.x1 c.right

      x0h : limited down.x0 ≤ℤ limited up.x1
      x0h = limited_order down.x0 up.x1 (omega (arith, ints, x, c.right))

      x1l : limited up.x0 ≤ℤ limited down.x1
      x1l = limited_order up.x0 down.x1 (omega (arith, ints, x, c.left))

      yl : limited up.y0 ≤ℤ limited down.y0
      yl = limited_order up.y0 down.y0 c.low

      yh : limited down.y1 ≤ℤ limited up.y1
      yh = limited_order down.y1 up.y1 c.high

      y0h : limited down.y0 ≤ℤ limited up.y1
      y0h = limited_order down.y0 up.y1 (omega (arith, ints, y, c.high))

      y1l : limited up.y0 ≤ℤ limited down.y1
      y1l = limited_order up.y0 down.y1 (omega (arith, ints, y, c.low))

  left_held : are_left a b up ≡ true → are_left a b down ≡ true
  left_held h = left_from_corners a b down (to _ _ held.0, to _ _ held.1, to _ _ held.2, to _ _ held.3)
    where
      to : (u v : ℤ) → IsHeld u v → IsLeft a b u v
      to u v k = subst (λ (t : ℤ). pos 0 <ℤ t) (once_cross (b.x -ℤ a.x) (b.y -ℤ a.y) a.x a.y u v)
          (left_within (b.x -ℤ a.x) (b.y -ℤ a.y) a.x a.y (pos 1) u v (limited up.x0) (limited up.y0) (limited up.x1) (limited up.y1) (omega (arith, ints))
          (once_low _ _ k.0) (once_high _ _ k.1) (once_low _ _ k.2) (once_high _ _ k.3) (corners_left a b up h))

-- a box beside the segment holds no box that is not
beside_held : (s : Seg) (up down : Window) → Covers up down → is_beside s up ≡ true → is_beside s down ≡ true
beside_held s up down c h = by (is_void down) refl
  where
    void_held : is_void up ≡ true → is_void down ≡ true
    void_held e = elim (or_cases (int_lt up.x1 up.x0) (int_lt up.y1 up.y0) e) [
      | inl f ↦ or_left (int_lt down.x1 down.x0) (int_lt down.y1 down.y0) ((Decides-int_lt down.x1 down.x0).1 (less ((Decides-int_lt up.x1 up.x0).0 f) c.left c.right))
      | inr f ↦ or_right (int_lt down.x1 down.x0) (int_lt down.y1 down.y0) ((Decides-int_lt down.y1 down.y0).1 (less ((Decides-int_lt up.y1 up.y0).0 f) c.low c.high))
    ]
      where
        less : {a b m n : ℤ} → b <ℤ a → a ≤ℤ m → n ≤ℤ b → n <ℤ m
        less f g k = omega (arith, ints, f, g, k)

    by : (b : Bool) → is_void down ≡ b → is_beside s down ≡ true
    by true e = or_left (is_void down || are_left s.a s.b down) (are_left s.b s.a down) (or_left (is_void down) (are_left s.a s.b down) e)
    by false e = elim (or_cases (is_void up || are_left s.a s.b up) (are_left s.b s.a up) h) [
      | inl f ↦ elim (or_cases (is_void up) (are_left s.a s.b up) f) [
        | inl g ↦ absurd (cc (void_held g, e))
        | inr g ↦ or_left (is_void down || are_left s.a s.b down) (are_left s.b s.a down) (or_right (is_void down) (are_left s.a s.b down) (left_held s.a s.b up down c wide.0 wide.1 g))
      ]
      | inr f ↦ or_right (is_void down || are_left s.a s.b down) (are_left s.b s.a down) (left_held s.b s.a up down c wide.0 wide.1 f)
    ]
      where
        wide : (down.x0 ≤ℤ down.x1) × (down.y0 ≤ℤ down.y1)
        wide =
            let both = or_parts (int_lt down.x1 down.x0) (int_lt down.y1 down.y0) e in
            (int_lt-false down.x1 down.x0 both.0, int_lt-false down.y1 down.y0 both.1)

-- nor does a box that is missed
missed_held : (s : Seg) (up down : Window) → Covers up down → is_missed s up ≡ true → is_missed s down ≡ true
missed_held s up down c h =
    let both = and_parts (is_slanting s) (is_beside s up) h in
    and_from (is_slanting s) (is_beside s down) both.0 (beside_held s up down c both.1)

-- so what holds a box that the segment may cross is one
pub crosses_wider : (area : Window) (s : Seg) (up down : Window) → Covers up down → crosses area s down ≡ true → crosses area s up ≡ true
crosses_wider area s up down c h = by (is_missed s up) refl
  where
    parts : (meets area down ≡ true) × (not (is_missed s down) ≡ true)
    parts = and_parts (meets area down) (not (is_missed s down)) h

    by : (b : Bool) → is_missed s up ≡ b → crosses area s up ≡ true
    by true e = absurd (cc (missed_held s up down c e, not-true (is_missed s down) parts.1))
    by false e = and_from (meets area up) (not (is_missed s up)) (meets_wider area up down c parts.0) (ap not e)
