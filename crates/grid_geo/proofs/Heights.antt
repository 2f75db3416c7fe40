-- Every number of the comparison of heights fits, and the comparison is that of the definition.
use Rattle.std.proofs.Common.{◌≡◌, ◌≤◌, ◌<◌, ◌+◌, ℕ, ◌*◌, ◌^◌, ◌==◌, Bool, true, false, cond, ℤ, pos, ◌+ℤ◌, ◌-ℤ◌, ◌*ℤ◌, ◌<ℤ◌, unsigned_abs, int_lt, Ordering, Less, Equal, Greater, refl, sym, ap, ap₂, ◌∙◌, true≢false, ⊎_elim, arith}
use Rattle.std.specs.Ordering.{int_cmp, ordering_index}
use Rattle.std.proofs.lemmas.Bool.{and_parts, or_cases}
use Rattle.std.proofs.lemmas.Int.{ints}
use Rattle.lemmas.proofs.Signs.{Decides-int_lt, int_lt-from_le, le_from_lt}
use Rattle.tgap_model.specs.declared.geometry.Point.{Point}
use Rattle.tgap_model.specs.declared.geometry.Seg.{Seg}
use Rattle.tgap_model.specs.Bounds.{IsNear, HasNearEnds, max_coordinate, max_difference, max_product, max_shoelace}
use Rattle.tgap_model.specs.Point.{shoelace_term}
use Rattle.tgap_model.specs.Segment.{Line, line_after, crosses, passes, rightward, run, height, is_higher}
use Rattle.grid_geo.specs.Sizes.{max_height}
use Rattle.grid_geo.specs.Heights.{order_on_line}
use Rattle.grid_geo.proofs.Sizes.{wide, word, unsigned_abs-mul_le}

-- ---- a height: a product less the double of a shoelace term

module _ (t w h : ℤ) (lt : unsigned_abs t ≤ max_difference + 1) (lw : unsigned_abs w ≤ unsigned_abs (wide t) * max_difference)
    (lh : unsigned_abs h ≤ max_shoelace) where
  -- the product is small
  way_size : unsigned_abs w ≤ (max_difference + 1) * max_difference
  way_size = let e : wide t ≡ t = omega (arith, ints, lt) in omega (arith, lw, lt, ap (λ (y : ℤ). unsigned_abs y) e)

  -- so is the double, so their difference fits, and is that of the numbers themselves
  pub difference_fits : unsigned_abs (wide w) + unsigned_abs (wide (pos 2 *ℤ wide h)) < 2 ^ 127
  difference_fits = let l = way_size in omega (arith, ints, l, lh)

  pub difference_is : wide (wide w -ℤ wide (pos 2 *ℤ wide h)) ≡ w -ℤ pos 2 *ℤ h
  difference_is = let l = way_size in omega (arith, ints, l, lh)

  pub difference_size : unsigned_abs (w -ℤ pos 2 *ℤ h) ≤ max_height
  difference_size = let l = way_size in omega (arith, ints, l, lh)

-- the product, from what the code has of its factors
pub way_is : (t r line y w : ℤ) → unsigned_abs line ≤ max_coordinate → unsigned_abs r ≤ max_difference → t ≡ pos 2 *ℤ word line +ℤ pos 1 → r ≡ y
    → w ≡ wide t *ℤ word r → w ≡ (pos 2 *ℤ line +ℤ pos 1) *ℤ y
way_is t r line y w near short et er ew =
    let first : wide t ≡ pos 2 *ℤ line +ℤ pos 1 = omega (arith, ints, near, et) in
    let second : word r ≡ y = omega (arith, ints, short, er) in
    ew ∙ ap₂ (λ (u v : ℤ). u *ℤ v) first second

-- ---- lines and heights

-- what it is for a line to pass between two abscissas
pub passes_parts : (l : Line) (u v : ℤ) → passes l u v ≡ true → ((l.c *ℤ u) <ℤ l.a) × (l.a <ℤ (l.c *ℤ v))
passes_parts l u v e =
    let parts = and_parts (int_lt (l.c *ℤ u) l.a) (int_lt l.a (l.c *ℤ v)) e in
    ((Decides-int_lt (l.c *ℤ u) l.a).0 parts.0, (Decides-int_lt l.a (l.c *ℤ v)).0 parts.1)

-- an abscissa one half before a line that crosses a segment within the limits
pub line_near : (s : Seg) (v : ℤ) → HasNearEnds s → crosses (line_after v) s ≡ true → unsigned_abs v ≤ max_coordinate
line_near s v near h =
    ⊎_elim (λ e. between s.a.x s.b.x near.a.x near.b.x (passes_parts (line_after v) s.a.x s.b.x e))
    (λ e. between s.b.x s.a.x near.b.x near.a.x (passes_parts (line_after v) s.b.x s.a.x e))
    (or_cases (passes (line_after v) s.a.x s.b.x) (passes (line_after v) s.b.x s.a.x) h)
  where
    between : (x y : ℤ) → unsigned_abs x ≤ max_coordinate → unsigned_abs y ≤ max_coordinate → ((pos 2 *ℤ x) <ℤ (pos 2 *ℤ v +ℤ pos 1)) × ((pos 2 *ℤ v +ℤ pos 1) <ℤ (pos 2 *ℤ y)) → unsigned_abs v ≤ max_coordinate
    between x y lx ly (h, k) = omega (arith, ints)

-- ---- the comparison

-- a height times the run of the other segment, as the code has it
pub scaled_is : (p a b x y : ℤ) → unsigned_abs a ≤ max_height → unsigned_abs b ≤ max_difference → unsigned_abs p ≤ unsigned_abs (wide a) * max_difference
    → p ≡ wide a *ℤ word b → a ≡ x → b ≡ y → wide p ≡ x *ℤ y
scaled_is p a b x y la lb lp e f g =
    let ea : wide a ≡ a = omega (arith, ints, la) in
    let eb : word b ≡ b = omega (arith, ints, lb) in
    let ep : wide p ≡ p = fits (unsigned_abs (wide a)) lp (omega (arith, la, ap (λ (z : ℤ). unsigned_abs z) ea)) in
    ep ∙ e ∙ ap₂ (λ (u v : ℤ). u *ℤ v) (ea ∙ f) (eb ∙ g)
  where
    fits : (m : ℕ) → unsigned_abs p ≤ m * max_difference → m ≤ max_height → wide p ≡ p
    fits m h l = omega (arith, ints, h, l)

-- to compare two heights, each with the run of the other segment as a factor, is to ask which segment is higher
pub compared : (l : Line) (s t : Seg) (above below : ℤ) → above ≡ height l (rightward s) *ℤ run (rightward t) → below ≡ height l (rightward t) *ℤ run (rightward s)
    → int_cmp above below ≡ order_on_line l s t
unfolding is_higher
compared l s t above below e f = cases above below ∙ ap₂ (λ (x y : ℤ). cond (int_lt y x) Greater (cond (int_lt x y) Less Equal)) e f
  where
    cases : (x y : ℤ) → int_cmp x y ≡ cond (int_lt y x) Greater (cond (int_lt x y) Less Equal)
    cases x y = by (int_lt x y) (int_lt y x) refl refl
      where
        by : (b c : Bool) → int_lt x y ≡ b → int_lt y x ≡ c → ◌≡◌ {A = Ordering} (cond b Less (cond c Greater Equal)) (cond c Greater (cond b Less Equal))
        by true true h k = let less = (Decides-int_lt x y).0 h in absurd (true≢false (sym k ∙ int_lt-from_le (le_from_lt less)))
        by true false h k = refl
        by false true h k = refl
        by false false h k = refl

-- what the comparison tells of the order
pub greater_test : (l : Line) (s t : Seg) (found : Ordering) (b : Bool) → found ≡ order_on_line l s t → b ≡ (ordering_index found == 2) → is_higher l s t ≡ b
greater_test l s t found b e f = by (is_higher l s t) (is_higher l t s) refl (f ∙ ap (λ o. ordering_index o == 2) e)
  where
    by : (h k : Bool) → is_higher l s t ≡ h → b ≡ (ordering_index (cond h Greater (cond k Less Equal)) == 2) → is_higher l s t ≡ b
    by true k h g = h ∙ sym g
    by false true h g = h ∙ sym g
    by false false h g = h ∙ sym g
