-- At which time two segments with a common point are in the row together, and what is there then.
use Rattle.std.proofs.Common.{◌≡◌, ◌⊎◌, inl, inr, ℕ, zero, suc, Bool, true, false, cond, ℤ, pos, ◌+ℤ◌, ◌-ℤ◌, ◌*ℤ◌, ◌<ℤ◌, ◌≤ℤ◌, unsigned_abs, refl, sym, ap, ◌∙◌, subst, arith}
use Rattle.std.proofs.lemmas.Int.{ints, by_lt_z}
use Rattle.lemmas.proofs.Products.{zero_from_mul_left}
use Rattle.lemmas.proofs.Signs.{Decides-int_lt, apart_from_lt, le_from_lt, le_from_same, le_le_trans, le_from_mul_left, mul_le_left, same_from_le, same_from_mul_left, sub_positive, unsigned_abs-not_negative}
use Rattle.tgap_model.specs.declared.geometry.Point.{Point}
use Rattle.tgap_model.specs.declared.geometry.Fraction.{Fraction}
use Rattle.tgap_model.specs.declared.geometry.Seg.{Seg}
use Rattle.tgap_model.specs.Segment.{is_at, run, rise}
use Rattle.grid_geo.proofs.Places.{x_gap, y_gap, IsOn, at_from_facts}
use Rattle.grid_geo.proofs.Lines.{first_end_on_line, second_end_on_line, gaps_on_line}
use Rattle.planar_sweep.specs.Over.{GoesForward, is_slanted, IsEnd}
use Rattle.planar_sweep.specs.Times.{IsInRow}
use Rattle.planar_sweep.proofs.Gaps.{Reaches, reaches_itself}
use Rattle.planar_sweep.proofs.Heights.{IsUpright, upright}

-- ---- what is in the row at a time

-- the abscissa of the point is that of the time, or between it and the next
pub data Shows (p : Fraction) (time : ℤ) : Type 0 where
  on_time : (u : ℤ) → (time ≡ pos 4 *ℤ u) ⊎ (time ≡ pos 4 *ℤ u +ℤ pos 2) → p.nx ≡ p.d *ℤ u → Shows p time
  between_times : (u : ℤ) → time ≡ pos 4 *ℤ u +ℤ pos 3 → (p.d *ℤ u) ≤ℤ p.nx → p.nx ≤ℤ (p.d *ℤ (u +ℤ pos 1)) → Shows p time

-- the abscissas of a segment in the row
slanted_at : (a b u time : ℤ) → (time ≡ pos 4 *ℤ u) ⊎ (time ≡ pos 4 *ℤ u +ℤ pos 2) → (pos 4 *ℤ a +ℤ pos 2) ≤ℤ time → time <ℤ (pos 4 *ℤ b +ℤ pos 2) → (a ≤ℤ u) × (u ≤ℤ b)
slanted_at a b u time (inl e) h k = (omega (arith, ints), omega (arith, ints))
slanted_at a b u time (inr e) h k = (omega (arith, ints), omega (arith, ints))

slanted_between : (a b u time : ℤ) → time ≡ pos 4 *ℤ u +ℤ pos 3 → (pos 4 *ℤ a +ℤ pos 2) ≤ℤ time → time <ℤ (pos 4 *ℤ b +ℤ pos 2) → (a ≤ℤ u) × ((u +ℤ pos 1) ≤ℤ b)
slanted_between a b u time e h k = (omega (arith, ints), omega (arith, ints))

upright_at : (a b u time : ℤ) → a ≡ b → (time ≡ pos 4 *ℤ u) ⊎ (time ≡ pos 4 *ℤ u +ℤ pos 2) → (pos 4 *ℤ a) ≤ℤ time → time <ℤ (pos 4 *ℤ b +ℤ pos 3) → (a ≤ℤ u) × (u ≤ℤ b)
upright_at a b u time f (inl e) h k = (omega (arith, ints), omega (arith, ints))
upright_at a b u time f (inr e) h k = (omega (arith, ints), omega (arith, ints))

upright_between : (a b u time : ℤ) → a ≡ b → time ≡ pos 4 *ℤ u +ℤ pos 3 → (pos 4 *ℤ a) ≤ℤ time → time <ℤ (pos 4 *ℤ b +ℤ pos 3) → ⊥
upright_between a b u time f e h k = omega (arith, ints)

-- so the line through the point meets all that is in the row
pub in_row_reaches : (p : Fraction) (time : ℤ) (s : Seg) → pos 0 <ℤ p.d → GoesForward s → Shows p time → IsInRow time s → Reaches p s
in_row_reaches p time s rational f shows (h, k) = by (is_slanted s) refl shows h k
  where
    reach : (low high : ℤ) → s.a.x ≤ℤ low → high ≤ℤ s.b.x → (p.d *ℤ low) ≤ℤ p.nx → p.nx ≤ℤ (p.d *ℤ high) → Reaches p s
    reach low high i j m n = record {
      from = gap (p.d *ℤ s.a.x) p.nx (le_le_trans (mul_le_left (le_from_lt rational) i) m);
      to = back p.nx (p.d *ℤ s.b.x) (le_le_trans n (mul_le_left (le_from_lt rational) j));
    }
      where
        gap : (x y : ℤ) → x ≤ℤ y → pos 0 ≤ℤ (y -ℤ x)
        gap x y l = omega (arith, ints)

        back : (x y : ℤ) → x ≤ℤ y → (x -ℤ y) ≤ℤ pos 0
        back x y l = omega (arith, ints)

    by : (b : Bool) → is_slanted s ≡ b → Shows p time → (cond b (pos 4 *ℤ s.a.x +ℤ pos 2) (pos 4 *ℤ s.a.x)) ≤ℤ time → time <ℤ (cond b (pos 4 *ℤ s.b.x +ℤ pos 2) (pos 4 *ℤ s.b.x +ℤ pos 3)) → Reaches p s
    by true e (on_time u c same) i j = let x = slanted_at s.a.x s.b.x u time c i j in reach u u x.0 x.1 (le_from_same (sym same)) (le_from_same same)
    by true e (between_times u c low high) i j = let x = slanted_between s.a.x s.b.x u time c i j in reach u (u +ℤ pos 1) x.0 x.1 low high
    by false e (on_time u c same) i j = let x = upright_at s.a.x s.b.x u time (upright s f e).same c i j in reach u u x.0 x.1 (le_from_same (sym same)) (le_from_same same)
    by false e (between_times u c low high) i j = absurd (upright_between s.a.x s.b.x u time (upright s f e).same c i j)

-- ---- a time for two segments

-- a time at which both are in the row, and which shows the point
pub record Together (p : Fraction) (s t : Seg) : Type 0 where
  pub time : ℤ
  pub first : IsInRow time s
  pub second : IsInRow time t
  pub shows : Shows p time

-- the whole number at or before a fraction that is from m to m + 1 + n
pub record WholeBelow (m n d : ℤ) (k : ℕ) : Type 0 where
  pub whole : ℤ
  pub from : m ≤ℤ whole
  pub to : whole ≤ℤ (m +ℤ pos k)
  pub below : (d *ℤ whole) ≤ℤ n
  pub above : n ≤ℤ (d *ℤ (whole +ℤ pos 1))

whole_below : (m n d : ℤ) (k : ℕ) → (d *ℤ m) ≤ℤ n → n ≤ℤ (d *ℤ (m +ℤ pos 1 +ℤ pos k)) → WholeBelow m n d k
whole_below m n d zero h i =
    let e : m +ℤ pos 1 +ℤ pos zero ≡ m +ℤ pos 1 = omega (arith, ints) in
    record { whole = m; from = omega (arith, ints); to = omega (arith, ints); below = h; above = subst (λ (z : ℤ). n ≤ℤ (d *ℤ z)) e i }
whole_below m n d (suc k) h i = by_lt_z (d *ℤ (m +ℤ pos 1)) n
    (λ less. let w = whole_below (m +ℤ pos 1) n d k (le_from_lt less) (subst (λ (z : ℤ). n ≤ℤ (d *ℤ z)) (further m k) i) in
    record { whole = w.whole; from = later m w.whole w.from; to = less_far m w.whole k w.to; below = w.below; above = w.above })
    (λ le. record { whole = m; from = itself m; to = no_later m k; below = h; above = le })
  where
    further : (m : ℤ) (k : ℕ) → m +ℤ pos 1 +ℤ pos (suc k) ≡ m +ℤ pos 1 +ℤ pos 1 +ℤ pos k
    further m k = omega (arith, ints)

    itself : (m : ℤ) → m ≤ℤ m
    itself m = omega (arith, ints)

    no_later : (m : ℤ) (k : ℕ) → m ≤ℤ (m +ℤ pos (suc k))
    no_later m k = omega (arith, ints)

    later : (m w : ℤ) → (m +ℤ pos 1) ≤ℤ w → m ≤ℤ w
    later m w h = omega (arith, ints)

    less_far : (m w : ℤ) (k : ℕ) → w ≤ℤ (m +ℤ pos 1 +ℤ pos k) → w ≤ℤ (m +ℤ pos (suc k))
    less_far m w k h = omega (arith, ints)

-- the same, from one number to a greater one
record WholeIn (low high n d : ℤ) : Type 0 where
  whole : ℤ
  from : low ≤ℤ whole
  to : whole <ℤ high
  below : (d *ℤ whole) ≤ℤ n
  above : n ≤ℤ (d *ℤ (whole +ℤ pos 1))

whole_in : (low high n d : ℤ) → low <ℤ high → (d *ℤ low) ≤ℤ n → n ≤ℤ (d *ℤ high) → WholeIn low high n d
whole_in low high n d less h i =
    let e = far low high (pos (unsigned_abs (high -ℤ low -ℤ pos 1))) (unsigned_abs-not_negative (gap low high less)) in
    let w = whole_below low n d (unsigned_abs (high -ℤ low -ℤ pos 1)) h (subst (λ (z : ℤ). n ≤ℤ (d *ℤ z)) e i) in
    record { whole = w.whole; from = w.from; to = before w.whole (pos (unsigned_abs (high -ℤ low -ℤ pos 1))) e w.to; below = w.below; above = w.above }
  where
    gap : (low high : ℤ) → low <ℤ high → pos 0 ≤ℤ (high -ℤ low -ℤ pos 1)
    gap low high l = omega (arith, ints)

    far : (low high k : ℤ) → k ≡ high -ℤ low -ℤ pos 1 → high ≡ low +ℤ pos 1 +ℤ k
    far low high k e = omega (arith, ints)

    before : (w k : ℤ) → high ≡ low +ℤ pos 1 +ℤ k → w ≤ℤ (low +ℤ k) → w <ℤ high
    before w k e h = omega (arith, ints)

-- when a slanted or an upright segment is in the row
in_slanted : (time : ℤ) (s : Seg) → is_slanted s ≡ true → (pos 4 *ℤ s.a.x +ℤ pos 2) ≤ℤ time → time <ℤ (pos 4 *ℤ s.b.x +ℤ pos 2) → IsInRow time s
in_slanted time s e h k = (
  subst (λ (b : Bool). (cond b (pos 4 *ℤ s.a.x +ℤ pos 2) (pos 4 *ℤ s.a.x)) ≤ℤ time) (sym e) h,
  subst (λ (b : Bool). time <ℤ (cond b (pos 4 *ℤ s.b.x +ℤ pos 2) (pos 4 *ℤ s.b.x +ℤ pos 3))) (sym e) k,
)

in_upright : (time : ℤ) (s : Seg) → is_slanted s ≡ false → (pos 4 *ℤ s.a.x) ≤ℤ time → time <ℤ (pos 4 *ℤ s.b.x +ℤ pos 3) → IsInRow time s
in_upright time s e h k = (
  subst (λ (b : Bool). (cond b (pos 4 *ℤ s.a.x +ℤ pos 2) (pos 4 *ℤ s.a.x)) ≤ℤ time) (sym e) h,
  subst (λ (b : Bool). time <ℤ (cond b (pos 4 *ℤ s.b.x +ℤ pos 2) (pos 4 *ℤ s.b.x +ℤ pos 3))) (sym e) k,
)

module _ (p : Fraction) (rational : pos 0 <ℤ p.d) where
  -- the abscissas of the ends against the point
  from_end : (s : Seg) → Reaches p s → (p.d *ℤ s.a.x) ≤ℤ p.nx
  from_end s r = gap (p.d *ℤ s.a.x) p.nx r.from
    where
      gap : (x y : ℤ) → pos 0 ≤ℤ (y -ℤ x) → x ≤ℤ y
      gap x y l = omega (arith, ints)

  to_end : (s : Seg) → Reaches p s → p.nx ≤ℤ (p.d *ℤ s.b.x)
  to_end s r = gap p.nx (p.d *ℤ s.b.x) r.to
    where
      gap : (x y : ℤ) → (x -ℤ y) ≤ℤ pos 0 → x ≤ℤ y
      gap x y l = omega (arith, ints)

  -- that of an upright segment is the point's
  own_abscissa : (s : Seg) → IsUpright s → Reaches p s → p.nx ≡ p.d *ℤ s.a.x
  own_abscissa s u r = same_from_le (subst (λ (z : ℤ). p.nx ≤ℤ (p.d *ℤ z)) (sym u.same) (to_end s r)) (from_end s r)

  -- a point of a slanted segment at the abscissa of an end is the end
  end_by_abscissa : (s : Seg) (v : Point) → s.a.x <ℤ s.b.x → run s *ℤ y_gap p v -ℤ rise s *ℤ x_gap p v ≡ pos 0 → p.nx ≡ p.d *ℤ v.x → is_at p v ≡ true
  end_by_abscissa s v right turns e = at_from_facts p v (record {
    x = no_gap;
    y = zero_from_mul_left (run s) (λ z. apart_from_lt (sub_positive right) (sym z)) (left (run s *ℤ y_gap p v) (rise s *ℤ x_gap p v) turns (ap (λ (z : ℤ). rise s *ℤ z) no_gap ∙ nothing (rise s)));
  })
    where
      zero_gap : (x y : ℤ) → x ≡ y → x -ℤ y ≡ pos 0
      zero_gap x y e = omega (arith, ints)

      no_gap : x_gap p v ≡ pos 0
      no_gap = zero_gap p.nx (p.d *ℤ v.x) e

      nothing : (m : ℤ) → m *ℤ pos 0 ≡ pos 0
      nothing m = omega (arith, ints)

      left : (x y : ℤ) → x -ℤ y ≡ pos 0 → y ≡ pos 0 → x ≡ pos 0
      left x y e f = omega (arith, ints)

  -- an upright segment and another one
  with_upright : (s t : Seg) → GoesForward s → GoesForward t → is_slanted s ≡ false → Reaches p s → Reaches p t → Together p s t
  with_upright s t fs ft e rs rt = by (is_slanted t) refl
    where
      u : IsUpright s
      u = upright s fs e

      own : p.nx ≡ p.d *ℤ s.a.x
      own = own_abscissa s u rs

      first : (time : ℤ) → (pos 4 *ℤ s.a.x) ≤ℤ time → time <ℤ (pos 4 *ℤ s.a.x +ℤ pos 3) → IsInRow time s
      first time h k = in_upright time s e h (subst (λ (z : ℤ). time <ℤ (pos 4 *ℤ z +ℤ pos 3)) u.same k)

      start : (z : ℤ) → z ≤ℤ z
      start z = omega (arith, ints)

      start_before : (z : ℤ) → z ≤ℤ (z +ℤ pos 2)
      start_before z = omega (arith, ints)

      before_after : (z : ℤ) → (z +ℤ pos 2) <ℤ (z +ℤ pos 3)
      before_after z = omega (arith, ints)

      after : (z : ℤ) → z <ℤ (z +ℤ pos 3)
      after z = omega (arith, ints)

      by : (b : Bool) → is_slanted t ≡ b → Together p s t
      by false f =
          let w = upright t ft f in
          let same : s.a.x ≡ t.a.x = same_from_mul_left p.d (λ z. apart_from_lt rational (sym z)) (sym own ∙ own_abscissa t w rt) in
          record {
            time = pos 4 *ℤ s.a.x;
            first = first (pos 4 *ℤ s.a.x) (start (pos 4 *ℤ s.a.x)) (after (pos 4 *ℤ s.a.x));
            second = in_upright (pos 4 *ℤ s.a.x) t f (le_from_same (ap (λ (z : ℤ). pos 4 *ℤ z) (sym same)))
                (subst (λ (z : ℤ). (pos 4 *ℤ s.a.x) <ℤ (pos 4 *ℤ z +ℤ pos 3)) (same ∙ w.same) (after (pos 4 *ℤ s.a.x)));
            shows = on_time s.a.x (inl refl) own;
          }
      by true f =
          let low = le_from_mul_left {a = t.a.x} {b = s.a.x} p.d rational (subst (λ (z : ℤ). (p.d *ℤ t.a.x) ≤ℤ z) own (from_end t rt)) in
          let high = le_from_mul_left {a = s.a.x} {b = t.b.x} p.d rational (subst (λ (z : ℤ). z ≤ℤ (p.d *ℤ t.b.x)) own (to_end t rt)) in
          by_lt_z t.a.x s.a.x
          (λ less. record {
            time = pos 4 *ℤ s.a.x;
            first = first (pos 4 *ℤ s.a.x) (start (pos 4 *ℤ s.a.x)) (after (pos 4 *ℤ s.a.x));
            second = in_slanted (pos 4 *ℤ s.a.x) t f (begun t.a.x s.a.x less) (still t.b.x s.a.x high);
            shows = on_time s.a.x (inl refl) own;
          })
          (λ le. record {
            time = pos 4 *ℤ s.a.x +ℤ pos 2;
            first = first (pos 4 *ℤ s.a.x +ℤ pos 2) (start_before (pos 4 *ℤ s.a.x)) (before_after (pos 4 *ℤ s.a.x));
            second = in_slanted (pos 4 *ℤ s.a.x +ℤ pos 2) t f (begins t.a.x s.a.x low) (stays t.a.x t.b.x s.a.x low le ((Decides-int_lt t.a.x t.b.x).0 f));
            shows = on_time s.a.x (inr refl) own;
          })
        where
          begun : (a v : ℤ) → a <ℤ v → (pos 4 *ℤ a +ℤ pos 2) ≤ℤ (pos 4 *ℤ v)
          begun a v h = omega (arith, ints)

          still : (b v : ℤ) → v ≤ℤ b → (pos 4 *ℤ v) <ℤ (pos 4 *ℤ b +ℤ pos 2)
          still b v h = omega (arith, ints)

          begins : (a v : ℤ) → a ≤ℤ v → (pos 4 *ℤ a +ℤ pos 2) ≤ℤ (pos 4 *ℤ v +ℤ pos 2)
          begins a v h = omega (arith, ints)

          stays : (a b v : ℤ) → a ≤ℤ v → v ≤ℤ a → a <ℤ b → (pos 4 *ℤ v +ℤ pos 2) <ℤ (pos 4 *ℤ b +ℤ pos 2)
          stays a b v h i k = omega (arith, ints)

  together_turned : (s t : Seg) → Together p s t → Together p t s
  together_turned s t w = record { time = w.time; first = w.second; second = w.first; shows = w.shows }

  -- two slanted segments of which the second begins no later
  with_slanted : (s t : Seg) → is_slanted s ≡ true → is_slanted t ≡ true → t.a.x ≤ℤ s.a.x → IsOn p s → IsOn p t → Reaches p s → Reaches p t → (IsEnd s p × IsEnd t p) ⊎ Together p s t
  with_slanted s t e f order on_s on_t rs rt = by_lt_z s.a.x t.b.x
      (λ less. by_lt_z t.b.x s.b.x (λ l. inr (both t.b.x less (λ z h. lt_lt z h l) (λ z h. h) (to_end t rt))) (λ l. inr (both s.b.x s_right (λ z h. h) (λ z h. lt_le z h l) (to_end s rs))))
      (λ le.
      let first = same_from_le (le_le_trans (to_end t rt) (mul_le_left (le_from_lt rational) le)) (from_end s rs) in
      let second = same_from_le (to_end t rt) (le_le_trans (mul_le_left (le_from_lt rational) le) (from_end s rs)) in
      inl (
        inl (end_by_abscissa s s.a s_right (gaps_on_line s p s.a on_s.line (first_end_on_line s)) first),
        inr (end_by_abscissa t t.b ((Decides-int_lt t.a.x t.b.x).0 f) (gaps_on_line t p t.b on_t.line (second_end_on_line t)) second),
      ))
    where
      s_right : s.a.x <ℤ s.b.x
      s_right = (Decides-int_lt s.a.x s.b.x).0 e

      lt_lt : {y w : ℤ} (z : ℤ) → z <ℤ y → y <ℤ w → z <ℤ w
      lt_lt z h l = omega (arith, ints)

      lt_le : {y w : ℤ} (z : ℤ) → z <ℤ y → y ≤ℤ w → z <ℤ w
      lt_le z h l = omega (arith, ints)

      both : (high : ℤ) → s.a.x <ℤ high → ((z : ℤ) → z <ℤ high → z <ℤ s.b.x) → ((z : ℤ) → z <ℤ high → z <ℤ t.b.x) → p.nx ≤ℤ (p.d *ℤ high) → Together p s t
      both high less i j to =
          let w = whole_in s.a.x high p.nx p.d less (from_end s rs) to in
          record {
            time = pos 4 *ℤ w.whole +ℤ pos 3;
            first = in_slanted (pos 4 *ℤ w.whole +ℤ pos 3) s e (begun s.a.x w.whole w.from) (stays s.b.x w.whole (i w.whole w.to));
            second = in_slanted (pos 4 *ℤ w.whole +ℤ pos 3) t f (begun t.a.x w.whole (le_le_trans order w.from)) (stays t.b.x w.whole (j w.whole w.to));
            shows = between_times w.whole refl w.below w.above;
          }
        where
          begun : (a v : ℤ) → a ≤ℤ v → (pos 4 *ℤ a +ℤ pos 2) ≤ℤ (pos 4 *ℤ v +ℤ pos 3)
          begun a v h = omega (arith, ints)

          stays : (b v : ℤ) → v <ℤ b → (pos 4 *ℤ v +ℤ pos 3) <ℤ (pos 4 *ℤ b +ℤ pos 2)
          stays b v h = omega (arith, ints)

  -- two segments with a common point are in the row together at a time that shows it, or it is an end of both
  pub together : (s t : Seg) → GoesForward s → GoesForward t → IsOn p s → IsOn p t → (IsEnd s p × IsEnd t p) ⊎ Together p s t
  together s t fs ft on_s on_t = by (is_slanted s) refl (is_slanted t) refl
    where
      rs : Reaches p s
      rs = reaches_itself p s rational fs on_s

      rt : Reaches p t
      rt = reaches_itself p t rational ft on_t

      swapped : (IsEnd t p × IsEnd s p) ⊎ Together p t s → (IsEnd s p × IsEnd t p) ⊎ Together p s t
      swapped (inl h) = inl (h.1, h.0)
      swapped (inr w) = inr (together_turned t s w)

      by : (b : Bool) → is_slanted s ≡ b → (c : Bool) → is_slanted t ≡ c → (IsEnd s p × IsEnd t p) ⊎ Together p s t
      by false e c f = inr (with_upright s t fs ft e rs rt)
      by true e false f = inr (together_turned t s (with_upright t s ft fs f rt rs))
      by true e true f = by_lt_z s.a.x t.a.x
          (λ less. swapped (with_slanted t s f e (le_from_lt less) on_t on_s rt rs))
          (λ le. with_slanted s t e f le on_s on_t rs rt)
