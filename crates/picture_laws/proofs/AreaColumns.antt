-- The area of closed segments is the sum, over columns of points, of how often the segments go round each of the points: so where
-- they go round none clockwise, it is not negative.
use Rattle.std.proofs.Common.{◌≡◌, ◌≢◌, ◌⊎◌, inl, inr, ⊎_elim, ℕ, zero, suc, ◌+◌, ◌≤◌, Bool, true, false, cond, List, [], ◌∷◌, map, get_or, All, ℤ, pos, negsuc, neg_ℤ, ◌+ℤ◌, ◌-ℤ◌, ◌*ℤ◌, ◌<ℤ◌, ◌≤ℤ◌, int_lt, unsigned_abs, refl, sym, ap, ap₂, ◌∙◌, subst, true≢false, arith}
use Rattle.std.specs.Cmp.{both_ways}
use Rattle.std.proofs.lemmas.Int.{ints, by_lt_z}
use Rattle.std.proofs.lemmas.List.Elements.{All-head, All-tail, All-nil, All-cons, All-weaker}
use Rattle.lemmas.proofs.Polynomials.{same_value, var, number, minus, ◌⊕◌, ◌⊖◌, ◌⊗◌}
use Rattle.lemmas.proofs.Signs.{Decides-int_lt, int_lt-from_le, by_order, le_from_lt, apart_from_lt, sub_positive, sub_zero, same_from_sub, square_positive, mul_positive, mul_lt_left, lt_from_mul_left, same_from_mul_left, positive_from_mul, not_negative_from_mul}
use Rattle.tgap_model.specs.declared.geometry.Point.{Point}
use Rattle.tgap_model.specs.declared.geometry.Fraction.{Fraction}
use Rattle.tgap_model.specs.declared.geometry.Seg.{Seg}
use Rattle.tgap_model.specs.Point.{shoelace_term}
use Rattle.tgap_model.specs.Segment.{IsBetweenColumns, line_through, line_after, run, rise, height, is_above}
use Rattle.slice_laws.proofs.Paths.{flip}
use Rattle.picture_laws.proofs.Sums.{int_sum, int_sum-agree, int_sum-map, int_sum-sub}
use Rattle.picture_laws.proofs.RingWinds.{one_if}
use Rattle.picture_laws.proofs.AlongSegment.{is_right, seen}

-- ---- sums over whole numbers from one on

abbrev up_sum : (ℤ → ℤ) → ℤ → ℕ → ℤ
up_sum f low zero = pos 0
up_sum f low (suc n) = f low +ℤ up_sum f (low +ℤ pos 1) n

up_sum-same : (f g : ℤ → ℤ) → ((z : ℤ) → f z ≡ g z) → (low : ℤ) (n : ℕ) → up_sum f low n ≡ up_sum g low n
up_sum-same f g h low zero = refl
up_sum-same f g h low (suc n) = ap₂ (λ u v. u +ℤ v) (h low) (up_sum-same f g h (low +ℤ pos 1) n)

up_sum-sub : (f g : ℤ → ℤ) (low : ℤ) (n : ℕ) → up_sum (λ z. f z -ℤ g z) low n ≡ up_sum f low n -ℤ up_sum g low n
up_sum-sub f g low zero = refl
up_sum-sub f g low (suc n) = let rest = up_sum-sub f g (low +ℤ pos 1) n in omega (arith, ints, rest)

up_sum-mul : (k : ℤ) (f : ℤ → ℤ) (low : ℤ) (n : ℕ) → up_sum (λ z. k *ℤ f z) low n ≡ k *ℤ up_sum f low n
up_sum-mul k f low zero = same_value (k ∷ []) (number (pos 0)) (var 0 ⊗ number (pos 0)) refl
up_sum-mul k f low (suc n) =
    ap (λ v. k *ℤ f low +ℤ v) (up_sum-mul k f (low +ℤ pos 1) n)
    ∙ same_value (k ∷ f low ∷ up_sum f (low +ℤ pos 1) n ∷ []) (var 0 ⊗ var 1 ⊕ var 0 ⊗ var 2) (var 0 ⊗ (var 1 ⊕ var 2)) refl

up_sum-not_negative : (f : ℤ → ℤ) → ((z : ℤ) → pos 0 ≤ℤ f z) → (low : ℤ) (n : ℕ) → pos 0 ≤ℤ up_sum f low n
up_sum-not_negative f h low zero = omega (arith, ints)
up_sum-not_negative f h low (suc n) = plus (h low) (up_sum-not_negative f h (low +ℤ pos 1) n)
  where
    plus : {u v : ℤ} → pos 0 ≤ℤ u → pos 0 ≤ℤ v → pos 0 ≤ℤ (u +ℤ v)
    plus h k = omega (arith, ints)

up_sum-positive : (f : ℤ → ℤ) → ((z : ℤ) → pos 0 ≤ℤ f z) → (w low : ℤ) (n : ℕ) → low ≤ℤ w → w <ℤ (low +ℤ pos n) → pos 0 <ℤ f w → pos 0 <ℤ up_sum f low n
up_sum-positive f h w low zero i j k = absurd (none w low i j)
  where
    none : (w low : ℤ) → low ≤ℤ w → w <ℤ (low +ℤ pos 0) → ⊥
    none w low i j = omega (arith, ints)
up_sum-positive f h w low (suc n) i j k = by_lt_z low w
    (λ less. second (h low) (up_sum-positive f h w (low +ℤ pos 1) n (next less) (further j) k))
    (λ le. first (subst (λ (z : ℤ). pos 0 <ℤ f z) (same le i) k) (up_sum-not_negative f h (low +ℤ pos 1) n))
  where
    next : low <ℤ w → (low +ℤ pos 1) ≤ℤ w
    next less = omega (arith, ints)

    further : w <ℤ (low +ℤ pos (suc n)) → w <ℤ ((low +ℤ pos 1) +ℤ pos n)
    further k = omega (arith, ints)

    same : w ≤ℤ low → low ≤ℤ w → w ≡ low
    same h k = omega (arith, ints)

    first : {u v : ℤ} → pos 0 <ℤ u → pos 0 ≤ℤ v → pos 0 <ℤ (u +ℤ v)
    first h k = omega (arith, ints)

    second : {u v : ℤ} → pos 0 ≤ℤ u → pos 0 <ℤ v → pos 0 <ℤ (u +ℤ v)
    second h k = omega (arith, ints)

int_sum-add : {A : Type 0} (f g : A → ℤ) (xs : List A) → int_sum (λ x. f x +ℤ g x) xs ≡ int_sum f xs +ℤ int_sum g xs
int_sum-add f g [] = refl
int_sum-add f g (x ∷ xs) = let rest = int_sum-add f g xs in omega (arith, ints, rest)

-- a sum over both in either order
up_sum-swap : {A : Type 0} (f : A → ℤ → ℤ) (xs : List A) (low : ℤ) (n : ℕ) → int_sum (λ x. up_sum (f x) low n) xs ≡ up_sum (λ z. int_sum (λ x. f x z) xs) low n
up_sum-swap f [] low zero = refl
up_sum-swap f (x ∷ xs) low zero = let rest = up_sum-swap f xs low zero in omega (arith, ints, rest)
up_sum-swap f xs low (suc n) =
    int_sum-add (λ x. f x low) (λ x. up_sum (f x) (low +ℤ pos 1) n) xs ∙ ap (λ v. int_sum (λ x. f x low) xs +ℤ v) (up_sum-swap f xs (low +ℤ pos 1) n)

-- the steps of a function up to a number
module _ (step : ℤ → ℤ) where
  abbrev below : ℤ → ℤ → ℤ
  below w z = cond (int_lt z w) (step (z +ℤ pos 1) -ℤ step z) (pos 0)

  past : (w low : ℤ) (n : ℕ) → w ≤ℤ low → up_sum (below w) low n ≡ pos 0
  past w low zero h = refl
  past w low (suc n) h =
      ap₂ (λ (b : Bool) v. cond b (step (low +ℤ pos 1) -ℤ step low) (pos 0) +ℤ v) (int_lt-from_le h) (past w (low +ℤ pos 1) n (omega (arith, ints)))

  clipped : (w low : ℤ) (n : ℕ) → low ≤ℤ w → w ≤ℤ (low +ℤ pos n) → up_sum (below w) low n ≡ step w -ℤ step low
  clipped w low zero h k = ap (λ z. z) (nothing (step low)) ∙ ap (λ z. step z -ℤ step low) (same w low h k)
    where
      nothing : (z : ℤ) → pos 0 ≡ z -ℤ z
      nothing z = omega (arith, ints)

      same : (w low : ℤ) → low ≤ℤ w → w ≤ℤ (low +ℤ pos 0) → low ≡ w
      same w low h k = omega (arith, ints)
  clipped w low (suc n) h k = by_lt_z low w
      (λ less.
      let here = (Decides-int_lt low w).1 less in
      let rest = clipped w (low +ℤ pos 1) n (next less) (further k) in
      ap₂ (λ (b : Bool) v. cond b (step (low +ℤ pos 1) -ℤ step low) (pos 0) +ℤ v) here rest
      ∙ joined (step (low +ℤ pos 1)) (step low) (step w))
      (λ le.
      let e : low ≡ w = level h le in
      past w low (suc n) le ∙ nothing (step low) ∙ ap (λ z. step z -ℤ step low) e)
    where
      next : low <ℤ w → (low +ℤ pos 1) ≤ℤ w
      next less = omega (arith, ints)

      further : w ≤ℤ (low +ℤ pos (suc n)) → w ≤ℤ ((low +ℤ pos 1) +ℤ pos n)
      further k = omega (arith, ints)

      level : low ≤ℤ w → w ≤ℤ low → low ≡ w
      level h k = omega (arith, ints)

      joined : (a b c : ℤ) → (a -ℤ b) +ℤ (c -ℤ a) ≡ c -ℤ b
      joined a b c = omega (arith, ints)

      nothing : (z : ℤ) → pos 0 ≡ z -ℤ z
      nothing z = omega (arith, ints)

-- ---- the sizes of numbers

abbrev sizes : {A : Type 0} → (A → ℤ) → List A → ℕ
sizes f [] = 0
sizes f (x ∷ xs) = unsigned_abs (f x) + sizes f xs

small : {A : Type 0} (f : A → ℤ) (xs : List A) → All (λ x. unsigned_abs (f x) ≤ sizes f xs) xs
small f [] = All-nil (λ x. unsigned_abs (f x) ≤ 0)
small f (x ∷ xs) = All-cons (λ y. unsigned_abs (f y) ≤ sizes f (x ∷ xs)) x xs (omega arith)
    (All-weaker (λ y. unsigned_abs (f y) ≤ sizes f xs) (λ y. unsigned_abs (f y) ≤ sizes f (x ∷ xs)) (λ y h. omega (arith, h)) xs (small f xs))

low_of : (m : ℕ) (z : ℤ) → unsigned_abs z ≤ m → neg_ℤ (pos m) ≤ℤ z
low_of m z h = omega (arith, ints, h)

high_of : (m : ℕ) (z : ℤ) → unsigned_abs z ≤ m → z ≤ℤ (neg_ℤ (pos m) +ℤ pos (m + m))
high_of m z h = omega (arith, ints, h)

-- ---- segments with a common multiple of their runs

abbrev pub Scaled : Type 0
Scaled = Seg × ℤ

-- the number is how often the run of the segment goes into the common multiple, where it is not 0
abbrev pub IsScaled : ℤ → Scaled → Type 0
IsScaled n e = (e.1 *ℤ run e.0 ≡ n) ⊎ (run e.0 ≡ pos 0)

pub record HasMultiple (segments : List Seg) : Type 0 where
  pub common : ℤ
  pub positive : pos 0 <ℤ common
  pub scaled : List Scaled
  pub same : map (λ (e : Scaled). e.0) scaled ≡ segments
  pub each : All (IsScaled common) scaled

abbrev pub larger : ℤ → Scaled → Scaled
larger k e = (e.0, k *ℤ e.1)

pub firsts : (k : ℤ) (es : List Scaled) → map (λ (e : Scaled). e.0) (map (larger k) es) ≡ map (λ (e : Scaled). e.0) es
firsts k [] = refl
firsts k (e ∷ es) = ap (λ ss. e.0 ∷ ss) (firsts k es)

pub larger_each : (k n : ℤ) (es : List Scaled) → All (IsScaled n) es → All (IsScaled (k *ℤ n)) (map (larger k) es)
larger_each k n [] h = All-nil (IsScaled (k *ℤ n))
larger_each k n (e ∷ es) h = All-cons (IsScaled (k *ℤ n)) (larger k e) (map (larger k) es)
    (⊎_elim (λ f. inl (same_value (k ∷ e.1 ∷ run e.0 ∷ []) ((var 0 ⊗ var 1) ⊗ var 2) (var 0 ⊗ (var 1 ⊗ var 2)) refl ∙ ap (λ z. k *ℤ z) f)) (λ f. inr f) (All-head (IsScaled n) e es h))
    (larger_each k n es (All-tail (IsScaled n) e es h))

pub has_multiple : (segments : List Seg) → HasMultiple segments
has_multiple [] = record { common = pos 1; positive = record { lt = tt }; scaled = []; same = refl; each = All-nil (IsScaled (pos 1)) }
has_multiple (s ∷ segments) =
    let rest = has_multiple segments in
    by_order (run s) (pos 0) (λ h. more rest (λ e. apart_from_lt h e)) (λ e. still rest e) (λ h. more rest (λ e. apart_from_lt h (sym e)))
  where
    still : HasMultiple segments → run s ≡ pos 0 → HasMultiple (s ∷ segments)
    still rest e = record {
      common = rest.common;
      positive = rest.positive;
      scaled = (s, pos 0) ∷ rest.scaled;
      same = ap (λ ss. s ∷ ss) rest.same;
      each = All-cons (IsScaled rest.common) (s, pos 0) rest.scaled (inr e) rest.each;
    }

    more : HasMultiple segments → run s ≢ pos 0 → HasMultiple (s ∷ segments)
    more rest ne = record {
      common = (run s *ℤ run s) *ℤ rest.common;
      positive = mul_positive (square_positive (run s) ne) rest.positive;
      scaled = (s, run s *ℤ rest.common) ∷ map (larger (run s *ℤ run s)) rest.scaled;
      same = ap (λ ss. s ∷ ss) (firsts (run s *ℤ run s) rest.scaled ∙ rest.same);
      each = All-cons (IsScaled ((run s *ℤ run s) *ℤ rest.common)) (s, run s *ℤ rest.common) (map (larger (run s *ℤ run s)) rest.scaled)
          (inl (same_value (run s ∷ rest.common ∷ []) ((var 0 ⊗ var 1) ⊗ var 0) ((var 0 ⊗ var 0) ⊗ var 1) refl))
          (larger_each (run s *ℤ run s) rest.common rest.scaled rest.each);
    }

-- ---- columns of points

-- the point one half right of the abscissa x, one half over the ordinate y where that is in parts of 2 * n
abbrev pub spot : ℤ → ℤ → ℤ → Fraction
spot n x y = record { nx = (pos 2 *ℤ x +ℤ pos 1) *ℤ (pos 2 *ℤ n); ny = pos 2 *ℤ y +ℤ pos 1; d = pos 4 *ℤ n }

-- what a segment adds on the line one half right of x, wherever its height is
abbrev pub across : ℤ → Seg → ℤ
across x s = one_if (int_lt x s.a.x) -ℤ one_if (int_lt x s.b.x)

-- its height there, in parts of 2 * n
abbrev pub level : ℤ → Scaled → ℤ
level x e = e.1 *ℤ height (line_after x) e.0

abbrev itself : ℤ → ℤ
itself z = z

module _ (n : ℤ) (positive : pos 0 <ℤ n) where
  two : pos 0 <ℤ pos 2
  two = omega (arith, ints)

  four : pos 0 <ℤ pos 4
  four = omega (arith, ints)

  twice : pos 0 <ℤ (pos 2 *ℤ n)
  twice = mul_positive two positive

  fourfold : pos 0 <ℤ (pos 4 *ℤ n)
  fourfold = mul_positive four positive

  spot_between : (x y : ℤ) → IsBetweenColumns (line_through (spot n x y))
  spot_between x y = record {
    rational = fourfold;
    apart = λ v e. odd x v (same_from_mul_left (pos 2 *ℤ n) (λ z. apart_from_lt twice (sym z))
        (same_value (n ∷ x ∷ []) ((number (pos 2) ⊗ var 0) ⊗ (number (pos 2) ⊗ var 1 ⊕ number (pos 1))) ((number (pos 2) ⊗ var 1 ⊕ number (pos 1)) ⊗ (number (pos 2) ⊗ var 0)) refl
        ∙ e ∙ same_value (n ∷ v ∷ []) ((number (pos 4) ⊗ var 0) ⊗ var 1) ((number (pos 2) ⊗ var 0) ⊗ (number (pos 2) ⊗ var 1)) refl));
  }
    where
      odd : (x v : ℤ) → pos 2 *ℤ x +ℤ pos 1 ≡ pos 2 *ℤ v → ⊥
      odd x v e = omega (arith, ints, e)

  pub half_less : (a b : ℤ) → a <ℤ b → (pos 2 *ℤ a +ℤ pos 1) <ℤ (pos 2 *ℤ b)
  half_less a b h = omega (arith, ints)

  pub half_back : (a b : ℤ) → (pos 2 *ℤ a +ℤ pos 1) <ℤ (pos 2 *ℤ b) → a <ℤ b
  half_back a b h = omega (arith, ints)

  -- which grid points are right of it
  pub right_same : (x y : ℤ) (w : Point) → is_right (spot n x y) w ≡ int_lt x w.x
  right_same x y w = both_ways (is_right (spot n x y) w) (int_lt x w.x)
      (λ e. (Decides-int_lt x w.x).1 (half_back x w.x (lt_from_mul_left (pos 2 *ℤ n) twice (moved (sym left) (sym right) ((Decides-int_lt (spot n x y).nx ((spot n x y).d *ℤ w.x)).0 e)))))
      (λ e. (Decides-int_lt (spot n x y).nx ((spot n x y).d *ℤ w.x)).1 (moved left right (mul_lt_left twice (half_less x w.x ((Decides-int_lt x w.x).0 e)))))
    where
      moved : {a b c d : ℤ} → a ≡ c → b ≡ d → a <ℤ b → c <ℤ d
      moved {a} {b} {c} {d} e f h = subst (λ (z : ℤ). c <ℤ z) f (subst (λ (z : ℤ). z <ℤ b) e h)

      left : (pos 2 *ℤ n) *ℤ (pos 2 *ℤ x +ℤ pos 1) ≡ (spot n x y).nx
      left = same_value (n ∷ x ∷ []) ((number (pos 2) ⊗ var 0) ⊗ (number (pos 2) ⊗ var 1 ⊕ number (pos 1))) ((number (pos 2) ⊗ var 1 ⊕ number (pos 1)) ⊗ (number (pos 2) ⊗ var 0)) refl

      right : (pos 2 *ℤ n) *ℤ (pos 2 *ℤ w.x) ≡ (spot n x y).d *ℤ w.x
      right = same_value (n ∷ w.x ∷ []) ((number (pos 2) ⊗ var 0) ⊗ (number (pos 2) ⊗ var 1)) ((number (pos 4) ⊗ var 0) ⊗ var 1) refl

  -- which segments that go to the right are above it
  over_right : (x y k : ℤ) (r : Seg) → pos 0 <ℤ run r → k *ℤ run r ≡ n
      → int_lt ((spot n x y).ny *ℤ run r) (height (line_through (spot n x y)) r) ≡ int_lt y (k *ℤ height (line_after x) r)
  over_right x y k r runs e = both_ways (int_lt ((spot n x y).ny *ℤ run r) (height (line_through (spot n x y)) r)) (int_lt y (k *ℤ height (line_after x) r))
      (λ f. (Decides-int_lt y (k *ℤ height (line_after x) r)).1 (half_back y (k *ℤ height (line_after x) r) (lt_from_mul_left n positive
      (moved low high (mul_lt_left share ((Decides-int_lt ((spot n x y).ny *ℤ run r) (height (line_through (spot n x y)) r)).0 f))))))
      (λ f. (Decides-int_lt ((spot n x y).ny *ℤ run r) (height (line_through (spot n x y)) r)).1 (lt_from_mul_left k share
      (moved (sym low) (sym high) (mul_lt_left positive (half_less y (k *ℤ height (line_after x) r) ((Decides-int_lt y (k *ℤ height (line_after x) r)).0 f))))))
    where
      moved : {a b c d : ℤ} → a ≡ c → b ≡ d → a <ℤ b → c <ℤ d
      moved {a} {b} {c} {d} e f h = subst (λ (z : ℤ). c <ℤ z) f (subst (λ (z : ℤ). z <ℤ b) e h)

      share : pos 0 <ℤ k
      share = positive_from_mul (run r) k runs (subst (λ (z : ℤ). pos 0 <ℤ z) (sym e ∙ same_value (k ∷ run r ∷ []) (var 0 ⊗ var 1) (var 1 ⊗ var 0) refl) positive)

      low : k *ℤ ((spot n x y).ny *ℤ run r) ≡ n *ℤ (pos 2 *ℤ y +ℤ pos 1)
      low = same_value (k ∷ y ∷ run r ∷ []) (var 0 ⊗ ((number (pos 2) ⊗ var 1 ⊕ number (pos 1)) ⊗ var 2)) ((var 0 ⊗ var 2) ⊗ (number (pos 2) ⊗ var 1 ⊕ number (pos 1))) refl
          ∙ ap (λ (z : ℤ). z *ℤ (pos 2 *ℤ y +ℤ pos 1)) e

      high : k *ℤ height (line_through (spot n x y)) r ≡ n *ℤ (pos 2 *ℤ (k *ℤ height (line_after x) r))
      high = same_value (k ∷ n ∷ x ∷ rise r ∷ shoelace_term r.a r.b ∷ [])
          (var 0 ⊗ (((number (pos 2) ⊗ var 2 ⊕ number (pos 1)) ⊗ (number (pos 2) ⊗ var 1)) ⊗ var 3 ⊖ (number (pos 4) ⊗ var 1) ⊗ var 4))
          (var 1 ⊗ (number (pos 2) ⊗ (var 0 ⊗ ((number (pos 2) ⊗ var 2 ⊕ number (pos 1)) ⊗ var 3 ⊖ number (pos 2) ⊗ var 4)))) refl

  pub over_same : (x y : ℤ) (e : Scaled) → e.1 *ℤ run e.0 ≡ n → is_above e.0 (spot n x y) ≡ int_lt y (level x e)
  unfolding is_above
  over_same x y (s, k) f = by_order s.a.x s.b.x
      (λ h. ap (λ (b : Bool). int_lt ((spot n x y).ny *ℤ run (cond b s (flip s))) (height (line_through (spot n x y)) (cond b s (flip s)))) ((Decides-int_lt s.a.x s.b.x).1 h)
      ∙ over_right x y k s (sub_positive h) f)
      (λ e. absurd (apart_from_lt positive (sym (sym f ∙ ap (λ (z : ℤ). k *ℤ z) (sub_zero e) ∙ same_value (k ∷ []) (var 0 ⊗ number (pos 0)) (number (pos 0)) refl))))
      (λ h. ap (λ (b : Bool). int_lt ((spot n x y).ny *ℤ run (cond b s (flip s))) (height (line_through (spot n x y)) (cond b s (flip s)))) (int_lt-from_le (le_from_lt h))
      ∙ over_right x y (neg_ℤ k) (flip s) (sub_positive h) (same_value (k ∷ s.a.x ∷ s.b.x ∷ []) (minus (var 0) ⊗ (var 1 ⊖ var 2)) (var 0 ⊗ (var 2 ⊖ var 1)) refl ∙ f)
      ∙ ap (int_lt y) (same_value (k ∷ x ∷ s.a.x ∷ s.a.y ∷ s.b.x ∷ s.b.y ∷ [])
      (minus (var 0) ⊗ ((number (pos 2) ⊗ var 1 ⊕ number (pos 1)) ⊗ (var 3 ⊖ var 5) ⊖ number (pos 2) ⊗ (var 4 ⊗ var 3 ⊖ var 2 ⊗ var 5)))
      (var 0 ⊗ ((number (pos 2) ⊗ var 1 ⊕ number (pos 1)) ⊗ (var 5 ⊖ var 3) ⊖ number (pos 2) ⊗ (var 2 ⊗ var 5 ⊖ var 4 ⊗ var 3))) refl))

  -- what is seen at a point
  seen_there : (x y : ℤ) (e : Scaled) → IsScaled n e → across x e.0 *ℤ below itself (level x e) y ≡ seen (spot n x y) e.0
  seen_there x y e h =
      by (int_lt x e.0.a.x) refl (int_lt x e.0.b.x) refl
      ∙ sym (ap₂ (λ (i j : Bool). cond (is_above e.0 (spot n x y)) (one_if i -ℤ one_if j) (pos 0)) (right_same x y e.0.a) (right_same x y e.0.b))
    where
      one_step : (y : ℤ) → (y +ℤ pos 1) -ℤ y ≡ pos 1
      one_step y = omega (arith, ints)

      nothing : (z : ℤ) (b : Bool) → pos 0 *ℤ z ≡ cond b (pos 0) (pos 0)
      nothing z true = same_value (z ∷ []) (number (pos 0) ⊗ var 0) (number (pos 0)) refl
      nothing z false = same_value (z ∷ []) (number (pos 0) ⊗ var 0) (number (pos 0)) refl

      chosen : (u : ℤ) (b : Bool) → u *ℤ cond b ((y +ℤ pos 1) -ℤ y) (pos 0) ≡ cond b u (pos 0)
      chosen u true = ap (λ (z : ℤ). u *ℤ z) (one_step y) ∙ same_value (u ∷ []) (var 0 ⊗ number (pos 1)) (var 0) refl
      chosen u false = same_value (u ∷ []) (var 0 ⊗ number (pos 0)) (number (pos 0)) refl

      -- where one end is right of the line and the other is not, it is not vertical
      leans : (i j : Bool) → int_lt x e.0.a.x ≡ i → int_lt x e.0.b.x ≡ j → (i ≡ j → ⊥) → e.1 *ℤ run e.0 ≡ n
      leans i j f g differ = ⊎_elim (λ k. k) (λ k. absurd (differ (sym f ∙ ap (int_lt x) (same_from_sub e.0.a.x e.0.b.x k) ∙ g))) h

      apart : (i j : Bool) → int_lt x e.0.a.x ≡ i → int_lt x e.0.b.x ≡ j → (i ≡ j → ⊥)
          → (one_if i -ℤ one_if j) *ℤ below itself (level x e) y ≡ cond (is_above e.0 (spot n x y)) (one_if i -ℤ one_if j) (pos 0)
      apart i j f g differ = chosen (one_if i -ℤ one_if j) (int_lt y (level x e))
          ∙ ap (λ (b : Bool). cond b (one_if i -ℤ one_if j) (pos 0)) (sym (over_same x y e (leans i j f g differ)))

      by : (i : Bool) → int_lt x e.0.a.x ≡ i → (j : Bool) → int_lt x e.0.b.x ≡ j
          → (one_if i -ℤ one_if j) *ℤ below itself (level x e) y ≡ cond (is_above e.0 (spot n x y)) (one_if i -ℤ one_if j) (pos 0)
      by true f true g = nothing (below itself (level x e) y) (is_above e.0 (spot n x y))
      by false f false g = nothing (below itself (level x e) y) (is_above e.0 (spot n x y))
      by true f false g = apart true false f g true≢false
      by false f true g = apart false true f g (λ z. true≢false (sym z))

-- ---- the columns together

int_sum-mul : {A : Type 0} (k : ℤ) (f : A → ℤ) (xs : List A) → int_sum (λ x. k *ℤ f x) xs ≡ k *ℤ int_sum f xs
int_sum-mul k f [] = same_value (k ∷ []) (number (pos 0)) (var 0 ⊗ number (pos 0)) refl
int_sum-mul k f (x ∷ xs) =
    ap (λ v. k *ℤ f x +ℤ v) (int_sum-mul k f xs) ∙ same_value (k ∷ f x ∷ int_sum f xs ∷ []) (var 0 ⊗ var 1 ⊕ var 0 ⊗ var 2) (var 0 ⊗ (var 1 ⊕ var 2)) refl

-- of which each height is a step
abbrev steps_of : Scaled → ℤ → ℤ
steps_of e x = e.1 *ℤ ((x *ℤ x) *ℤ rise e.0 -ℤ (pos 2 *ℤ x) *ℤ shoelace_term e.0.a e.0.b)

level_steps : (x : ℤ) (e : Scaled) → level x e ≡ steps_of e (x +ℤ pos 1) -ℤ steps_of e x
level_steps x e = same_value (e.1 ∷ x ∷ rise e.0 ∷ shoelace_term e.0.a e.0.b ∷ [])
    (var 0 ⊗ ((number (pos 2) ⊗ var 1 ⊕ number (pos 1)) ⊗ var 2 ⊖ number (pos 2) ⊗ var 3))
    (var 0 ⊗ (((var 1 ⊕ number (pos 1)) ⊗ (var 1 ⊕ number (pos 1))) ⊗ var 2 ⊖ (number (pos 2) ⊗ (var 1 ⊕ number (pos 1))) ⊗ var 3)
    ⊖ var 0 ⊗ ((var 1 ⊗ var 1) ⊗ var 2 ⊖ (number (pos 2) ⊗ var 1) ⊗ var 3)) refl

column_steps : (x : ℤ) (e : Scaled) → across x e.0 *ℤ level x e ≡ below (steps_of e) e.0.a.x x -ℤ below (steps_of e) e.0.b.x x
column_steps x e = ap (λ v. across x e.0 *ℤ v) (level_steps x e) ∙ by (int_lt x e.0.a.x) (int_lt x e.0.b.x) (steps_of e (x +ℤ pos 1) -ℤ steps_of e x)
  where
    by : (i j : Bool) (v : ℤ) → (one_if i -ℤ one_if j) *ℤ v ≡ cond i v (pos 0) -ℤ cond j v (pos 0)
    by true true v = same_value (v ∷ []) (number (pos 0) ⊗ var 0) (var 0 ⊖ var 0) refl
    by true false v = same_value (v ∷ []) (number (pos 1) ⊗ var 0) (var 0 ⊖ number (pos 0)) refl
    by false true v = same_value (v ∷ []) (number (negsuc 0) ⊗ var 0) (number (pos 0) ⊖ var 0) refl
    by false false v = same_value (v ∷ []) (number (pos 0) ⊗ var 0) (number (pos 0) ⊖ number (pos 0)) refl

-- what a segment has of an area, but for what its ends gain
abbrev share : Seg → ℤ
share s = shoelace_term s.a s.b -ℤ (s.b.x *ℤ s.b.y -ℤ s.a.x *ℤ s.a.y)

row_share : (n : ℤ) (e : Scaled) (m : ℕ) → IsScaled n e → unsigned_abs e.0.a.x ≤ m → unsigned_abs e.0.b.x ≤ m
    → up_sum (λ x. across x e.0 *ℤ level x e) (neg_ℤ (pos m)) (m + m) ≡ n *ℤ share e.0
row_share n e m h i j =
    up_sum-same (λ x. across x e.0 *ℤ level x e) (λ x. below (steps_of e) e.0.a.x x -ℤ below (steps_of e) e.0.b.x x) (λ x. column_steps x e) (neg_ℤ (pos m)) (m + m)
    ∙ up_sum-sub (below (steps_of e) e.0.a.x) (below (steps_of e) e.0.b.x) (neg_ℤ (pos m)) (m + m)
    ∙ ap₂ (λ u v. u -ℤ v) (clipped (steps_of e) e.0.a.x (neg_ℤ (pos m)) (m + m) (low_of m e.0.a.x i) (high_of m e.0.a.x i))
    (clipped (steps_of e) e.0.b.x (neg_ℤ (pos m)) (m + m) (low_of m e.0.b.x j) (high_of m e.0.b.x j))
    ∙ shorter (steps_of e e.0.a.x) (steps_of e e.0.b.x) (steps_of e (neg_ℤ (pos m)))
    ∙ ⊎_elim leaning upright h
  where
    shorter : (a b c : ℤ) → (a -ℤ c) -ℤ (b -ℤ c) ≡ a -ℤ b
    shorter a b c = omega (arith, ints)

    leaning : e.1 *ℤ run e.0 ≡ n → steps_of e e.0.a.x -ℤ steps_of e e.0.b.x ≡ n *ℤ share e.0
    leaning f =
        same_value (e.1 ∷ e.0.a.x ∷ e.0.a.y ∷ e.0.b.x ∷ e.0.b.y ∷ [])
        (var 0 ⊗ ((var 1 ⊗ var 1) ⊗ (var 4 ⊖ var 2) ⊖ (number (pos 2) ⊗ var 1) ⊗ (var 1 ⊗ var 4 ⊖ var 3 ⊗ var 2))
        ⊖ var 0 ⊗ ((var 3 ⊗ var 3) ⊗ (var 4 ⊖ var 2) ⊖ (number (pos 2) ⊗ var 3) ⊗ (var 1 ⊗ var 4 ⊖ var 3 ⊗ var 2)))
        ((var 0 ⊗ (var 3 ⊖ var 1)) ⊗ ((var 1 ⊗ var 4 ⊖ var 3 ⊗ var 2) ⊖ (var 3 ⊗ var 4 ⊖ var 1 ⊗ var 2))) refl
        ∙ ap (λ z. z *ℤ share e.0) f

    upright : run e.0 ≡ pos 0 → steps_of e e.0.a.x -ℤ steps_of e e.0.b.x ≡ n *ℤ share e.0
    upright z =
        let same : e.0.a.x ≡ e.0.b.x = same_from_sub e.0.a.x e.0.b.x z in
        ap (λ v. steps_of e e.0.a.x -ℤ steps_of e v) (sym same) ∙ nothing (steps_of e e.0.a.x)
        ∙ sym (ap (λ v. n *ℤ ((e.0.a.x *ℤ e.0.b.y -ℤ v *ℤ e.0.a.y) -ℤ (v *ℤ e.0.b.y -ℤ e.0.a.x *ℤ e.0.a.y))) (sym same)
        ∙ same_value (n ∷ e.0.a.x ∷ e.0.a.y ∷ e.0.b.y ∷ []) (var 0 ⊗ ((var 1 ⊗ var 3 ⊖ var 1 ⊗ var 2) ⊖ (var 1 ⊗ var 3 ⊖ var 1 ⊗ var 2))) (number (pos 0)) refl)
      where
        nothing : (z : ℤ) → z -ℤ z ≡ pos 0
        nothing z = omega (arith, ints)

module _ (segments : List Seg) (closed : (value : Point → ℤ) → int_sum (λ s. value s.b -ℤ value s.a) segments ≡ pos 0)
    (round : (p : Fraction) → IsBetweenColumns (line_through p) → pos 0 ≤ℤ int_sum (seen p) segments) (common : HasMultiple segments) where
  abbrev n : ℤ
  n = common.common

  abbrev scaled : List Scaled
  scaled = common.scaled

  pub over_first : (f : Seg → ℤ) → int_sum (λ (e : Scaled). f e.0) scaled ≡ int_sum f segments
  over_first f = sym (int_sum-map f (λ (e : Scaled). e.0) scaled) ∙ ap (int_sum f) common.same

  none_across : (x : ℤ) → int_sum (across x) segments ≡ pos 0
  none_across x =
      let a = λ (s : Seg). one_if (int_lt x s.a.x) in
      let b = λ (s : Seg). one_if (int_lt x s.b.x) in
      turned (int_sum (across x) segments) (int_sum a segments) (int_sum b segments) (int_sum (λ s. b s -ℤ a s) segments)
      (int_sum-sub a b segments) (int_sum-sub b a segments) (closed (λ w. one_if (int_lt x w.x)))
    where
      turned : (d u v t : ℤ) → d ≡ u -ℤ v → t ≡ v -ℤ u → t ≡ pos 0 → d ≡ pos 0
      turned d u v t e f g = omega (arith, ints, e, f, g)

  abbrev pub column : ℤ → ℤ
  column x = int_sum (λ (e : Scaled). across x e.0 *ℤ level x e) scaled

  module _ (x : ℤ) (size : ℕ) (enough : sizes (level x) scaled ≤ size) where
    abbrev low : ℤ
    low = neg_ℤ (pos size)

    raised : (e : Scaled) → unsigned_abs (level x e) ≤ size
        → across x e.0 *ℤ level x e ≡ low *ℤ across x e.0 +ℤ up_sum (λ y. across x e.0 *ℤ below itself (level x e) y) low (size + size)
    raised e h =
        ap (λ v. across x e.0 *ℤ v) (back (level x e) low (up_sum (below itself (level x e)) low (size + size))
        (clipped itself (level x e) low (size + size) (low_of size (level x e) h) (high_of size (level x e) h)))
        ∙ same_value (across x e.0 ∷ low ∷ up_sum (below itself (level x e)) low (size + size) ∷ []) (var 0 ⊗ (var 1 ⊕ var 2)) (var 1 ⊗ var 0 ⊕ var 0 ⊗ var 2) refl
        ∙ ap (λ v. low *ℤ across x e.0 +ℤ v) (sym (up_sum-mul (across x e.0) (below itself (level x e)) low (size + size)))
      where
        back : (w l u : ℤ) → u ≡ w -ℤ l → w ≡ l +ℤ u
        back w l u e = omega (arith, ints, e)

    inner : (y : ℤ) → int_sum (λ (e : Scaled). across x e.0 *ℤ below itself (level x e) y) scaled ≡ int_sum (seen (spot n x y)) segments
    inner y =
        int_sum-agree (λ (e : Scaled). across x e.0 *ℤ below itself (level x e) y) (λ e. seen (spot n x y) e.0) scaled
        (All-weaker (IsScaled n) (λ e. across x e.0 *ℤ below itself (level x e) y ≡ seen (spot n x y) e.0) (seen_there n common.positive x y) scaled common.each)
        ∙ over_first (seen (spot n x y))

    column_is : column x ≡ up_sum (λ y. int_sum (seen (spot n x y)) segments) low (size + size)
    column_is =
        int_sum-agree (λ (e : Scaled). across x e.0 *ℤ level x e) (λ e. low *ℤ across x e.0 +ℤ up_sum (λ y. across x e.0 *ℤ below itself (level x e) y) low (size + size)) scaled
        (All-weaker (λ e. unsigned_abs (level x e) ≤ size)
        (λ e. across x e.0 *ℤ level x e ≡ low *ℤ across x e.0 +ℤ up_sum (λ y. across x e.0 *ℤ below itself (level x e) y) low (size + size)) raised scaled
        (All-weaker (λ e. unsigned_abs (level x e) ≤ sizes (level x) scaled) (λ e. unsigned_abs (level x e) ≤ size) (λ e h. omega (arith, h, enough)) scaled (small (level x) scaled)))
        ∙ int_sum-add (λ (e : Scaled). low *ℤ across x e.0) (λ e. up_sum (λ y. across x e.0 *ℤ below itself (level x e) y) low (size + size)) scaled
        ∙ ap₂ (λ u v. u +ℤ v)
        (int_sum-mul low (λ (e : Scaled). across x e.0) scaled ∙ ap (λ z. low *ℤ z) (over_first (across x) ∙ none_across x) ∙ same_value (low ∷ []) (var 0 ⊗ number (pos 0)) (number (pos 0)) refl)
        (up_sum-swap (λ (e : Scaled) y. across x e.0 *ℤ below itself (level x e) y) scaled low (size + size)
        ∙ up_sum-same (λ y. int_sum (λ (e : Scaled). across x e.0 *ℤ below itself (level x e) y) scaled) (λ y. int_sum (seen (spot n x y)) segments) inner low (size + size))
        ∙ front (up_sum (λ y. int_sum (seen (spot n x y)) segments) low (size + size))
      where
        front : (z : ℤ) → pos 0 +ℤ z ≡ z
        front z = omega (arith, ints)

  column_sign : (x : ℤ) → pos 0 ≤ℤ column x
  column_sign x =
      let size = sizes (level x) scaled in
      subst (λ (z : ℤ). pos 0 ≤ℤ z) (sym (column_is x size (omega arith)))
      (up_sum-not_negative (λ y. int_sum (seen (spot n x y)) segments) (λ y. round (spot n x y) (spot_between n common.positive x y)) (neg_ℤ (pos size)) (size + size))

  abbrev wide : ℕ
  wide = sizes (λ (e : Scaled). e.0.a.x) scaled + sizes (λ (e : Scaled). e.0.b.x) scaled

  columns_are : (width : ℕ) → wide ≤ width → n *ℤ int_sum (λ (s : Seg). shoelace_term s.a s.b) segments ≡ up_sum column (neg_ℤ (pos width)) (width + width)
  columns_are width enough =
      ap (λ z. n *ℤ z) (sym (less_nothing _ _ _ (int_sum-sub (λ (s : Seg). shoelace_term s.a s.b) (λ s. s.b.x *ℤ s.b.y -ℤ s.a.x *ℤ s.a.y) segments) (closed (λ w. w.x *ℤ w.y))))
      ∙ sym (int_sum-mul n share segments)
      ∙ sym (over_first (λ s. n *ℤ share s))
      ∙ sym (int_sum-agree (λ (e : Scaled). up_sum (λ x. across x e.0 *ℤ level x e) (neg_ℤ (pos width)) (width + width)) (λ e. n *ℤ share e.0) scaled (λ k d l.
      let e = get_or scaled k d in
      let a = small (λ (e : Scaled). e.0.a.x) scaled k d l in
      let b = small (λ (e : Scaled). e.0.b.x) scaled k d l in
      row_share n e width (common.each k d l) (omega (arith, a, enough)) (omega (arith, b, enough))))
      ∙ up_sum-swap (λ (e : Scaled) x. across x e.0 *ℤ level x e) scaled (neg_ℤ (pos width)) (width + width)
    where
      less_nothing : (d u v : ℤ) → d ≡ u -ℤ v → v ≡ pos 0 → d ≡ u
      less_nothing d u v e f = omega (arith, ints, e, f)

  pub area_sign : pos 0 ≤ℤ int_sum (λ (s : Seg). shoelace_term s.a s.b) segments
  area_sign = not_negative_from_mul n (int_sum (λ (s : Seg). shoelace_term s.a s.b) segments) common.positive
      (subst (λ (z : ℤ). pos 0 ≤ℤ z) (sym (columns_are wide (omega arith))) (up_sum-not_negative column column_sign (neg_ℤ (pos wide)) (wide + wide)))

  -- where one column adds something, so does the whole
  pub area_positive : (x : ℤ) → pos 0 <ℤ column x → pos 0 <ℤ int_sum (λ (s : Seg). shoelace_term s.a s.b) segments
  area_positive x h =
      let width = wide + (unsigned_abs x + 1) in
      positive_from_mul n (int_sum (λ (s : Seg). shoelace_term s.a s.b) segments) common.positive
      (subst (λ (z : ℤ). pos 0 <ℤ z) (sym (columns_are width (omega arith)))
      (up_sum-positive column column_sign x (neg_ℤ (pos width)) (width + width) (start x wide) (end x wide) h))
    where
      start : (x : ℤ) (m : ℕ) → neg_ℤ (pos (m + (unsigned_abs x + 1))) ≤ℤ x
      start x m = omega (arith, ints)

      end : (x : ℤ) (m : ℕ) → x <ℤ (neg_ℤ (pos (m + (unsigned_abs x + 1))) +ℤ pos ((m + (unsigned_abs x + 1)) + (m + (unsigned_abs x + 1))))
      end x m = omega (arith, ints)

  -- and where one point does, so does its column
  pub column_positive : (x y : ℤ) → pos 0 <ℤ int_sum (seen (spot n x y)) segments → pos 0 <ℤ column x
  column_positive x y h =
      let m = sizes (level x) scaled in
      let size = m + (unsigned_abs y + 1) in
      subst (λ (z : ℤ). pos 0 <ℤ z) (sym (column_is x size (omega arith)))
      (up_sum-positive (λ y. int_sum (seen (spot n x y)) segments) (λ y. round (spot n x y) (spot_between n common.positive x y)) y (neg_ℤ (pos size)) (size + size) (start y m) (end y m) h)
    where
      start : (x : ℤ) (m : ℕ) → neg_ℤ (pos (m + (unsigned_abs x + 1))) ≤ℤ x
      start x m = omega (arith, ints)

      end : (x : ℤ) (m : ℕ) → x <ℤ (neg_ℤ (pos (m + (unsigned_abs x + 1))) +ℤ pos ((m + (unsigned_abs x + 1)) + (m + (unsigned_abs x + 1))))
      end x m = omega (arith, ints)

-- closed segments that go round no point clockwise have no negative area
pub area_not_negative : (segments : List Seg) → ((value : Point → ℤ) → int_sum (λ s. value s.b -ℤ value s.a) segments ≡ pos 0)
    → ((p : Fraction) → IsBetweenColumns (line_through p) → pos 0 ≤ℤ int_sum (seen p) segments) → pos 0 ≤ℤ int_sum (λ (s : Seg). shoelace_term s.a s.b) segments
area_not_negative segments closed round = area_sign segments closed round (has_multiple segments)
