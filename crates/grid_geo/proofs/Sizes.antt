-- Numbers within bounds: what is computed of them fits, and the code's bits of it are the number itself.
use Rattle.std.proofs.Common.{◌≡◌, ◌≤◌, ◌*◌, ℕ, true, ℤ, pos, negsuc, ◌+ℤ◌, ◌*ℤ◌, unsigned_abs, FitsSigned, to_z, of_z, Bool, ◌&&◌, refl, sym, ap, ◌∙◌, subst, arith}
use Rattle.std.specs.Int.{w8, w64, w128, int_signum}
use Rattle.std.proofs.lemmas.Int.{ints, unsigned_abs-mul, fits_signed_from_abs, to_z-of_z}
use Rattle.std.proofs.Math.Nat.{mul-le-mul, mul-le-mul_left}
use Rattle.tgap_model.specs.Bounds.{max_coordinate, max_difference, max_cross}
use Rattle.grid_geo.specs.Sizes.{max_scaled, max_height}

-- a number, by its bits in 64 and in 128
abbrev pub word : ℤ → ℤ
word z = to_z w64 (of_z w64 z)

abbrev pub wide : ℤ → ℤ
wide z = to_z w128 (of_z w128 z)

-- a number that fits is the number of its bits
pub word_is : (z : ℤ) → unsigned_abs z ≤ max_difference → word z ≡ z
word_is z h = omega (arith, ints)

pub wide_is : (z : ℤ) → unsigned_abs z ≤ 4 * max_scaled → wide z ≡ z
wide_is z h = omega (arith, ints)

-- the size of a product
pub unsigned_abs-mul_le : (a b : ℤ) (m n : ℕ) → unsigned_abs a ≤ m → unsigned_abs b ≤ n → unsigned_abs (a *ℤ b) ≤ m * n
unsigned_abs-mul_le a b m n h k = subst (λ (z : ℕ). z ≤ m * n) (sym (unsigned_abs-mul a b)) (mul-le-mul h k)

-- the size of a sign
pub signum_size : (z : ℤ) → unsigned_abs (int_signum z) ≤ 1
signum_size (pos n) = omega (arith, ints)
signum_size (negsuc n) = omega (arith, ints)

-- ---- the product of a number and a coordinate or a difference

module _ (a b r : ℤ) (la : unsigned_abs a ≤ max_height) (lb : unsigned_abs b ≤ max_difference) (e : r ≡ word b) where
  -- the code multiplies the numbers themselves
  factors_are : wide a *ℤ wide r ≡ a *ℤ b
  factors_are =
      let er : r ≡ b = e ∙ word_is b lb in
      let ea : wide a ≡ a = omega (arith, ints, la) in
      let eb : wide b ≡ b = omega (arith, ints, lb) in
      rw (er, ea, eb) refl

  -- their product is small, so it fits, and the code has it
  product_size : unsigned_abs (a *ℤ b) ≤ unsigned_abs a * max_difference
  product_size = let le : unsigned_abs a * unsigned_abs b ≤ unsigned_abs a * max_difference = mul-le-mul_left (unsigned_abs a) lb in omega (arith, unsigned_abs-mul a b, le)

  fits : (z : ℤ) (m : ℕ) → unsigned_abs z ≤ m * max_difference → m ≤ max_height → FitsSigned w128 z
  fits z m h l = fits_signed_from_abs w128 z (omega (arith, h, l))

  pub product_fits : FitsSigned w128 (wide a *ℤ wide r)
  product_fits = subst (λ (z : ℤ). FitsSigned w128 z) (sym factors_are) (fits (a *ℤ b) (unsigned_abs a) product_size la)

  pub product_is : wide (wide a *ℤ wide r) ≡ a *ℤ b
  product_is = ap wide factors_are ∙ to_z-of_z w128 (a *ℤ b) (fits (a *ℤ b) (unsigned_abs a) product_size la)

  pub product_is_small : unsigned_abs (wide (wide a *ℤ wide r)) ≤ unsigned_abs a * max_difference
  product_is_small = subst (λ (x : ℤ). unsigned_abs x ≤ unsigned_abs a * max_difference) (sym product_is) product_size

-- ---- a sign times the sum of two products

module _ (turn start across extent g p q : ℤ) (lt : unsigned_abs turn ≤ max_cross) (ls : unsigned_abs start ≤ max_coordinate)
    (la : unsigned_abs across ≤ max_cross) (le : unsigned_abs extent ≤ max_difference) (eg : g ≡ int_signum (wide turn))
    (ep : p ≡ wide turn *ℤ word start) (sp : unsigned_abs p ≤ unsigned_abs (wide turn) * max_difference)
    (eq : q ≡ wide across *ℤ word extent) (sq : unsigned_abs q ≤ unsigned_abs (wide across) * max_difference) where
  -- the sizes of the products
  scaled_size : (f z : ℤ) → unsigned_abs f ≤ max_cross → unsigned_abs z ≤ unsigned_abs (wide f) * max_difference → unsigned_abs z ≤ max_scaled
  scaled_size f z h k = omega (arith, k, h, ap (λ (y : ℤ). unsigned_abs y) (wide_is f (omega (arith, h))))

  lp : unsigned_abs p ≤ max_scaled
  lp = scaled_size turn p lt sp

  lq : unsigned_abs q ≤ max_scaled
  lq = scaled_size across q la sq

  -- the sign, and its size
  sign_is : g ≡ int_signum turn
  sign_is = eg ∙ ap int_signum (wide_is turn (omega (arith, lt)))

  sign_size : unsigned_abs g ≤ 1
  sign_size = subst (λ (z : ℤ). unsigned_abs z ≤ 1) (sym sign_is) (signum_size turn)

  -- the sum, and its size
  sum_is : wide (wide p +ℤ wide q) ≡ p +ℤ q
  sum_is = is p q lp lq
    where
      is : (x y : ℤ) → unsigned_abs x ≤ max_scaled → unsigned_abs y ≤ max_scaled → wide (wide x +ℤ wide y) ≡ x +ℤ y
      is x y h k = omega (arith, ints)

  sum_size : unsigned_abs (p +ℤ q) ≤ 2 * max_scaled
  sum_size = small p q lp lq
    where
      small : (x y : ℤ) → unsigned_abs x ≤ max_scaled → unsigned_abs y ≤ max_scaled → unsigned_abs (x +ℤ y) ≤ 2 * max_scaled
      small x y h k = omega (arith, ints)

  -- their product, and its size
  signed_is : wide g *ℤ wide (wide p +ℤ wide q) ≡ g *ℤ (p +ℤ q)
  signed_is = ap (λ (z : ℤ). z *ℤ wide (wide p +ℤ wide q)) (wide_is g (omega (arith, sign_size))) ∙ ap (λ (z : ℤ). g *ℤ z) sum_is

  signed_size : unsigned_abs (g *ℤ (p +ℤ q)) ≤ 2 * max_scaled
  signed_size = unsigned_abs-mul_le g (p +ℤ q) 1 (2 * max_scaled) sign_size sum_size

  -- it fits
  pub coordinate_fits : FitsSigned w128 (wide g *ℤ wide (wide p +ℤ wide q))
  coordinate_fits = subst (λ (z : ℤ). FitsSigned w128 z) (sym signed_is) (fits_signed_from_abs w128 (g *ℤ (p +ℤ q)) (omega (arith, signed_size)))

  -- the sum is that of the products
  sum_of_products : p +ℤ q ≡ turn *ℤ start +ℤ across *ℤ extent
  sum_of_products =
      let a = wide_is turn (omega (arith, lt)) in
      let b = word_is start (omega (arith, ls)) in
      let c = wide_is across (omega (arith, la)) in
      let d = word_is extent le in
      cc

  -- so it is the coordinate
  pub coordinate_is : wide (wide g *ℤ wide (wide p +ℤ wide q)) ≡ int_signum turn *ℤ (turn *ℤ start +ℤ across *ℤ extent)
  coordinate_is = ap wide signed_is ∙ wide_is (g *ℤ (p +ℤ q)) (omega (arith, signed_size)) ∙ ap (λ (z : ℤ). z *ℤ (p +ℤ q)) sign_is ∙ ap (λ (z : ℤ). int_signum turn *ℤ z) sum_of_products

-- ---- the sum of two coordinates

-- the sum of two numbers of 64 bits, in 128 bits
pub sum_of_words : (a b p q : ℤ) → FitsSigned w64 a → FitsSigned w64 b → p ≡ word a → q ≡ word b → wide (wide p +ℤ wide q) ≡ a +ℤ b
sum_of_words a b p q fa fb ep eq = omega (arith, ints)

-- ---- two tests

-- both hold where the first does and the second is this one
pub then_both : {a b r : Bool} → a ≡ true → r ≡ b → r ≡ (a && b)
then_both e f = cc

-- ---- a sign in 8 bits

-- the sign of a cross product, its size, and its bits
sign_is_small : (z g : ℤ) → unsigned_abs z ≤ max_cross → g ≡ int_signum (wide z) → unsigned_abs g ≤ 1
sign_is_small z g h e = subst (λ (x : ℤ). unsigned_abs x ≤ 1) (sym e) (signum_size (wide z))

pub sign_fits : (z g : ℤ) → unsigned_abs z ≤ max_cross → g ≡ int_signum (wide z) → FitsSigned w8 (wide g)
sign_fits z g h e = let small = sign_is_small z g h e in omega (arith, ints)

pub sign_cast : (z g : ℤ) → unsigned_abs z ≤ max_cross → g ≡ int_signum (wide z) → to_z w8 (of_z w8 (wide g)) ≡ int_signum z
sign_cast z g h e =
    let small = sign_is_small z g h e in
    let same : to_z w8 (of_z w8 (wide g)) ≡ g = omega (arith, ints) in
    same ∙ e ∙ ap int_signum (wide_is z (omega (arith, h)))

-- ---- a number whose bits are 0

-- a number is 0 where its bits are
pub zero_from_bits : (z : ℤ) → unsigned_abs z ≤ max_cross → of_z w128 z ≡ 0 → z ≡ pos 0
zero_from_bits z h e = omega (arith, ints)
