-- The order of the integers with products, the sign of a product and of a sum of products, and absolute values.
use Rattle.std.proofs.Common.{◌≡◌, ◌≢◌, ◌⊎◌, inl, inr, zero, suc, false, Decides, ℤ, pos, negsuc, ◌+ℤ◌, ◌-ℤ◌, ◌*ℤ◌, neg_ℤ, ◌<ℤ◌, ◌≤ℤ◌, int_lt, int_le, unsigned_abs, refl, sym, ap, ◌∙◌, subst, arith}
use Rattle.std.specs.Int.{int_signum}
use Rattle.std.specs.Int.Signed.{clash_ℤ}
use Rattle.std.proofs.lemmas.Int.{ints, by_lt_z}
use Rattle.std.proofs.Math.IntN.{*ℤ_comm, zero-*ℤ, +ℤ_comm}
use Rattle.lemmas.proofs.Integers.{*ℤ-sub, neg-*ℤ, *ℤ-neg}

-- ---- tests

-- the tests decide the order
pub Decides-int_lt : (a b : ℤ) → Decides (int_lt a b) (a <ℤ b)
Decides-int_lt a b = (λ e. omega (arith, ints), λ h. sym (omega (arith, ints)))

pub Decides-int_le : (a b : ℤ) → Decides (int_le a b) (a ≤ℤ b)
Decides-int_le a b = (λ e. omega (arith, ints), λ h. sym (omega (arith, ints)))

-- a test that fails says the opposite order, and the other way round
pub int_lt-false : (a b : ℤ) → int_lt a b ≡ false → b ≤ℤ a
int_lt-false a b e = omega (arith, ints)

pub int_lt-from_le : {a b : ℤ} → b ≤ℤ a → int_lt a b ≡ false
int_lt-from_le h = sym (omega (arith, ints))

pub int_le-false : (a b : ℤ) → int_le a b ≡ false → b <ℤ a
int_le-false a b e = omega (arith, ints)

pub int_le-from_lt : {a b : ℤ} → b <ℤ a → int_le a b ≡ false
int_le-from_lt h = sym (omega (arith, ints))

-- ---- the order

-- the three cases of two integers, and of the sign of one
pub by_order : {P : Type 0} (a b : ℤ) → (a <ℤ b → P) → (a ≡ b → P) → (b <ℤ a → P) → P
by_order a b f g h = by_lt_z a b f (λ u. by_lt_z b a h (λ v. g (omega (arith, ints))))

pub by_sign : {P : Type 0} (a : ℤ) → (a <ℤ pos 0 → P) → (a ≡ pos 0 → P) → (pos 0 <ℤ a → P) → P
by_sign a f g h = by_order a (pos 0) f g h

-- orders join
pub lt_lt_trans : {a b c : ℤ} → a <ℤ b → b <ℤ c → a <ℤ c
lt_lt_trans h k = omega (arith, ints)

pub lt_le_trans : {a b c : ℤ} → a <ℤ b → b ≤ℤ c → a <ℤ c
lt_le_trans h k = omega (arith, ints)

pub le_lt_trans : {a b c : ℤ} → a ≤ℤ b → b <ℤ c → a <ℤ c
le_lt_trans h k = omega (arith, ints)

pub le_le_trans : {a b c : ℤ} → a ≤ℤ b → b ≤ℤ c → a ≤ℤ c
le_le_trans h k = omega (arith, ints)

pub le_from_lt : {a b : ℤ} → a <ℤ b → a ≤ℤ b
le_from_lt h = omega (arith, ints)

pub same_from_le : {a b : ℤ} → a ≤ℤ b → b ≤ℤ a → a ≡ b
same_from_le h k = omega (arith, ints)

-- two different integers are in one order or the other
pub apart_cases : (a b : ℤ) → a ≢ b → (a <ℤ b) ⊎ (b <ℤ a)
apart_cases a b n = by_order a b inl (λ e. absurd (n e)) inr

-- what is less is different
pub apart_from_lt : {a b : ℤ} → a <ℤ b → a ≢ b
apart_from_lt h e = omega (arith, ints)

pub le_from_same : {a b : ℤ} → a ≡ b → a ≤ℤ b
le_from_same e = omega (arith, ints)

-- the negative has the other sign
pub neg_positive : {a : ℤ} → a <ℤ pos 0 → pos 0 <ℤ neg_ℤ a
neg_positive h = omega (arith, ints)

pub neg_negative : {a : ℤ} → pos 0 <ℤ a → neg_ℤ a <ℤ pos 0
neg_negative h = omega (arith, ints)

pub neg_not_negative : {a : ℤ} → a ≤ℤ pos 0 → pos 0 ≤ℤ neg_ℤ a
neg_not_negative h = omega (arith, ints)

pub neg_not_positive : {a : ℤ} → pos 0 ≤ℤ a → neg_ℤ a ≤ℤ pos 0
neg_not_positive h = omega (arith, ints)

-- an order says the sign of the difference, and the sign the order
pub sub_positive : {a b : ℤ} → a <ℤ b → pos 0 <ℤ (b -ℤ a)
sub_positive h = omega (arith, ints)

pub sub_negative : {a b : ℤ} → a <ℤ b → (a -ℤ b) <ℤ pos 0
sub_negative h = omega (arith, ints)

pub lt_from_sub : (a b : ℤ) → pos 0 <ℤ (b -ℤ a) → a <ℤ b
lt_from_sub a b h = omega (arith, ints)

pub sub_not_negative : {a b : ℤ} → a ≤ℤ b → pos 0 ≤ℤ (b -ℤ a)
sub_not_negative h = omega (arith, ints)

pub le_from_sub : (a b : ℤ) → pos 0 ≤ℤ (b -ℤ a) → a ≤ℤ b
le_from_sub a b h = omega (arith, ints)

pub sub_zero : {a b : ℤ} → a ≡ b → b -ℤ a ≡ pos 0
sub_zero {a} {b} e = omega (arith, ints)

pub same_from_sub : (a b : ℤ) → b -ℤ a ≡ pos 0 → a ≡ b
same_from_sub a b e = omega (arith, ints)

-- c and d are in the order of a and b where their difference is the same
pub lt_by : {a b c d : ℤ} → a <ℤ b → d -ℤ c ≡ b -ℤ a → c <ℤ d
lt_by {a} {b} {c} {d} h e = lt_from_sub c d (subst (λ (z : ℤ). pos 0 <ℤ z) (sym e) (sub_positive h))

pub le_by : {a b c d : ℤ} → a ≤ℤ b → d -ℤ c ≡ b -ℤ a → c ≤ℤ d
le_by {a} {b} {c} {d} h e = le_from_sub c d (subst (λ (z : ℤ). pos 0 ≤ℤ z) (sym e) (sub_not_negative h))

pub same_by : {a b c d : ℤ} → a ≡ b → d -ℤ c ≡ b -ℤ a → c ≡ d
same_by {a} {b} {c} {d} h e = same_from_sub c d (e ∙ sub_zero h)

-- ---- products

pub mul_positive : {a b : ℤ} → pos 0 <ℤ a → pos 0 <ℤ b → pos 0 <ℤ (a *ℤ b)
mul_positive {a} {b} h k = by a b h k
  where
    by : (a b : ℤ) → pos 0 <ℤ a → pos 0 <ℤ b → pos 0 <ℤ (a *ℤ b)
    by (pos zero) b h k = absurd (omega (arith, ints))
    by (pos (suc m)) (pos zero) h k = absurd (omega (arith, ints))
    by (pos (suc m)) (pos (suc n)) h k = omega (arith, ints)
    by (pos (suc m)) (negsuc n) h k = absurd (omega (arith, ints))
    by (negsuc m) b h k = absurd (omega (arith, ints))

-- what is said of the negative, the other way
positive_neg : (a : ℤ) → pos 0 <ℤ neg_ℤ a → a <ℤ pos 0
positive_neg a h = omega (arith, ints)

negative_neg : (a : ℤ) → neg_ℤ a <ℤ pos 0 → pos 0 <ℤ a
negative_neg a h = omega (arith, ints)

not_negative_neg : (a : ℤ) → pos 0 ≤ℤ neg_ℤ a → a ≤ℤ pos 0
not_negative_neg a h = omega (arith, ints)

pub mul_negative_right : {a b : ℤ} → pos 0 <ℤ a → b <ℤ pos 0 → (a *ℤ b) <ℤ pos 0
mul_negative_right {a} {b} h k = positive_neg (a *ℤ b) (subst (λ (z : ℤ). pos 0 <ℤ z) (*ℤ-neg a b) (mul_positive h (neg_positive k)))

pub mul_negative_left : {a b : ℤ} → a <ℤ pos 0 → pos 0 <ℤ b → (a *ℤ b) <ℤ pos 0
mul_negative_left {a} {b} h k = positive_neg (a *ℤ b) (subst (λ (z : ℤ). pos 0 <ℤ z) (neg-*ℤ a b) (mul_positive (neg_positive h) k))

pub mul_negatives : {a b : ℤ} → a <ℤ pos 0 → b <ℤ pos 0 → pos 0 <ℤ (a *ℤ b)
mul_negatives {a} {b} h k = negative_neg (a *ℤ b) (subst (λ (z : ℤ). z <ℤ pos 0) (neg-*ℤ a b) (mul_negative_right (neg_positive h) k))

pub mul_not_negative : {a b : ℤ} → pos 0 ≤ℤ a → pos 0 ≤ℤ b → pos 0 ≤ℤ (a *ℤ b)
mul_not_negative {a} {b} h k = by a b h k
  where
    by : (a b : ℤ) → pos 0 ≤ℤ a → pos 0 ≤ℤ b → pos 0 ≤ℤ (a *ℤ b)
    by (pos m) (pos n) h k = omega (arith, ints)
    by (pos m) (negsuc n) h k = absurd (omega (arith, ints))
    by (negsuc m) b h k = absurd (omega (arith, ints))

pub mul_not_positive : {a b : ℤ} → pos 0 ≤ℤ a → b ≤ℤ pos 0 → (a *ℤ b) ≤ℤ pos 0
mul_not_positive {a} {b} h k = not_negative_neg (a *ℤ b) (subst (λ (z : ℤ). pos 0 ≤ℤ z) (*ℤ-neg a b) (mul_not_negative h (neg_not_negative k)))

pub square_not_negative : (a : ℤ) → pos 0 ≤ℤ (a *ℤ a)
square_not_negative (pos m) = omega (arith, ints)
square_not_negative (negsuc m) = omega (arith, ints)

pub square_positive : (a : ℤ) → a ≢ pos 0 → pos 0 <ℤ (a *ℤ a)
square_positive a n = by_sign a (λ h. mul_negatives h h) (λ e. absurd (n e)) (λ h. mul_positive h h)

-- a product is 0 only where a factor is
pub mul_zero_cases : (a b : ℤ) → a *ℤ b ≡ pos 0 → (a ≡ pos 0) ⊎ (b ≡ pos 0)
mul_zero_cases a b e = by_sign a
    (λ h. by_sign b (λ k. absurd (apart_from_lt (mul_negatives h k) (sym e))) inr (λ k. absurd (apart_from_lt (mul_negative_left h k) e)))
    inl
    (λ h. by_sign b (λ k. absurd (apart_from_lt (mul_negative_right h k) e)) inr (λ k. absurd (apart_from_lt (mul_positive h k) (sym e))))

pub mul_not_zero : {a b : ℤ} → a ≢ pos 0 → b ≢ pos 0 → a *ℤ b ≢ pos 0
mul_not_zero {a} {b} m n e = elim (mul_zero_cases a b e) [ inl f ↦ m f | inr f ↦ n f ]

-- ---- a positive factor keeps and reflects the order

pub mul_lt_left : {a b c : ℤ} → pos 0 <ℤ c → a <ℤ b → (c *ℤ a) <ℤ (c *ℤ b)
mul_lt_left {a} {b} {c} h k = lt_from_sub (c *ℤ a) (c *ℤ b) (subst (λ (z : ℤ). pos 0 <ℤ z) (*ℤ-sub c b a) (mul_positive h (sub_positive k)))

pub mul_le_left : {a b c : ℤ} → pos 0 ≤ℤ c → a ≤ℤ b → (c *ℤ a) ≤ℤ (c *ℤ b)
mul_le_left {a} {b} {c} h k = le_from_sub (c *ℤ a) (c *ℤ b) (subst (λ (z : ℤ). pos 0 ≤ℤ z) (*ℤ-sub c b a) (mul_not_negative h (sub_not_negative k)))

pub lt_from_mul_left : {a b : ℤ} (c : ℤ) → pos 0 <ℤ c → (c *ℤ a) <ℤ (c *ℤ b) → a <ℤ b
lt_from_mul_left {a} {b} c h k = by_lt_z a b (λ l. l) (λ l. clash_ℤ k (mul_le_left (le_from_lt h) l))

pub le_from_mul_left : {a b : ℤ} (c : ℤ) → pos 0 <ℤ c → (c *ℤ a) ≤ℤ (c *ℤ b) → a ≤ℤ b
le_from_mul_left {a} {b} c h k = by_lt_z b a (λ l. clash_ℤ (mul_lt_left h l) k) (λ l. l)

pub mul_lt_right : {a b c : ℤ} → pos 0 <ℤ c → a <ℤ b → (a *ℤ c) <ℤ (b *ℤ c)
mul_lt_right {a} {b} {c} h k = subst (λ (z : ℤ). z <ℤ (b *ℤ c)) (*ℤ_comm c a) (subst (λ (z : ℤ). (c *ℤ a) <ℤ z) (*ℤ_comm c b) (mul_lt_left h k))

pub mul_le_right : {a b c : ℤ} → pos 0 ≤ℤ c → a ≤ℤ b → (a *ℤ c) ≤ℤ (b *ℤ c)
mul_le_right {a} {b} {c} h k = subst (λ (z : ℤ). z ≤ℤ (b *ℤ c)) (*ℤ_comm c a) (subst (λ (z : ℤ). (c *ℤ a) ≤ℤ z) (*ℤ_comm c b) (mul_le_left h k))

pub lt_from_mul_right : {a b : ℤ} (c : ℤ) → pos 0 <ℤ c → (a *ℤ c) <ℤ (b *ℤ c) → a <ℤ b
lt_from_mul_right {a} {b} c h k = lt_from_mul_left c h (subst (λ (z : ℤ). z <ℤ (c *ℤ b)) (*ℤ_comm a c) (subst (λ (z : ℤ). (a *ℤ c) <ℤ z) (*ℤ_comm b c) k))

pub le_from_mul_right : {a b : ℤ} (c : ℤ) → pos 0 <ℤ c → (a *ℤ c) ≤ℤ (b *ℤ c) → a ≤ℤ b
le_from_mul_right {a} {b} c h k = le_from_mul_left c h (subst (λ (z : ℤ). z ≤ℤ (c *ℤ b)) (*ℤ_comm a c) (subst (λ (z : ℤ). (a *ℤ c) ≤ℤ z) (*ℤ_comm b c) k))

-- a factor other than 0 cancels
pub same_from_mul_left : {a b : ℤ} (c : ℤ) → c ≢ pos 0 → c *ℤ a ≡ c *ℤ b → a ≡ b
same_from_mul_left {a} {b} c n e = elim (mul_zero_cases c (b -ℤ a) (*ℤ-sub c b a ∙ sub_zero e)) [ inl f ↦ absurd (n f) | inr f ↦ same_from_sub a b f ]

pub same_from_mul_right : {a b : ℤ} (c : ℤ) → c ≢ pos 0 → a *ℤ c ≡ b *ℤ c → a ≡ b
same_from_mul_right {a} {b} c n e = same_from_mul_left c n (*ℤ_comm c a ∙ e ∙ *ℤ_comm b c)

-- a negative factor turns the order round
pub mul_lt_left_negative : {a b c : ℤ} → c <ℤ pos 0 → a <ℤ b → (c *ℤ b) <ℤ (c *ℤ a)
mul_lt_left_negative {a} {b} {c} h k = lt_from_sub (c *ℤ b) (c *ℤ a) (subst (λ (z : ℤ). pos 0 <ℤ z) (*ℤ-sub c a b) (mul_negatives h (sub_negative k)))

-- the sign of a factor, from that of the product and of the positive other factor
pub positive_from_mul : (a b : ℤ) → pos 0 <ℤ a → pos 0 <ℤ (a *ℤ b) → pos 0 <ℤ b
positive_from_mul a b h k = by_lt_z (pos 0) b (λ l. l) (λ l. clash_ℤ k (mul_not_positive (le_from_lt h) l))

pub not_negative_from_mul : (a b : ℤ) → pos 0 <ℤ a → pos 0 ≤ℤ (a *ℤ b) → pos 0 ≤ℤ b
not_negative_from_mul a b h k = by_lt_z b (pos 0) (λ l. clash_ℤ (mul_negative_right h l) k) (λ l. l)

pub negative_from_mul : (a b : ℤ) → pos 0 <ℤ a → (a *ℤ b) <ℤ pos 0 → b <ℤ pos 0
negative_from_mul a b h k = by_lt_z b (pos 0) (λ l. l) (λ l. clash_ℤ k (mul_not_negative (le_from_lt h) l))

pub not_positive_from_mul : (a b : ℤ) → pos 0 <ℤ a → (a *ℤ b) ≤ℤ pos 0 → b ≤ℤ pos 0
not_positive_from_mul a b h k = by_lt_z (pos 0) b (λ l. clash_ℤ (mul_positive h l) k) (λ l. l)

-- the signs of two factors, from that of their product
pub same_signs : (a b : ℤ) → pos 0 <ℤ (a *ℤ b) → ((pos 0 <ℤ a) × (pos 0 <ℤ b)) ⊎ ((a <ℤ pos 0) × (b <ℤ pos 0))
same_signs a b h = by_sign a
    (λ k. inr (k, negative_from_mul (neg_ℤ a) b (neg_positive k) (subst (λ (z : ℤ). z <ℤ pos 0) (sym (neg-*ℤ a b)) (neg_negative h))))
    (λ e. absurd (apart_from_lt h (sym (ap (λ (z : ℤ). z *ℤ b) e ∙ zero-*ℤ b))))
    (λ k. inl (k, positive_from_mul a b k h))

pub opposite_signs : (a b : ℤ) → (a *ℤ b) <ℤ pos 0 → ((pos 0 <ℤ a) × (b <ℤ pos 0)) ⊎ ((a <ℤ pos 0) × (pos 0 <ℤ b))
opposite_signs a b h = by_sign a
    (λ k. inr (k, positive_from_mul (neg_ℤ a) b (neg_positive k) (subst (λ (z : ℤ). pos 0 <ℤ z) (sym (neg-*ℤ a b)) (neg_positive h))))
    (λ e. absurd (apart_from_lt h (ap (λ (z : ℤ). z *ℤ b) e ∙ zero-*ℤ b)))
    (λ k. inl (k, negative_from_mul a b k h))

-- ---- the sign of g, where m * e + n * f ≡ k * g with m, n and k positive

plus_positive : {x y : ℤ} (z : ℤ) → pos 0 <ℤ x → pos 0 ≤ℤ y → x +ℤ y ≡ z → pos 0 <ℤ z
plus_positive z h k e = omega (arith, ints)

plus_not_negative : {x y : ℤ} (z : ℤ) → pos 0 ≤ℤ x → pos 0 ≤ℤ y → x +ℤ y ≡ z → pos 0 ≤ℤ z
plus_not_negative z h k e = omega (arith, ints)

plus_negative : {x y : ℤ} (z : ℤ) → x <ℤ pos 0 → y ≤ℤ pos 0 → x +ℤ y ≡ z → z <ℤ pos 0
plus_negative z h k e = omega (arith, ints)

plus_not_positive : {x y : ℤ} (z : ℤ) → x ≤ℤ pos 0 → y ≤ℤ pos 0 → x +ℤ y ≡ z → z ≤ℤ pos 0
plus_not_positive z h k e = omega (arith, ints)

-- both parts are positive, the first one or the second one is and the other is not negative, or neither is negative
pub positive_by : {m n k e f g : ℤ} → pos 0 <ℤ m → pos 0 <ℤ n → pos 0 <ℤ k → pos 0 <ℤ e → pos 0 <ℤ f → m *ℤ e +ℤ n *ℤ f ≡ k *ℤ g → pos 0 <ℤ g
positive_by {k = k} {g = g} m n h e f q = positive_from_mul k g h (plus_positive _ (mul_positive m e) (le_from_lt (mul_positive n f)) q)

pub positive_by_first : {m n k e f g : ℤ} → pos 0 <ℤ m → pos 0 ≤ℤ n → pos 0 <ℤ k → pos 0 <ℤ e → pos 0 ≤ℤ f → m *ℤ e +ℤ n *ℤ f ≡ k *ℤ g → pos 0 <ℤ g
positive_by_first {k = k} {g = g} m n h e f q = positive_from_mul k g h (plus_positive _ (mul_positive m e) (mul_not_negative n f) q)

pub positive_by_second : {m n k e f g : ℤ} → pos 0 ≤ℤ m → pos 0 <ℤ n → pos 0 <ℤ k → pos 0 ≤ℤ e → pos 0 <ℤ f → m *ℤ e +ℤ n *ℤ f ≡ k *ℤ g → pos 0 <ℤ g
positive_by_second {m} {n} {k} {e} {f} {g} i j h a b q = positive_from_mul k g h (plus_positive _ (mul_positive j b) (mul_not_negative i a) (+ℤ_comm (n *ℤ f) (m *ℤ e) ∙ q))

pub not_negative_by : {m n k e f g : ℤ} → pos 0 ≤ℤ m → pos 0 ≤ℤ n → pos 0 <ℤ k → pos 0 ≤ℤ e → pos 0 ≤ℤ f → m *ℤ e +ℤ n *ℤ f ≡ k *ℤ g → pos 0 ≤ℤ g
not_negative_by {k = k} {g = g} m n h e f q = not_negative_from_mul k g h (plus_not_negative _ (mul_not_negative m e) (mul_not_negative n f) q)

-- both parts are negative, the first one or the second one is and the other is not positive, or neither is positive
pub negative_by : {m n k e f g : ℤ} → pos 0 <ℤ m → pos 0 <ℤ n → pos 0 <ℤ k → e <ℤ pos 0 → f <ℤ pos 0 → m *ℤ e +ℤ n *ℤ f ≡ k *ℤ g → g <ℤ pos 0
negative_by {k = k} {g = g} m n h e f q = negative_from_mul k g h (plus_negative _ (mul_negative_right m e) (le_from_lt (mul_negative_right n f)) q)

pub negative_by_first : {m n k e f g : ℤ} → pos 0 <ℤ m → pos 0 ≤ℤ n → pos 0 <ℤ k → e <ℤ pos 0 → f ≤ℤ pos 0 → m *ℤ e +ℤ n *ℤ f ≡ k *ℤ g → g <ℤ pos 0
negative_by_first {k = k} {g = g} m n h e f q = negative_from_mul k g h (plus_negative _ (mul_negative_right m e) (mul_not_positive n f) q)

pub negative_by_second : {m n k e f g : ℤ} → pos 0 ≤ℤ m → pos 0 <ℤ n → pos 0 <ℤ k → e ≤ℤ pos 0 → f <ℤ pos 0 → m *ℤ e +ℤ n *ℤ f ≡ k *ℤ g → g <ℤ pos 0
negative_by_second {m} {n} {k} {e} {f} {g} i j h a b q = negative_from_mul k g h (plus_negative _ (mul_negative_right j b) (mul_not_positive i a) (+ℤ_comm (n *ℤ f) (m *ℤ e) ∙ q))

pub not_positive_by : {m n k e f g : ℤ} → pos 0 ≤ℤ m → pos 0 ≤ℤ n → pos 0 <ℤ k → e ≤ℤ pos 0 → f ≤ℤ pos 0 → m *ℤ e +ℤ n *ℤ f ≡ k *ℤ g → g ≤ℤ pos 0
not_positive_by {k = k} {g = g} m n h e f q = not_positive_from_mul k g h (plus_not_positive _ (mul_not_positive m e) (mul_not_positive n f) q)

-- with both parts 0 it is 0
pub zero_by : (m n : ℤ) {k e f g : ℤ} → pos 0 <ℤ k → e ≡ pos 0 → f ≡ pos 0 → m *ℤ e +ℤ n *ℤ f ≡ k *ℤ g → g ≡ pos 0
zero_by m n {k} {e} {f} {g} h a b q =
    let p : k *ℤ g ≡ k *ℤ pos 0 = sym q ∙ subst (λ (x : ℤ). m *ℤ x +ℤ n *ℤ f ≡ pos 0) (sym a) (subst (λ (x : ℤ). m *ℤ pos 0 +ℤ n *ℤ x ≡ pos 0) (sym b) nothing) ∙ omega (arith, ints) in
    same_from_mul_left k (λ z. apart_from_lt h (sym z)) p
  where
    nothing : m *ℤ pos 0 +ℤ n *ℤ pos 0 ≡ pos 0
    nothing = omega (arith, ints)

-- three parts: none is negative, or beside that the first one is positive
plus_not_negatives : {x y z : ℤ} (s : ℤ) → pos 0 ≤ℤ x → pos 0 ≤ℤ y → pos 0 ≤ℤ z → x +ℤ y +ℤ z ≡ s → pos 0 ≤ℤ s
plus_not_negatives s h i j q = omega (arith, ints)

plus_positives : {x y z : ℤ} (s : ℤ) → pos 0 <ℤ x → pos 0 ≤ℤ y → pos 0 ≤ℤ z → x +ℤ y +ℤ z ≡ s → pos 0 <ℤ s
plus_positives s h i j q = omega (arith, ints)

pub not_negative_by_three : {l m n k e f g h : ℤ} → pos 0 ≤ℤ l → pos 0 ≤ℤ m → pos 0 ≤ℤ n → pos 0 <ℤ k → pos 0 ≤ℤ e → pos 0 ≤ℤ f → pos 0 ≤ℤ g → l *ℤ e +ℤ m *ℤ f +ℤ n *ℤ g ≡ k *ℤ h → pos 0 ≤ℤ h
not_negative_by_three {k = k} {h = h} l m n p e f g q = not_negative_from_mul k h p (plus_not_negatives _ (mul_not_negative l e) (mul_not_negative m f) (mul_not_negative n g) q)

pub positive_by_three : {l m n k e f g h : ℤ} → pos 0 <ℤ l → pos 0 ≤ℤ m → pos 0 ≤ℤ n → pos 0 <ℤ k → pos 0 <ℤ e → pos 0 ≤ℤ f → pos 0 ≤ℤ g → l *ℤ e +ℤ m *ℤ f +ℤ n *ℤ g ≡ k *ℤ h → pos 0 <ℤ h
positive_by_three {k = k} {h = h} l m n p e f g q = positive_from_mul k h p (plus_positives _ (mul_positive l e) (mul_not_negative m f) (mul_not_negative n g) q)

-- ---- `signum`

pub int_signum-positive : {z : ℤ} → pos 0 <ℤ z → int_signum z ≡ pos 1
int_signum-positive {z} h = by z h
  where
    by : (z : ℤ) → pos 0 <ℤ z → int_signum z ≡ pos 1
    by (pos zero) h = absurd (omega (arith, ints))
    by (pos (suc n)) h = omega (arith, ints)
    by (negsuc n) h = absurd (omega (arith, ints))

pub int_signum-zero : {z : ℤ} → z ≡ pos 0 → int_signum z ≡ pos 0
int_signum-zero e = ap int_signum e

pub int_signum-negative : {z : ℤ} → z <ℤ pos 0 → int_signum z ≡ negsuc 0
int_signum-negative {z} h = by z h
  where
    by : (z : ℤ) → z <ℤ pos 0 → int_signum z ≡ negsuc 0
    by (pos n) h = absurd (omega (arith, ints))
    by (negsuc n) h = refl

-- the three cases, each with the sign
pub by_signum : {P : Type 0} (z : ℤ) → (z <ℤ pos 0 → int_signum z ≡ negsuc 0 → P) → (z ≡ pos 0 → int_signum z ≡ pos 0 → P) → (pos 0 <ℤ z → int_signum z ≡ pos 1 → P) → P
by_signum z f g h = by_sign z (λ l. f l (int_signum-negative l)) (λ l. g l (int_signum-zero l)) (λ l. h l (int_signum-positive l))

pub positive_from_signum : (z : ℤ) → int_signum z ≡ pos 1 → pos 0 <ℤ z
positive_from_signum z e = by_signum z (λ _ f. (cc)) (λ _ f. (cc)) (λ l _. l)

pub zero_from_signum : (z : ℤ) → int_signum z ≡ pos 0 → z ≡ pos 0
zero_from_signum z e = by_signum z (λ _ f. (cc)) (λ l _. l) (λ _ f. (cc))

pub negative_from_signum : (z : ℤ) → int_signum z ≡ negsuc 0 → z <ℤ pos 0
negative_from_signum z e = by_signum z (λ l _. l) (λ _ f. (cc)) (λ _ f. (cc))

pub int_signum-neg : (z : ℤ) → int_signum (neg_ℤ z) ≡ neg_ℤ (int_signum z)
int_signum-neg (pos zero) = refl
int_signum-neg (pos (suc n)) = sym (ap neg_ℤ (int_signum-positive {z = pos (suc n)} (omega (arith, ints))))
int_signum-neg (negsuc n) = int_signum-positive {z = pos (suc n)} (omega (arith, ints))

pub int_signum-mul : (a b : ℤ) → int_signum (a *ℤ b) ≡ int_signum a *ℤ int_signum b
int_signum-mul a b = by_signum a
    (λ h e. by_signum b
    (λ k f. int_signum-positive (mul_negatives h k) ∙ sym (times e f))
    (λ k f. int_signum-zero (ap (λ (z : ℤ). a *ℤ z) k ∙ omega (arith, ints)) ∙ sym (times e f))
    (λ k f. int_signum-negative (mul_negative_left h k) ∙ sym (times e f)))
    (λ h e. int_signum-zero (ap (λ (z : ℤ). z *ℤ b) h ∙ omega (arith, ints)) ∙ sym (ap (λ (z : ℤ). z *ℤ int_signum b) e ∙ omega (arith, ints)))
    (λ h e. by_signum b
    (λ k f. int_signum-negative (mul_negative_right h k) ∙ sym (times e f))
    (λ k f. int_signum-zero (ap (λ (z : ℤ). a *ℤ z) k ∙ omega (arith, ints)) ∙ sym (times e f))
    (λ k f. int_signum-positive (mul_positive h k) ∙ sym (times e f)))
  where
    times : {x y s t : ℤ} → x ≡ s → y ≡ t → x *ℤ y ≡ s *ℤ t
    times {x} {y} {s} {t} e f = ap (λ (z : ℤ). z *ℤ y) e ∙ ap (λ (z : ℤ). s *ℤ z) f

-- a positive factor changes no sign
pub int_signum-mul_positive : (k z : ℤ) → pos 0 <ℤ k → int_signum (k *ℤ z) ≡ int_signum z
int_signum-mul_positive k z h = int_signum-mul k z ∙ ap (λ (s : ℤ). s *ℤ int_signum z) (int_signum-positive h) ∙ one_times (int_signum z)
  where
    one_times : (s : ℤ) → pos 1 *ℤ s ≡ s
    one_times s = omega (arith, ints)

-- two integers of which positive multiples are one number have one sign
pub same_signum : {m k : ℤ} (e g : ℤ) → pos 0 <ℤ m → pos 0 <ℤ k → m *ℤ e ≡ k *ℤ g → int_signum e ≡ int_signum g
same_signum {m} {k} e g h i q = sym (int_signum-mul_positive m e h) ∙ ap int_signum q ∙ int_signum-mul_positive k g i

-- ---- absolute values

pub unsigned_abs-neg : (z : ℤ) → unsigned_abs (neg_ℤ z) ≡ unsigned_abs z
unsigned_abs-neg z = omega (arith, ints)

pub unsigned_abs-sub_comm : (a b : ℤ) → unsigned_abs (a -ℤ b) ≡ unsigned_abs (b -ℤ a)
unsigned_abs-sub_comm a b = omega (arith, ints)

pub unsigned_abs-not_negative : {z : ℤ} → pos 0 ≤ℤ z → pos (unsigned_abs z) ≡ z
unsigned_abs-not_negative h = omega (arith, ints)

pub unsigned_abs-not_positive : {z : ℤ} → z ≤ℤ pos 0 → pos (unsigned_abs z) ≡ neg_ℤ z
unsigned_abs-not_positive h = omega (arith, ints)

pub zero_from_unsigned_abs : (z : ℤ) → unsigned_abs z ≡ 0 → z ≡ pos 0
zero_from_unsigned_abs z e = omega (arith, ints)

-- an integer is its sign times its absolute value
pub int_signum-unsigned_abs : (z : ℤ) → int_signum z *ℤ pos (unsigned_abs z) ≡ z
int_signum-unsigned_abs (pos zero) = refl
int_signum-unsigned_abs (pos (suc n)) = ap (λ (s : ℤ). s *ℤ pos (suc n)) (int_signum-positive {z = pos (suc n)} (omega (arith, ints))) ∙ omega (arith, ints)
int_signum-unsigned_abs (negsuc n) = omega (arith, ints)
