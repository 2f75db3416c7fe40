-- The laws of the ring of the integers.
use Rattle.std.proofs.Common.{◌≡◌, ℤ, pos, negsuc, ◌+ℤ◌, ◌-ℤ◌, ◌*ℤ◌, neg_ℤ, sym, ap, ◌∙◌, arith}
use Rattle.std.proofs.lemmas.Int.{ints}
use Rattle.std.proofs.Math.IntN.{+ℤ_one, -ℤ_one, suc_ℤ-*ℤ, pred_ℤ-*ℤ, zero-*ℤ, *ℤ_comm, ℤ_ind, +ℤ_idl, +ℤ_invl}

-- a factor that is one more, or one less
plus_one-*ℤ : (m k : ℤ) → (m +ℤ pos 1) *ℤ k ≡ m *ℤ k +ℤ k
plus_one-*ℤ m k = ap (λ (z : ℤ). z *ℤ k) (+ℤ_one m) ∙ suc_ℤ-*ℤ m k

less_one-*ℤ : (m k : ℤ) → (m +ℤ negsuc 0) *ℤ k ≡ m *ℤ k -ℤ k
less_one-*ℤ m k = ap (λ (z : ℤ). z *ℤ k) (-ℤ_one m) ∙ pred_ℤ-*ℤ m k

step_up : (b c m : ℤ) → (m +ℤ b) *ℤ c ≡ m *ℤ c +ℤ b *ℤ c → ((m +ℤ pos 1) +ℤ b) *ℤ c ≡ (m +ℤ pos 1) *ℤ c +ℤ b *ℤ c
step_up b c m e =
    let moved : (m +ℤ pos 1) +ℤ b ≡ (m +ℤ b) +ℤ pos 1 = omega (arith, ints) in
    linear _ _ _ _ _ (ap (λ (z : ℤ). z *ℤ c) moved ∙ plus_one-*ℤ (m +ℤ b) c) (plus_one-*ℤ m c) e
  where
    linear : (l r p q s : ℤ) → l ≡ p +ℤ c → r ≡ q +ℤ c → p ≡ q +ℤ s → l ≡ r +ℤ s
    linear l r p q s x y z = omega (arith, ints)

step_down : (b c m : ℤ) → (m +ℤ b) *ℤ c ≡ m *ℤ c +ℤ b *ℤ c → ((m +ℤ negsuc 0) +ℤ b) *ℤ c ≡ (m +ℤ negsuc 0) *ℤ c +ℤ b *ℤ c
step_down b c m e =
    let moved : (m +ℤ negsuc 0) +ℤ b ≡ (m +ℤ b) +ℤ negsuc 0 = omega (arith, ints) in
    linear _ _ _ _ _ (ap (λ (z : ℤ). z *ℤ c) moved ∙ less_one-*ℤ (m +ℤ b) c) (less_one-*ℤ m c) e
  where
    linear : (l r p q s : ℤ) → l ≡ p -ℤ c → r ≡ q -ℤ c → p ≡ q +ℤ s → l ≡ r +ℤ s
    linear l r p q s x y z = omega (arith, ints)

-- a sum times a factor
pub add-*ℤ : (a b c : ℤ) → (a +ℤ b) *ℤ c ≡ a *ℤ c +ℤ b *ℤ c
add-*ℤ a b c = ℤ_ind (λ (m : ℤ). (m +ℤ b) *ℤ c ≡ m *ℤ c +ℤ b *ℤ c)
    (ap (λ (z : ℤ). z *ℤ c) (+ℤ_idl b) ∙ sym (ap (λ (z : ℤ). z +ℤ b *ℤ c) (zero-*ℤ c) ∙ +ℤ_idl (b *ℤ c)))
    (λ n e. step_up b c (pos n) e) (λ n e. step_down b c (neg_ℤ (pos n)) e) a

-- a factor times a sum
pub *ℤ-add : (c a b : ℤ) → c *ℤ (a +ℤ b) ≡ c *ℤ a +ℤ c *ℤ b
*ℤ-add c a b =
    let e = *ℤ_comm c (a +ℤ b) ∙ add-*ℤ a b c in
    let f = *ℤ_comm a c in
    let g = *ℤ_comm b c in
    e ∙ ap (λ (z : ℤ). z +ℤ b *ℤ c) f ∙ ap (λ (z : ℤ). c *ℤ a +ℤ z) g

-- the sign of a factor is the sign of the product
pub neg-*ℤ : (a b : ℤ) → neg_ℤ a *ℤ b ≡ neg_ℤ (a *ℤ b)
neg-*ℤ a b = opposite _ _ (sym (add-*ℤ (neg_ℤ a) a b) ∙ ap (λ (z : ℤ). z *ℤ b) (+ℤ_invl a) ∙ zero-*ℤ b)
  where
    opposite : (x y : ℤ) → x +ℤ y ≡ pos 0 → x ≡ neg_ℤ y
    opposite x y e = omega (arith, ints)

pub *ℤ-neg : (a b : ℤ) → a *ℤ neg_ℤ b ≡ neg_ℤ (a *ℤ b)
*ℤ-neg a b = *ℤ_comm a (neg_ℤ b) ∙ neg-*ℤ b a ∙ ap neg_ℤ (*ℤ_comm b a)

-- a difference times a factor, and a factor times a difference
pub sub-*ℤ : (a b c : ℤ) → (a -ℤ b) *ℤ c ≡ a *ℤ c -ℤ b *ℤ c
sub-*ℤ a b c = add-*ℤ a (neg_ℤ b) c ∙ ap (λ (z : ℤ). a *ℤ c +ℤ z) (neg-*ℤ b c)

pub *ℤ-sub : (c a b : ℤ) → c *ℤ (a -ℤ b) ≡ c *ℤ a -ℤ c *ℤ b
*ℤ-sub c a b = *ℤ-add c a (neg_ℤ b) ∙ ap (λ (z : ℤ). c *ℤ a +ℤ z) (*ℤ-neg c b)

-- a product of three
pub *ℤ_assoc : (a b c : ℤ) → (a *ℤ b) *ℤ c ≡ a *ℤ (b *ℤ c)
*ℤ_assoc a b c = ℤ_ind (λ (m : ℤ). (m *ℤ b) *ℤ c ≡ m *ℤ (b *ℤ c))
    (ap (λ (z : ℤ). z *ℤ c) (zero-*ℤ b) ∙ zero-*ℤ c ∙ sym (zero-*ℤ (b *ℤ c)))
    (λ n e. up_by_one (pos n) e) (λ n e. down_by_one (neg_ℤ (pos n)) e) a
  where
    up_by_one : (m : ℤ) → (m *ℤ b) *ℤ c ≡ m *ℤ (b *ℤ c) → ((m +ℤ pos 1) *ℤ b) *ℤ c ≡ (m +ℤ pos 1) *ℤ (b *ℤ c)
    up_by_one m e = ap (λ (z : ℤ). z *ℤ c) (plus_one-*ℤ m b) ∙ add-*ℤ (m *ℤ b) b c ∙ ap (λ (z : ℤ). z +ℤ b *ℤ c) e ∙ sym (plus_one-*ℤ m (b *ℤ c))

    down_by_one : (m : ℤ) → (m *ℤ b) *ℤ c ≡ m *ℤ (b *ℤ c) → ((m +ℤ negsuc 0) *ℤ b) *ℤ c ≡ (m +ℤ negsuc 0) *ℤ (b *ℤ c)
    down_by_one m e = ap (λ (z : ℤ). z *ℤ c) (less_one-*ℤ m b) ∙ sub-*ℤ (m *ℤ b) b c ∙ ap (λ (z : ℤ). z -ℤ b *ℤ c) e ∙ sym (less_one-*ℤ m (b *ℤ c))

-- two factors change places
pub *ℤ_left_comm : (a b c : ℤ) → a *ℤ (b *ℤ c) ≡ b *ℤ (a *ℤ c)
*ℤ_left_comm a b c = sym (*ℤ_assoc a b c) ∙ ap (λ (z : ℤ). z *ℤ c) (*ℤ_comm a b) ∙ *ℤ_assoc b a c

pub *ℤ_right_comm : (a b c : ℤ) → (a *ℤ b) *ℤ c ≡ (a *ℤ c) *ℤ b
*ℤ_right_comm a b c = *ℤ_assoc a b c ∙ ap (λ (z : ℤ). a *ℤ z) (*ℤ_comm b c) ∙ sym (*ℤ_assoc a c b)

-- the factor 1
pub one-*ℤ : (a : ℤ) → pos 1 *ℤ a ≡ a
one-*ℤ a = omega (arith, ints)
