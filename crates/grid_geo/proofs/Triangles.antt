-- Tests in a row, and the sides of a triangle.
use Rattle.std.proofs.Common.{◌≡◌, ◌≤◌, true, false, Bool, ◌&&◌, ◌||◌, not, ℤ, pos, neg_ℤ, unsigned_abs, FitsSigned, to_z, of_z, [], ◌∷◌, refl, sym, ap, ◌∙◌, subst, arith}
use Rattle.std.specs.Int.{w8, int_signum}
use Rattle.std.specs.Ordering.{int_eq}
use Rattle.std.proofs.lemmas.Int.{ints, to_z-of_z}
use Rattle.lemmas.proofs.Polynomials.{same_value, var, ◌⊖◌, ◌⊗◌}
use Rattle.tgap_model.specs.declared.geometry.Point.{Point}
use Rattle.tgap_model.specs.declared.geometry.Seg.{Seg}
use Rattle.tgap_model.specs.Point.{side}
use Rattle.tgap_model.specs.Clear.{is_base_corner, is_beyond, is_beside, is_clear}
use Rattle.grid_geo.proofs.Sizes.{signum_size}

-- ---- two tests in a row

-- one of two holds where the first does; otherwise it is the second
pub first_or : {a r : Bool} (b : Bool) → r ≡ a → r ≡ true → r ≡ (a || b)
first_or b e f = cc

pub second_or : {a b r s : Bool} → r ≡ a → r ≡ false → s ≡ b → s ≡ (a || b)
second_or e f g = cc

-- both do not hold where the first does not; otherwise it is the second
pub first_and : {a r : Bool} (b : Bool) → r ≡ a → r ≡ false → r ≡ (a && b)
first_and b e f = cc

pub second_and : {a b r s : Bool} → r ≡ a → r ≡ true → s ≡ b → s ≡ (a && b)
second_and e f g = cc

-- ---- a sign in 8 bits

-- a number, by its bits
abbrev pub byte : ℤ → ℤ
byte z = to_z w8 (of_z w8 z)

-- the bits of a sign are the sign
pub sign_bits : (r z : ℤ) → r ≡ int_signum z → byte r ≡ int_signum z
sign_bits r z e = let small : unsigned_abs r ≤ 1 = subst (λ (x : ℤ). unsigned_abs x ≤ 1) (sym e) (signum_size z) in omega (arith, ints, e, small)

pub sign_bits_small : (r z : ℤ) → r ≡ int_signum z → unsigned_abs (byte r) ≤ 1
sign_bits_small r z e = subst (λ (x : ℤ). unsigned_abs x ≤ 1) (sym (sign_bits r z e)) (signum_size z)

-- what is tested of the bits of a sign is tested of the sign
pub opposite_is : {t : Bool} (r z inner : ℤ) {s : ℤ} → t ≡ (not (int_eq (byte r) (pos 0)) && int_eq (byte r) (neg_ℤ (byte inner)))
    → r ≡ int_signum z → FitsSigned w8 inner → inner ≡ s → t ≡ (not (int_eq (int_signum z) (pos 0)) && int_eq (int_signum z) (neg_ℤ s))
opposite_is {t} r z inner {s} e f h g =
    subst (λ (x : ℤ). t ≡ (not (int_eq x (pos 0)) && int_eq x (neg_ℤ s))) (sign_bits r z f)
    (subst (λ (y : ℤ). t ≡ (not (int_eq (byte r) (pos 0)) && int_eq (byte r) (neg_ℤ y))) (to_z-of_z w8 inner h ∙ g) e)

pub on_line_is : {t : Bool} (b : Bool) (r z : ℤ) → t ≡ (b && int_eq (byte r) (pos 0)) → r ≡ int_signum z → t ≡ (b && int_eq (int_signum z) (pos 0))
on_line_is {t} b r z e f = subst (λ (x : ℤ). t ≡ (b && int_eq x (pos 0))) (sign_bits r z f) e

pub same_sides : {t : Bool} (r z : ℤ) {s : ℤ} → t ≡ int_eq (byte r) (byte z) → FitsSigned w8 r → FitsSigned w8 z → r ≡ s → t ≡ int_eq s z
same_sides {t} r z {s} e h k f =
    subst (λ (x : ℤ). t ≡ int_eq x z) (to_z-of_z w8 r h ∙ f) (subst (λ (y : ℤ). t ≡ int_eq (byte r) y) (to_z-of_z w8 z k) e)

-- ---- a triangle and a segment

-- a triangle turns alike from each of its corners
pub next_corner : (a b c : Point) → side a b c ≡ side b c a
next_corner a b c =
    ap int_signum (same_value (a.x ∷ a.y ∷ b.x ∷ b.y ∷ c.x ∷ c.y ∷ [])
    ((var 2 ⊖ var 0) ⊗ (var 5 ⊖ var 1) ⊖ (var 3 ⊖ var 1) ⊗ (var 4 ⊖ var 0))
    ((var 4 ⊖ var 2) ⊗ (var 1 ⊖ var 3) ⊖ (var 5 ⊖ var 3) ⊗ (var 0 ⊖ var 2)) refl)

-- one of three holds, or one of two more
or_joined : (x u v : Bool) → (x || u || v) ≡ (x || (u || v))
or_joined true u v = refl
or_joined false u v = refl

module _ (a b c : Point) (s : Seg) {t : Bool} (e : t ≡ (is_base_corner a c s.a && is_base_corner a c s.b)) where
  -- a segment that is no base is clear of the triangle where a line separates them
  pub clear_where_apart : {r : Bool} → t ≡ false
      → r ≡ ((is_beyond a c a b c s || is_beyond a c b c a s || is_beyond a c c a b s) || (is_beside a b c s (pos 1) || is_beside a b c s (neg_ℤ (pos 1))))
      → r ≡ is_clear a b c s
  unfolding is_clear
  clear_where_apart n f =
      second_and (ap not e) (ap not n)
      (f ∙ sym (or_joined (is_beyond a c a b c s || is_beyond a c b c a s || is_beyond a c c a b s) (is_beside a b c s (pos 1)) (is_beside a b c s (neg_ℤ (pos 1)))))

  -- the base is not
  pub not_clear : t ≡ true → not t ≡ is_clear a b c s
  unfolding is_clear
  not_clear n = first_and _ (ap not e) (ap not n)
