-- The bits of an area, which is no greater than it can be.
use Rattle.std.proofs.Common.{◌≡◌, ◌≤◌, ℕ, ℤ, pos, to_z, of_z, ap, ◌∙◌, arith}
use Rattle.std.specs.Int.{w128}
use Rattle.std.proofs.lemmas.Int.{ints}
use Rattle.tgap_model.specs.Bounds.{max_cross}

-- the bits of an area
pub wide_area : (r : ℤ) (n : ℕ) → r ≡ pos n → n ≤ max_cross → to_z w128 (of_z w128 r) ≡ pos n
wide_area r n e h = omega (arith, ints, e, h)

pub area_of_zero : (r : ℤ) (n : ℕ) → r ≡ pos n → n ≤ max_cross → of_z w128 r ≡ 0 → n ≡ 0
area_of_zero r n e h z = omega (arith, ints, e, h, z)

pub not_zero : (r : ℤ) (n : ℕ) → r ≡ pos n → ¬ (of_z w128 r ≡ 0) → ¬ (n ≡ 0)
not_zero r n e h z = h (ap (of_z w128) (e ∙ ap pos z))
