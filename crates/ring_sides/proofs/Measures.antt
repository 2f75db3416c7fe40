-- The sum of an arc and its negative, as the code hands them over.
use Rattle.std.proofs.Common.{◌≡◌, ◌≤◌, ℤ, pos, neg_ℤ, ◌-ℤ◌, unsigned_abs, FitsSigned, to_z, of_z, arith}
use Rattle.std.specs.Int.{w128}
use Rattle.std.proofs.lemmas.Int.{ints}
use Rattle.tgap_model.specs.Bounds.{max_arc_area}

pub area_is : (z : ℤ) → unsigned_abs z ≤ max_arc_area → to_z w128 (of_z w128 z) ≡ z
area_is z size = omega (arith, ints)

pub minus_fits : (z : ℤ) → unsigned_abs z ≤ max_arc_area → FitsSigned w128 (pos 0 -ℤ to_z w128 (of_z w128 z))
minus_fits z size = omega (arith, ints)

pub minus_is : (z : ℤ) → unsigned_abs z ≤ max_arc_area → to_z w128 (of_z w128 (pos 0 -ℤ to_z w128 (of_z w128 z))) ≡ neg_ℤ z
minus_is z size = omega (arith, ints)

pub minus_size : (z : ℤ) → unsigned_abs z ≤ max_arc_area → unsigned_abs (neg_ℤ z) ≤ max_arc_area
minus_size z size = omega (arith, ints)
