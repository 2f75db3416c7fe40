-- A corner that is small enough has at most so much area.
use Rattle.std.proofs.Common.{◌≡◌, inl, inr, ℕ, ◌*◌, ◌/◌, ◌<◌, ◌≤◌, ◌==◌, ℤ, pos, negsuc, ◌≤ℤ◌, int_le, unsigned_abs, true, arith}
use Rattle.std.proofs.lemmas.Bool.{or_cases, eqb-true}
use Rattle.std.proofs.lemmas.Int.{ints}
use Rattle.std.proofs.lemmas.Nat.{le-div}
use Rattle.lemmas.proofs.Signs.{Decides-int_le}
use Rattle.vertex_drop.specs.Corners.{small_area}

small_below : (ratio : ℕ) (area : ℤ) (n : ℕ) → pos (ratio * n) ≤ℤ area → n * ratio ≤ unsigned_abs area
small_below ratio (pos a) n h = let le : ratio * n ≤ a = omega (arith, ints, h) in omega (arith, le)
small_below ratio (negsuc a) n h = absurd (omega (arith, ints, h))

pub largest_small : (ratio : ℕ) (area : ℤ) (n : ℕ) → 0 < ratio → small_area ratio area n ≡ true → n ≤ unsigned_abs area / ratio
largest_small ratio area n some h = elim (or_cases (n == 0) (int_le (pos (ratio * n)) area) h) [
  | inl e ↦ (let zero : n ≡ 0 = eqb-true n 0 e in omega (arith, zero))
  | inr e ↦ le-div n (unsigned_abs area) ratio some (small_below ratio area n ((Decides-int_le (pos (ratio * n)) area).0 e))
]
