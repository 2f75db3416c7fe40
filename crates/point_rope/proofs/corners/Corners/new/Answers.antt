use Rattle.std.proofs.Common.{◌≡◌, ℕ, None, Some, refl}
use Rattle.point_rope.proofs.corners.Corners.new.Goals as goal

pub returns-clause-corners : goal.returns-clause-corners
returns-clause-corners c = record {
  least = refl;
  ends = refl;
  small = λ n e. absurd (none_some n e);
}
  where
    none_some : (n : ℕ) → None ≡ Some n → ⊥
    none_some n e = cc
