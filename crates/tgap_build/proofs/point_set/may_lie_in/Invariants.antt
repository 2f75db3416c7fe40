use Rattle.std.proofs.Common.{ℕ, ◌<◌, length, get_or}
use Rattle.tgap_model.specs.declared.geometry.Point.{Point}
use Rattle.point_rope.specs.Held.{IsHeld}
use Rattle.tgap_build.proofs.point_set.may_lie_in.Given as goal

-- none of the points so far lies in the box
abbrev pub invariant-loop-i : goal.invariant-loop-i
invariant-loop-i l = (k : ℕ) (d : Point) → k < l.i → k < length l.points → IsHeld l.bounds (get_or l.points k d) → ⊥
