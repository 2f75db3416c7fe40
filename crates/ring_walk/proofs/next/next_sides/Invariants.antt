use Rattle.std.proofs.Common.{◌≡◌, ◌<◌, ◌*◌, ℕ, length, get_or}
use Rattle.ring_walk.specs.declared.spoke.Spoke.{Spoke as NodeSpoke}
use Rattle.ring_walk.proofs.Tables.{IsToldAt}
use Rattle.ring_walk.specs.Sides.{turned}
use Rattle.ring_walk.proofs.next.next_sides.Given as goal

-- the next sides of the sides that arrive by the spokes so far are in the table
abbrev pub invariant-loop-place : goal.invariant-loop-place
invariant-loop-place l = record {
  long : length l.table.items ≡ 2 * length l.spans;
  told : (j : ℕ) (d : NodeSpoke) → j < l.place → IsToldAt l.spans l.table.items (turned (get_or l.spokes.items j d).side);
}
