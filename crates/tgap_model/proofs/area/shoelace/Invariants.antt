-- What is summed so far, with the sum of the rest, is the whole.
use Rattle.std.proofs.Common.{◌≡◌, ◌≤◌, ◌-◌, ◌*◌, ◌+ℤ◌, unsigned_abs, drop}
use Rattle.tgap_model.specs.Point.{shoelace}
use Rattle.tgap_model.specs.Bounds.{max_shoelace}
use Rattle.tgap_model.proofs.area.shoelace.Given as goal

abbrev pub invariant-loop-i : goal.invariant-loop-i
invariant-loop-i l = record {
  value : l.sum +ℤ shoelace (drop (l.i - 1) l.points) ≡ shoelace l.points;
  size : unsigned_abs l.sum ≤ l.i * max_shoelace;
}
