-- What is measured so far, with what is left to measure, is the whole.
use Rattle.std.proofs.Common.{◌≡◌, ◌≤◌, ◌+◌, ◌-◌, ◌*◌, ◌+ℤ◌, unsigned_abs, drop}
use Rattle.tgap_model.specs.Point.{shoelace, path_length}
use Rattle.tgap_model.specs.Bounds.{max_length, max_shoelace}
use Rattle.face_merge.proofs.measuring.measure.Given as goal

abbrev pub invariant-loop-i : goal.invariant-loop-i
invariant-loop-i l = record {
  area : l.twice +ℤ shoelace (drop (l.i - 1) l.points) ≡ shoelace l.points;
  extent : l.extent + path_length (drop (l.i - 1) l.points) ≡ path_length l.points;
  area_size : unsigned_abs l.twice ≤ l.i * max_shoelace;
  extent_size : l.extent ≤ l.i * max_length;
}
