-- The rows so far and that of now, and that the faces agreed at each abscissa that is passed.
use Rattle.std.proofs.Common.{◌≡◌, true, map, take}
use Rattle.planar_sweep.specs.Rows.{moment_of, changes_of, HadRows}
use Rattle.planar_sweep.specs.Faces.{HadAgreement}
use Rattle.planar_sweep.specs.Swept.{IsSwept}
use Rattle.planar_sweep.proofs.sweep.sweep_over.Given as goal

abbrev pub invariant-loop-k : goal.invariant-loop-k
invariant-loop-k l = record {
  had : HadRows l.segs (map moment_of l.keys.items) l.k;
  swept : IsSwept l.segs l.faces.items (changes_of (take l.k (map moment_of l.keys.items))) l.line l.gaps;
  agreed : l.agree ≡ true → HadAgreement l.segments l.segs (map moment_of l.keys.items) l.k;
}
