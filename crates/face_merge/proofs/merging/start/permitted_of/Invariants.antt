-- The count is that of the links so far.
use Rattle.std.proofs.Common.{◌≡◌, ◌≤◌, take}
use Rattle.std.specs.Prelude.{count_by}
use Rattle.face_merge.specs.Merging.{begin, permits_in}
use Rattle.face_merge.proofs.merging.start.permitted_of.Given as goal

abbrev pub invariant-loop-link : goal.invariant-loop-link
invariant-loop-link l = record {
  count : l.count ≡ count_by (λ link. permits_in (begin l.base) l.face link.slot) (take l.link-index l.links);
  few : l.count ≤ l.link-index;
}
