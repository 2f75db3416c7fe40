-- The count is that of the links so far.
use Rattle.std.proofs.Common.{◌≡◌, ◌≤◌, take}
use Rattle.std.specs.Prelude.{count_by}
use Rattle.face_merge.specs.Merging.{is_gained}
use Rattle.face_merge.specs.Running.{number_in, state_of}
use Rattle.face_merge.proofs.merging.Merging.gained.Given as goal

abbrev pub invariant-loop-link : goal.invariant-loop-link
invariant-loop-link l = record {
  count : l.gained ≡ count_by (λ link. is_gained (state_of l.self) (number_in l.self l.pair.winner) (number_in l.self link.slot)) (take l.link-index l.links);
  few : l.gained ≤ l.link-index;
}
