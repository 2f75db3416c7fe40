use Rattle.std.proofs.Common.{◌≡◌, ◌≤◌, length, vec_len, vec_capacity}
use Rattle.journal_fold.specs.Made.{values}
use Rattle.journal_fold.proofs.VersionSteps.{Versions}
use Rattle.journal_fold.proofs.versions.made_by.Given as goal

abbrev pub invariant-loop-place : goal.invariant-loop-place
invariant-loop-place g l = record {
  count : vec_len l.versions ≡ l.place-index;
  room : length l.places ≤ vec_capacity l.versions;
  made : Versions l.first l.entries l.places l.place-index (values l.versions.items);
}
