-- What is published so far and what is left are all versions. The seat has seen what is published, and has published all but the first.
use Rattle.std.proofs.Common.{◌≡◌, ◌+◌, ◌∷◌, ◌++◌, length, replicate}
use Rattle.journal_fold.specs.Made.{values}
use Rattle.version_store.specs.Store.{press_versions, press_publishers, seat_number}
use Rattle.map_workers.specs.Seats.{SeesAll}
use Rattle.serving.specs.Later.{FollowFrom}
use Rattle.serving.proofs.later.published.Given as goal

abbrev pub invariant-loop-version : goal.invariant-loop-version
invariant-loop-version g l = record {
  sees : SeesAll l.press l.seat;
  first : seat_number l.seat ≡ 1;
  newest : l.newest + 1 ≡ length (press_versions l.press);
  publishers : press_publishers l.press ≡ 0 ∷ replicate l.newest 1;
  whole : press_versions l.press ++ values l.version-iterator.rest.items
      ≡ press_versions l.initial.press ++ values l.fn.later.items;
  follow : FollowFrom (l.newest + 1) (values l.version-iterator.rest.items);
  many : l.newest + length l.version-iterator.rest.items ≡ length l.fn.later.items;
}
