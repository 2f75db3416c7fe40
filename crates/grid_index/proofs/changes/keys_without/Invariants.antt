-- Those of the keys so far.
use Rattle.std.proofs.Common.{◌≡◌, take, filter}
use Rattle.grid_index.specs.Changes.{is_new}
use Rattle.grid_index.proofs.changes.keys_without.Given as goal

abbrev pub invariant-loop-key : goal.invariant-loop-key
invariant-loop-key l = l.ended.items ≡ filter (is_new l.keys) (take l.key-index l.gone)
