-- The keys so far are there.
use Rattle.std.proofs.Common.{All, Contains, take}
use Rattle.grid_index.specs.Live.{keys}
use Rattle.grid_index.proofs.changes.are_all_there.Given as goal

abbrev pub invariant-loop-key : goal.invariant-loop-key
invariant-loop-key l = All (Contains (keys l.edges)) (take l.key-index l.sought)
