use Rattle.std.proofs.Common.{◌≡◌, ◌≤◌, vec_len}
use Rattle.std.specs.Arc.{arc_value}
use Rattle.std.specs.Vec.{vec_capacity}
use Rattle.version_store.specs.Rule.{AreOwners}
use Rattle.version_store.proofs.shelf.owners.Given as goal

-- there is an owner for each turn so far, and room for all
abbrev pub invariant-loop : goal.invariant-loop
invariant-loop g l = AreOwners (arc_value l.version) l.owners.items × (vec_len l.owners ≡ l.counter) × (vec_capacity l.owners ≡ l.count) × (l.counter ≤ l.count)
