use Rattle.std.proofs.Common.{◌≡◌, ℕ, List, map}
use Rattle.edge_forest.specs.Index.{keyed}
use Rattle.edge_forest.proofs.OnWay.{IsOnWay}
use Rattle.edge_forest.proofs.alive.alive_at.Given as goal

-- the edges so far have these numbers
abbrev pub invariant-loop : goal.invariant-loop
invariant-loop g l = (ids : List ℕ) × (l.found.items ≡ map (keyed l.edges) ids) × IsOnWay l.edges l.index l.k l.counter l.node ids l.initial.looks l.looks
