use Rattle.std.proofs.Common.{◌≡◌, filter, take}
use Rattle.edge_forest.specs.Edges.{edge_at, is_alive}
use Rattle.slice_read.proofs.near.alive_of.Given as goal

-- those of the numbers so far
abbrev pub invariant-loop-id : goal.invariant-loop-id
invariant-loop-id l = l.alive ≡ filter (λ i. is_alive l.k (edge_at l.forest.edges i)) (take l.id-index l.ids)
