-- The boxes of the edges at the places so far.
use Rattle.std.proofs.Common.{◌≡◌, map, take}
use Rattle.grid_index.specs.Slots.{held, entry_of, edge_at}
use Rattle.grid_index.proofs.entries.entries_at.Given as goal

abbrev pub invariant-loop-place : goal.invariant-loop-place
invariant-loop-place l = held l.entries.items ≡ map (λ i. entry_of (edge_at l.edges i)) (take l.place-index l.places)
