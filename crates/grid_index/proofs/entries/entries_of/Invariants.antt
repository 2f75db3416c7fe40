-- The boxes of the edges so far.
use Rattle.std.proofs.Common.{◌≡◌, length, map, take}
use Rattle.grid_index.specs.Slots.{held, entry_of}
use Rattle.grid_index.proofs.entries.entries_of.Given as goal

abbrev pub invariant-loop-edge : goal.invariant-loop-edge
invariant-loop-edge l = record {
  held : held l.entries.items ≡ map entry_of (take l.edge-index l.edges);
  len : length l.entries.items ≡ l.edge-index;
}
