-- The edges of the parts so far are out, and their points stand in a row.
use Rattle.std.proofs.Common.{◌≡◌, ℕ, take, length, Contains}
use Rattle.grid_index.specs.Keyed.{edge_in, edges_in, AreAtKeys}
use Rattle.grid_index.specs.Live.{without_keys}
use Rattle.tgap_build.specs.Table.{joined_row, old_keys}
use Rattle.tgap_build.proofs.edge_table.take_row.Given as goal

abbrev pub invariant-loop-part : goal.invariant-loop-part
invariant-loop-part l = record {
  row : l.row ≡ joined_row l.fn.places.items (take l.part-index l.parts);
  keyed : AreAtKeys l.places.items;
  left : edges_in l.places.items ≡ without_keys (old_keys (take l.part-index l.parts)) (edges_in l.fn.places.items);
  still : (k : ℕ) → (Contains (old_keys (take l.part-index l.parts)) k → ⊥) → edge_in l.places.items k ≡ edge_in l.fn.places.items k;
  room : length l.places.items ≡ length l.fn.places.items;
}
