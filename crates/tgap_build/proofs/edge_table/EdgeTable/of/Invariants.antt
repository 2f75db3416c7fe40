-- Some edges have come, and the rest are left.
use Rattle.std.proofs.Common.{◌≡◌, ◌<◌, IsTrue, length}
use Rattle.std.specs.List.{All}
use Rattle.tgap_model.specs.Base.{in_limits}
use Rattle.tgap_build.specs.Table.{labelled_edges, IsTable}
use Rattle.tgap_build.proofs.EdgeTables.{IsPutting}
use Rattle.tgap_build.proofs.edge_table.EdgeTable.of.Given as goal

abbrev pub invariant-loop-edge : goal.invariant-loop-edge
invariant-loop-edge l = record {
  table : IsTable l.table;
  putting : IsPutting l.fn.edges (labelled_edges l.table) l.edge-iterator.rest.items;
  labels : l.table.labels ≡ l.initial.table.labels;
  places : length l.table.places.items ≡ l.keys;
  lists : length l.table.beside.items ≡ l.faces;
  below : All (λ e. e.key < l.keys) l.edge-iterator.rest.items;
  near : All (λ e. All (λ p. IsTrue (in_limits p)) e.points) l.edge-iterator.rest.items;
  sides : All (λ e. (e.left < l.faces) × (e.right < l.faces)) l.edge-iterator.rest.items;
}
