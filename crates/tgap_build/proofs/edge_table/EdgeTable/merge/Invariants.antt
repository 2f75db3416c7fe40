-- The edges with the keys so far are as after the step.
use Rattle.std.proofs.Common.{◌≡◌, map, filter, take}
use Rattle.std.specs.Prelude.{option_to_list}
use Rattle.std.specs.List.{flat_map}
use Rattle.grid_index.specs.Keyed.{edge_in}
use Rattle.tgap_build.specs.Table.{faced, has_both, has_first}
use Rattle.tgap_build.proofs.Visits.{visited, listing}
use Rattle.tgap_build.proofs.edge_table.EdgeTable.merge.Given as goal

abbrev pub invariant-loop-key : goal.invariant-loop-key
invariant-loop-key l = record {
  places : l.self.places.items ≡ visited l.loser l.winner l.fn.self.places.items (take l.key-index l.key-items);
  lists : l.self.beside.items ≡ listing l.loser l.winner l.fn.self.places.items l.initial.self.beside.items (take l.key-index l.key-items);
  labels : l.self.labels ≡ l.fn.self.labels;
  ended : l.merging.ended
      ≡ map (faced l.fn.self.labels) (flat_map (λ k. filter (has_both l.loser l.winner) (option_to_list (edge_in l.fn.self.places.items k))) (take l.key-index l.key-items));
  losing : l.merging.losing.items
      ≡ flat_map (λ k. map (λ e. k) (filter (has_first l.loser l.winner) (option_to_list (edge_in l.fn.self.places.items k)))) (take l.key-index l.key-items);
}
