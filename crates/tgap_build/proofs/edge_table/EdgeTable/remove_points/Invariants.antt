use Rattle.std.proofs.Common.{◌≡◌, map, take}
use Rattle.tgap_build.specs.Table.{labelled_edges, IsTable, HaveSameRoom}
use Rattle.tgap_build.specs.Changes.{less_at}
use Rattle.tgap_build.proofs.edge_table.EdgeTable.remove_points.Given as goal

-- the edges with the keys so far are less the points
abbrev pub invariant-loop-key : goal.invariant-loop-key
invariant-loop-key l = record {
  table : IsTable l.self;
  edges : labelled_edges l.self ≡ map (less_at l.gone (take l.key-index l.losing)) (labelled_edges l.initial.self);
  labels : l.self.labels ≡ l.initial.self.labels;
  room : HaveSameRoom l.initial.self l.self;
}
