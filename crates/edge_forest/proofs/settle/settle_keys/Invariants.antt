-- The keys so far have been visited, and each gave at most two nodes.
use Rattle.std.proofs.Common.{◌≡◌, ◌≤◌, ◌*◌, length, take, count_by}
use Rattle.std.specs.Vec.{vec_capacity, vec_len}
use Rattle.edge_forest.specs.Net.{IsNet}
use Rattle.edge_forest.specs.Settle.{is_ending, IsSettling}
use Rattle.edge_forest.proofs.settle.settle_keys.Given as goal

abbrev pub invariant-loop-key : goal.invariant-loop-key
invariant-loop-key l = record {
  base : l.growth.base ≡ l.initial.growth.base;
  nodes : l.growth.nodes ≡ l.initial.growth.nodes;
  labels : l.growth.labels ≡ l.initial.growth.labels;
  keys : l.growth.keys ≡ l.initial.growth.keys;
  net : IsNet l.growth.nodes l.growth.net;
  settling : IsSettling l.sides l.low (take l.key-index l.keys) l.initial.growth l.growth.net.rows.items l.growth.edges.items l.touched.items;
  room : length l.touched.items ≤ 2 * count_by (is_ending l.sides l.initial.growth.net.rows.items) (take l.key-index l.keys);
  edges_capacity : vec_capacity l.growth.edges ≡ vec_capacity l.initial.growth.edges;
  edges_count : vec_len l.growth.edges ≡ vec_len l.initial.growth.edges;
  capacity : vec_capacity l.touched ≡ vec_capacity l.initial.touched;
}
