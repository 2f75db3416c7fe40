use Rattle.std.proofs.Common.{◌≡◌, ◌≤◌, map, vec_capacity}
use Rattle.std.specs.List.{range_with_len}
use Rattle.linked_row.specs.Linked.{lone}
use Rattle.linked_row.proofs.links.Links.of.Given as goal

abbrev pub invariant-loop-number : goal.invariant-loop-number
invariant-loop-number l = record {
  nodes : l.nodes.items ≡ map (lone l.count) (range_with_len 0 l.number);
  room : l.entries ≤ vec_capacity l.nodes;
}
