use Rattle.std.proofs.Common.{◌++◌, nat_cmp}
use Rattle.std.specs.BTreeMap.{IsOrdered}
use Rattle.tgap_model.specs.declared.slice.Edge.{Edge}
use Rattle.client_replay.specs.Labels.{AreExact}
use Rattle.client_replay.specs.Working.{edges_of, AreLabelled}
use Rattle.client_replay.proofs.PutOnce.{IsPutting}
use Rattle.client_replay.proofs.lines.put_all.Given as goal

-- some edges are put in, and the rest are left
abbrev pub invariant-loop-edge : goal.invariant-loop-edge
invariant-loop-edge l = record {
  ordered : IsOrdered nat_cmp l.lines;
  exact : AreExact l.labels;
  labelled : AreLabelled l.labels l.lines.entries;
  putting : IsPutting (λ (e : Edge). e.key) (edges_of l.initial.labels l.initial.lines.entries ++ l.fn.edges.items) (edges_of l.labels l.lines.entries) l.edge-iterator.rest.items;
}
