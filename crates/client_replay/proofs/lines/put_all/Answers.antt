use Rattle.std.proofs.Common.{◌++◌, subst}
use Rattle.tgap_model.specs.declared.slice.Edge.{Edge}
use Rattle.client_replay.specs.Working.{edges_of}
use Rattle.client_replay.proofs.PutOnce.{IsPutting, next_new, put_next}
use Rattle.client_replay.proofs.lines.put_all.Goals as goal

pub put-requires-clause-new : goal.put-requires-clause-new
put-requires-clause-new c =
    let all = edges_of c.args.labels.now c.args.lines.now.entries ++ c.args.edges.items in
    let now = edges_of c.loop-edge.labels c.loop-edge.lines.entries in
    next_new (λ (e : Edge). e.key) all now c.next.new.self.rest.items c.in-Some.edge (subst (IsPutting (λ (e : Edge). e.key) all now) c.in-Some.ensures.steps.0 c.loop-edge.invariant.putting)

pub loop-edge-preserved : goal.loop-edge-preserved
loop-edge-preserved c =
    let all = edges_of c.args.labels.now c.args.lines.now.entries ++ c.args.edges.items in
    let now = edges_of c.loop-edge.labels c.loop-edge.lines.entries in
    record {
      ordered = c.in_ok-put.ensures.ordered;
      exact = c.in_ok-put.ensures.exact;
      labelled = c.in_ok-put.ensures.labelled;
      putting = put_next (λ (e : Edge). e.key) all now c.next.new.self.rest.items (edges_of c.put.new.labels c.put.new.lines.entries) c.in-Some.edge
          (subst (IsPutting (λ (e : Edge). e.key) all now) c.in-Some.ensures.steps.0 c.loop-edge.invariant.putting) c.in_ok-put.ensures.put;
    }
