use Rattle.std.proofs.Common.{◌+◌, length, Some, ap, ◌∙◌}
use Rattle.std.proofs.lemmas.List.{length_push}
use Rattle.grid_index.specs.Slots.{held}
use Rattle.grid_index.proofs.Living.{entries_more}
use Rattle.grid_index.proofs.entries.entries_of.Goals as goal

pub loop-edge-preserved : goal.loop-edge-preserved
loop-edge-preserved c =
    let edges = c.args.edges.now in
    let i = c.loop-edge.edge-index in
    let entries = c.loop-edge.entries.items in
    let entry = c.in_ok-of.field-0 in
    record {
      held = ap held c.in_ok-push.ensures.items ∙ entries_more entries edges i c.edge-item.result entry c.loop-edge-test.true c.edge-item.is c.in_ok-of.ensures c.loop-edge.invariant.held;
      len = ap length c.in_ok-push.ensures.items ∙ length_push entries (Some entry) ∙ ap (λ n. n + 1) c.loop-edge.invariant.len;
    }
