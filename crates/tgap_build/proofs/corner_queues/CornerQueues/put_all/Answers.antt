-- One edge more is put in.
use Rattle.std.proofs.Common.{◌∙◌}
use Rattle.tgap_build.specs.Queues.{IsQueuedAt}
use Rattle.tgap_build.proofs.CornerLists.{tell_more, queued_on, all_below, one_below}
use Rattle.tgap_build.proofs.corner_queues.CornerQueues.put_all.Goals as goal

pub loop-key-preserved : goal.loop-key-preserved
loop-key-preserved c =
    let places = c.args.edges.now.places.items in
    let keys = c.args.keys.now in
    let before = c.loop-key.self.queues.items in
    let after = c.put.new.self.queues.items in
    let inv = c.loop-key.invariant in
    let one = c.in_ok-put.ensures in
    record {
      edges = one_below (IsQueuedAt places after) keys c.loop-key.key-index (λ j l s e is. queued_on before after one.others e (inv.edges j l s e is)) one.edge;
      others = tell_more c.args.self.now.queues.items before after inv.others one.others;
      room = one.room ∙ inv.room;
    }

pub returns-clause-edges : goal.returns-clause-edges
returns-clause-edges c = all_below (IsQueuedAt c.args.edges.now.places.items c.loop-key.self.queues.items) c.args.keys.now c.loop-key.key-index c.loop-key-test.false c.loop-key.invariant.edges
