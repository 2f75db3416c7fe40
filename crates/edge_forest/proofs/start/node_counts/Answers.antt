-- One more place of a node.
use Rattle.std.proofs.Common.{◌<◌, ◌+◌, ℕ, length, get_or, ◌∙◌, arith}
use Rattle.std.proofs.lemmas.List.{length-set, get_or_read}
use Rattle.std.proofs.lemmas.List.Elements.{All-get_or}
use Rattle.edge_forest.proofs.StartLists.{counts_more, count_few}
use Rattle.edge_forest.proofs.start.node_counts.Goals as goal

pub overflow_add-index_mut : goal.overflow_add-index_mut
overflow_add-index_mut c =
    let i = c.loop-node.node-index in
    let node_of = c.args.node_of.now in
    let counts = c.loop-node.counts.items in
    let node = get_or node_of i 0 in
    let inv = c.loop-node.invariant in
    let within : node < c.args.count = All-get_or (λ (n : ℕ). n < c.args.count) node_of i 0 c.loop-node-test.true c.requires.below in
    let read = get_or_read counts node c.index_mut.result.now (omega (arith, within, inv.count)) c.index_mut.ensures.value 0 in
    omega (arith, c.requires.few, c.loop-node-test.true, count_few counts node_of i c.index_mut.result.now c.loop-node-test.true read (inv.counts node within))

pub loop-node-preserved : goal.loop-node-preserved
loop-node-preserved c =
    let i = c.loop-node.node-index in
    let node_of = c.args.node_of.now in
    let counts = c.loop-node.counts.items in
    let node = get_or node_of i 0 in
    let inv = c.loop-node.invariant in
    let within : node < c.args.count = All-get_or (λ (n : ℕ). n < c.args.count) node_of i 0 c.loop-node-test.true c.requires.below in
    let inside : node < length counts = omega (arith, within, inv.count) in
    let read = get_or_read counts node c.index_mut.result.now inside c.index_mut.ensures.value 0 in
    record {
      count = length-set counts node (c.index_mut.result.now + 1) ∙ inv.count;
      counts = λ g k. counts_more counts node_of i c.args.count c.index_mut.result.now g c.loop-node-test.true read inside k (inv.counts g k);
    }
