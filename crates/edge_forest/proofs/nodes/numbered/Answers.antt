-- One more row has its node.
use Rattle.std.proofs.Common.{inl, inr, sym, ◌∙◌}
use Rattle.edge_forest.proofs.Numbering.{count_more}
use Rattle.edge_forest.proofs.nodes.numbered.Goals as goal
use Rattle.edge_forest.proofs.nodes.numbered.Goals.{then-begins_node, else-begins_node}

pub loop-i-preserved : goal.loop-i-preserved
loop-i-preserved c =
    count_more c.args.rows.now c.loop-i.i c.loop-i.count c.if-begins_node.count c.loop-i.node_of.items c.loop-i-test.true
    c.requires.places c.requires.apart c.requires.ascend c.loop-i.invariant
    (elim c.if-begins_node.branch [
      | then-begins_node w ↦ inl (sym c.begins_node.ensures ∙ w.if-begins_node.true, w.count-is)
      | else-begins_node w ↦ inr (sym c.begins_node.ensures ∙ w.if-begins_node.false, w.count-is)
    ])
