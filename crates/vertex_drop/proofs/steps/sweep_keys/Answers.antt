-- Each edge is found by its key, and what is before it was passed.
use Rattle.vertex_drop.proofs.Unswept.{no_edge}
use Rattle.vertex_drop.proofs.Reached.{found_edge, reach_more, reach_ends}
use Rattle.vertex_drop.proofs.steps.sweep_keys.Goals as goal

pub loop-key-preserved : goal.loop-key-preserved
loop-key-preserved g c =
    let l = c.loop-key in
    let edges = g.L.LiveTable.edges c.args.live.now in
    let found = found_edge c.args.made edges c.args.keys.now l.key-index c.loop-key-test.true c.requires.there in
    reach_more c.args.rule c.args.made c.args.keys.now edges c.requires.ascending c.in_ok-sweep_key.ensures.live.ascending
    l.kept c.sweep_key.new.kept l.gone.items c.sweep_key.new.gone.items l.key-index found.0
    c.loop-key-test.true found.1 found.2 l.invariant found.3 (c.in_ok-sweep_key.ensures.swept found.0 no_edge found.1 found.2)

pub returns : goal.returns
returns g c =
    let l = c.loop-key in
    reach_ends c.args.rule c.args.made c.args.keys.now (g.L.LiveTable.edges c.args.live.now) l.kept l.gone.items l.key-index c.loop-key-test.false l.invariant
