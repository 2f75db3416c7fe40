-- One level more, and all levels.
use Rattle.std.proofs.Common.{arith}
use Rattle.edge_forest.proofs.Listing.{way_goes_on, way_ends}
use Rattle.edge_forest.proofs.index.list_range.Goals as goal

pub loop-low-preserved : goal.loop-low-preserved
loop-low-preserved c = record {
  count = omega (arith, c.in_ok-list_at_second.ensures.count, c.in_ok-list_at_first.ensures.count, c.loop-low.invariant.count);
  within = omega (arith, c.loop-low.invariant.within);
  way = λ levels lows highs. way_goes_on c.args.nodes.now.items c.loop-low.nodes.items c.list_at_second.new.nodes.items c.list_at_first.new.nodes.items c.args.id levels c.args.low c.args.high
      c.loop-low.low c.loop-low.high c.loop-low-test.true (c.loop-low.invariant.way levels lows highs) c.in_ok-list_at_second.ensures c.in_ok-list_at_first.ensures;
}

pub returns : goal.returns
returns c levels lows highs =
    way_ends c.args.nodes.now.items c.loop-low.nodes.items c.args.id levels c.args.low c.args.high c.loop-low.low c.loop-low.high c.loop-low-test.false (c.loop-low.invariant.way levels lows highs)
