-- One change after the other.
use Rattle.std.proofs.Common.{arith}
use Rattle.refine_packets.specs.Counts.{read_for}
use Rattle.refine_packets.proofs.CountLists.{counts_swapped}
use Rattle.refine_packets.proofs.window_step.recount.Goals as goal

pub returns-clause-each : goal.returns-clause-each
returns-clause-each c f =
    omega (
      arith,
      c.add_sides-2.ensures.each f,
      c.add_sides.ensures.each f,
      counts_swapped c.take_sides.new.counts.items c.swap.new.self.items c.args.made c.args.winner c.swap.ensures.by_index f,
      c.take_sides.ensures.each (read_for c.args.made c.args.winner f),
    )
