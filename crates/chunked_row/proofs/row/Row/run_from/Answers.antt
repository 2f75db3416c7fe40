use Rattle.std.proofs.Common.{arith}
use Rattle.chunked_row.proofs.row.Row.run_from.Goals as goal

pub run_of-requires-clause-few : goal.run_of-requires-clause-few
run_of-requires-clause-few c =
    omega (arith, c.self.view_is, c.self.invariant.counted, c.self.invariant.few)
