use Rattle.std.proofs.Common.{arith}
use Rattle.chunked_row.proofs.row.Row.at.Goals as goal

pub number_at-requires-clause-few : goal.number_at-requires-clause-few
number_at-requires-clause-few c =
    omega (arith, c.self.view_is, c.self.invariant.counted, c.self.invariant.few)
