use Rattle.std.proofs.Common.{arith}
use Rattle.chunked_row.proofs.row.Row.search.Goals as goal

pub place_in-requires-clause-few : goal.place_in-requires-clause-few
place_in-requires-clause-few g c =
    omega (arith, c.self.view_is, c.self.invariant.counted, c.self.invariant.few)
