use Rattle.std.proofs.Common.{◌≡◌, to_z, of_z, arith}
use Rattle.std.specs.Int.{w64}
use Rattle.std.proofs.lemmas.Int.{ints}
use Rattle.ring_sides.proofs.RawArcs.{end_last}
use Rattle.ring_sides.proofs.arcs.Arcs.end.Goals as goal

pub returns-else-is_reversed : goal.returns-else-is_reversed
returns-else-is_reversed c =
    let i = c.args.index in
    let same : to_z w64 (of_z w64 i) ≡ i = omega (arith, ints) in
    end_last c.args.self.now i _ c.points-points.result.now _ c.is_reversed.result
    c.points-points.ensures.value c.points-points.ensures.formed same c.is_reversed.ensures c.if-is_reversed.false
