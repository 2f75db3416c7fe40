-- The sum of two coordinates fits.
use Rattle.std.proofs.Common.{◌≡◌, ◌+ℤ◌, FitsSigned, rules}
use Rattle.std.specs.Int.{w64}
use Rattle.grid_geo.proofs.Sizes.{wide, sum_of_words}
use Rattle.grid_geo.proofs.common.middle.Goals as goal

pub returns : goal.returns
returns c =
    let ax : FitsSigned w64 c.args.a.x = search rules in
    let ay : FitsSigned w64 c.args.a.y = search rules in
    let bx : FitsSigned w64 c.args.b.x = search rules in
    let by : FitsSigned w64 c.args.b.y = search rules in
    let x : wide (wide c.from.result +ℤ wide c.from-2.result) ≡ c.args.a.x +ℤ c.args.b.x = sum_of_words _ _ _ _ ax bx c.from.ensures c.from-2.ensures in
    let y : wide (wide c.from-3.result +ℤ wide c.from-4.result) ≡ c.args.a.y +ℤ c.args.b.y = sum_of_words _ _ _ _ ay by c.from-3.ensures c.from-4.ensures in
    cc
