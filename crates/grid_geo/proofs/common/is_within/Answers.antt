-- Where the first test holds, the second one decides.
use Rattle.std.proofs.Common.{sym, FitsSigned, rules}
use Rattle.std.specs.Int.{w64, w128}
use Rattle.std.proofs.lemmas.Int.{to_z-of_z}
use Rattle.grid_geo.proofs.Sizes.{then_both}
use Rattle.grid_geo.proofs.common.is_within.Goals as goal

pub returns-then-lies_between : goal.returns-then-lies_between
returns-then-lies_between c =
    let ax : FitsSigned w64 c.args.s.a.x = search rules in
    let ay : FitsSigned w64 c.args.s.a.y = search rules in
    let bx : FitsSigned w64 c.args.s.b.x = search rules in
    let by : FitsSigned w64 c.args.s.b.y = search rules in
    let nx : FitsSigned w128 c.args.p.nx = search rules in
    let ny : FitsSigned w128 c.args.p.ny = search rules in
    let d : FitsSigned w128 c.args.p.d = search rules in
    then_both (sym (simp to_z-of_z at c.if-lies_between.ensures)) (simp to_z-of_z at c.lies_between-then-lies_between.ensures)
