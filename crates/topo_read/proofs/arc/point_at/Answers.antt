use Rattle.std.proofs.Common.{◌≡◌, Some, None, w64, arith, rules, refl}
use Rattle.std.specs.Prelude.{◌+ℤ◌, if◌then◌else◌, FitsSigned}
use Rattle.std.proofs.lemmas.Int.{to_z-of_z}
use Rattle.topo_read.specs.Arcs.{coordinate_of}
use Rattle.topo_read.proofs.Points.{point_by_coordinates, no_second}
use Rattle.topo_read.proofs.arc.point_at.Goals as goal

pub returns-in_err-y : goal.returns-in_err-y
returns-in_err-y c =
    let y : coordinate_of (if c.args.deltas then c.args.from.y +ℤ c.args.y else c.args.y) ≡ None = grind (arith, to_z-of_z, c.in_err-y.ensures) in
    rw (c.from_residual-in_err-y.ensures, point_by_coordinates, y, no_second) refl

pub returns : goal.returns
returns c =
    let x : coordinate_of (if c.args.deltas then c.args.from.x +ℤ c.args.x else c.args.x) ≡ Some c.in_ok-x.x = grind (arith, to_z-of_z, c.in_ok-x.ensures) in
    let y : coordinate_of (if c.args.deltas then c.args.from.y +ℤ c.args.y else c.args.y) ≡ Some c.in_ok-y.y = grind (arith, to_z-of_z, c.in_ok-y.ensures) in
    let x_fits : FitsSigned w64 c.in_ok-x.x = search rules in
    let y_fits : FitsSigned w64 c.in_ok-y.y = search rules in
    rw (point_by_coordinates, x, y) (simp to_z-of_z)
