-- Side by side.
use Rattle.std.proofs.Common.{◌≡◌, rules, to_z, of_z}
use Rattle.std.specs.Int.{w64, int_min, int_max}
use Rattle.tgap_build.proofs.Hulls.{box_by}
use Rattle.tgap_build.proofs.boxes.hull.Goals as goal

pub returns : goal.returns
returns c =
    let a = c.args.a.now in
    let b = c.args.b.now in
    let left : to_z w64 (of_z w64 c.min.result) ≡ int_min a.x0 b.x0 = search rules in
    let low : to_z w64 (of_z w64 c.min-2.result) ≡ int_min a.y0 b.y0 = search rules in
    let right : to_z w64 (of_z w64 c.max.result) ≡ int_max a.x1 b.x1 = search rules in
    let high : to_z w64 (of_z w64 c.max-2.result) ≡ int_max a.y1 b.y1 = search rules in
    box_by _ _ _ _ _ _ _ _ left low right high
