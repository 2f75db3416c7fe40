use Rattle.std.proofs.Common.{◌≡◌, ℤ, map, to_z, of_z, sym, ap, ◌∙◌, arith}
use Rattle.std.specs.Int.{w64}
use Rattle.std.proofs.lemmas.Int.{ints}
use Rattle.planar_stack.specs.Sweep.{sides_at, fault_at}
use Rattle.planar_stack.proofs.FirstPlace.{fault_of_first}
use Rattle.planar_stack.proofs.sweep.touched_gap.Goals as goal

pub returns : goal.returns
returns c =
    let stack = c.args.stack.now in
    let faces = sides_at c.args.starts.now in
    let place = c.differing_place-place.result in
    let e : to_z w64 (of_z w64 c.args.line) ≡ c.args.line = omega (arith, ints) in
    c.gap_at.ensures ∙ ap (λ (z : ℤ). fault_at z (map faces stack) place) e
    ∙ sym (fault_of_first c.args.line c.args.touched.now stack place c.requires.touched.covered c.differing_place-place.ensures)
