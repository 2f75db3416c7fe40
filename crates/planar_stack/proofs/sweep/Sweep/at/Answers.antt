use Rattle.std.proofs.Common.{ℕ, List, [], to_z, of_z, refl, sym, subst₂}
use Rattle.std.specs.Int.{w64}
use Rattle.planar_stack.specs.Sweep.{AreTouched}
use Rattle.planar_stack.proofs.Leaving.{touched_none}
use Rattle.planar_stack.proofs.sweep.Sweep.at.Goals as goal

pub insert_begun-requires-clause-touched : goal.insert_begun-requires-clause-touched
insert_begun-requires-clause-touched c =
    let v = to_z w64 (of_z w64 c.args.line) in
    let starts = c.args.starts.now in
    subst₂ (λ (ns ms : List ℕ). AreTouched v starts ns ms) (sym c.new-stack.ensures) (sym c.new-touched.ensures.items) (touched_none v starts [] refl)
