use Rattle.std.proofs.Common.{rules, ◌≡◌, inl, inr, false, map, to_z, of_z, sym, subst, arith}
use Rattle.std.specs.Int.{w64}
use Rattle.std.specs.Option.{is_some}
use Rattle.std.proofs.lemmas.Bool.{cases_order}
use Rattle.grid_geo.specs.Evidence.{face_above, face_below}
use Rattle.planar_stack.specs.Sweep.{sides_at}
use Rattle.planar_stack.proofs.FirstPlace.{agree_from_none, agree_after}
use Rattle.planar_stack.proofs.scan.first_place.Goals as goal

pub loop-place-preserved : goal.loop-place-preserved
loop-place-preserved c =
    let stack = c.args.stack.now in
    let ss = map (sides_at c.args.starts.now) stack in
    let place = c.loop-place.place in
    let run = c.run_from.ensures in
    let more = c.agreeing-place.ensures in
    let none : is_some c.gap_at.result ≡ false = search rules in
    record {
      within = omega (arith, run.within, more.within);
      agree = λ k l. elim (cases_order k place) [
        | inl here ↦ subst (λ j. face_above ss j ≡ face_below ss j) (sym here) (agree_from_none (to_z w64 (of_z w64 c.args.line)) ss place c.gap_at.result none c.gap_at.ensures)
        | inr (inl above) ↦ c.loop-place.invariant.agree k above
        | inr (inr below) ↦ agree_after (sides_at c.args.starts.now) stack c.run_from.result.now place c.agreeing-place.result run.within more.within run.numbers more.agree k below l
      ];
    }
