-- When the step was made the edges that it brought are new, and loser and winner are faces.
use Rattle.std.proofs.Common.{◌-◌, sym, subst, arith}
use Rattle.tgap_model.specs.declared.merge.MergeStep.{MergeStep}
use Rattle.tgap_model.specs.Base.{BaseMap}
use Rattle.tgap_model.specs.Merged.{merged}
use Rattle.tgap_model.specs.Removals.{removals_to}
use Rattle.face_tree.specs.Tree.{FaceHistory, IsFace, face_history}
use Rattle.tgap_build.specs.Changes.{HasGrown}
use Rattle.tgap_build.specs.Running.{AreRunning}
use Rattle.tgap_build.proofs.Grown.{has_grown}
use Rattle.tgap_build.proofs.Run.{running_on}
use Rattle.tgap_build.proofs.StepFaces.{step_faces}
use Rattle.tgap_build.proofs.removal.make_step.Goals as goal

pub merge-requires-2-clause-grown : goal.merge-requires-2-clause-grown
merge-requires-2-clause-grown c =
    let g = c.merge.new.self in
    subst (HasGrown g c.args.k) (sym c.count-old.ensures.value)
    (has_grown c.args.forest.now g c.requires.running.forest c.base.ensures.forest c.args.k c.requires.some c.requires.made (omega (arith, c.in_ok-merge.ensures.made, c.requires.made, c.requires.some)) c.in_ok-merge.ensures.base c.in_ok-merge.ensures.continued)

pub merge-requires-2-clause-running : goal.merge-requires-2-clause-running
merge-requires-2-clause-running c =
    let f = c.args.forest.now in
    let g = c.merge.new.self in
    let k = c.args.k in
    subst (λ (m : BaseMap). AreRunning g (k - 1) (removals_to (merged m) (k - 1)) c.args.live.now.edges) (sym c.in_ok-merge.ensures.base)
    (running_on f g (k - 1) (removals_to (merged f.base) (k - 1)) c.args.live.now.edges c.base.ensures.forest c.in_ok-merge.ensures.base c.requires.running)

-- the loser and the winner are faces
pub class-requires : goal.class-requires
class-requires c =
    let m = c.args.forest.now.base in
    let one = step_faces m c.requires.running.forest.base c.requires.running.forest.partition c.args.k c.requires.some c.requires.within in
    subst (λ (t : FaceHistory). IsFace t c.args.step.now.loser) (sym c.requires.history) (subst (λ (s : MergeStep). IsFace (face_history (merged m)) s.loser) (sym c.requires.step) one.0)

pub class-requires-2 : goal.class-requires-2
class-requires-2 c =
    let m = c.args.forest.now.base in
    let one = step_faces m c.requires.running.forest.base c.requires.running.forest.partition c.args.k c.requires.some c.requires.within in
    subst (λ (t : FaceHistory). IsFace t c.args.step.now.winner) (sym c.requires.history) (subst (λ (s : MergeStep). IsFace (face_history (merged m)) s.winner) (sym c.requires.step) one.1)
