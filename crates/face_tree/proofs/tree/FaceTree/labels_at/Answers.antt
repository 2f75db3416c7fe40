-- The first steps of numbered steps are numbered.
use Rattle.std.proofs.Common.{subst, sym, List, take}
use Rattle.tgap_model.specs.declared.merge.MergeStep.{MergeStep}
use Rattle.tgap_model.specs.History.{AreNumbered}
use Rattle.face_tree.proofs.Backwards.{numbered_take}
use Rattle.face_tree.proofs.tree.FaceTree.labels_at.Goals as goal

pub labels_after-requires-clause-numbered : goal.labels_after-requires-clause-numbered
labels_after-requires-clause-numbered c =
    subst (λ (steps : List MergeStep). AreNumbered c.self.inside.faces (take c.args.k steps)) (sym c.deref.ensures.value)
    (numbered_take c.self.inside.faces c.args.k c.self.inside.steps.items c.self.invariant.numbered)
