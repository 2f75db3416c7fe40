-- What is read is the parent.
use Rattle.std.proofs.Common.{subst, sym}
use Rattle.face_tree.specs.Tree.{FaceHistory, IsParent, IsTree}
use Rattle.face_tree.proofs.Climb.{read_parent}
use Rattle.face_tree.proofs.Live.{parent_is}
use Rattle.face_tree.proofs.tree.FaceTree.parent.Goals as goal

pub returns-clause-value : goal.returns-clause-value
returns-clause-value c =
    let t = c.args.self.now in
    let h = subst (λ (u : FaceHistory). IsTree u c.self.inside.parents.items c.self.inside.jumps.items c.self.inside.roots.items) c.self.view_is c.self.invariant in
    read_parent t _ _ _ c.args.face c.index.result.now h c.requires.below c.index.ensures

pub returns-clause-parent : goal.returns-clause-parent
returns-clause-parent c =
    let t = c.args.self.now in
    let h = subst (λ (u : FaceHistory). IsTree u c.self.inside.parents.items c.self.inside.jumps.items c.self.inside.roots.items) c.self.view_is c.self.invariant in
    subst (IsParent t c.args.face) (sym (returns-clause-value c)) (parent_is t c.args.face h.numbered h.live)
