-- A jump that is none too far, and otherwise the parent, leads up; where there is none, the face is its own label.
use Rattle.std.proofs.Common.{arith, ◌≤◌, ◌<◌, ◌+◌, ap, sym, subst, ◌∙◌, ℕ, Option, MatchOption}
use Rattle.face_tree.specs.Tree.{FaceHistory, IsTree, IsTop, IsUp, last_face}
use Rattle.face_tree.proofs.Climb.{read_parent, read_jump, up_jump, up_parent, up_root, up_late}
use Rattle.face_tree.proofs.tree.FaceTree.next_up.Goals as goal

pub returns-in_err-parent : goal.returns-in_err-parent
returns-in_err-parent c =
    let t = c.args.self.now in
    let face = c.args.face in
    let h = subst (λ (u : FaceHistory). IsTree u c.self.inside.parents.items c.self.inside.jumps.items c.self.inside.roots.items) c.self.view_is c.self.invariant in
    let within : face ≤ last_face t = omega (arith, c.requires.face, c.requires.steps) in
    let root = sym c.in_err-parent.was ∙ read_parent t _ _ _ face c.index.result.now h within c.index.ensures in
    subst (λ (o : Option ℕ). MatchOption o (IsTop t c.args.k face) (IsUp t c.args.k face)) (sym c.from_residual.ensures)
    (up_root t _ _ _ c.args.k face h c.requires.steps c.requires.face root)

pub returns-then-jump-last : goal.returns-then-jump-last
returns-then-jump-last c =
    let t = c.args.self.now in
    let face = c.args.face in
    let jump = c.index-jump.result.now in
    let h = subst (λ (u : FaceHistory). IsTree u c.self.inside.parents.items c.self.inside.jumps.items c.self.inside.roots.items) c.self.view_is c.self.invariant in
    let within : face ≤ last_face t = omega (arith, c.requires.face, c.requires.steps) in
    let near : jump ≤ t.faces + c.args.k = omega (arith, c.if-jump-last.true, ap (λ (u : FaceHistory). u.faces) c.self.view_is) in
    let parent = sym c.in_ok-parent.was ∙ read_parent t _ _ _ face c.index.result.now h within c.index.ensures in
    up_jump t _ _ _ c.args.k face c.in_ok-parent.parent jump h parent (read_jump t _ _ _ face jump h within c.index-jump.ensures) near

pub returns-then-parent-last : goal.returns-then-parent-last
returns-then-parent-last c =
    let t = c.args.self.now in
    let face = c.args.face in
    let h = subst (λ (u : FaceHistory). IsTree u c.self.inside.parents.items c.self.inside.jumps.items c.self.inside.roots.items) c.self.view_is c.self.invariant in
    let within : face ≤ last_face t = omega (arith, c.requires.face, c.requires.steps) in
    let near : c.in_ok-parent.parent ≤ t.faces + c.args.k = omega (arith, c.if-parent-last.true, ap (λ (u : FaceHistory). u.faces) c.self.view_is) in
    let parent = sym c.in_ok-parent.was ∙ read_parent t _ _ _ face c.index.result.now h within c.index.ensures in
    up_parent t _ _ _ c.args.k face c.in_ok-parent.parent h parent near

pub returns-else-parent-last : goal.returns-else-parent-last
returns-else-parent-last c =
    let t = c.args.self.now in
    let face = c.args.face in
    let h = subst (λ (u : FaceHistory). IsTree u c.self.inside.parents.items c.self.inside.jumps.items c.self.inside.roots.items) c.self.view_is c.self.invariant in
    let within : face ≤ last_face t = omega (arith, c.requires.face, c.requires.steps) in
    let late : t.faces + c.args.k < c.in_ok-parent.parent = omega (arith, c.if-parent-last.false, ap (λ (u : FaceHistory). u.faces) c.self.view_is) in
    let parent = sym c.in_ok-parent.was ∙ read_parent t _ _ _ face c.index.result.now h within c.index.ensures in
    up_late t _ _ _ c.args.k face c.in_ok-parent.parent h c.requires.steps c.requires.face parent late
