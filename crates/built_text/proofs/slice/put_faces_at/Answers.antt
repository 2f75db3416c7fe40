-- The live faces are faces of the tree.
use Rattle.std.proofs.Common.{ℕ, List, All, sym, subst, ◌∙◌}
use Rattle.face_tree.specs.Tree.{IsFace}
use Rattle.slice_read.proofs.LiveFaces.{live_are_faces}
use Rattle.built_text.proofs.slice.put_faces_at.Goals as goal

pub put_faces-requires : goal.put_faces-requires
put_faces-requires c =
    subst (λ (xs : List ℕ). All (IsFace c.args.tree.now) xs) (sym (c.deref.ensures.value ∙ c.in_ok-faces.ensures)) (live_are_faces c.args.tree.now c.args.k c.requires)
