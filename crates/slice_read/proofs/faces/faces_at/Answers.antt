-- The live faces are faces, and their rows are those of the tree.
use Rattle.std.proofs.Common.{◌≡◌, ◌+◌, ◌∙◌, ap, map, sym, subst, List, ℕ, All}
use Rattle.std.proofs.lemmas.Result.{IfOk-weaker}
use Rattle.tgap_model.specs.declared.slice.FaceRow.{FaceRow}
use Rattle.face_tree.specs.Tree.{IsFace}
use Rattle.slice_read.specs.Reading.{live_rows}
use Rattle.slice_read.specs.Windows.{row_of}
use Rattle.slice_read.proofs.LiveFaces.{live_are_faces}
use Rattle.slice_read.proofs.faces.faces_at.Goals as goal

pub rows_of-requires : goal.rows_of-requires
rows_of-requires c =
    subst (λ (xs : List ℕ). All (IsFace c.args.tree.now) xs) (sym (c.deref.ensures.value ∙ c.in_ok-faces.ensures)) (live_are_faces c.args.tree.now c.args.k c.requires)

pub returns : goal.returns
returns c =
    let t = c.args.tree.now in
    let k = c.args.k in
    IfOk-weaker c.rows_of.result _ (λ (rows : List FaceRow). rows ≡ live_rows t k (t.faces + k)) (λ rows e.
    e ∙ ap (map (row_of t)) (c.deref.ensures.value ∙ c.in_ok-faces.ensures)) c.rows_of.ensures
