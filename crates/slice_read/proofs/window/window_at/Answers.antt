-- The faces and the edges are those of the window.
use Rattle.std.proofs.Common.{List, filter, ap, ap₂, subst, ◌∙◌, arith}
use Rattle.tgap_model.specs.declared.slice.Edge.{Edge}
use Rattle.tgap_model.specs.declared.slice.FaceRow.{FaceRow}
use Rattle.std.specs.List.{list_any}
use Rattle.tgap_model.specs.Removals.{has_side}
use Rattle.tgap_model.specs.Slice.{meets_window, slice, window_of}
use Rattle.map_laws.proofs.ChainMembers.{Among}
use Rattle.map_laws.proofs.Lists.{kept_among}
use Rattle.slice_read.proofs.WindowFaces.{sides_are_faces, window_faces}
use Rattle.slice_read.proofs.window.window_at.Goals as goal

pub faces_beside-requires : goal.faces_beside-requires
unfolding slice
faces_beside-requires c =
    let m = c.args.built.now in
    let edges = c.as_slice.ensures ∙ c.in_ok-edges.ensures in
    sides_are_faces m c.base.ensures.base c.args.k (omega (arith, c.steps-steps.ensures, c.if-k-steps.false)) c.tree.result.now c.tree.ensures c.as_slice.result.now
    (λ e n. kept_among (meets_window c.args.area) (slice m c.args.k).edges e (subst (λ (es : List Edge). Among e es) edges n))

pub returns-clause-exact : goal.returns-clause-exact
unfolding slice window_of
returns-clause-exact c =
    let m = c.args.built.now in
    let edges = c.as_slice.ensures ∙ c.in_ok-edges.ensures in
    let faces = window_faces m c.base.ensures.base c.args.k (omega (arith, c.steps-steps.ensures, c.if-k-steps.false)) c.tree.result.now c.tree.ensures c.as_slice.result.now
    (λ e n. kept_among (meets_window c.args.area) (slice m c.args.k).edges e (subst (λ (es : List Edge). Among e es) edges n)) c.in_ok-faces.faces c.in_ok-faces.ensures in
    ap₂ (λ (rows : List FaceRow) (es : List Edge). record { step = c.args.k; faces = rows; edges = es })
    (faces ∙ ap (λ (es : List Edge). filter (λ r. list_any (has_side r.face) es) (slice m c.args.k).faces) edges) c.in_ok-edges.ensures
