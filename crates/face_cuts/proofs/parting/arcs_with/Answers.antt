use Rattle.std.proofs.Common.{◌∙◌, ◌++◌, [], ◌∷◌, List, Bool, ap, ap₂}
use Rattle.tgap_model.specs.declared.geometry.Point.{Point}
use Rattle.tgap_model.specs.declared.base.BaseArc.{BaseArc}
use Rattle.face_cuts.specs.Cuts.{with_faces}
use Rattle.face_cuts.specs.NewRings.{told_face}
use Rattle.face_cuts.proofs.Faces.{told_is}
use Rattle.face_cuts.proofs.parting.arcs_with.Goals as goal

pub returns : goal.returns
returns c =
    let arcs = c.args.arcs.now in
    let f = c.args.arc.face in
    let new = c.args.arc.new in
    c.in_ok-push.ensures
    ∙ ap₂ (λ (xs : List BaseArc) (ps : List Point). xs ++ record { left = new; right = f; points = ps } ∷ [])
    (c.in_ok-made.ensures ∙ ap (λ (bs : List Bool). with_faces (told_face arcs f new bs) 0 arcs) c.deref.ensures.value
    ∙ told_is arcs f new c.args.moved.now c.in_ok-notes.notes.items c.in_ok-notes.ensures)
    c.in_ok-copied_points.ensures
