use Rattle.std.proofs.Common.{◌≡◌, ◌∙◌, sym, subst}
use Rattle.face_cuts.specs.Cuts.{lines_of}
use Rattle.face_cuts.specs.NewRings.{IsLeast}
use Rattle.face_cuts.proofs.LeastSegments.{least_skips}
use Rattle.face_cuts.proofs.new_ring.lesser.Goals as goal
use Rattle.face_cuts.proofs.new_ring.lesser.Goals.{in-Some+else-found-side, in_default}

pub returns-in-None : goal.returns-in-None
returns-in-None g c = λ row h.
    let lines = lines_of (g.T.ArcTable.arcs c.args.table.now) in
    let none = sym c.leaning_at.ensures.value ∙ c.in-None.is in
    let same : c.match-least.least ≡ c.args.least = elim c.match-least.branch [ in-Some+else-found-side w ↦ w.least-is ∙ sym w.in-Some.is | in_default w ↦ w.least-is ] in
    least_skips lines row c.match-least.least c.args.side none (subst (IsLeast lines row) (sym same) h)
