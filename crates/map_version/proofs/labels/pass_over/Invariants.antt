use Rattle.std.proofs.Common.{◌≡◌, drop}
use Rattle.arc_places.specs.Borders.{CoversFaces, bordering, face_count}
use Rattle.map_version.specs.Labels.{passed_over}
use Rattle.map_version.proofs.labels.pass_over.Given as goal

-- what is left makes of the arcs what the whole made, and all are listed
abbrev pub invariant-loop-side : goal.invariant-loop-side
invariant-loop-side l =
    (passed_over l.face (drop l.side-index l.moved) l.slots ≡ passed_over l.face l.moved l.initial.slots)
    × CoversFaces (bordering l.borders) l.slots
    × (face_count l.borders ≡ face_count l.initial.borders)
