use Rattle.std.proofs.Common.{◌≡◌}
use Rattle.arc_places.specs.Borders.{bordering, face_count}
use Rattle.arc_places.proofs.FusedLists.{FacesBelow}
use Rattle.arc_places.proofs.borders.Borders.of.Given as goal

-- the arcs so far are listed
abbrev pub invariant-loop-number : goal.invariant-loop-number
invariant-loop-number l = record { lists : FacesBelow l.number (bordering l.borders) l.arcs; count : face_count l.borders ≡ l.count }
