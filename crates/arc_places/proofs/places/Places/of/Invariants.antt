use Rattle.arc_places.specs.Places.{listed}
use Rattle.arc_places.proofs.Listed.{CoversBelow}
use Rattle.arc_places.proofs.places.Places.of.Given as goal

-- the arcs so far are listed
abbrev pub invariant-loop-number : goal.invariant-loop-number
invariant-loop-number l = CoversBelow l.number (listed l.places) l.arcs
