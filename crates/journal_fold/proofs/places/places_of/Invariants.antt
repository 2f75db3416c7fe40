use Rattle.journal_fold.proofs.PlaceSteps.{Folding}
use Rattle.journal_fold.proofs.places.places_of.Given as goal

abbrev pub invariant-loop-place : goal.invariant-loop-place
invariant-loop-place l = Folding l.entries l.place l.places.items
