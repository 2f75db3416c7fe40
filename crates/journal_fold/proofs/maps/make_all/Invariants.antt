use Rattle.std.proofs.Common.{List, unwrap_or}
use Rattle.tgap_model.specs.Base.{BaseMap}
use Rattle.edit_journal.specs.Told.{all_kept}
use Rattle.journal_fold.proofs.MapSteps.{Making}
use Rattle.journal_fold.proofs.maps.make_all.Given as goal

abbrev pub invariant-loop-place : goal.invariant-loop-place
invariant-loop-place g l =
    (maps : List BaseMap) × Making (all_kept l.entries) l.first l.places l.place-index maps (unwrap_or l.made l.first)
