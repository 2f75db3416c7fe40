use Rattle.std.proofs.Common.{ap, ◌∙◌}
use Rattle.edit_journal.specs.Told.{all_kept}
use Rattle.journal_fold.specs.JournalFolds.{batches_at}
use Rattle.journal_fold.proofs.EntrySteps.{placed_rise}
use Rattle.journal_fold.proofs.PlaceLaws.{batches_are}
use Rattle.journal_fold.proofs.PlaceSteps.{folding_end}
use Rattle.journal_fold.proofs.places.places_of.Goals as goal

pub returns-clause-batches : goal.returns-clause-batches
returns-clause-batches c =
    let entries = c.args.entries.now in
    let all = folding_end entries c.loop-place.place c.loop-place.places.items c.loop-place.invariant c.loop-place-test.false in
    ap (batches_at (all_kept entries)) all.0 ∙ batches_are (all_kept entries)

pub returns-clause-within : goal.returns-clause-within
returns-clause-within c =
    let entries = c.args.entries.now in let places = c.loop-place.places.items in
    let all = folding_end entries c.loop-place.place places c.loop-place.invariant c.loop-place-test.false in
    (placed_rise entries places all.0).below

pub returns-clause-ascend : goal.returns-clause-ascend
returns-clause-ascend c =
    let entries = c.args.entries.now in let places = c.loop-place.places.items in
    let all = folding_end entries c.loop-place.place places c.loop-place.invariant c.loop-place-test.false in
    (placed_rise entries places all.0).ascend
