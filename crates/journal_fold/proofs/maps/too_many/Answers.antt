use Rattle.std.proofs.Common.{inr, ℕ, ◌∙◌, ap, Err, arith}
use Rattle.edit_journal.specs.Told.{all_kept}
use Rattle.journal_fold.specs.declared.fail.FoldFail.TheVariants.{Long}
use Rattle.journal_fold.specs.JournalFolds.{maps_from, batch_at, batches_at}
use Rattle.std.proofs.lemmas.List.{length-map}
use Rattle.journal_fold.proofs.MapSteps.{maps_length, many_told}
use Rattle.journal_fold.proofs.maps.too_many.Goals as goal

pub returns-in-Ok : goal.returns-in-Ok
returns-in-Ok g c = λ limit many.
    let entries = all_kept c.args.entries.now in let places = c.args.places.now in
    let batches = batches_at entries places in let made = c.in-Ok.ensures.made in
    let count = maps_length 0 c.args.first.now batches made.0 made.1 ∙ length-map places (batch_at entries) in
    inr (many_told limit places (maps_from 0 c.args.first.now batches) made.0 made.1 (omega (arith, count, many))
    ∙ ap (λ (n : ℕ). Err (Long n)) count)
