use Rattle.std.proofs.Common.{◌++◌, ◌∷◌, [], unwrap_or}
use Rattle.std.proofs.lemmas.Result.{err_from_is_err_and}
use Rattle.journal_fold.proofs.EntrySteps.{next_made, stop_told}
use Rattle.journal_fold.proofs.maps.make_all.Goals as goal

pub returns-in_err-checked-clause-refused : goal.returns-in_err-checked-clause-refused
returns-in_err-checked-clause-refused g c =
    let l = c.loop-place in let first = c.args.first.now in
    let p = err_from_is_err_and c.from_residual.result c.from_residual.ensures.1 in
    rw (p.1, p.2)
    (stop_told c.args.entries.now first c.args.places.now l.place-index l.invariant.0 (unwrap_or l.made first) c.newest.result.now
    c.index-entries-place.result l.invariant.1 c.newest.ensures c.loop-place-test.true
    (c.requires l.place-index 0 c.loop-place-test.true) c.index-entries-place.is c.in_err-checked.field-0.0 c.in_err-checked.ensures.refused)

pub loop-place-preserved : goal.loop-place-preserved
loop-place-preserved g c =
    let l = c.loop-place in let first = c.args.first.now in (
      l.invariant.0 ++ c.in_ok-checked.checked ∷ [],
      next_made c.args.entries.now first c.args.places.now l.place-index l.invariant.0 (unwrap_or l.made first) c.newest.result.now
          c.index-entries-place.result l.invariant.1 c.newest.ensures c.loop-place-test.true
          (c.requires l.place-index 0 c.loop-place-test.true) c.index-entries-place.is c.in_ok-checked.checked c.in_ok-checked.ensures.map,
    )
