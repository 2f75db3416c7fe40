use Rattle.std.proofs.Common.{inr, refl, ap, ◌∙◌, Err}
use Rattle.journal_fold.proofs.AfterSteps.{after_edit, after_fault, after_sound}
use Rattle.journal_fold.proofs.maps.map_after.Goals as goal

pub returns-in-Err-Fault-clause-refused : goal.returns-in-Err-Fault-clause-refused
returns-in-Err-Fault-clause-refused g c =
    inr (
      refl,
      after_edit c.args.base.now c.as_slice.result.now c.args.entry.now.batch c.in-Err-Fault.field-0-0 c.edited.result c.as_slice.ensures
          c.edited.ensures.exact (c.in-Err-Fault.is ∙ ap Err c.in-Err-Fault.field-0-is),
    )

pub returns-in-Ok-check-clause-map : goal.returns-in-Ok-check-clause-map
returns-in-Ok-check-clause-map g c =
    after_sound c.args.base.now c.in-Ok.edited c.in-Ok-check.checked c.as_slice.result.now c.args.entry.now.batch c.as_slice.ensures
    c.in-Ok.ensures.exact c.in-Ok-check.ensures.sound

pub returns-in-Err-Fault-check-clause-refused : goal.returns-in-Err-Fault-check-clause-refused
returns-in-Err-Fault-check-clause-refused g c =
    inr (
      refl,
      after_fault c.args.base.now c.in-Ok.edited c.as_slice.result.now c.args.entry.now.batch c.in-Err-Fault-check.field-0-0 c.as_slice.ensures
          c.in-Ok.ensures.exact (c.check.ensures.fault c.in-Err-Fault-check.field-0-0 (c.in-Err-Fault-check.is ∙ ap Err c.in-Err-Fault-check.field-0-is)),
    )
