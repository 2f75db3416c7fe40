use Rattle.commands.proofs.Says.{slice_done, slice_failed_of}
use Rattle.commands.proofs.slice.slice_of.Goals as goal

pub returns-in_err-slice_text_at : goal.returns-in_err-slice_text_at
returns-in_err-slice_text_at c =
    slice_failed_of c.args.built.now c.args.step c.in_err-slice_text_at.field-0.0 c.from_residual.result c.from_residual.ensures.1
    c.in_err-slice_text_at.ensures.high

pub returns : goal.returns
returns c =
    slice_done c.args.built.now c.args.step c.in_ok-slice_text_at.field-0 c.base-base.ensures.base c.base-base.ensures.partition
    c.in_ok-slice_text_at.ensures.high c.in_ok-slice_text_at.ensures.exact
