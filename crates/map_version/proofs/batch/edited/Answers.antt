use Rattle.std.proofs.Common.{◌≤◌, length, sym, subst}
use Rattle.line_forms.specs.Lines.{Lines}
use Rattle.map_version.proofs.Batches.{some_row}
use Rattle.map_version.proofs.batch.edited.Goals as goal

pub apply_all-requires : goal.apply_all-requires
apply_all-requires c = subst (λ (lines : Lines). 1 ≤ length lines.rows) (sym c.of-lines.ensures) (some_row c.args.batch.now)
