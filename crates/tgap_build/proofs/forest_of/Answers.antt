-- Before the first step nothing is removed.
use Rattle.tgap_build.proofs.Removed.{none_removed}
use Rattle.tgap_build.proofs.forest_of.Goals as goal

pub sweep_all-requires-clause-removed : goal.sweep_all-requires-clause-removed
sweep_all-requires-clause-removed c = none_removed c.in_ok-forest.forest c.in_ok-forest.ensures.nothing
