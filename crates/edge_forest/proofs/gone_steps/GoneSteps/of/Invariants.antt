-- The arcs so far are laid.
use Rattle.edge_forest.proofs.LaidSteps.{AreLaid}
use Rattle.edge_forest.proofs.gone_steps.GoneSteps.of.Given as goal

abbrev pub invariant-loop-arc : goal.invariant-loop-arc
invariant-loop-arc l = AreLaid l.arcs l.removed l.arc-index l.steps.items l.starts.items
