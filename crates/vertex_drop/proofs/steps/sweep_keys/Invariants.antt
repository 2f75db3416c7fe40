-- the edges up to the key before were swept or passed
use Rattle.vertex_drop.proofs.Reached.{IsReached}
use Rattle.vertex_drop.proofs.steps.sweep_keys.Given as goal

abbrev pub invariant-loop-key : goal.invariant-loop-key
invariant-loop-key g l = IsReached l.rule l.made l.keys (g.L.LiveTable.edges l.live) l.kept l.gone.items l.key-index
