use Rattle.std.proofs.Common.{◌≡◌, ◌++◌}
use Rattle.client_replay.specs.Working.{edges_of}
use Rattle.client_replay.proofs.working.edges_in_order.Given as goal

-- the edges so far, and those that are left
abbrev pub invariant-loop-key : goal.invariant-loop-key
invariant-loop-key l = l.edges.items ++ edges_of l.labels l.key-iterator ≡ edges_of l.labels l.fn.lines.entries
