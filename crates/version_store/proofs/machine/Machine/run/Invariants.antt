use Rattle.std.proofs.Common.{◌≡◌, ◌≤◌, ◌++◌, ◌+◌, length}
use Rattle.std.specs.Vec.{vec_len, vec_capacity}
use Rattle.version_store.specs.Machine.{run}
use Rattle.version_store.proofs.machine.Machine.run.Given as goal

-- what came of the events so far, and what is to come of those that are left, come of all; and there is room for the latter
abbrev pub invariant-loop-event : goal.invariant-loop-event
invariant-loop-event l =
    (run l.fn.self l.fn.events ≡ ((run l.self l.event-iterator.rest.items).0, l.outcomes.items ++ (run l.self l.event-iterator.rest.items).1))
    × (vec_len l.outcomes + length l.event-iterator.rest.items ≤ vec_capacity l.outcomes)
