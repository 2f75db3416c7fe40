use Rattle.std.proofs.Common.{◌≡◌, drop}
use Rattle.std.specs.List.{list_any}
use Rattle.client_replay.specs.Coming.{stays}
use Rattle.client_replay.specs.Working.{slice_of}
use Rattle.client_replay.proofs.coming.meet_staying.Given as goal

-- one of all edges meets one that stays where one of those that are left does
abbrev pub invariant-loop-edge : goal.invariant-loop-edge
invariant-loop-edge l =
    list_any (λ e. stays (slice_of l.working) l.step_record e.key) (drop l.edge-index l.edges) ≡ list_any (λ e. stays (slice_of l.working) l.step_record e.key) l.edges
