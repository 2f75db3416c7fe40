use Rattle.std.proofs.Common.{◌≡◌, drop}
use Rattle.std.specs.List.{list_all}
use Rattle.client_replay.specs.Rules.{names_edge}
use Rattle.client_replay.specs.Working.{slice_of}
use Rattle.client_replay.proofs.rules.name_edges.Given as goal

-- all mends name an edge where those that are left do
abbrev pub invariant-loop-mend : goal.invariant-loop-mend
invariant-loop-mend l = list_all (names_edge (slice_of l.working) l.step_record) (drop l.mend-index l.step_record.mends) ≡ list_all (names_edge (slice_of l.working) l.step_record) l.step_record.mends
