use Rattle.std.proofs.Common.{◌≡◌, ◌++◌, flat_map, take}
use Rattle.client_replay.specs.Coming.{mended}
use Rattle.client_replay.specs.Working.{slice_of}
use Rattle.client_replay.proofs.coming.add_mended.Given as goal

-- the pieces by the mends so far
abbrev pub invariant-loop-mend : goal.invariant-loop-mend
invariant-loop-mend l =
    l.edges.items ≡ l.initial.edges.items ++ flat_map (mended (slice_of l.working).edges l.step_record) (take l.mend-index l.step_record.mends)
