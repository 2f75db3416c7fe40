use Rattle.std.proofs.Common.{◌≡◌, ◌-◌, take}
use Rattle.tgap_model.specs.Merged.{merged}
use Rattle.tgap_model.specs.WindowRecords.{window_at}
use Rattle.refine_packets.specs.Walk.{changes_by}
use Rattle.refine_packets.proofs.changes.changes_of.Given as goal

-- by the mends so far
abbrev pub invariant-loop-mend : goal.invariant-loop-mend
invariant-loop-mend l =
    l.changes ≡ changes_by (window_at (merged l.forest.base) l.near.area l.j) (window_at (merged l.forest.base) l.near.area (l.j - 1)) (take l.mend-index l.mends)
