use Rattle.std.proofs.Common.{◌≡◌, ◌+◌, ◌-◌, length}
use Rattle.tgap_model.specs.History.{history_of}
use Rattle.tgap_model.specs.Merged.{merged}
use Rattle.tgap_model.specs.WindowRecords.{window_at, window_steps_down}
use Rattle.refine_packets.specs.Counts.{AreCounts}
use Rattle.refine_packets.specs.Walk.{AreKnown}
use Rattle.refine_packets.proofs.window.window_steps_down.Given as goal

-- the records so far, and the counts of the window that they lead to
abbrev pub invariant-loop-i : goal.invariant-loop-i
invariant-loop-i l =
    (l.steps ≡ window_steps_down (merged l.built) l.near.area l.from l.i)
    × (length l.counts.items ≡ length l.built.classes + length (history_of l.built) + 1)
    × AreCounts l.counts.items (window_at (merged l.built) l.near.area (l.from - l.i)).edges
    × AreKnown l.known.items (window_at (merged l.built) l.near.area (l.from - l.i)).edges
