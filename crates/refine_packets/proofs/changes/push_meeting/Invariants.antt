use Rattle.std.proofs.Common.{◌≡◌, ◌++◌, filter, take}
use Rattle.tgap_model.specs.Slice.{meets_window}
use Rattle.refine_packets.proofs.changes.push_meeting.Given as goal

-- those of the edges so far
abbrev pub invariant-loop-edge : goal.invariant-loop-edge
invariant-loop-edge l = l.edges ≡ l.initial.edges ++ filter (meets_window l.area) (take l.edge-index l.from)
