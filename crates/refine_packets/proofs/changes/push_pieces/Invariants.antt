use Rattle.std.proofs.Common.{◌≡◌, ◌++◌, take}
use Rattle.tgap_model.specs.Merged.{merged}
use Rattle.tgap_model.specs.WindowRecords.{window_at}
use Rattle.refine_packets.specs.Walk.{pieces_in}
use Rattle.refine_packets.proofs.changes.push_pieces.Given as goal

-- those of the pieces so far
abbrev pub invariant-loop-piece : goal.invariant-loop-piece
invariant-loop-piece l = l.edges ≡ l.initial.edges ++ pieces_in (window_at (merged l.forest.base) l.near.area l.k) (take l.piece-index l.pieces)
