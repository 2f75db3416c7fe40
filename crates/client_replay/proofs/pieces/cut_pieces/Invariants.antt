use Rattle.std.proofs.Common.{◌≡◌, ◌++◌, drop}
use Rattle.tgap_model.specs.Records.{cut_pieces}
use Rattle.client_replay.proofs.pieces.cut_pieces.Given as goal

-- the pieces so far, and those that are left
abbrev pub invariant-loop-piece : goal.invariant-loop-piece
invariant-loop-piece l =
    l.edges.items ++ cut_pieces l.step_record l.edge l.points l.first (drop l.piece-index l.pieces)
    ≡ l.initial.edges.items ++ cut_pieces l.step_record l.edge l.points 0 l.pieces
