use Rattle.std.proofs.Common.{◌≡◌, drop}
use Rattle.std.specs.List.{list_all}
use Rattle.tgap_model.specs.Records.{is_edge_between}
use Rattle.client_replay.proofs.rules.are_between.Given as goal

-- all edges are between the two where those that are left are
abbrev pub invariant-loop-edge : goal.invariant-loop-edge
invariant-loop-edge l =
    list_all (is_edge_between l.step_record.loser l.step_record.winner) (drop l.edge-index l.step_record.ended)
    ≡ list_all (is_edge_between l.step_record.loser l.step_record.winner) l.step_record.ended
