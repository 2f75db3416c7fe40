use Rattle.std.proofs.Common.{ap, ◌∙◌}
use Rattle.std.proofs.lemmas.Result.{on_ok_weaker}
use Rattle.lemmas.specs.Sorting.{insert_by}
use Rattle.tgap_model.specs.declared.slice.FaceRow.{FaceRow}
use Rattle.tgap_model.specs.Records.{face_before}
use Rattle.client_replay.specs.Working.{rows_of}
use Rattle.client_replay.proofs.Tables.{ascend}
use Rattle.client_replay.proofs.FaceRows.{without_face}
use Rattle.client_replay.proofs.faces.part.Goals as goal

pub returns-clause-parted : goal.returns-clause-parted
returns-clause-parted c =
    let r = c.args.step_record.now in
    let old = c.args.faces.now.entries in
    let loser : FaceRow = record { face = r.loser; class = r.loser_class } in
    let winner : FaceRow = record { face = r.winner; class = r.winner_class } in
    let before = c.in_ok-put.ensures.put ∙ ap (λ es. insert_by face_before winner (rows_of es)) c.remove.ensures.entries
    ∙ ap (insert_by face_before winner) (without_face r.made old (ascend old c.requires.ordered)) in
    on_ok_weaker c.put-2.result (λ e. e ∙ ap (insert_by face_before loser) before) c.put-2.ensures.put
