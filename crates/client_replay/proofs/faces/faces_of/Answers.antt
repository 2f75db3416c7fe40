use Rattle.std.proofs.Common.{get_or, ap, ◌∙◌}
use Rattle.lemmas.specs.Sorting.{insert_by}
use Rattle.tgap_model.specs.declared.slice.FaceRow.{FaceRow}
use Rattle.tgap_model.specs.Records.{face_before}
use Rattle.client_replay.proofs.FaceRows.{next_new, next_last}
use Rattle.client_replay.proofs.faces.faces_of.Goals as goal

pub put-requires : goal.put-requires
put-requires c = next_new c.args.rows.now c.loop-row.row-index (record { face = 0; class = 0 }) c.requires c.loop-row-test.true c.loop-row.faces.entries c.loop-row.invariant.rows

pub loop-row-preserved : goal.loop-row-preserved
loop-row-preserved c =
    let rows = c.args.rows.now in
    let i = c.loop-row.row-index in
    let d : FaceRow = record { face = 0; class = 0 } in
    record {
      rows = c.in_ok-put.ensures.put ∙ ap (insert_by face_before (get_or rows i d)) c.loop-row.invariant.rows ∙ next_last rows i d c.requires c.loop-row-test.true;
      ordered = c.put.ensures.ordered;
    }
