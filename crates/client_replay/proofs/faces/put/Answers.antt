use Rattle.std.proofs.Common.{refl, ap, ◌∙◌}
use Rattle.tgap_model.specs.Records.{face_before}
use Rattle.client_replay.specs.Working.{row_of, rows_of}
use Rattle.client_replay.proofs.Tables.{inserted}
use Rattle.client_replay.proofs.faces.put.Goals as goal

pub returns-clause-put : goal.returns-clause-put
returns-clause-put c =
    ap rows_of c.in_ok-insert.ensures.entries
    ∙ inserted row_of face_before (λ p q. refl) c.args.row.face c.args.row.class c.args.faces.now.entries c.requires
