use Rattle.std.proofs.Common.{ℕ, Option, Some, None, false, ap, ◌∙◌}
use Rattle.std.specs.Prelude.{◌==◌}
use Rattle.client_replay.proofs.Tables.{ascend}
use Rattle.client_replay.proofs.FaceRows.{any_row}
use Rattle.client_replay.proofs.faces.has_row.Goals as goal

pub returns-in-Some : goal.returns-in-Some
returns-in-Some c =
    ap (λ (o : Option ℕ). elim o [ None ↦ false | Some v ↦ v == c.args.class ]) c.in-Some.ensures.value
    ∙ any_row c.args.face c.args.class c.args.faces.now.entries (ascend c.args.faces.now.entries c.requires)

pub returns-in-None : goal.returns-in-None
returns-in-None c =
    ap (λ (o : Option ℕ). elim o [ None ↦ false | Some v ↦ v == c.args.class ]) c.in-None.ensures.value
    ∙ any_row c.args.face c.args.class c.args.faces.now.entries (ascend c.args.faces.now.entries c.requires)
