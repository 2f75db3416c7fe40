use Rattle.std.proofs.Common.{◌∙◌, refl}
use Rattle.std.specs.Prelude.{◌==◌}
use Rattle.client_replay.specs.Working.{row_of}
use Rattle.client_replay.proofs.Tables.{any_lookup}
use Rattle.client_replay.proofs.faces.has_face.Goals as goal

pub returns : goal.returns
returns c = c.contains_key.ensures ∙ any_lookup row_of (λ n f. f.face == n) (λ n p. refl) c.args.face c.args.faces.now.entries
