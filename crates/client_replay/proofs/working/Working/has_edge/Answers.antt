use Rattle.std.proofs.Common.{refl, ◌∙◌}
use Rattle.std.specs.Prelude.{◌==◌}
use Rattle.client_replay.specs.Working.{edge_of}
use Rattle.client_replay.proofs.Tables.{any_lookup}
use Rattle.client_replay.proofs.working.Working.has_edge.Goals as goal

pub returns : goal.returns
returns c = c.contains_key.ensures ∙ any_lookup (edge_of c.args.self.now.labels) (λ n e. e.key == n) (λ n p. refl) c.args.key c.args.self.now.lines.entries
