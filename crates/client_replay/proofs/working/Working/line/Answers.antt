use Rattle.std.proofs.Common.{refl, ap, ◌∙◌}
use Rattle.std.specs.Prelude.{◌==◌}
use Rattle.std.specs.Option.{option_map}
use Rattle.client_replay.specs.Working.{edge_of}
use Rattle.client_replay.proofs.Tables.{find_lookup, map_copied}
use Rattle.client_replay.proofs.working.Working.line.Goals as goal

pub returns : goal.returns
returns c =
    let labels = c.args.self.now.labels in
    map_copied (λ l. edge_of labels (c.args.key, l)) c.get.result
    ∙ ap (option_map (λ l. edge_of labels (c.args.key, l))) c.get.ensures.value
    ∙ find_lookup (edge_of labels) (λ n e. e.key == n) (λ n p. refl) c.args.key c.args.self.now.lines.entries
