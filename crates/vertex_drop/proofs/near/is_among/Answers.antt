use Rattle.std.proofs.Common.{◌∙◌}
use Rattle.grid_index.proofs.KeyLists.{is_found}
use Rattle.vertex_drop.proofs.Reached.{non_decreasing}
use Rattle.vertex_drop.proofs.near.is_among.Goals as goal

pub returns : goal.returns
returns c =
    c.is_ok.ensures.value
    ∙ is_found c.args.keys.now c.args.key c.binary_search.result (non_decreasing c.args.keys.now c.requires) c.binary_search.ensures.position
