-- A search among ascending keys.
use Rattle.std.proofs.Common.{◌∙◌}
use Rattle.grid_index.proofs.KeyLists.{is_found}
use Rattle.tgap_build.proofs.live_edges.holds.Goals as goal

pub returns : goal.returns
returns c = c.is_ok.ensures.value ∙ is_found c.args.keys.now c.args.key c.binary_search.result c.requires c.binary_search.ensures.position
