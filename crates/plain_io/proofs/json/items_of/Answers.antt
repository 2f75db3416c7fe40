use Rattle.std.proofs.Common.{refl, sym, map}
use Rattle.serde_json.specs.View.{view}
use Rattle.plain_io.proofs.JsonTrees.{list_of_items}
use Rattle.plain_io.proofs.json.items_of.Goals as goal

-- src/json.rt:23:1
pub returns : goal.returns
returns c = rw (c.as_slice.ensures.value, sym (c.in_ok-items.ensures), list_of_items (map view c.in_ok-items.items.now.items)) refl
