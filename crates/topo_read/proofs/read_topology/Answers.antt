use Rattle.std.proofs.Common.{◌≡◌, Some, option_map, sym, ap, ◌∙◌, arith}
use Rattle.serde_json.specs.View.{view}
use Rattle.line_forms.specs.Json.{tree}
use Rattle.topo_read.proofs.Sizes.{size_of_tree}
use Rattle.topo_read.proofs.InParts.{tree_goes_on, tree_stops}
use Rattle.topo_read.proofs.read_topology.Goals as goal

pub read_map-requires : goal.read_map-requires
read_map-requires c =
    let is : tree c.args.bytes.now ≡ Some (view c.in-Some.tree) = sym c.in_ok-tree.ensures ∙ ap (option_map view) c.in-Some.is in
    omega (arith, size_of_tree c.args.bytes.now (view c.in-Some.tree) is)

pub returns-in-Some-clause-exact : goal.returns-in-Some-clause-exact
returns-in-Some-clause-exact c =
    let is : tree c.args.bytes.now ≡ Some (view c.in-Some.tree) = sym c.in_ok-tree.ensures ∙ ap (option_map view) c.in-Some.is in
    rw (tree_goes_on c.args.bytes.now c.args.object.now c.args.property.now (view c.in-Some.tree) is) c.read_map.ensures.exact

pub returns-in-None-clause-exact : goal.returns-in-None-clause-exact
returns-in-None-clause-exact c = tree_stops c.args.bytes.now c.args.object.now c.args.property.now (sym c.in_ok-tree.ensures ∙ ap (option_map view) c.in-None.is)
