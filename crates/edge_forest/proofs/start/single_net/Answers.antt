-- The rows and the arc ends of the arcs are a net.
use Rattle.std.proofs.Common.{◌≡◌, ◌<◌, ◌==◌, ◌∙◌, ℕ, List, Option, map, count_by, length, sym, ap, subst, arith}
use Rattle.std.specs.List.{range_with_len, All}
use Rattle.edge_forest.specs.declared.net.Current.{Current}
use Rattle.edge_forest.specs.Net.{IsNetOf}
use Rattle.edge_forest.specs.Start.{arc_row}
use Rattle.edge_forest.proofs.StartNet.{places, nodes_below, arc_net}
use Rattle.edge_forest.proofs.start.single_net.Goals as goal

pub node_counts-requires-clause-few : goal.node_counts-requires-clause-few
node_counts-requires-clause-few c =
    omega (arith, c.requires.few, ap length c.as_slice.ensures.value, places c.args.arcs.now c.args.nodes.now c.requires.nodes)

pub node_counts-requires-clause-below : goal.node_counts-requires-clause-below
node_counts-requires-clause-below c =
    let nodes = c.args.nodes.now in
    let many : c.len.result ≡ length nodes.places.items = omega (arith, c.len.ensures, nodes.places.ok.0) in
    subst (λ (n : ℕ). All (λ node. node < n) c.as_slice.result.now) (sym many)
    (subst (λ (ns : List ℕ). All (λ node. node < length nodes.places.items) ns) (sym c.as_slice.ensures.value)
    (nodes_below c.args.arcs.now nodes c.requires.nodes))

pub returns-clause-net : goal.returns-clause-net
returns-clause-net c =
    let arcs = c.args.arcs.now in
    let nodes = c.args.nodes.now in
    let counts = c.in_ok-node_counts.field-0.items in
    let many : c.len.result ≡ length nodes.places.items = omega (arith, c.len.ensures, nodes.places.ok.0) in
    let known = c.in_ok-node_counts.ensures in
    let net = arc_net arcs nodes c.requires.nodes counts (known.count ∙ many)
    (λ g l. known.counts g (omega (arith, l, many)) ∙ ap (λ (ns : List ℕ). count_by (λ node. node == g) ns) c.as_slice.ensures.value) in
    subst (λ (rows : List (Option Current)). IsNetOf nodes rows c.in_ok-keys_of_ends.field-0.items counts) (sym c.in_ok-single_rows.ensures)
    (subst (λ (ends : List (Option ℕ)). IsNetOf nodes (map (arc_row arcs) (range_with_len 0 (length arcs))) ends counts) (sym c.in_ok-keys_of_ends.ensures) net)
