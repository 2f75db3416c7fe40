-- The rows of the points give the nodes.
use Rattle.std.proofs.Common.{◌<◌, ℕ, List, length, sym, ap, subst, arith}
use Rattle.std.specs.List.{All}
use Rattle.edge_forest.specs.Places.{AreInOrder, AreListed}
use Rattle.edge_forest.proofs.InOrder.{rows_count, rows_within, rows_apart, all_below, are_nodes}
use Rattle.edge_forest.proofs.nodes.Nodes.of.Goals as goal

pub numbered-requires-clause-small : goal.numbered-requires-clause-small
numbered-requires-clause-small c =
    omega (arith, c.requires.small, rows_count c.args.points.now c.in_ok-rows.rows.items c.in_ok-rows.ensures, ap length c.deref.ensures.value)

pub numbered-requires-clause-places : goal.numbered-requires-clause-places
numbered-requires-clause-places c =
    rows_within c.args.points.now c.deref.result.now (subst (AreInOrder c.args.points.now) (sym c.deref.ensures.value) c.in_ok-rows.ensures)

pub numbered-requires-clause-apart : goal.numbered-requires-clause-apart
numbered-requires-clause-apart c =
    rows_apart c.args.points.now c.deref.result.now (subst (AreInOrder c.args.points.now) (sym c.deref.ensures.value) c.in_ok-rows.ensures)

pub places_by_node-requires-clause-small : goal.places_by_node-requires-clause-small
places_by_node-requires-clause-small c =
    let known = c.in_ok-node_of.ensures in
    let rows = rows_count c.args.points.now c.in_ok-rows.rows.items c.in_ok-rows.ensures in
    omega (arith, c.requires.small, rows, ap length c.deref.ensures.value, ap length c.deref-2.ensures.value, known.places)

pub places_by_node-requires-clause-below : goal.places_by_node-requires-clause-below
places_by_node-requires-clause-below c =
    let order = subst (AreInOrder c.args.points.now) (sym c.deref.ensures.value) c.in_ok-rows.ensures in
    let below = all_below c.args.points.now c.deref.result.now order c.in_ok-node_of.node_of.items c.in_ok-node_of.count c.in_ok-node_of.ensures in
    subst (λ (xs : List ℕ). All (λ node. node < c.in_ok-node_of.count) xs) (sym c.deref-2.ensures.value) below

pub returns : goal.returns
returns c =
    let order = subst (AreInOrder c.args.points.now) (sym c.deref.ensures.value) c.in_ok-rows.ensures in
    let places = c.in_ok-places.places in
    let listed = subst (λ (xs : List ℕ). AreListed xs (length xs) places.items) c.deref-2.ensures.value c.in_ok-places.ensures.places in
    are_nodes c.args.points.now c.deref.result.now c.in_ok-node_of.count (record { node_of = c.in_ok-node_of.node_of; places = places }) order c.in_ok-node_of.ensures
    c.in_ok-places.ensures.count listed
