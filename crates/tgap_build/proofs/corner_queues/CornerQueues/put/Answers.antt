-- The labels of an edge of the table have lists.
use Rattle.std.proofs.Common.{ℕ, ◌<◌, sym, subst}
use Rattle.map_laws.proofs.Lists.{members_all}
use Rattle.tgap_build.specs.Table.{labelled_edges, IsHeld}
use Rattle.tgap_build.proofs.EdgeTables.{at_among}
use Rattle.tgap_build.proofs.Visits.{listed_within}
use Rattle.tgap_build.proofs.corner_queues.CornerQueues.put.Goals as goal

pub put_edge-requires-clause-left : goal.put_edge-requires-clause-left
put_edge-requires-clause-left c =
    let t = c.args.edges.now in
    let e = c.in-Some.edge.now in
    let here = at_among t.places.items c.args.key e (sym c.in-Some.ensures) in
    let held = members_all (IsHeld t.labels t.beside.items) (labelled_edges t) e c.requires.table.each here in
    subst (λ (n : ℕ). e.left < n) (sym c.requires.room) (listed_within t.beside.items e.left e.key held.at_left)

pub put_edge-requires-clause-right : goal.put_edge-requires-clause-right
put_edge-requires-clause-right c =
    let t = c.args.edges.now in
    let e = c.in-Some.edge.now in
    let here = at_among t.places.items c.args.key e (sym c.in-Some.ensures) in
    let held = members_all (IsHeld t.labels t.beside.items) (labelled_edges t) e c.requires.table.each here in
    subst (λ (n : ℕ). e.right < n) (sym c.requires.room) (listed_within t.beside.items e.right e.key held.at_right)
