use Rattle.std.proofs.Common.{refl, ◌∙◌}
use Rattle.edge_forest.proofs.Limits.{rows_small, places_within}
use Rattle.edge_forest.proofs.JoinStored.{one_there, other_there_once, labels_there, join_stored, joined_at, join_continued, join_joined, rows_by, edges_by}
use Rattle.edge_forest.proofs.join.join.Goals as goal

pub meeting-requires-clause-places : goal.meeting-requires-clause-places
meeting-requires-clause-places c = places_within c.args.low c.args.growth.now c.requires.stored c.args.node c.requires.node

pub join-requires-clause-small : goal.join-requires-clause-small
join-requires-clause-small c = rows_small c.args.low c.args.growth.now c.requires.stored

pub end_edge-requires : goal.end_edge-requires
end_edge-requires c = one_there c.args.low c.args.growth.now c.requires.stored _ c.in-Some.meeting c.in-Some.ensures c.requires.low

pub end_edge-requires-2 : goal.end_edge-requires-2
end_edge-requires-2 c =
    other_there_once c.args.low c.args.growth.now c.requires.stored _ c.in-Some.meeting c.in-Some.ensures c.requires.low _ c.end_edge.ensures.edges

pub face-requires : goal.face-requires
face-requires c = (labels_there c.args.low c.args.growth.now c.requires.stored _ c.in-Some.meeting c.in-Some.ensures c.requires.low).0

pub face-requires-2 : goal.face-requires-2
face-requires-2 c = (labels_there c.args.low c.args.growth.now c.requires.stored _ c.in-Some.meeting c.in-Some.ensures c.requires.low).1

pub returns-clause-stored : goal.returns-clause-stored
returns-clause-stored c =
    join_stored c.args.low c.args.growth.now c.requires.stored _ c.in-Some.meeting c.in-Some.ensures c.requires.low _ _ _ _
    (rows_by c.args.low c.args.growth.now c.requires.stored _ c.in-Some.meeting c.in-Some.ensures c.requires.low _ _ (c.len-id.ensures ∙ c.args.growth.now.edges.ok.0) c.join.ensures.rows)
    c.join.ensures.net
    (edges_by c.args.low c.args.growth.now c.requires.stored _ c.in-Some.meeting c.in-Some.ensures c.requires.low _ _ _ _ _ _ c.face.ensures c.face-2.ensures c.end_edge.ensures.edges
    c.end_edge-2.ensures.edges c.joined_parts.ensures c.push_reserved.ensures.items)

pub returns-clause-joined : goal.returns-clause-joined
returns-clause-joined c =
    joined_at c.args.low c.args.growth.now c.requires.stored _ c.in-Some.meeting c.in-Some.ensures c.requires.low _ c.args.node refl refl refl
    (rows_by c.args.low c.args.growth.now c.requires.stored _ c.in-Some.meeting c.in-Some.ensures c.requires.low _ _ (c.len-id.ensures ∙ c.args.growth.now.edges.ok.0) c.join.ensures.rows)
    (edges_by c.args.low c.args.growth.now c.requires.stored _ c.in-Some.meeting c.in-Some.ensures c.requires.low _ _ _ _ _ _ c.face.ensures c.face-2.ensures c.end_edge.ensures.edges
    c.end_edge-2.ensures.edges c.joined_parts.ensures c.push_reserved.ensures.items)

pub returns-clause-continued : goal.returns-clause-continued
returns-clause-continued c =
    join_continued c.args.low c.args.growth.now c.requires.stored _ c.in-Some.meeting c.in-Some.ensures c.requires.low _
    (edges_by c.args.low c.args.growth.now c.requires.stored _ c.in-Some.meeting c.in-Some.ensures c.requires.low _ _ _ _ _ _ c.face.ensures c.face-2.ensures c.end_edge.ensures.edges
    c.end_edge-2.ensures.edges c.joined_parts.ensures c.push_reserved.ensures.items)

pub returns-clause-parts : goal.returns-clause-parts
returns-clause-parts c =
    join_joined c.args.low c.args.growth.now c.requires.stored _ c.in-Some.meeting c.in-Some.ensures c.requires.low _
    (edges_by c.args.low c.args.growth.now c.requires.stored _ c.in-Some.meeting c.in-Some.ensures c.requires.low _ _ _ _ _ _ c.face.ensures c.face-2.ensures c.end_edge.ensures.edges
    c.end_edge-2.ensures.edges c.joined_parts.ensures c.push_reserved.ensures.items)
