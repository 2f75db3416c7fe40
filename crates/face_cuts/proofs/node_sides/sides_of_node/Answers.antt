use Rattle.std.proofs.Common.{◌∙◌, map, get_or, sym, ap, rules, arith}
use Rattle.std.specs.Ordering.{is_lt}
use Rattle.std.proofs.lemmas.Bool.{not-true}
use Rattle.std.proofs.lemmas.List.{get_or_default}
use Rattle.ring_walk.specs.declared.side.Way.TheVariants.{Along}
use Rattle.ring_walk.specs.Sides.{origin}
use Rattle.std.proofs.lemmas.List.Sorted.{IsPartitionPoint-from_clause}
use Rattle.tgap_model.specs.Base.{same_point}
use Rattle.face_cuts.specs.PointSets.{point_cmp}
use Rattle.face_cuts.specs.declared.node_sides.NodeSide.{NodeSide}
use Rattle.face_cuts.proofs.SortedRows.{none_after, none_before, parted_by_key, point_ties, point_total}
use Rattle.face_cuts.proofs.node_sides.sides_of_node.Goals as goal

abbrev none : NodeSide
none = record { node = origin; side = record { span = 0; way = Along } }

pub loop-place-init : goal.loop-place-init
loop-place-init c =
    let rows = c.args.rows.now in
    let key = λ (r : NodeSide). r.node in
    let at = λ (r : NodeSide). same_point r.node c.args.node in
    let first = c.partition_point-first.result in
    let part = IsPartitionPoint-from_clause (λ (r : NodeSide). is_lt (point_cmp r.node c.args.node)) rows first c.partition_point-first.ensures.partitioned
    (parted_by_key key point_cmp point_total rows c.requires c.args.node) (λ a r f' q. search rules) in
    record {
      reached = omega arith;
      found = c.new-found.ensures.items ∙ ap (map (λ (row : NodeSide). row.side)) (sym (none_before key point_cmp point_total rows c.requires c.args.node at (λ r. point_ties r.node c.args.node) first part));
    }

pub returns-then-ne : goal.returns-then-ne
returns-then-ne c =
    let rows = c.args.rows.now in
    let key = λ (r : NodeSide). r.node in
    let at = λ (r : NodeSide). same_point r.node c.args.node in
    let first = c.partition_point-first.result in
    let part = IsPartitionPoint-from_clause (λ (r : NodeSide). is_lt (point_cmp r.node c.args.node)) rows first c.partition_point-first.ensures.partitioned
    (parted_by_key key point_cmp point_total rows c.requires c.args.node) (λ a r f' q. search rules) in
    let i = c.loop-place.place in
    let r = get_or rows i none in
    c.loop-place.invariant.found
    ∙ ap (map (λ (row : NodeSide). row.side)) (none_after key point_cmp point_total rows c.requires c.args.node at (λ r. point_ties r.node c.args.node) first part i r c.loop-place.invariant.reached c.loop-place-test.true
    (get_or_default rows i none r c.loop-place-test.true) (not-true (same_point r.node c.args.node) (sym c.ne.ensures ∙ c.if-ne.true)))
