use Rattle.std.proofs.Common.{sym, ◌∙◌}
use Rattle.face_cuts.proofs.NodesKeep.{node_is_base}
use Rattle.face_cuts.proofs.node.add_node.Goals as goal

pub with_parts-requires : goal.with_parts-requires
with_parts-requires c =
    let m = c.args.base.now in
    node_is_base m c.args.at (c.in-Some.place.arc, c.in-Some.place.at) c.as_slice-arcs.result.now c.in_ok-arcs.arcs c.in_ok-classes.classes c.arcs.ensures.base
    (c.as_slice-arcs.ensures ∙ c.arcs.ensures.value) (c.in_ok-classes.ensures ∙ c.as_slice.ensures ∙ c.classes.ensures.value) c.in_ok-arcs.ensures
    (sym c.in-Some.ensures.value) (sym c.if-is_node.ensures) (sym c.if-not-has_room.ensures)
