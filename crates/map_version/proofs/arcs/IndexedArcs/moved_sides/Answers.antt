use Rattle.std.proofs.Common.{All, length, sym, subst}
use Rattle.ring_walk.specs.Spans.{IsSide}
use Rattle.arc_places.specs.Slots.{arcs_in}
use Rattle.map_version.proofs.Parted.{over_are}
use Rattle.map_version.proofs.arcs.IndexedArcs.moved_sides.Goals as goal

pub slots_of-requires : goal.slots_of-requires
slots_of-requires c =
    subst (All (IsSide (length (arcs_in c.in_ok-table.table)))) (sym c.as_slice.ensures)
    (over_are (arcs_in c.in_ok-table.table) c.args.face c.args.points.now c.in-Ok.moved c.in-Ok.ensures.exact).within
