use Rattle.std.proofs.Common.{◌≡◌}
use Rattle.tgap_model.specs.Bounds.{IsNear}
use Rattle.ring_walk.specs.Sides.{origin}
use Rattle.topo_write.specs.Topology.{deltas}
use Rattle.topo_write.proofs.Commas.{written}
use Rattle.topo_write.proofs.Deltas.{point_in_front}
use Rattle.topo_write.proofs.text.put_arc.Given as goal

abbrev pub invariant-loop-place : goal.invariant-loop-place
invariant-loop-place l = record {
  out : l.out ≡ written l.fn.out (deltas origin l.points) l.place;
  at : l.at ≡ point_in_front l.points l.place;
  near : IsNear l.at;
}
