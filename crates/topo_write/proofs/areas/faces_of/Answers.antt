use Rattle.std.proofs.Common.{◌∙◌, length, ap, refl}
use Rattle.ring_walk.specs.Rings.{ring_face}
use Rattle.topo_write.proofs.RingAreas.{ring_here, map_more}
use Rattle.topo_write.proofs.areas.faces_of.Goals as goal

pub ring_face-requires : goal.ring_face-requires
ring_face-requires c = record {
  sides = (ring_here (length c.args.spans.now) c.args.rings.now c.loop-ring.ring-index c.ring-item.result c.as_slice.result.now (length c.args.spans.now) c.requires c.loop-ring-test.true c.ring-item.is c.as_slice.ensures refl).sides;
  short = (ring_here (length c.args.spans.now) c.args.rings.now c.loop-ring.ring-index c.ring-item.result c.as_slice.result.now (length c.args.spans.now) c.requires c.loop-ring-test.true c.ring-item.is c.as_slice.ensures refl).short;
}

pub loop-ring-preserved : goal.loop-ring-preserved
loop-ring-preserved c = map_more (ring_face c.args.spans.now) c.args.rings.now c.loop-ring.ring-index c.ring-item.result c.loop-ring.faces.items c.push.new.self.items c.ring_face.result c.loop-ring-test.true c.ring-item.is c.loop-ring.invariant
    (c.ring_face.ensures ∙ ap (ring_face c.args.spans.now) c.as_slice.ensures) c.in_ok-push.ensures.items
