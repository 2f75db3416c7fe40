use Rattle.std.proofs.Common.{get_or, pos}
use Rattle.std.proofs.lemmas.List.{get_or_default}
use Rattle.tgap_model.specs.declared.geometry.Point.{Point}
use Rattle.arc_places.specs.Places.{listed, is_among}
use Rattle.arc_places.proofs.Listed.{listed_more}
use Rattle.arc_places.proofs.places.Places.list_points.Goals as goal

pub loop-point-preserved : goal.loop-point-preserved
loop-point-preserved c = λ p i.
    let nowhere : Point = record { x = pos 0; y = pos 0 } in
    let points = c.args.points.now in
    let k = c.loop-point.point-index in
    listed_more i c.args.arc p (get_or points k nowhere) points k (is_among i (listed c.args.self.now p)) (listed c.loop-point.self) (listed c.list.new.self p)
    c.loop-point-test.true (get_or_default points k nowhere (get_or points k nowhere) c.loop-point-test.true) (c.in_ok-list.ensures p) (c.loop-point.invariant p i)
