use Rattle.std.proofs.Common.{◌∙◌, [], sym, ap}
use Rattle.tgap_model.specs.Point.{shoelace}
use Rattle.ring_walk.specs.declared.side.Way.{Way}
use Rattle.ring_walk.specs.Areas.{points_by}
use Rattle.std.specs.Prelude.{slice_index_or}
use Rattle.ring_sides.proofs.Measures.{minus_is}
use Rattle.topo_write.proofs.RingAreas.{side_against}
use Rattle.topo_write.proofs.areas.side_area.Goals as goal

pub returns-in-Against-clause-value : goal.returns-in-Against-clause-value
returns-in-Against-clause-value c = λ lines h.
    let s = c.args.side in
    minus_is c.sum_at-sum.result c.sum_at-sum.ensures.size
    ∙ side_against lines c.args.sums.now s.span c.sum_at-sum.result h c.requires.side c.sum_at-sum.ensures.value
    ∙ ap (λ (w : Way). shoelace (points_by w (slice_index_or lines s.span []))) (sym c.in-Against.is)
