use Rattle.std.proofs.Common.{◌∙◌, ap, []}
use Rattle.std.proofs.lemmas.List.{get_or_default}
use Rattle.tgap_model.specs.declared.base.BaseArc.{BaseArc}
use Rattle.arc_places.specs.Places.{listed}
use Rattle.arc_places.proofs.Listed.{covers_more, covers_all}
use Rattle.arc_places.proofs.places.Places.of.Goals as goal

pub loop-number-preserved : goal.loop-number-preserved
loop-number-preserved c =
    let n = c.loop-number.number in
    covers_more (listed c.loop-number.places) (listed c.list_points.new.self) c.args.arcs.now n c.as_slice.result.now
    (c.as_slice.ensures ∙ ap (λ (a : BaseArc). a.points) (get_or_default c.args.arcs.now n _ (record { left = 0; right = 0; points = [] }) c.loop-number-test.true))
    c.in_ok-list_points.ensures c.loop-number.invariant

pub returns : goal.returns
returns c = covers_all (listed c.loop-number.places) c.args.arcs.now c.loop-number.number c.loop-number-test.false c.loop-number.invariant
