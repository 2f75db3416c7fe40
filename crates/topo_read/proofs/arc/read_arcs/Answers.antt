use Rattle.std.proofs.Common.{◌++◌, ◌∷◌, [], ◌+◌, length, length-append, ◌∙◌, ap}
use Rattle.std.proofs.lemmas.Result.{err_from_is_err_and}
use Rattle.serde_json.specs.View.{view}
use Rattle.topology_forms.specs.Topology.{arc_read}
use Rattle.plain_io.proofs.Loops.{refused}
use Rattle.topo_read.specs.Arcs.{arc_points}
use Rattle.topo_read.proofs.ArcForm.{arc_stops, arc_goes_on}
use Rattle.topo_read.proofs.Folds.{fold_goes_on, fold_stops}
use Rattle.topo_read.proofs.arc.read_arcs.Goals as goal

pub returns-in_err-points : goal.returns-in_err-points
returns-in_err-points c =
    let p = err_from_is_err_and c.from_residual.result c.from_residual.ensures.1 in
    let l = c.loop-number in
    let arc = c.index-arcs-number.result in
    rw (p.1, p.2, ← l.invariant.read)
    (refused c.in_err-points.field-0.0 (arc_points c.args.deltas l.number (view arc)) _
    (λ f e. fold_stops view (arc_read c.args.deltas) l.lines f c.args.arcs.now l.number arc c.loop-number-test.true c.index-arcs-number.is (arc_stops c.args.deltas l.lines l.number (view arc) f l.invariant.count e))
    c.in_err-points.ensures)

pub loop-number-preserved : goal.loop-number-preserved
loop-number-preserved c =
    let l = c.loop-number in
    let arc = c.index-arcs-number.result in
    let points = c.in_ok-points.points in
    let read = arc_goes_on c.args.deltas l.lines l.number (view arc) points l.invariant.count c.in_ok-points.ensures in
    record {
      read = rw c.in_ok-push.ensures (fold_goes_on view (arc_read c.args.deltas) l.lines (l.lines ++ points ∷ []) c.args.arcs.now l.number arc c.loop-number-test.true c.index-arcs-number.is read ∙ l.invariant.read);
      count = ap length c.in_ok-push.ensures ∙ length-append l.lines (points ∷ []) ∙ ap (λ n. n + 1) l.invariant.count;
    }
