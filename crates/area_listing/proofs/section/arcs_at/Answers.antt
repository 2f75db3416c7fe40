use Rattle.std.proofs.Common.{◌∙◌, sym, arith}
use Rattle.std.proofs.lemmas.Result.{err_from_is_err_and}
use Rattle.map_forms.specs.Listing.{arc_at}
use Rattle.plain_io.proofs.Loops.{refused}
use Rattle.area_listing.proofs.Loops.{arcs_go_on, arcs_stop, arcs_done}
use Rattle.area_listing.proofs.OneLine.{points_few}
use Rattle.area_listing.proofs.Sections.{arc_at_is}
use Rattle.area_listing.proofs.section.arcs_at.Goals as goal

pub returns-in_err-arc : goal.returns-in_err-arc
returns-in_err-arc c =
    let p = err_from_is_err_and c.from_residual-in_err-arc.result c.from_residual-in_err-arc.ensures.1 in
    let l = c.loop in
    rw (p.1, p.2) (refused c.in_err-arc.field-0.0 (arc_at c.args.version c.args.faces l.points l.lines) _ (λ f e. sym l.invariant.read ∙ arcs_stop c.args.version c.args.faces l.points l.arcs c.args.n l.counter l.lines f c.loop-test.true e) c.in_err-arc.ensures)

pub returns : goal.returns
returns c = sym c.loop.invariant.read ∙ arcs_done c.args.version c.args.faces c.loop.points c.loop.arcs c.args.n c.loop.counter c.loop.lines c.loop-test.false

pub loop-preserved : goal.loop-preserved
loop-preserved c =
    let l = c.loop in
    let arc = c.in_ok-arc.arc in
    let one = c.in_ok-arc.ensures in
    let more = arcs_go_on c.args.version c.args.faces l.points l.arcs c.args.n l.counter l.lines arc c.read_arc.new.lines c.loop-test.true one in
    let fits = (arc_at_is c.args.version c.args.faces l.points l.lines (arc, c.read_arc.new.lines) one).few in
    record { read = rw (c.in_ok-push.ensures, c.len-points.ensures) (more ∙ l.invariant.read); few = rw c.len-points.ensures (omega (arith, fits, points_few c.args.version)) }
