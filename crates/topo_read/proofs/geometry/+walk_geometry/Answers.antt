use Rattle.std.proofs.lemmas.Result.{err_from_is_err_and}
use Rattle.serde_json.specs.View.{view}
use Rattle.std.proofs.Common.{map}
use Rattle.plain_io.proofs.Loops.{refused}
use Rattle.topo_read.specs.Walk.{walk_of, own_read}
use Rattle.topo_read.proofs.Walks.{not_deeper, members_first, own_stop}
use Rattle.topo_read.proofs.geometry.+walk_geometry.Goals as goal

pub returns-then-depth-eq0-clause-walked : goal.returns-then-depth-eq0-clause-walked
returns-then-depth-eq0-clause-walked t c =
    not_deeper c.args.depth c.args.arcs c.args.property.now (walk_of c.args.walk.now) (view c.args.geometry.now) c.if-depth-eq0.true

pub returns-in_err-members-clause-walked : goal.returns-in_err-members-clause-walked
returns-in_err-members-clause-walked t c =
    let p = err_from_is_err_and c.from_residual.result c.from_residual.ensures.1 in
    let a = c.args in
    rw (p.1, p.2) (refused c.in_err-members.field-0.0 (own_read a.arcs a.property.now (walk_of a.walk.now) (view a.geometry.now)) _
    (λ f e. own_stop a.depth a.arcs a.property.now (walk_of a.walk.now) (view a.geometry.now) f c.if-depth-eq0.false e) c.in_err-members.ensures.met)

pub loop-member-init : goal.loop-member-init
loop-member-init t c =
    let a = c.args in
    record {
      read = members_first a.depth a.arcs a.property.now (walk_of a.walk.now) (walk_of c.meet.new.walk) (view a.geometry.now) (map view c.in_ok-members.members.now) c.if-depth-eq0.false c.in_ok-members.ensures.met;
      raw = c.in_ok-members.ensures.raw;
    }
