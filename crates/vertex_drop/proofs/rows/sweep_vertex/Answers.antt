-- The vertex is kept or removed as the definition says.
use Rattle.std.proofs.Common.{get_or, sym, ◌∙◌}
use Rattle.vertex_drop.specs.Left.{swept_by, other_segments}
use Rattle.vertex_drop.proofs.Swept.{stand_alike}
use Rattle.vertex_drop.proofs.Walked.{vertex_gone, vertex_kept}
use Rattle.vertex_drop.proofs.rows.sweep_vertex.Goals as goal

pub returns-in_ok-push-clause-on : goal.returns-in_ok-push-clause-on
returns-in_ok-push-clause-on g c i d more there same ahead =
    let at = c.args.at in
    let t = c.args.corner in
    let live = g.L.LiveTable.edges c.args.live.now in
    let kept = c.args.kept.now in
    let test = c.in_ok-is_removable.ensures ∙ stand_alike c.args.rule.ratio c.args.rule.area at live i d kept t.a t.b t.c c.requires.live.ascending there same in
    rw c.in_ok-push.ensures.items
    (vertex_gone c.args.rule (other_segments (swept_by at) i live) (get_or live i d).points kept c.args.gone.now.items t.a t.b t.c at.place more ahead
    (sym test ∙ c.if-branch.true))

pub returns-in_ok-push-2-clause-on : goal.returns-in_ok-push-2-clause-on
returns-in_ok-push-2-clause-on g c i d more there same ahead =
    let at = c.args.at in
    let t = c.args.corner in
    let live = g.L.LiveTable.edges c.args.live.now in
    let kept = c.args.kept.now in
    let test = c.in_ok-is_removable.ensures ∙ stand_alike c.args.rule.ratio c.args.rule.area at live i d kept t.a t.b t.c c.requires.live.ascending there same in
    rw c.in_ok-push-2.ensures
    (vertex_kept c.args.rule (other_segments (swept_by at) i live) (get_or live i d).points kept c.args.gone.now.items t.a t.b t.c at.place more ahead
    (sym test ∙ c.if-branch.false))
