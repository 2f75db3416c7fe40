use Rattle.std.proofs.Common.{◌++◌, filter, get_or, sym, ap, ◌∙◌}
use Rattle.grid_index.specs.Tower.{meets_at, children}
use Rattle.grid_index.proofs.Towers.{meeting_more}
use Rattle.grid_index.proofs.tree.meeting.Goals as goal

pub loop-parent-preserved : goal.loop-parent-preserved
loop-parent-preserved c =
    let area = c.args.area.now in
    let level = c.args.level.now in
    let parents = c.args.parents.now in
    let i = c.loop-parent.parent-index in
    c.in_ok-push_meeting.ensures ∙ ap (λ xs. xs ++ filter (meets_at area level) (children (get_or parents i 0))) c.loop-parent.invariant
    ∙ sym (meeting_more area level parents i 0 c.loop-parent-test.true)
