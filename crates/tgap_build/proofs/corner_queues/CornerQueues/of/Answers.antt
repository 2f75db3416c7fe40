-- The keys are those of all edges.
use Rattle.std.proofs.Common.{sym, ◌∙◌, subst}
use Rattle.tgap_model.specs.declared.slice.Edge.{Edge}
use Rattle.map_laws.proofs.ChainMembers.{Among}
use Rattle.map_laws.proofs.Lists.{all_members, members_all, among_map}
use Rattle.tgap_build.specs.Table.{labelled_edges}
use Rattle.tgap_build.specs.Queues.{IsQueued, IsQueuedAt}
use Rattle.tgap_build.proofs.Tables.{place_among}
use Rattle.tgap_build.proofs.corner_queues.CornerQueues.of.Goals as goal

pub returns-clause-each : goal.returns-clause-each
returns-clause-each c =
    let t = c.args.edges.now in
    let after = c.put_all.new.self.queues.items in
    all_members (IsQueued after) (labelled_edges t) (λ e m.
    let key = subst (Among e.key) (sym (c.as_slice.ensures ∙ c.in_ok-keys.ensures)) (among_map (λ (f : Edge). f.key) (labelled_edges t) e m) in
    members_all (IsQueuedAt t.places.items after) c.as_slice.result.now e.key c.in_ok-put_all.ensures.edges key e (place_among t.places.items c.requires.table.keyed e m))
