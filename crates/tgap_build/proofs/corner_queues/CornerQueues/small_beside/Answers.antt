-- The candidates are those among the keys that were taken, and what was taken is put back.
use Rattle.std.proofs.Common.{◌≡◌, ◌<◌, ℕ, true, List, [], All, AllPairs, Contains, sym, ◌∙◌, subst, arith}
use Rattle.std.specs.declared.cmp.Reverse.{Reverse}
use Rattle.std.proofs.lemmas.List.{get_or_default, length-set}
use Rattle.map_laws.proofs.Lists.{members_all}
use Rattle.removal_laws.proofs.ChainEnds.{among_contained}
use Rattle.tgap_build.specs.declared.corner_queue.Entry.{Entry}
use Rattle.tgap_build.specs.Table.{labelled_edges}
use Rattle.tgap_build.specs.Queue.{is_queued}
use Rattle.tgap_build.specs.Queues.{IsQueued, IsQueuedBeside, IsBeside}
use Rattle.tgap_build.proofs.CornerLists.{candidates_ascend, candidates_beside, candidate_among, all_put_back, told_beside}
use Rattle.tgap_build.proofs.corner_queues.CornerQueues.small_beside.Goals as goal

pub put_all_back-requires : goal.put_all_back-requires
put_all_back-requires c =
    let n = length-set c.args.self.now.queues.items c.args.label c.take_small.new.self in
    omega (arith, n, c.requires.label)

pub returns-clause-each : goal.returns-clause-each
returns-clause-each c =
    let t = c.args.edges.now in
    let label = c.args.label in
    let queues = c.args.self.now.queues.items in
    let queue = c.take_small.new.self in
    let read = c.index_mut.ensures.value ∙ get_or_default queues label c.index_mut.result.now [] c.requires.label in
    let taken = c.in_ok-taken.taken.items in
    let back = c.in_ok-found.ensures in
    all_put_back t.places.items c.requires.table.keyed label c.args.limit queues c.put_all_back.new.self.queues.items queue taken c.requires.label
    (λ k n h. c.in_ok-taken.ensures.others k n (subst (λ (q : List (Reverse Entry)). is_queued q k n ≡ true) (sym read) h))
    (subst (All (IsQueuedBeside t.places.items c.put_all_back.new.self.queues.items label)) c.deref.ensures.value back.edges) back.others c.requires.each

pub returns-clause-room : goal.returns-clause-room
returns-clause-room c = c.in_ok-found.ensures.room ∙ length-set c.args.self.now.queues.items c.args.label c.take_small.new.self

pub returns-clause-ascending : goal.returns-clause-ascending
returns-clause-ascending c =
    subst (AllPairs (λ (j k : ℕ). j < k)) (sym c.in_ok-found.ensures.found)
    (candidates_ascend c.args.edges.now.places.items c.requires.table.keyed c.args.label c.args.limit c.deref.result.now
    (subst (AllPairs (λ (j k : ℕ). j < k)) (sym c.deref.ensures.value) c.in_ok-taken.ensures.ascending))

pub returns-clause-there : goal.returns-clause-there
returns-clause-there c =
    subst (All (IsBeside (labelled_edges c.args.edges.now) c.args.label)) (sym c.in_ok-found.ensures.found)
    (candidates_beside c.args.edges.now.places.items c.requires.table.keyed c.args.label c.args.limit c.deref.result.now)

pub returns-clause-small : goal.returns-clause-small
returns-clause-small c = λ e n m side is le.
    let t = c.args.edges.now in
    let queues = c.args.self.now.queues.items in
    let read = c.index_mut.ensures.value ∙ get_or_default queues c.args.label c.index_mut.result.now [] c.requires.label in
    let told = told_beside queues e c.args.label n (members_all (IsQueued queues) (labelled_edges t) e c.requires.each (among_contained (labelled_edges t) e m)) side is in
    let taken = c.in_ok-taken.ensures.small e.key n le (subst (λ (q : List (Reverse Entry)). is_queued q e.key n ≡ true) (sym read) told) in
    subst (λ (ks : List ℕ). Contains ks e.key) (sym c.in_ok-found.ensures.found)
    (candidate_among t.places.items c.requires.table.keyed c.args.label c.args.limit c.deref.result.now e m side n is le
    (subst (λ (ks : List ℕ). Contains ks e.key) (sym c.deref.ensures.value) taken))
