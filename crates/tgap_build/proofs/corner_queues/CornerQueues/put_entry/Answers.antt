-- The queue of the label has the entry, and the others stay.
use Rattle.std.proofs.Common.{◌≡◌, true, List, [], sym, ◌∙◌, subst}
use Rattle.std.specs.declared.cmp.Reverse.{Reverse}
use Rattle.std.proofs.lemmas.List.{get_or_default}
use Rattle.tgap_build.specs.declared.corner_queue.Entry.{Entry}
use Rattle.tgap_build.specs.Queue.{is_queued}
use Rattle.tgap_build.proofs.CornerLists.{set_here, set_tells}
use Rattle.tgap_build.proofs.corner_queues.CornerQueues.put_entry.Goals as goal

pub returns-clause-entry : goal.returns-clause-entry
returns-clause-entry c = λ n le.
    subst (λ (q : List (Reverse Entry)). is_queued q c.args.entry.key n ≡ true) (sym (set_here c.args.self.now.queues.items c.args.label c.push.new.self c.requires))
    (c.in_ok-push.ensures.entry n le)

pub returns-clause-others : goal.returns-clause-others
returns-clause-others c =
    let queues = c.args.self.now.queues.items in
    let read = c.index_mut.ensures.value ∙ get_or_default queues c.args.label c.index_mut.result.now [] c.requires in
    set_tells queues c.args.label c.push.new.self c.requires
    (λ k n h. c.in_ok-push.ensures.others k n (subst (λ (q : List (Reverse Entry)). is_queued q k n ≡ true) (sym read) h))
