-- The entry is listed, and all others stay.
use Rattle.std.specs.BinaryHeap.{heap_items}
use Rattle.tgap_build.proofs.QueueEntries.{pushed_entry, pushed_others}
use Rattle.tgap_build.proofs.corner_queue.push_entry.Goals as goal

pub returns-clause-entry : goal.returns-clause-entry
returns-clause-entry c = λ n le. pushed_entry (record { 0 = c.args.entry }) (heap_items c.args.heap.now) (heap_items c.push.new.self) c.in_ok-push.ensures.permutation n le

pub returns-clause-others : goal.returns-clause-others
returns-clause-others c = λ k n h. pushed_others (record { 0 = c.args.entry }) (heap_items c.args.heap.now) (heap_items c.push.new.self) c.in_ok-push.ensures.permutation k n h
