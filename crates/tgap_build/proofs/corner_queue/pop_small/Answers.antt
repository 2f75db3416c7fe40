-- One entry goes, and its key is told.
use Rattle.std.specs.BinaryHeap.{heap_items}
use Rattle.tgap_build.proofs.QueueEntries.{popped_others}
use Rattle.tgap_build.proofs.corner_queue.pop_small.Goals as goal

pub returns-in-Some-clause-taken : goal.returns-in-Some-clause-taken
returns-in-Some-clause-taken c = λ k n h. popped_others c.in-Some.field-0 (heap_items c.args.heap.now) (heap_items c.pop.new.self) c.in-Some.ensures.permutation k n h
