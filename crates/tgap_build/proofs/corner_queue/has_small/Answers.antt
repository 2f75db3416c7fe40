-- No entry is less than the first one.
use Rattle.std.proofs.Common.{◌<◌, arith}
use Rattle.std.specs.BinaryHeap.{heap_items}
use Rattle.std.proofs.lemmas.Bool.Decides.{nat_tests}
use Rattle.tgap_build.proofs.QueueEntries.{none_small}
use Rattle.tgap_build.proofs.corner_queue.has_small.Goals as goal

pub returns-in-Some-clause-none : goal.returns-in-Some-clause-none
returns-in-Some-clause-none c = λ h k n le.
    let over : c.args.limit < c.in-Some.field-0.now.0.area = grind (arith, nat_tests, h) in
    none_small c.in-Some.field-0.now n (omega (arith, le, over)) (heap_items c.args.heap.now) (c.in-Some.ensures.greatest c.requires.order) k
