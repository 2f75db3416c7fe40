-- The queue has the faces so far.
use Rattle.std.proofs.Common.{◌+◌, length}
use Rattle.face_merge.specs.Merging.{begin}
use Rattle.face_merge.specs.Running.{IsQueueBelow}
use Rattle.face_merge.proofs.merging.start.queue_of.Given as goal

abbrev pub invariant-loop-slot : goal.invariant-loop-slot
invariant-loop-slot l = IsQueueBelow (begin l.base) (length l.base.classes + 1) l.slot l.queue
