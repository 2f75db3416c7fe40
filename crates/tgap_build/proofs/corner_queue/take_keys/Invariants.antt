use Rattle.std.proofs.Common.{◌≡◌, ◌⊎◌, ℕ, true, Contains}
use Rattle.std.specs.BinaryHeap.{IsHeap, heap_items, heap_len}
use Rattle.tgap_build.specs.Queue.{entry_cmp, is_queued}
use Rattle.tgap_build.proofs.corner_queue.take_keys.Given as goal

-- each key of an entry is told, or the entry is left
abbrev pub invariant-loop-key : goal.invariant-loop-key
invariant-loop-key l = record {
  order : IsHeap entry_cmp (heap_items l.heap);
  left : (k n : ℕ) → is_queued (heap_items l.initial.heap) k n ≡ true → Contains l.keys k ⊎ (is_queued (heap_items l.heap) k n ≡ true);
}

abbrev pub decreases-loop-key : goal.decreases-loop-key
decreases-loop-key l = heap_len l.heap
