-- The edges with the keys so far are put in.
use Rattle.std.proofs.Common.{◌≡◌, ◌<◌, ℕ, length, get_or}
use Rattle.tgap_build.specs.Queues.{TellAsMuch, IsQueuedAt}
use Rattle.tgap_build.proofs.corner_queues.CornerQueues.put_all.Given as goal

abbrev pub invariant-loop-key : goal.invariant-loop-key
invariant-loop-key l = record {
  edges : (j : ℕ) → j < l.key-index → j < length l.keys → IsQueuedAt l.edges.places.items l.self.queues.items (get_or l.keys j 0);
  others : TellAsMuch l.initial.self.queues.items l.self.queues.items;
  room : length l.self.queues.items ≡ length l.initial.self.queues.items;
}
