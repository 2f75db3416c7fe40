-- The entries with the keys so far are put back.
use Rattle.std.proofs.Common.{◌≡◌, ◌<◌, ℕ, length, get_or, filter, take}
use Rattle.tgap_build.specs.Queues.{TellAsMuch, IsQueuedBeside, is_candidate}
use Rattle.tgap_build.proofs.corner_queues.CornerQueues.put_all_back.Given as goal

abbrev pub invariant-loop-key : goal.invariant-loop-key
invariant-loop-key l = record {
  edges : (j : ℕ) → j < l.key-index → j < length l.keys → IsQueuedBeside l.edges.places.items l.self.queues.items l.label (get_or l.keys j 0);
  others : TellAsMuch l.initial.self.queues.items l.self.queues.items;
  room : length l.self.queues.items ≡ length l.initial.self.queues.items;
  found : l.found.items ≡ filter (is_candidate l.edges.places.items l.label l.limit) (take l.key-index l.keys);
}
