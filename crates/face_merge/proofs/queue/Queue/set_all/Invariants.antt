-- What holds of the queue by the places so far.
use Rattle.std.proofs.Common.{◌≡◌, ℕ, ℤ, take, length}
use Rattle.std.specs.Prelude.{if◌then◌else◌}
use Rattle.std.specs.List.{All}
use Rattle.face_merge.specs.Queue.{waits, count_at, lists, AreWaiting}
use Rattle.face_merge.proofs.queue.Queue.set_all.Given as goal

abbrev pub invariant-loop-place : goal.invariant-loop-place
invariant-loop-place l = record {
  waiting : (number : ℕ → ℕ) (importance : ℕ → ℤ) → All (λ place. (place.number ≡ number place.slot) × (place.importance ≡ importance place.number)) l.places
      → AreWaiting number importance (waits l.fn.self) (count_at l.fn.self) → AreWaiting number importance (waits l.self) (count_at l.self);
  counts : (count : ℕ → ℕ) → All (λ place. place.permitted ≡ count place.slot) l.places
      → (s : ℕ) → count_at l.self s ≡ (if lists (take l.place-index l.places) s then count s else count_at l.fn.self s);
  slots : length l.self.counts.items ≡ length l.fn.self.counts.items;
}
