-- What becomes of all posts is what has become of those so far and will become of those that are left.
use Rattle.std.proofs.Common.{◌≡◌, ℕ, map, length, All}
use Rattle.version_store.specs.Growth.{IsPrefix}
use Rattle.version_store.specs.Publishers.{numbers_of}
use Rattle.version_store.specs.Store.{seat_versions, seat_number, seat_numbers, press_versions, press_publishers, press_keeper, KeepsPublishers}
use Rattle.workers.specs.Closing.{MayTakeBack, TakesAllBack, CountsAllBack}
use Rattle.workers.proofs.closing.close_posts.Given as goal

abbrev pub invariant-loop-post : goal.invariant-loop-post
invariant-loop-post g l = record {
  room : MayTakeBack (length l.post-iterator.rest.items) (g.H.Harbour.told l.harbour);
  back : (new : _) → TakesAllBack (g.H.Harbour.told l.harbour) new (map (λ post. post.door) l.post-iterator.rest.items)
      → TakesAllBack (g.H.Harbour.told l.initial.harbour) new (map (λ post. post.door) l.fn.posts.items);
  counts : (n : ℕ) → CountsAllBack (map (λ post. g.H.Gate.Door.faults post.door) l.post-iterator.rest.items) (g.H.Harbour.faults l.harbour) n
      → CountsAllBack (map (λ post. g.H.Gate.Door.faults post.door) l.fn.posts.items) (g.H.Harbour.faults l.initial.harbour) n;
  gathered : All (λ post. IsPrefix (seat_versions post.seat) (press_versions l.initial.press)) l.post-iterator.rest.items
      → All (λ post. IsPrefix (seat_versions post.seat) (press_versions l.initial.press)) l.fn.posts.items;
  kept : press_versions l.press ≡ press_versions l.initial.press;
  numbers : All (λ post. seat_numbers post.seat ≡ numbers_of (seat_number post.seat) (press_publishers l.initial.press)) l.post-iterator.rest.items
      → All (λ post. seat_numbers post.seat ≡ numbers_of (seat_number post.seat) (press_publishers l.initial.press)) l.fn.posts.items;
  publishers : KeepsPublishers l.initial.press l.press;
  keeper : press_keeper l.press ≡ press_keeper l.initial.press;
}
