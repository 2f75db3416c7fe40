-- The seats of the posts so far, and those that are left, are all seats; the doors of the posts so far, and those that are left, are all
-- doors turned round. For each seat that is left there is a door, and room.
use Rattle.std.proofs.Common.{◌≡◌, ◌≤◌, ◌+◌, ◌++◌, map, reverse, length, vec_capacity}
use Rattle.serving.proofs.serve_store.filled.Given as goal

abbrev pub invariant-loop-seat : goal.invariant-loop-seat
invariant-loop-seat g l = record {
  seats : map (λ post. post.seat) l.posts.items ++ l.seat-iterator.rest.items ≡ l.fn.seats.items;
  turned : map (λ post. post.door) l.posts.items ++ reverse l.doors.items ≡ reverse l.fn.doors.items;
  doors : length l.doors.items ≡ length l.seat-iterator.rest.items;
  room : length l.posts.items + length l.seat-iterator.rest.items ≤ vec_capacity l.posts;
}
