-- The keys so far are taken out.
use Rattle.std.proofs.Common.{◌≡◌, ◌+◌, ◌<◌, ◌≤◌, length, map, filter, take, All}
use Rattle.std.specs.Vec.{vec_capacity, vec_len}
use Rattle.grid_index.specs.Slots.{held, stays}
use Rattle.grid_index.proofs.slots.Slots.take_all_out.Given as goal

abbrev pub invariant-loop-one : goal.invariant-loop-one
invariant-loop-one l = record {
  emptied : held l.self ≡ filter (stays (map (λ s. s.key) (take l.one-index l.sought))) (held l.fn.self);
  long : length l.self ≡ length l.fn.self;
  room : vec_len l.freed ≤ vec_len l.fn.freed + l.one-index;
  capacity : vec_capacity l.freed ≡ vec_capacity l.fn.freed;
  within : All (λ h. h.slot < length l.fn.self) l.freed.items;
}
