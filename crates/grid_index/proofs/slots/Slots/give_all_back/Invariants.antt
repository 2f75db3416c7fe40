-- What the slots have and what comes, together.
use Rattle.std.proofs.Common.{◌≡◌, ◌++◌, length, IsPermutation}
use Rattle.grid_index.specs.Slots.{held}
use Rattle.grid_index.proofs.slots.Slots.give_all_back.Given as goal

abbrev pub invariant-loop-holder : goal.invariant-loop-holder
invariant-loop-holder l = record {
  moved : IsPermutation (held l.fn.self ++ held l.fn.come.items) (held l.self ++ held l.come.items);
  long : length l.self ≡ length l.fn.self;
  keys : length l.come.items ≡ length l.fn.come.items;
}
