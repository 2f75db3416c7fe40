use Rattle.std.proofs.Common.{◌≡◌, ◌<◌, ℕ, length, slice_index}
use Rattle.tgap_model.proofs.numbers.numbers_below.Given as goal

abbrev pub invariant-loop-n : goal.invariant-loop-n
invariant-loop-n l = record {
  count : length l.numbers.items ≡ l.n;
  numbers : (k : ℕ) → k < l.n → slice_index l.numbers.items k ≡ k;
}
