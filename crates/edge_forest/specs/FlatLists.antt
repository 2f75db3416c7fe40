-- Lists of numbers that stand in a row, one after the other.
use Rattle.std.specs.Prelude.{◌<◌, ◌≤◌, ℕ, ◌+◌, ◌-◌, List, map, length, get_or, slice_range}
use Rattle.std.specs.List.{range_with_len}

-- from each start to the next one stands a list
abbrev pub lists_between : List ℕ → List ℕ → List (List ℕ)
lists_between starts ids = map (λ x. slice_range ids (get_or starts x 0) (get_or starts (x + 1) 0)) (range_with_len 0 (length starts - 1))

-- No start is behind the next one, and none is behind the end.
pub record AreStarts (starts ids : List ℕ) : Type 0 where
  pub ascend : (x : ℕ) → x + 1 < length starts → get_or starts x 0 ≤ get_or starts (x + 1) 0
  pub within : (x : ℕ) → x < length starts → get_or starts x 0 ≤ length ids
