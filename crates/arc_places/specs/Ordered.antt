-- Numbers in ascending order, each once.
use Rattle.std.specs.Prelude.{◌≡◌, ℕ, List}
use Rattle.std.specs.List.Sorted.{IsStrictlyIncreasing}
use Rattle.arc_places.specs.Places.{is_among}

-- the numbers of a list in ascending order, each once
pub record AreOrdered (numbers ordered : List ℕ) : Type 0 where
  pub ascend : IsStrictlyIncreasing ordered
  pub same : (i : ℕ) → is_among i ordered ≡ is_among i numbers
