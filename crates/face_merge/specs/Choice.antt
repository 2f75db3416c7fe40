-- How a step chooses a face: by a key, then by its number.
use Rattle.std.specs.Prelude.{ℕ, Bool, ◌||◌, ℤ, ◌&&◌, int_lt, nat_lt, ◌==◌}
use Rattle.std.specs.Ordering.{int_eq}

-- f comes before g by the least of a whole number, then by the least face
abbrev pub least_first : (ℕ → ℤ) → ℕ → ℕ → Bool
least_first key f g = int_lt (key f) (key g) || (int_eq (key f) (key g) && nat_lt f g)

-- f comes before g by the greatest of a natural number, then by the least face
abbrev pub greatest_first : (ℕ → ℕ) → ℕ → ℕ → Bool
greatest_first key f g = nat_lt (key g) (key f) || ((key f == key g) && nat_lt f g)
