-- Odd and even numbers.
use Rattle.std.specs.Prelude.{ℕ, ◌%◌, ◌==◌, Bool, cond, not}

abbrev pub is_odd : ℕ → Bool
is_odd n = n % 2 == 1

-- one of the two and not the other
abbrev pub either_alone : Bool → Bool → Bool
either_alone p q = cond p (not q) q
