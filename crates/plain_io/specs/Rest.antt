-- The rest of a text that is cut into pieces.
use Rattle.std.specs.Prelude.{ℕ, ◌==◌, List, [], Option, Some, None}
use Rattle.std.specs.Borrow.{Bor}
use Rattle.std.specs.List.{slice_split}

-- the pieces of the rest; none where there is no rest
abbrev pub split_rest : ℕ → Option (Bor (List ℕ)) → List (List ℕ)
split_rest separator None = []
split_rest separator (Some rest) = slice_split (λ b. b == separator) rest.now
