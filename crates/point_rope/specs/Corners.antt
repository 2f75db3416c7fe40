-- The least triangle of three points in a row.
use Rattle.std.specs.Prelude.{ℕ, min, List, [], ◌∷◌, Option, None, Some}
use Rattle.tgap_model.specs.declared.geometry.Point.{Point}
use Rattle.tgap_model.specs.Point.{area2}

-- the less of a number and another one that may be missing
abbrev pub less_of : ℕ → Option ℕ → ℕ
less_of n None = n
less_of n (Some m) = min n m

-- the lesser of two numbers that may be missing
abbrev pub lesser : Option ℕ → Option ℕ → Option ℕ
lesser None o = o
lesser (Some n) o = Some (less_of n o)

-- twice the area of the least triangle of three points in a row of these
abbrev pub least_area : List Point → Option ℕ
least_area [] = None
least_area (a ∷ []) = None
least_area (a ∷ b ∷ []) = None
least_area (a ∷ b ∷ c ∷ points) = Some (less_of (area2 a b c) (least_area (b ∷ c ∷ points)))
