-- The words of a line after its first one.
use Rattle.std.specs.Prelude.{ℕ, List, ◌∷◌, flat_map}

-- these words, each with a space before it
abbrev pub fields : List (List ℕ) → List ℕ
fields words = flat_map (λ w. 32 ∷ w) words
