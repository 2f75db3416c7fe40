-- What is read from a link.
use Rattle.std.specs.Prelude.{◌≡◌, ℕ, List, ◌++◌, Option, Some, IfSome}

-- these bytes were taken after those that were taken before, where they are told
abbrev pub Follows : Option (List ℕ) → Option (List ℕ) → List ℕ → Type 0
Follows old new bytes = IfSome old (λ before. new ≡ Some (before ++ bytes))

-- some bytes were taken, and stand behind those that were held
abbrev pub Received : Option (List ℕ) → Option (List ℕ) → List ℕ → List ℕ → Type 0
Received old new held now = (bytes : List ℕ) × Follows old new bytes × (now ≡ held ++ bytes)
