-- What became of the elements of a list, each on its own.
use Rattle.std.specs.Prelude.{◌⊎◌, List, [], ◌∷◌, ⊤}

module _ {P : Type 0} where
  -- there are as many as before, and each became what the relation says
  abbrev pub EachBecame : (P → P → Type 0) → List P → List P → Type 0
  EachBecame R [] [] = ⊤
  EachBecame R (x ∷ xs) (y ∷ ys) = R x y × EachBecame R xs ys
  EachBecame R [] (y ∷ ys) = ⊥
  EachBecame R (x ∷ xs) [] = ⊥

  -- one of them became what the relation says
  abbrev pub OneBecame : (P → P → Type 0) → List P → List P → Type 0
  OneBecame R (x ∷ xs) (y ∷ ys) = R x y ⊎ OneBecame R xs ys
  OneBecame R [] ys = ⊥
  OneBecame R (x ∷ xs) [] = ⊥
