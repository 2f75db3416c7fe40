-- What becomes of a harbour that gets doors back.
use Rattle.std.specs.Prelude.{◌≡◌, ℕ, ◌+◌, ◌<◌, ◌≤◌, ◌++◌, ◌⊎◌, List, [], ◌∷◌, length, Option, IfSome, option_map, ⊤}
use Rattle.plain_io.specs.Harbours.{Doors, CountsBack}

-- so many doors more may come back, where they are told
abbrev pub MayTakeBack : {D : Type 0} → ℕ → Option (Doors D) → Type 0
MayTakeBack n told = IfSome told (λ all. length all.back + n ≤ all.given)

-- these doors stand after those that came back before
abbrev pub TakesAllBack : {D : Type 0} → Option (Doors D) → Option (Doors D) → List D → Type 0
TakesAllBack old new doors = new ≡ option_map (λ all. record { given = all.given; back = all.back ++ doors }) old

-- the harbour's count after doors with these counts came back, one after the other
abbrev pub CountsAllBack : List ℕ → ℕ → ℕ → Type 0
CountsAllBack [] before now = now ≡ before
CountsAllBack (count ∷ counts) before now = (middle : ℕ) × CountsBack count before middle × CountsAllBack counts middle now

-- a door has failed
abbrev pub OneFailed : List ℕ → Type 0
OneFailed [] = ⊥
OneFailed (count ∷ counts) = (0 < count) ⊎ OneFailed counts

-- none has
abbrev pub NoneFailed : List ℕ → Type 0
NoneFailed [] = ⊤
NoneFailed (count ∷ counts) = (count ≡ 0) × NoneFailed counts
