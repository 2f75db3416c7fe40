-- The numbers of the versions of each publisher.
use Rattle.std.specs.Prelude.{◌≡◌, ◌≤◌, ◌+◌, ◌⊎◌, ℕ, suc, List, [], ◌∷◌, Some, slice_get, ⊤}
use Rattle.version_store.specs.Publishers.{places_from}

-- the number is one of these
abbrev pub Has : ℕ → List ℕ → Type 0
Has n [] = ⊥
Has n (x ∷ xs) = (n ≡ x) ⊎ Has n xs

-- each number is above those before it, and none is below this one
abbrev pub Ascends : ℕ → List ℕ → Type 0
Ascends low [] = ⊤
Ascends low (x ∷ xs) = (low ≤ x) × Ascends (suc x) xs

-- the number of each version is one of its publisher's
abbrev pub EachIsOnes : Type 0
EachIsOnes = (first n publisher : ℕ) (publishers : List ℕ) → slice_get publishers n ≡ Some publisher → Has (first + n) (places_from first publisher publishers)

-- no number is one of two publishers
abbrev pub NoneIsTwos : Type 0
NoneIsTwos =
    (first a b n : ℕ) (publishers : List ℕ) → Has n (places_from first a publishers) → Has n (places_from first b publishers) → a ≡ b

-- the numbers of one publisher ascend
abbrev pub EachAscends : Type 0
EachAscends = (first publisher : ℕ) (publishers : List ℕ) → Ascends first (places_from first publisher publishers)
