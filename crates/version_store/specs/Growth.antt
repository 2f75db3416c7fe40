-- A list of versions that only grows.
use Rattle.std.specs.Prelude.{◌≡◌, ◌<◌, ◌≤◌, ℕ, List, ◌++◌, length, Some, slice_get}

module _ {V : Type 0} where
  -- the second list begins with the first
  abbrev pub IsPrefix : List V → List V → Type 0
  IsPrefix front list = (rest : List V) × (list ≡ front ++ rest)

  -- the version at each place has the number of that place
  abbrev pub AreNumbered : (V → ℕ) → List V → Type 0
  AreNumbered number list = (place : ℕ) (version : V) → slice_get list place ≡ Some version → number version ≡ place

  -- the versions have the numbers of their places, and there is one at least and no more than there may be
  pub record IsList (number : V → ℕ) (limit : ℕ) (list : List V) : Type 0 where
    pub numbered : AreNumbered number list
    pub some : 0 < length list
    pub room : length list ≤ limit
