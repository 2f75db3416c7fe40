-- Who has published the versions of a list.
use Rattle.std.specs.Prelude.{◌≡◌, ◌<◌, ◌≤◌, ◌==◌, ℕ, suc, List, [], ◌∷◌, Some, slice_get, if◌then◌else◌}

-- of a list of publishers the places, counted from this number on, at which this one stands
abbrev pub places_from : ℕ → ℕ → List ℕ → List ℕ
places_from n publisher [] = []
places_from n publisher (p ∷ publishers) =
    if p == publisher then n ∷ places_from (suc n) publisher publishers else places_from (suc n) publisher publishers

-- the numbers of the versions that it has published
abbrev pub numbers_of : ℕ → List ℕ → List ℕ
numbers_of publisher publishers = places_from 0 publisher publishers

-- the number of one of so many seats, counted from 1 on
abbrev pub IsOneOf : ℕ → ℕ → Type 0
IsOneOf seats publisher = (0 < publisher) × (publisher ≤ seats)

-- nobody has published the first version, and each other one of so many seats
abbrev pub ArePublishers : ℕ → List ℕ → Type 0
ArePublishers seats publishers =
    (slice_get publishers 0 ≡ Some 0) × ((n publisher : ℕ) → 0 < n → slice_get publishers n ≡ Some publisher → IsOneOf seats publisher)
