-- What is said of the versions that were made after the first one.
use Rattle.std.specs.Prelude.{◌≡◌, ◌+◌, ℕ, List, [], ◌∷◌, map, slice_get, Some}
use Rattle.std.specs.Arc.{arc_value}
use Rattle.std.specs.declared.sync.Arc.{Arc}
use Rattle.std.specs.declared.alloc.Global.{Global}
use Rattle.tgap_model.specs.Base.{BaseMap}
use Rattle.map_version.specs.declared.version.Version.{Version}

-- the versions that are shared
abbrev pub values : List (Arc Version Global) → List Version
values versions = map arc_value versions

-- the maps that they were built of, and the batches by which they were made
abbrev pub maps_of : List Version → List BaseMap
maps_of versions = map (λ v. v.built) versions

abbrev pub made_by : List Version → List (List ℕ)
made_by versions = map (λ v. v.batch) versions

-- the last of these, or this one before them where there is none
abbrev pub newest : {X : Type 0} → X → List X → X
newest first [] = first
newest first (x ∷ xs) = newest x xs

-- they have the numbers from 1 on
abbrev pub AreNext : List Version → Type 0
AreNext versions = (place : ℕ) (v : Version) → slice_get versions place ≡ Some v → v.number ≡ place + 1
