-- What is kept of the versions of a map.
use Rattle.std.specs.Prelude.{◌<◌, ◌≤◌, ℕ, length, All, Option, Some, None, ⊤}
use Rattle.version_store.specs.Machine.{Versions}

-- the pin, where there is one, is the number of one of so many versions
abbrev pub IsPin : ℕ → Option ℕ → Type 0
IsPin count None = ⊤
IsPin count (Some n) = n < count

-- there is a version, there are no more than there may be, and what is pinned is one
pub record AreVersions (v : Versions) : Type 0 where
  pub some : 0 < length v.history
  pub room : length v.history ≤ v.limit
  pub limit : v.limit ≤ 64
  pub pins : All (IsPin (length v.history)) v.pins
  pub actors : length v.pins ≤ 16
