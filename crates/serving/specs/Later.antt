-- Versions that follow others.
use Rattle.std.specs.Prelude.{◌≡◌, ℕ, ◌+◌, List, [], ◌∷◌, ⊤}
use Rattle.map_version.specs.declared.version.Version.{Version}

-- these versions have the numbers from this one on
abbrev pub FollowFrom : ℕ → List Version → Type 0
FollowFrom n [] = ⊤
FollowFrom n (version ∷ versions) = (version.number ≡ n) × FollowFrom (n + 1) versions
