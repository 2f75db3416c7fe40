-- What a harbour tells of its doors, and what making doors and taking one back do to it.
use Rattle.std.specs.Prelude.{◌≡◌, ◌<◌, ◌≤◌, ℕ, ◌+◌, ◌++◌, ◌∷◌, List, [], length, All, Option, IfSome, option_map, Result, Ok, Err}
use Rattle.plain_io.specs.declared.harbour.HarbourFail.{HarbourFail}
use Rattle.plain_io.specs.declared.harbour.HarbourFail.TheVariants.{Failed, Memory}
use Rattle.tgap_model.specs.Faults.{Rises}

-- how many doors were given, and those that came back
pub record Doors (D : Type 0) : Type 0 where
  pub given : ℕ
  pub back : List D

-- no more doors are back than were given, where they are told
abbrev pub NoMoreBack : {D : Type 0} → Option (Doors D) → Type 0
NoMoreBack told = IfSome told (λ all. length all.back ≤ all.given)

-- fewer doors are back than were given, where they are told
abbrev pub FewerBack : {D : Type 0} → Option (Doors D) → Type 0
FewerBack told = IfSome told (λ all. length all.back < all.given)

-- so many doors more were given, or all stays
abbrev pub GivesDoors : {D T : Type 0} → ℕ → Result T HarbourFail → Option (Doors D) → Option (Doors D) → Type 0
GivesDoors n (Ok doors) old new = new ≡ option_map (λ all. record { given = all.given + n; back = all.back }) old
GivesDoors n (Err fail) old new = new ≡ old

-- the count rises where no doors were given for a fault, and else it stays
abbrev pub CountsDoors : {T : Type 0} → Result T HarbourFail → ℕ → ℕ → Type 0
CountsDoors (Ok doors) before now = now ≡ before
CountsDoors (Err Failed) before now = Rises before now
CountsDoors (Err Memory) before now = now ≡ before

-- the door stands after those that came back before
abbrev pub TakesBack : {D : Type 0} → Option (Doors D) → Option (Doors D) → D → Type 0
TakesBack old new door = new ≡ option_map (λ all. record { given = all.given; back = all.back ++ door ∷ [] }) old

-- the count rises where the door's count is above 0, and else it stays
abbrev pub CountsBack : ℕ → ℕ → ℕ → Type 0
CountsBack count before now = (0 < count → Rises before now) × (count ≡ 0 → now ≡ before)

-- The doors that were given, and after them those that are still ready, are the doors that were ready, and then some more
-- of this kind.
abbrev pub GivesFirst : {D : Type 0} → (D → Type 0) → List D → List D → List D → Type 0
GivesFirst {D} P given old new = (more : List D) × (given ++ new ≡ old ++ more) × All P more
