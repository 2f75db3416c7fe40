-- Steps of which each may be refused, and what a call gives that takes them.
use Rattle.std.specs.Prelude.{◌≡◌, ℕ, ◌+◌, Bool, ◌&&◌, nat_le, length, Result, Ok, Err, ⊤, if◌then◌else◌}
use Rattle.tgap_model.specs.declared.limits.TheConstants.{MAX_FACES, MAX_ARCS, MAX_POINTS}
use Rattle.tgap_model.specs.declared.failure.Or.{Or}
use Rattle.tgap_model.specs.declared.failure.Or.TheVariants.{Fault, Memory}
use Rattle.tgap_model.specs.Base.{BaseMap, count_points}
use Rattle.face_cuts.specs.declared.cause.Cause.{Cause}

-- the next step, where none was refused
infixl 10 ◌>>=◌
abbrev pub ◌>>=◌ : {A B F : Type 0} → Result A F → (A → Result B F) → Result B F
Ok x >>= f = f x
Err e >>= f = Err e

-- refused for this cause where the test fails
abbrev pub ensured : {F : Type 0} → Bool → F → Result (Unit {0}) F
ensured holds cause = if holds then Ok tt else Err cause

-- what a call gives, or the number of its cause; want of memory says nothing
abbrev pub GivesCut : {X : Type 0} → Result X (Or Cause) → Result X ℕ → Type 0
GivesCut (Ok x) made = made ≡ Ok x
GivesCut (Err (Fault cause)) made = made ≡ Err cause.number
GivesCut (Err Memory) made = ⊤

-- a map with so many more faces, arcs and points keeps to the limits
abbrev pub has_room : BaseMap → ℕ → ℕ → ℕ → Bool
has_room m faces arcs points =
    nat_le (length m.classes + faces) MAX_FACES && nat_le (length m.arcs + arcs) MAX_ARCS && nat_le (count_points m.arcs + points) MAX_POINTS
