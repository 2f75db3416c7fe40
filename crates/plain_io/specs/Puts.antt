-- What a put to a sink does to its bytes and to its count of faults.
use Rattle.std.specs.Prelude.{◌≡◌, ℕ, List, ◌++◌, take, Option, Some, Result, Ok, Err, IfSome}
use Rattle.tgap_model.specs.Faults.{Rises}

-- the bytes stand at the end of those that were told before
abbrev pub Appends : Option (List ℕ) → Option (List ℕ) → List ℕ → Type 0
Appends old new bytes = IfSome old (λ before. new ≡ Some (before ++ bytes))

-- a front of the bytes does
abbrev pub AppendsFront : Option (List ℕ) → Option (List ℕ) → List ℕ → Type 0
AppendsFront old new bytes = IfSome old (λ before. (n : ℕ) × (new ≡ Some (before ++ take n bytes)))

-- all the bytes, or after a failure a front of them
abbrev pub Puts : {T E : Type 0} → Option (List ℕ) → Option (List ℕ) → List ℕ → Result T E → Type 0
Puts old new bytes (Ok x) = Appends old new bytes
Puts old new bytes (Err e) = AppendsFront old new bytes

-- the count rises where the put failed, and else it stays
abbrev pub CountsPut : {T E : Type 0} → Result T E → ℕ → ℕ → Type 0
CountsPut (Ok x) before now = now ≡ before
CountsPut (Err e) before now = Rises before now
