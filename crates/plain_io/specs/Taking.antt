-- What the steps of reading answer, beside the definitions of what is read.
use Rattle.std.specs.Prelude.{◌≡◌, ℕ, ◌==◌, List, map, Option, Some, None, Result, Ok, Err, ⊤}
use Rattle.std.specs.List.{slice_split}
use Rattle.tgap_model.specs.declared.failure.Or.{Or}
use Rattle.tgap_model.specs.declared.failure.Or.TheVariants.{Fault, Memory}
use Rattle.line_forms.specs.Words.{Row}

-- the rows of words of these lines
abbrev pub rows : List (List ℕ) → List Row
rows lines = map (slice_split (λ b. b == 32)) lines

-- What a step took and what it left; or that there is nothing of its form, and all stays.
abbrev pub Takes : {A S : Type 0} → Option A → S → S → Option (A × S) → Type 0
Takes (Some x) before rest read = read ≡ Some (x, rest)
Takes None before rest read = (read ≡ None) × (rest ≡ before)

-- the same for a step that only leaves
abbrev pub Skips : {A S : Type 0} → Option A → S → S → Option S → Type 0
Skips (Some x) before rest read = read ≡ Some rest
Skips None before rest read = (read ≡ None) × (rest ≡ before)

-- What some steps took and what they left; or that there is nothing of their form. Then nothing is said of what is left.
abbrev pub Reads : {A S : Type 0} → Option A → S → Option (A × S) → Type 0
Reads (Some x) rest read = read ≡ Some (x, rest)
Reads None rest read = read ≡ None

-- the fault that is read; want of memory says nothing
abbrev pub Refuses : {X F : Type 0} → Or F → Result X F → Type 0
Refuses (Fault fault) read = read ≡ Err fault
Refuses Memory read = ⊤

-- what is read in the end, want of memory apart
abbrev pub GivesWhole : {X F : Type 0} → Result X (Or F) → Result X F → Type 0
GivesWhole (Ok x) read = read ≡ Ok x
GivesWhole (Err e) read = Refuses e read

-- what a step in memory made of what there was
abbrev pub LeavesWhole : {X S F : Type 0} → Result X (Or F) → S → Result S F → Type 0
LeavesWhole (Ok x) after step = step ≡ Ok after
LeavesWhole (Err e) after step = Refuses e step

-- what a step in memory took and what it left
abbrev pub Gives : {A S F : Type 0} → Result A (Or F) → S → Result (A × S) F → Type 0
Gives (Ok x) rest read = read ≡ Ok (x, rest)
Gives (Err e) rest read = Refuses e read

-- what a step in memory put after what was there, what it gave and what it left
abbrev pub GivesWith : {A B S F : Type 0} → Result B (Or F) → A → S → Result ((A × B) × S) F → Type 0
GivesWith (Ok x) all rest read = read ≡ Ok ((all, x), rest)
GivesWith (Err e) all rest read = Refuses e read

-- the same for a step that gives nothing
abbrev pub GivesOnto : {A B S F : Type 0} → Result B (Or F) → A → S → Result (A × S) F → Type 0
GivesOnto (Ok x) all rest read = read ≡ Ok (all, rest)
GivesOnto (Err e) all rest read = Refuses e read
