-- How an outcome is put out.
use Rattle.std.specs.Prelude.{◌≡◌, ◌⊎◌, ℕ, List, Option}
use Rattle.tgap_model.specs.Faults.{Rises}
use Rattle.plain_io.specs.Puts.{Appends, AppendsFront}
use Rattle.commands.specs.declared.outcome.Outcome.{Outcome}
use Rattle.commands.specs.Outcomes.{status_of, text_of}

-- Either the whole text is put, at once, and the status is its own; or the put fails, the count of faults rises, a front of the
-- text is put, and the status is 6.
abbrev pub DeliversText : List ℕ → ℕ → Option (List ℕ) → Option (List ℕ) → ℕ → ℕ → ℕ → Type 0
DeliversText text own old new before now status =
    ((status ≡ own) × Appends old new text × (now ≡ before)) ⊎ ((status ≡ 6) × AppendsFront old new text × Rises before now)

-- the same of the text of an outcome
abbrev pub Delivers : Outcome → Option (List ℕ) → Option (List ℕ) → ℕ → ℕ → ℕ → Type 0
Delivers outcome = DeliversText (text_of outcome) (status_of outcome)

-- the text of the outcome is put, and the status is its own
abbrev pub PutsWhole : Outcome → Option (List ℕ) → Option (List ℕ) → ℕ → Type 0
PutsWhole outcome old new status = (status ≡ status_of outcome) × Appends old new (text_of outcome)
