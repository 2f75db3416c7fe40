-- The command that tells the borders of a map after a step of its history.
use Rattle.std.specs.Prelude.{◌≡◌, ◌<◌, ◌≤◌, ℕ, nat_lt, List, [], ◌∷◌, length, take, Option, None, option_map, if◌then◌else◌}
use Rattle.tgap_model.specs.declared.merge.MergeStep.{MergeStep}
use Rattle.tgap_model.specs.Base.{BaseMap}
use Rattle.commands.specs.Border.{border_by, border}
use Rattle.tgap_model.specs.History.{IsHistory, label_after, history_of}
use Rattle.line_forms.specs.Texts.{borders_text}
use Rattle.commands.specs.declared.outcome.Outcome.{Outcome}
use Rattle.commands.specs.declared.outcome.Outcome.TheVariants.{Done, StepTooHigh}
use Rattle.commands.specs.Command.{Command, Listing, Borders, step_of}

-- the words after its name: a file with a listing, and a step
abbrev pub borders_command : List (List ℕ) → Option Command
borders_command (map ∷ step ∷ []) = option_map (Borders (Listing map)) (step_of step)
borders_command words = None

-- What comes of it for a base map and the step k: the arcs that border a face after k steps of the merge history; or k is above the
-- number of its steps.
abbrev pub SaysBorders : ℕ → BaseMap → Outcome → Type 0
SaysBorders k m (Done text) =
    (steps : List MergeStep) × IsHistory m steps × (k ≤ length steps)
    × (text ≡ borders_text k (border_by (label_after (take k steps)) 0 m.arcs))
SaysBorders k m (StepTooHigh last) = (steps : List MergeStep) × IsHistory m steps × (last ≡ length steps) × (length steps < k)
SaysBorders k m other = ⊥

-- the same as a function
unfoldable pub borders_outcome : ℕ → BaseMap → Outcome
borders_outcome k m =
    if nat_lt (length (history_of m)) k then StepTooHigh (length (history_of m)) else Done (borders_text k (border m k))
