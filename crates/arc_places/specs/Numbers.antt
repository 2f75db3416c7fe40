-- For each slot the number of its arc.
use Rattle.std.specs.Prelude.{◌≡◌, ◌<◌, ℕ, List, length, get_or}
use Rattle.tgap_model.specs.declared.base.BaseArc.{BaseArc}
use Rattle.arc_places.specs.Slots.{number_of}

-- by slot, the number of its arc among those that are there
pub record AreNumbers (slots : List BaseArc) (numbers : List ℕ) : Type 0 where
  pub long : length numbers ≡ length slots
  pub each : (i d : ℕ) → i < length slots → get_or numbers i d ≡ number_of slots i
