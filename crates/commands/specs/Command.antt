-- The commands: what the words of a command line ask for.
use Rattle.std.specs.Prelude.{ℕ, ◌-◌, ◌^◌, pos, unsigned_abs, List, [], ◌∷◌, Option, Some, None}
use Rattle.line_forms.specs.Texts.{number_of}
use Rattle.generator.specs.declared.grid.TheConstants.{MAX_GRID}

-- Where a map is read from: the listing in a file of this name; or the topology in a file of the first name, with the object of
-- the second, and the rules in a file of the third.
pub data Source : Type 0 where
  Listing : List ℕ → Source
  Topology : List ℕ → List ℕ → List ℕ → Source

-- the source that a file and the words that may follow it name
abbrev pub source_named : List ℕ → List (List ℕ) → Option Source
source_named map [] = Some (Listing map)
source_named map (object ∷ rules ∷ []) = Some (Topology map object rules)
source_named map words = None

-- The borders of a map after a step of its history; whether a map is a planar partition; its slice after a step; its packet from
-- one step to another; the slice that a packet leads to, from the files of these names; or what the generated map of so many rows
-- comes to.
pub data Command : Type 0 where
  Borders : Source → ℕ → Command
  Check : Source → Command
  Slice : Source → ℕ → Command
  Packet : Source → ℕ → ℕ → Command
  Replay : List ℕ → List ℕ → Command
  Grid : ℕ → Command

-- the step that a word names: a canonical decimal from 0 to 4,294,967,295
abbrev pub step_of : List ℕ → Option ℕ
step_of word =
    elim (number_of (pos 0) (pos (2 ^ 32 - 1)) word) [
      | None ↦ None
      | Some z ↦ Some (unsigned_abs z)
    ]

-- the number of rows that a word names: a canonical decimal from 1 to the greatest one
abbrev pub rows_of : List ℕ → Option ℕ
rows_of word =
    elim (number_of (pos 1) (pos MAX_GRID) word) [
      | None ↦ None
      | Some z ↦ Some (unsigned_abs z)
    ]
