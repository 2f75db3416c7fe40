-- What the steps of reading a text answer, beside the definitions of what is read.
use Rattle.std.specs.Prelude.{◌≡◌, ℕ, Option, Some, None}
use Rattle.tgap_model.specs.declared.geometry.Point.{Point}
use Rattle.line_forms.specs.Words.{Row, ◌>>=◌}
use Rattle.line_forms.specs.ListingLines.{coordinate_at}
use Rattle.wire_text.specs.declared.row_reading.BadText.{BadText}
use Rattle.wire_text.specs.declared.row_reading.EdgeHead.{EdgeHead}
use Rattle.wire_text.specs.declared.packet_reading.MendHead.{MendHead}
use Rattle.wire_text.specs.declared.packet_reading.StepHead.{StepHead}

-- the fault of the line with this number
abbrev pub bad_text : ℕ → BadText
bad_text line = record { line = line }

-- a point, of two coordinates
abbrev pub point_at : Row → Option (Point × Row)
point_at row = do
  x ← coordinate_at row
  y ← coordinate_at x.1
  Some (record { x = x.0; y = y.0 }, y.1)

-- what was read, seen in this way, and what is left; or that there is nothing of its form
abbrev pub ReadsAs : {H A S : Type 0} → (H → A) → Option H → S → Option (A × S) → Type 0
ReadsAs view (Some head) rest read = read ≡ Some (view head, rest)
ReadsAs view None rest read = read ≡ None

-- the numbers before the points of an edge
abbrev pub edge_numbers : EdgeHead → ℕ × ℕ × ℕ × ℕ
edge_numbers h = (h.key, h.left, h.right, h.count)

-- the numbers of the line of a mend
abbrev pub mend_numbers : MendHead → ℕ × ℕ × ℕ
mend_numbers h = (h.key, h.puts, h.pieces)

-- the numbers of the line of a step, after its own
abbrev pub step_numbers : StepHead → ℕ × ℕ × ℕ × ℕ × ℕ × ℕ × ℕ
step_numbers h = (h.loser, h.loser_class, h.winner, h.winner_class, h.made, h.mends, h.ended)
