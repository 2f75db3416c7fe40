use Rattle.std.proofs.Common.{◌≡◌, ◌<◌, ◌||◌, ℕ, Bool, length, get_or, take}
use Rattle.face_cuts.specs.NewRings.{in_row}
use Rattle.face_cuts.proofs.parting.note_all.Given as goal

-- the sides so far are noted
abbrev pub invariant-loop-side : goal.invariant-loop-side
invariant-loop-side l = (i : ℕ) (d : Bool) → i < length l.fn.notes → get_or l.notes i d ≡ (get_or l.fn.notes i d || in_row (take l.side-index l.row) i)
