-- Records of windows against the window of a slice: the rules, one after the other, and what comes by a record.
use Rattle.std.specs.Prelude.{◌≡◌, ℕ, Bool, ◌||◌, ◌==◌, List, [], ◌∷◌, ◌++◌, flat_map, filter, Option, Some, None}
use Rattle.std.specs.List.{list_any}
use Rattle.std.specs.BTreeSet.{BTreeSet, contains}
use Rattle.std.specs.Ordering.{nat_cmp}
use Rattle.tgap_model.specs.declared.geometry.Window.{Window}
use Rattle.tgap_model.specs.declared.slice.Edge.{Edge}
use Rattle.tgap_model.specs.declared.slice.FaceRow.{FaceRow}
use Rattle.tgap_model.specs.declared.slice.Slice.{Slice}
use Rattle.tgap_model.specs.declared.record.StepRecord.{StepRecord}
use Rattle.tgap_model.specs.declared.window_record.WindowStep.{WindowStep}
use Rattle.tgap_model.specs.Removals.{has_side}
use Rattle.tgap_model.specs.Slice.{meets_window}
use Rattle.tgap_model.specs.Records.{first_failure, fits_step, fits_mends, fits_puts, fits_pieces}
use Rattle.tgap_model.specs.WindowRecords.{whole_record, undo_in, fits_faces_in, fits_comes}
use Rattle.client_replay.specs.Coming.{mended}

-- the record of a whole slice that mends as this one does, and brings nothing beside
abbrev pub mending_of : WindowStep → StepRecord
mending_of r = record (whole_record r) { ended = [] }

-- the edges that come: the pieces of mended edges whose bounding box meets the window, and these
unfoldable pub coming_in : Window → Slice → StepRecord → List Edge → List Edge
coming_in area s r comes = filter (meets_window area) (flat_map (mended s.edges r) r.mends) ++ comes

-- the number of the first of the first six rules that is broken; the others speak of edges and faces after the change
unfoldable pub broken_before_in : Slice → WindowStep → Option ℕ
broken_before_in s r =
    first_failure 1
    (fits_step s (whole_record r) ∷ fits_faces_in s r ∷ fits_mends s (whole_record r) ∷ fits_puts s (whole_record r)
    ∷ fits_pieces s (whole_record r) ∷ fits_comes s r ∷ [])

-- the window after a record: a step back, or as it was where the record breaks a rule
abbrev pub after_in : Window → Slice → WindowStep → Option ℕ → Slice
after_in area s r None = undo_in area s r
after_in area s r (Some rule) = s

-- the set has the faces beside these edges
abbrev pub AreSides : BTreeSet ℕ → List Edge → Type 0
AreSides sides edges = (f : ℕ) → contains nat_cmp sides f ≡ list_any (has_side f) edges

-- the face is the outside, or has one of these rows
abbrev pub is_known : List FaceRow → ℕ → Bool
is_known rows f = (f == 0) || list_any (λ r. r.face == f) rows
