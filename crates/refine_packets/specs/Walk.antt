-- What a step changes in a window, found by its mends.
use Rattle.std.specs.Prelude.{◌≡◌, ℕ, ◌++◌, Bool, true, false, List, [], ◌∷◌, map, flat_map, fold, get_or, Some, None}
use Rattle.std.specs.Option.{option_to_list}
use Rattle.tgap_model.specs.declared.slice.Edge.{Edge}
use Rattle.tgap_model.specs.declared.slice.Slice.{Slice}
use Rattle.tgap_model.specs.declared.record.Piece.{Piece}
use Rattle.tgap_model.specs.declared.record.Mend.{Mend}
use Rattle.tgap_model.specs.Merged.{MergedMap, label_at}
use Rattle.tgap_model.specs.Chains.{arc_number}
use Rattle.tgap_model.specs.Records.{edge_with}
use Rattle.tgap_model.specs.WindowRecords.{has_key}
use Rattle.refine_packets.specs.declared.changes.Changes.{Changes}

-- the edges of a window with the keys of these pieces
abbrev pub pieces_in : Slice → List Piece → List Edge
pieces_in s pieces = flat_map (λ p. option_to_list (edge_with s p.key)) pieces

-- an edge without its points
abbrev pub bare : Edge → Edge
bare e = record { key = e.key; left = e.left; right = e.right; points = [] }

-- the edge with a key after k steps, without its points: its faces are at the sides of the arc with this number
abbrev pub bare_at : MergedMap → ℕ → ℕ → Edge
bare_at h k i = record { key = i; left = label_at h k (arc_number h.base.arcs i).left; right = label_at h k (arc_number h.base.arcs i).right; points = [] }

-- with one mend more, by the windows after the step and before it
abbrev pub with_mend : Slice → Slice → Changes → Mend → Changes
with_mend there before c w =
    elim (edge_with there w.key) [
      | None ↦ record { mends = c.mends; gone = c.gone; kept = c.kept; comes = c.comes ++ pieces_in before w.pieces }
      | Some e ↦ record { mends = c.mends ++ w ∷ []; gone = c.gone ++ bare e ∷ []; kept = c.kept ++ map bare (pieces_in before w.pieces); comes = c.comes }
    ]

-- with the mend of an edge that stays one piece, and this edge after the step and before it
abbrev pub with_whole : Edge → Edge → Changes → Mend → Changes
with_whole e f c w = record { mends = c.mends ++ w ∷ []; gone = c.gone ++ e ∷ []; kept = c.kept ++ f ∷ []; comes = c.comes }

-- all changes that the mends tell
abbrev pub no_changes : Changes
no_changes = record { mends = []; gone = []; kept = []; comes = [] }

abbrev pub changes_by : Slice → Slice → List Mend → Changes
changes_by there before mends = fold (with_mend there before) no_changes mends

-- ---- what is known to be in the window

-- the edge with this key is known to be in the window
abbrev pub is_known : List Bool → ℕ → Bool
is_known known i = get_or known i false

-- an edge that is known to be in the window is in it
abbrev pub AreKnown : List Bool → List Edge → Type 0
AreKnown known edges = (i : ℕ) → is_known known i ≡ true → has_key edges i ≡ true
