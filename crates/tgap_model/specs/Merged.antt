-- A base map beside its merge history, and what the steps of the history make of it.
use Rattle.std.specs.Prelude.{ℕ, ◌+◌, ◌-◌, Bool, ℤ, ◌==◌, List, map, take, length, filter, fold, slice_index_or, not}
use Rattle.std.specs.List.{list_any, range_with_len}
use Rattle.tgap_model.specs.declared.base.BaseArc.{BaseArc}
use Rattle.tgap_model.specs.declared.merge.MergeStep.{MergeStep}
use Rattle.tgap_model.specs.declared.merge.LabelledArc.{LabelledArc}
use Rattle.tgap_model.specs.Base.{BaseMap}
use Rattle.tgap_model.specs.History.{label_after, labelled, classes_after, area_of, history_of}

-- a base map and its history
pub record MergedMap : Type 0 where
  pub base : BaseMap
  pub steps : List MergeStep

abbrev pub merged : BaseMap → MergedMap
merged m = record { base = m; steps = history_of m }

-- the label of a base face after k steps: its ancestor
abbrev pub label_at : MergedMap → ℕ → ℕ → ℕ
label_at h k f = label_after (take k h.steps) f

-- step number j, from 1 to the last one
abbrev pub step_number : MergedMap → ℕ → MergeStep
step_number h j = slice_index_or h.steps (j - 1) (record { loser = 0; winner = 0; made = 0 })

-- the classes of all faces, from face 1 on, those of the new faces after the others
abbrev pub all_classes : MergedMap → List ℕ
all_classes h = fold (λ classes s. classes_after s classes) h.base.classes h.steps

-- the face is the ancestor of a base face after k steps
abbrev pub is_live : MergedMap → ℕ → ℕ → Bool
is_live h k f = list_any (λ g. label_at h k g == f) (range_with_len 1 (length h.base.classes))

-- the live faces after k steps, by number
abbrev pub live_faces : MergedMap → ℕ → List ℕ
live_faces h k = filter (is_live h k) (range_with_len 1 (length h.base.classes + k))

-- an arc with its labels after k steps
abbrev pub labelled_at : MergedMap → ℕ → BaseArc → LabelledArc
labelled_at h k a = record (labelled a) { left = label_at h k a.left; right = label_at h k a.right }

-- twice the sum of the base areas of a face after k steps
abbrev pub face_area : MergedMap → ℕ → ℕ → ℤ
face_area h k f = area_of (map (labelled_at h k) h.base.arcs) f

-- an arc borders a face after k steps: its two sides have different labels
abbrev pub is_border : MergedMap → ℕ → BaseArc → Bool
is_border h k a = not (label_at h k a.left == label_at h k a.right)
