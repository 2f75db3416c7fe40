-- What is built of a map.
use Rattle.std.specs.Prelude.{◌≡◌, ◌≤◌, ℕ, true, List, map, length}
use Rattle.std.specs.List.{range_with_len}
use Rattle.tgap_model.specs.declared.geometry.Point.{Point}
use Rattle.tgap_model.specs.declared.slice.Removal.{Removal}
use Rattle.tgap_model.specs.declared.record.StepRecord.{StepRecord}
use Rattle.tgap_model.specs.Merged.{MergedMap, merged}
use Rattle.tgap_model.specs.Removals.{is_removed, removals_to}
use Rattle.tgap_model.specs.Records.{step_record}
use Rattle.face_tree.specs.Tree.{FaceHistory, face_history}
use Rattle.edge_forest.specs.Forest.{EdgeForest, last_step, is_gone}

-- the vertices that are gone from the edges at step k are the listed ones
abbrev pub AreGone : EdgeForest → ℕ → List Removal → Type 0
AreGone forest k removals = (p : Point) → is_gone forest k p ≡ is_removed removals p

-- In the forest those vertices are removed that the first j steps remove, each at its step.
pub record HasRemoved (forest : EdgeForest) (j : ℕ) : Type 0 where
  pub by_then : (k : ℕ) → k ≤ j → AreGone forest k (removals_to (merged forest.base) k)
  pub later : (k : ℕ) → j ≤ k → AreGone forest k (removals_to (merged forest.base) j)

-- the record of each step of the history, from the first one on
abbrev pub all_records : MergedMap → List StepRecord
all_records h = map (step_record h) (range_with_len 1 (length h.steps))

-- What is known of a tree, a forest and records that are built of one map: the tree is that of its history, all steps of the history
-- were made in the forest, with what they remove, and the records are those of the steps.
pub record IsBuilt (tree : FaceHistory) (forest : EdgeForest) (kept : List StepRecord) : Type 0 where
  pub history : tree ≡ face_history (merged forest.base)
  pub closed : forest.closed ≡ true
  pub made : forest.made ≡ last_step forest
  pub removed : HasRemoved forest (last_step forest)
  pub records : kept ≡ all_records (merged forest.base)
