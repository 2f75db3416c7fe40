-- The tree of all faces of a map while it is merged: a step makes one face of two, which are its children.
use Rattle.std.specs.Prelude.{◌≡◌, ◌<◌, ◌≤◌, ◌↔◌, ◌^◌, ℕ, ◌+◌, ◌-◌, Bool, ◌||◌, ◌==◌, List, [], ◌∷◌, length, take, drop, slice_index, slice_index_or, filter, flat_map, Option, Some, None, if◌then◌else◌, IsTrue, IsFalse}
use Rattle.std.specs.List.{list_any, range_with_len}
use Rattle.std.specs.Option.{is_none}
use Rattle.tgap_model.specs.declared.merge.MergeStep.{MergeStep}
use Rattle.tgap_model.specs.History.{label_after, AreNumbered}
use Rattle.tgap_model.specs.Merged.{MergedMap, all_classes}

-- The faces of a base map and those that the steps of its history make: face 1 to face `faces` are of the base map, and
-- step j, from 1 on, makes face `faces` + j. The list of classes begins with that of face 1 and goes on in order of number.
pub record FaceHistory : Type 0 where
  pub faces : ℕ
  pub classes : List ℕ
  pub steps : List MergeStep

abbrev pub history_from : ℕ → List ℕ → List MergeStep → FaceHistory
history_from faces classes steps = record { faces = faces; classes = classes; steps = steps }

-- those of a base map and its history
abbrev pub face_history : MergedMap → FaceHistory
face_history h = record { faces = length h.base.classes; classes = all_classes h; steps = h.steps }

-- the greatest number of a face
abbrev pub last_face : FaceHistory → ℕ
last_face t = t.faces + length t.steps

-- one of the faces; 0 is the outside
pub record IsFace (t : FaceHistory) (f : ℕ) : Type 0 where
  pub above : 0 < f
  pub below : f ≤ last_face t

-- the face is the label of a face of the base map after k steps
abbrev pub is_live : FaceHistory → ℕ → ℕ → Bool
is_live t k f = list_any (λ g. label_after (take k t.steps) g == f) (range_with_len 1 t.faces)

-- the faces that are live after k steps, in ascending order
abbrev pub live_after : FaceHistory → ℕ → List ℕ
live_after t k = filter (is_live t k) (range_with_len 1 (t.faces + k))

-- the step that follows the first j
abbrev pub step_after : FaceHistory → ℕ → MergeStep
step_after t j = slice_index_or t.steps j (record { loser = 0; winner = 0; made = 0 })

-- the step merges the face
abbrev pub merges : MergeStep → ℕ → Bool
merges s f = (f == s.loser) || (f == s.winner)

-- the face made by the step that merges the face: none of a root, which no step merges
abbrev pub parent_by : List MergeStep → ℕ → Option ℕ
parent_by [] f = None
parent_by (s ∷ steps) f = if merges s f then Some s.made else parent_by steps f

abbrev pub parent_of : FaceHistory → ℕ → Option ℕ
parent_of t f = parent_by t.steps f

-- the faces that no step merges, in ascending order
abbrev pub root_faces : FaceHistory → List ℕ
root_faces t = filter (λ f. is_none (parent_of t f)) (range_with_len 1 (last_face t))

-- the faces that these steps merge, step by step
abbrev pub children : List MergeStep → List ℕ
children steps = flat_map (λ s. s.loser ∷ s.winner ∷ []) steps

-- Of a face that a step merges the parent is the face that the step makes, and a face that no step merges has none.
pub record IsParent (t : FaceHistory) (f : ℕ) (parent : Option ℕ) : Type 0 where
  pub merged : (j : ℕ) → j < length t.steps → IsTrue (merges (step_after t j) f) → parent ≡ Some (step_after t j).made
  pub root : ((j : ℕ) → j < length t.steps → IsFalse (merges (step_after t j) f)) → parent ≡ None

-- the number of the step that makes the face: 0 for a face of the base map
abbrev pub low_step : FaceHistory → ℕ → ℕ
low_step t f = f - t.faces

-- the number of the step that merges the face: one more than that of the last step for a root
abbrev pub high_by : List MergeStep → ℕ → ℕ
high_by [] f = 1
high_by (s ∷ steps) f = if merges s f then 1 else 1 + high_by steps f

abbrev pub high_step : FaceHistory → ℕ → ℕ
high_step t f = high_by t.steps f

-- the face is live after any number of steps from low to before high, and after no other
abbrev pub IsLiveFrom : FaceHistory → ℕ → ℕ → ℕ → Type 0
IsLiveFrom t f low high = (k : ℕ) → k ≤ length t.steps → IsTrue (is_live t k f) ↔ ((low ≤ k) × (k < high))

-- the label after k steps of a face that is made by one of them, by the steps after that one
abbrev pub label_from : FaceHistory → ℕ → ℕ → ℕ
label_from t k f = label_after (drop (low_step t f) (take k t.steps)) f

-- each step merges two live faces
pub record MergesLive (t : FaceHistory) : Type 0 where
  pub loser : (j : ℕ) → j < length t.steps → IsTrue (is_live t j (step_after t j).loser)
  pub winner : (j : ℕ) → j < length t.steps → IsTrue (is_live t j (step_after t j).winner)

-- the label after these steps of each face from 1 to n, by its number, and of the outside, 0
pub record AreLabels (n : ℕ) (steps : List MergeStep) (labels : List ℕ) : Type 0 where
  pub count : length labels ≡ n + 1
  pub value : (f : ℕ) → f ≤ n → slice_index labels f ≡ label_after steps f

-- ---- what the tree stores

-- the parent of each face, by its number; the outside has none
pub record AreParents (t : FaceHistory) (parents : List (Option ℕ)) : Type 0 where
  pub count : length parents ≡ last_face t + 1
  pub value : (f : ℕ) → f ≤ last_face t → slice_index_or parents f None ≡ parent_of t f

-- the faces without a parent, where the parents are stored, the outside's first
abbrev pub without_parent : List (Option ℕ) → List ℕ
without_parent parents = filter (λ f. is_none (slice_index_or parents f None)) (range_with_len 1 (length parents - 1))

-- each parent has a greater number than its child
pub record AreAscending (parents : List (Option ℕ)) : Type 0 where
  pub above : (f p : ℕ) → f < length parents → slice_index_or parents f None ≡ Some p → f < p
  pub below : (f p : ℕ) → f < length parents → slice_index_or parents f None ≡ Some p → p < length parents

-- u is f or an ancestor of it, and no nearer than its parent: where u is made by one of k steps, both have one label
pub record IsJump (t : FaceHistory) (f u : ℕ) : Type 0 where
  pub below : u ≤ last_face t
  pub above : f ≤ u
  pub up : (p : ℕ) → parent_of t f ≡ Some p → p ≤ u
  pub leads : (k : ℕ) → u ≤ t.faces + k → label_from t k f ≡ label_from t k u

-- each face has a jump, which stands at its number
pub record AreJumps (t : FaceHistory) (jumps : List ℕ) : Type 0 where
  pub count : length jumps ≡ last_face t + 1
  pub value : (f : ℕ) → f ≤ last_face t → IsJump t f (slice_index jumps f)

-- the jumps are those of each history that has these parents
abbrev pub AreJumpsBy : List (Option ℕ) → List ℕ → Type 0
AreJumpsBy parents jumps = (t : FaceHistory) → AreNumbered t.faces t.steps → AreParents t parents → AreJumps t jumps

-- a step on the way from f up to its label after k steps
pub record IsUp (t : FaceHistory) (k f u : ℕ) : Type 0 where
  pub above : f < u
  pub below : u ≤ t.faces + k
  pub label : label_from t k f ≡ label_from t k u

-- the end of that way: the face is its own label, and live
pub record IsTop (t : FaceHistory) (k f : ℕ) : Type 0 where
  pub label : label_from t k f ≡ f
  pub live : 0 < f → IsTrue (is_live t k f)

-- what is known of a tree
pub record IsTree (t : FaceHistory) (parents : List (Option ℕ)) (jumps tops : List ℕ) : Type 0 where
  pub numbered : AreNumbered t.faces t.steps
  pub live : MergesLive t
  pub small : last_face t + 1 < 2 ^ 32
  pub classed : length t.classes ≡ last_face t
  pub are_parents : AreParents t parents
  pub are_jumps : AreJumps t jumps
  pub are_roots : tops ≡ root_faces t
