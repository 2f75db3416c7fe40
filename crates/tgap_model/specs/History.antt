-- The merge history: at each step the face of least importance that has a permitted neighbour joins the one of them that
-- suits it best.
-- From: van Oosterom, Variable-scale topological data structures suitable for progressive data transfer (2005); the measure of
-- importance, the order of ties and the barriers are this project's.
use Rattle.std.specs.Prelude.{◌≡◌, ◌≢◌, ◌<◌, ◌≤◌, ℕ, zero, suc, ◌+◌, ◌-◌, ◌*◌, Bool, ◌&&◌, ◌||◌, not, ℤ, pos, ◌+ℤ◌, ◌-ℤ◌, ◌*ℤ◌, int_lt, nat_lt, ◌==◌, List, [], ◌∷◌, ◌++◌, map, length, slice_index, fold, sum_by, flat_map, Option, Some, None, if◌then◌else◌, IsTrue, IsFalse}
use Rattle.std.specs.Ordering.{int_eq}
use Rattle.std.specs.List.{list_any}
use Rattle.tgap_model.specs.declared.base.Rules.{Rules}
use Rattle.tgap_model.specs.declared.base.BaseArc.{BaseArc}
use Rattle.tgap_model.specs.declared.merge.MergeStep.{MergeStep}
use Rattle.tgap_model.specs.declared.merge.LabelledArc.{LabelledArc}
use Rattle.tgap_model.specs.Point.{shoelace, path_length}
use Rattle.tgap_model.specs.Base.{BaseMap}

-- the label that a label becomes by a step
abbrev pub relabel : MergeStep → ℕ → ℕ
relabel s f = if (f == s.loser) || (f == s.winner) then s.made else f

-- the label of a base face after these steps: its ancestor
abbrev pub label_after : List MergeStep → ℕ → ℕ
label_after [] f = f
label_after (s ∷ steps) f = label_after steps (relabel s f)

-- an arc with the labels of the base map, and one step later
abbrev pub labelled : BaseArc → LabelledArc
labelled a = record { left = a.left; right = a.right; area = shoelace a.points; extent = path_length a.points }

abbrev pub relabel_arc : MergeStep → LabelledArc → LabelledArc
relabel_arc s a = record { left = relabel s a.left; right = relabel s a.right; area = a.area; extent = a.extent }

-- the class of a face, where the classes of all faces so far are listed from face 1 on
abbrev pub class_of : List ℕ → ℕ → ℕ
class_of classes f = slice_index classes (f - 1)

-- the classes after a step: the new face has the class of the winner
abbrev pub classes_after : MergeStep → List ℕ → List ℕ
classes_after s classes = classes ++ class_of classes s.winner ∷ []

-- twice the area that the arc gives to the face
abbrev pub area_part : ℕ → LabelledArc → ℤ
area_part f a = (if a.left == f then a.area else pos 0) -ℤ (if a.right == f then a.area else pos 0)

-- twice the area of a face
abbrev pub area_of : List LabelledArc → ℕ → ℤ
area_of arcs f = fold (λ sum a. sum +ℤ area_part f a) (pos 0) arcs

-- twice the area times the weight of the class
abbrev pub importance : Rules → List ℕ → List LabelledArc → ℕ → ℤ
importance rules classes arcs f = area_of arcs f *ℤ pos (slice_index rules.weights (class_of classes f))

-- the arc has the two faces at its sides
abbrev pub is_between : ℕ → ℕ → LabelledArc → Bool
is_between f g a = ((a.left == f) && (a.right == g)) || ((a.left == g) && (a.right == f))

-- two faces are neighbours where an arc has them at its sides; the outside, 0, is no neighbour
abbrev pub are_neighbours : List LabelledArc → ℕ → ℕ → Bool
are_neighbours arcs f g = not (f == 0) && not (g == 0) && not (f == g) && list_any (is_between f g) arcs

-- the length of all arcs between two faces
abbrev pub shared_length : List LabelledArc → ℕ → ℕ → ℕ
shared_length arcs f g = sum_by (λ a. if is_between f g a then a.extent else 0) arcs

-- the compatibility of a face's class, the row of the table, with another's, the column
abbrev pub compatibility : Rules → List ℕ → ℕ → ℕ → ℕ
compatibility rules classes f g = slice_index rules.compat (class_of classes f * length rules.weights + class_of classes g)

-- a face permits a neighbour where that compatibility is above 0
abbrev pub permits : Rules → List ℕ → ℕ → ℕ → Bool
permits rules classes f g = nat_lt 0 (compatibility rules classes f g)

-- g is a permitted neighbour of f
abbrev pub is_permitted : Rules → List ℕ → List LabelledArc → ℕ → ℕ → Bool
is_permitted rules classes arcs f g = are_neighbours arcs f g && permits rules classes f g

-- how well a permitted neighbour takes the loser: that compatibility, loser's class first, times the shared length
abbrev pub score : Rules → List ℕ → List LabelledArc → ℕ → ℕ → ℕ
score rules classes arcs loser g = compatibility rules classes loser g * shared_length arcs loser g

-- f loses before g: it is less important, or as important with the smaller number
abbrev pub loses_before : Rules → List ℕ → List LabelledArc → ℕ → ℕ → Bool
loses_before rules classes arcs f g =
    int_lt (importance rules classes arcs f) (importance rules classes arcs g)
    || (int_eq (importance rules classes arcs f) (importance rules classes arcs g) && nat_lt f g)

-- f wins before g: its score is greater, or the same with the smaller number
abbrev pub wins_before : Rules → List ℕ → List LabelledArc → ℕ → ℕ → ℕ → Bool
wins_before rules classes arcs loser f g =
    nat_lt (score rules classes arcs loser g) (score rules classes arcs loser f)
    || ((score rules classes arcs loser f == score rules classes arcs loser g) && nat_lt f g)

-- The next step: the winner is a permitted neighbour of the loser; no face with a permitted neighbour loses before the
-- loser, and no permitted neighbour of the loser wins before the winner; the new face has the next number.
pub record IsNextStep (rules : Rules) (classes : List ℕ) (arcs : List LabelledArc) (s : MergeStep) : Type 0 where
  pub neighbours : IsTrue (are_neighbours arcs s.loser s.winner)
  pub permitted : IsTrue (permits rules classes s.loser s.winner)
  pub loser : (f g : ℕ) → IsTrue (is_permitted rules classes arcs f g) → IsFalse (loses_before rules classes arcs f s.loser)
  pub winner : (g : ℕ) → IsTrue (is_permitted rules classes arcs s.loser g) → IsFalse (wins_before rules classes arcs s.loser g s.winner)
  pub made : s.made ≡ length classes + 1

-- The steps from here on are the next one, and those after it; there is none only where no face has a permitted neighbour.
abbrev pub AreSteps : Rules → List ℕ → List LabelledArc → List MergeStep → Type 0
AreSteps rules classes arcs [] = (f g : ℕ) → IsFalse (is_permitted rules classes arcs f g)
AreSteps rules classes arcs (s ∷ steps) =
    IsNextStep rules classes arcs s × AreSteps rules (classes_after s classes) (map (relabel_arc s) arcs) steps

-- these steps are the merge history of a base map
abbrev pub IsHistory : BaseMap → List MergeStep → Type 0
IsHistory m steps = AreSteps m.rules m.classes (map labelled m.arcs) steps

-- A step of a map that has faces 1 to n so far: two different faces of it become face n + 1.
pub record IsNumberedStep (n : ℕ) (s : MergeStep) : Type 0 where
  pub loser : (0 < s.loser) × (s.loser ≤ n)
  pub winner : (0 < s.winner) × (s.winner ≤ n)
  pub differ : s.loser ≢ s.winner
  pub made : s.made ≡ n + 1

-- the steps of a map that has faces 1 to n so far, one after the other
abbrev pub AreNumbered : ℕ → List MergeStep → Type 0
AreNumbered n [] = Unit {0}
AreNumbered n (s ∷ steps) = IsNumberedStep n s × AreNumbered (n + 1) steps

-- ---- the same as a function, which computes on small maps

-- the first of the list before which no other stands
abbrev pub first_from : (ℕ → ℕ → Bool) → ℕ → List ℕ → ℕ
first_from before best [] = best
first_from before best (f ∷ fs) = first_from before (if before f best then f else best) fs

abbrev pub first_by : (ℕ → ℕ → Bool) → List ℕ → Option ℕ
first_by before [] = None
first_by before (f ∷ fs) = Some (first_from before f fs)

-- the arc has two different faces at its sides, neither of them the outside
abbrev pub is_shared : LabelledArc → Bool
is_shared a = not (a.left == 0) && not (a.right == 0) && not (a.left == a.right)

-- the face at one side of an arc, where it permits that at the other
abbrev pub permitting : Rules → List ℕ → ℕ → ℕ → List ℕ
permitting rules classes f g = if permits rules classes f g then f ∷ [] else []

-- the face at one side of an arc, where the one that is at the other permits it
abbrev pub permitted_by : Rules → List ℕ → ℕ → ℕ → List ℕ
permitted_by rules classes f g = if permits rules classes f g then g ∷ [] else []

-- the faces that have a permitted neighbour, arc by arc
abbrev pub mergeable : Rules → List ℕ → List LabelledArc → List ℕ
mergeable rules classes arcs =
    flat_map (λ a. if is_shared a then permitting rules classes a.left a.right ++ permitting rules classes a.right a.left else []) arcs

-- the permitted neighbours of a face, arc by arc
abbrev pub neighbours_of : Rules → List ℕ → List LabelledArc → ℕ → List ℕ
neighbours_of rules classes arcs f =
    flat_map (λ a. if is_shared a && (a.left == f) then permitted_by rules classes f a.right
    else (if is_shared a && (a.right == f) then permitted_by rules classes f a.left else [])) arcs

-- the winner against this loser, as a step
abbrev pub step_against : Rules → List ℕ → List LabelledArc → ℕ → Option MergeStep
step_against rules classes arcs loser =
    elim (first_by (wins_before rules classes arcs loser) (neighbours_of rules classes arcs loser)) [
      | None ↦ None
      | Some winner ↦ Some (record { loser = loser; winner = winner; made = length classes + 1 })
    ]

unfoldable pub next_step : Rules → List ℕ → List LabelledArc → Option MergeStep
next_step rules classes arcs =
    elim (first_by (loses_before rules classes arcs) (mergeable rules classes arcs)) [
      | None ↦ None
      | Some loser ↦ step_against rules classes arcs loser
    ]

-- the steps from here on, at most n of them
abbrev pub steps_from : ℕ → Rules → List ℕ → List LabelledArc → List MergeStep
steps_from zero rules classes arcs = []
steps_from (suc n) rules classes arcs =
    elim (next_step rules classes arcs) [
      | None ↦ []
      | Some s ↦ s ∷ steps_from n rules (classes_after s classes) (map (relabel_arc s) arcs)
    ]

-- the merge history of a base map: each step takes an arc out of the borders, so there are at most as many steps as arcs
unfoldable pub history_of : BaseMap → List MergeStep
history_of m = steps_from (length m.arcs) m.rules m.classes (map labelled m.arcs)
