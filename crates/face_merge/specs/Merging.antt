-- A map while it is merged: its rules, the class of each face so far and its arcs, and what is known of them, so that
-- every number fits.
use Rattle.std.specs.Prelude.{◌≡◌, ◌<◌, ◌≤◌, ℕ, zero, suc, ◌+◌, Bool, ◌&&◌, not, ◌==◌, ℤ, pos, if◌then◌else◌, List, length, map, fold, slice_index_or, count_by, Option, IsTrue}
use Rattle.std.specs.List.{All}
use Rattle.tgap_model.specs.declared.base.Rules.{Rules}
use Rattle.tgap_model.specs.declared.merge.LabelledArc.{LabelledArc}
use Rattle.tgap_model.specs.declared.merge.MergeStep.{MergeStep}
use Rattle.tgap_model.specs.declared.limits.TheConstants.{MAX_ARCS}
use Rattle.tgap_model.specs.Base.{BaseMap, is_rules}
use Rattle.tgap_model.specs.Bounds.{max_arc_length, max_face}
use Rattle.tgap_model.specs.History.{labelled, relabel_arc, classes_after, area_of, importance, score, permits, are_neighbours, is_permitted, is_shared, next_step}
use Rattle.face_merge.specs.Measures.{IsMeasured, total_length}

-- A map while it is merged. The list of classes begins with that of face 1 and goes on in order of number.
pub record MergeState : Type 0 where
  pub rules : Rules
  pub classes : List ℕ
  pub arcs : List LabelledArc

-- a base map before its first step
abbrev pub begin : BaseMap → MergeState
begin m = record { rules = m.rules; classes = m.classes; arcs = map labelled m.arcs }

-- the map after a step
abbrev pub after : MergeStep → MergeState → MergeState
after s m = record { rules = m.rules; classes = classes_after s m.classes; arcs = map (relabel_arc s) m.arcs }

-- the map after these steps
abbrev pub after_steps : BaseMap → List MergeStep → MergeState
after_steps m steps = fold (λ state s. after s state) (begin m) steps

-- the next step of the map
abbrev pub next_of : MergeState → Option MergeStep
next_of m = next_step m.rules m.classes m.arcs

-- the importance of a face of the map
abbrev pub importance_of : MergeState → ℕ → ℤ
importance_of m f = importance m.rules m.classes m.arcs f

-- the score of a neighbour of the loser
abbrev pub score_of : MergeState → ℕ → ℕ → ℕ
score_of m loser g = score m.rules m.classes m.arcs loser g

-- how many of the numbers below n pass a test
unfoldable pub count_below : (ℕ → Bool) → ℕ → ℕ
count_below p zero = 0
count_below p (suc n) = count_below p n + (if p n then 1 else 0)

-- a face of the map permits another as its neighbour
abbrev pub permits_in : MergeState → ℕ → ℕ → Bool
permits_in m f g = permits m.rules m.classes f g

-- how many permitted neighbours a face of the map has
abbrev pub permitted_count : MergeState → ℕ → ℕ
permitted_count m f = count_below (is_permitted m.rules m.classes m.arcs f) (length m.classes + 1)

-- a neighbour of the loser is one more permitted neighbour of the new face: the winner permits it, and has none of its arcs
abbrev pub is_gained : MergeState → ℕ → ℕ → Bool
is_gained m winner g = not (g == winner) && (not (are_neighbours m.arcs winner g) && permits_in m winner g)

-- n is the greatest label
pub record IsLabelled (n : ℕ) (a : LabelledArc) : Type 0 where
  pub left : a.left ≤ n
  pub right : a.right ≤ n

-- What is known of a map while it is merged. All its arcs together are no longer than one arc can be, as all points are
-- counted in both.
pub record IsMerging (m : MergeState) : Type 0 where
  pub rules_hold : IsTrue (is_rules m.rules)
  pub classed : All (λ k. k < length m.rules.weights) m.classes
  pub labelled : All (IsLabelled (length m.classes)) m.arcs
  pub measured : All IsMeasured m.arcs
  pub few_arcs : length m.arcs ≤ MAX_ARCS
  pub short : total_length m.arcs ≤ max_arc_length
  pub few_faces : length m.classes + count_by is_shared m.arcs ≤ max_face

-- twice the area that these arcs give to each face, by its number
pub record AreAreas (faces : ℕ) (arcs : List LabelledArc) (areas : List ℤ) : Type 0 where
  pub count : length areas ≡ faces + 1
  pub value : (f : ℕ) → f ≤ faces → slice_index_or areas f (pos 0) ≡ area_of arcs f
