-- The faces at the sides of an edge: what its first ones have become is beside the arc with its key.
use Rattle.std.proofs.Common.{◌≡◌, ◌≤◌, inl, inr, ℕ, true, [], length, sym, ap, ap₂, ◌∙◌, subst, arith}
use Rattle.std.proofs.lemmas.Bool.Decides.{leb_tells}
use Rattle.std.proofs.lemmas.List.{get_or_past}
use Rattle.tgap_model.specs.declared.base.BaseArc.{BaseArc}
use Rattle.tgap_model.specs.Base.{BaseMap, is_base}
use Rattle.tgap_model.specs.History.{history_of}
use Rattle.tgap_model.specs.Merged.{merged, label_at}
use Rattle.tgap_model.specs.Chains.{arc_number}
use Rattle.map_laws.proofs.MergeSteps.{label_bounded}
use Rattle.face_merge.proofs.Start.{history_numbered}
use Rattle.face_tree.specs.Tree.{FaceHistory, face_history, low_step, label_from}
use Rattle.slice_laws.proofs.BaseParts.{base_arc}
use Rattle.slice_laws.proofs.Coverage.{number_among}
use Rattle.tgap_build.proofs.Labels.{label_of_label}

-- the faces at the sides of an arc are faces of the base map, or the outside
pub arc_sides : (m : BaseMap) → is_base m ≡ true → (i : ℕ) → ((arc_number m.arcs i).left ≤ length m.classes) × ((arc_number m.arcs i).right ≤ length m.classes)
arc_sides m base i = elim (leb_tells (length m.arcs) i) [
  | inl past ↦
      let none : arc_number m.arcs i ≡ record { left = 0; right = 0; points = [] } = get_or_past m.arcs i (record { left = 0; right = 0; points = [] }) past.1 in
      subst (λ (a : BaseArc). (a.left ≤ length m.classes) × (a.right ≤ length m.classes)) (sym none) (omega arith, omega arith)
  | inr within ↦
      let facts = base_arc m base (arc_number m.arcs i) (number_among m.arcs i within.1) in
      (facts.left, facts.right)
]

-- the label of a face after some steps, and what that label becomes by later ones
module _ (m : BaseMap) (base : is_base m ≡ true) (t : FaceHistory) (history : t ≡ face_history (merged m)) (low k : ℕ) (le : low ≤ k)
    (inside : k ≤ length (history_of m)) (f label : ℕ) (face : f ≤ length m.classes) (is : label ≡ label_at (merged m) low f) where
  -- is made by then
  pub side_made : low_step t label ≤ k
  side_made =
      let bound = label_bounded (length m.classes) (history_of m) low f (history_numbered m base) (omega (arith, le, inside)) face in
      omega (arith, bound, is, ap (λ (u : FaceHistory). u.faces) history)

  -- is the label of the face
  pub side_label : label_from t k label ≡ label_at (merged m) k f
  side_label =
      ap₂ (λ (u : FaceHistory) (l : ℕ). label_from u k l) history is
      ∙ label_of_label (length m.classes) (history_of m) low k f (history_numbered m base) le face
