-- What an edge has at its sides by labels, it has by faces.
use Rattle.std.proofs.Common.{◌≡◌, ◌≢◌, inl, inr, ℕ, ◌==◌, ◌||◌, ◌&&◌, not, Bool, true, false, refl, sym, ap, ap₂, ◌∙◌}
use Rattle.std.proofs.lemmas.Bool.{cases_eq, eq-eqb, ne_eqb}
use Rattle.tgap_model.specs.declared.slice.Edge.{Edge}
use Rattle.tgap_model.specs.Removals.{has_side}
use Rattle.tgap_model.specs.Records.{is_edge_between}
use Rattle.edge_forest.specs.declared.face_labels.FaceLabels.{FaceLabels}
use Rattle.edge_forest.specs.FaceLabels.{face_of, label_of, HasLabel, IsCurrent}
use Rattle.tgap_build.specs.Table.{faced, has_both, has_first}

-- Both labels of an edge are those of their faces.
pub record IsSided (t : FaceLabels) (e : Edge) : Type 0 where
  pub left : IsCurrent t e.left
  pub right : IsCurrent t e.right

module _ (t : FaceLabels) where
  -- a label is that of a face exactly where the face is that of the label
  label_test : (f l : ℕ) → HasLabel t f → IsCurrent t l → (l == label_of t f) ≡ (face_of t l == f)
  label_test f l h c = elim (cases_eq l (label_of t f)) [
    | inl e ↦ eq-eqb l (label_of t f) e ∙ sym (eq-eqb (face_of t l) f (ap (face_of t) e ∙ h.exact))
    | inr ne ↦ ne_eqb l (label_of t f) ne ∙ sym (ne_eqb (face_of t l) f (λ s. ne (sym c.exact ∙ ap (label_of t) s)))
  ]

  pub side_test : (f : ℕ) (e : Edge) → HasLabel t f → IsSided t e → has_side (label_of t f) e ≡ has_side f (faced t e)
  side_test f e h s = ap₂ (λ (a b : Bool). a || b) (label_test f e.left h s.left) (label_test f e.right h s.right)

  -- two faces have two labels
  pub labels_differ : (f g : ℕ) → HasLabel t f → HasLabel t g → f ≢ g → label_of t f ≢ label_of t g
  labels_differ f g h k ne e = ne (sym h.exact ∙ ap (face_of t) e ∙ k.exact)

  not_both : (f g l : ℕ) → HasLabel t f → HasLabel t g → f ≢ g → ((l == label_of t f) && (l == label_of t g)) ≡ false
  not_both f g l h k ne = elim (cases_eq l (label_of t f)) [
    | inl e ↦ ap₂ (λ (a b : Bool). a && b) (eq-eqb l (label_of t f) e) (ne_eqb l (label_of t g) (λ s. labels_differ f g h k ne (sym e ∙ s)))
    | inr other ↦ ap (λ (a : Bool). a && (l == label_of t g)) (ne_eqb l (label_of t f) other)
  ]

  crossed : (a b c d : Bool) → (a && c) ≡ false → (b && d) ≡ false → ((a || b) && (c || d)) ≡ ((a && d) || (c && b))
  crossed true b true d h k = absurd cc
  crossed true b false true h k = refl
  crossed true b false false h k = refl
  crossed false true c true h k = absurd cc
  crossed false true true false h k = refl
  crossed false true false false h k = refl
  crossed false false true d h k = refl
  crossed false false false d h k = refl

  -- an edge has both labels exactly where it is between the two faces
  pub between_test : (f g : ℕ) (e : Edge) → HasLabel t f → HasLabel t g → f ≢ g → IsSided t e → has_both (label_of t f) (label_of t g) e ≡ is_edge_between f g (faced t e)
  between_test f g e h k ne s =
      crossed (e.left == label_of t f) (e.right == label_of t f) (e.left == label_of t g) (e.right == label_of t g) (not_both f g e.left h k ne) (not_both f g e.right h k ne)
      ∙ ap₂ (λ (a b : Bool). a || b)
      (ap₂ (λ (a b : Bool). a && b) (label_test f e.left h s.left) (label_test g e.right k s.right))
      (ap₂ (λ (a b : Bool). a && b) (label_test g e.left k s.left) (label_test f e.right h s.right))

  but_not_both : (a b : Bool) → (a && not b) ≡ (a && not (a && b))
  but_not_both true b = refl
  but_not_both false b = refl

  -- it has the first alone exactly where it has the first face and is not between the two
  pub first_test : (f g : ℕ) (e : Edge) → HasLabel t f → HasLabel t g → f ≢ g → IsSided t e
      → has_first (label_of t f) (label_of t g) e ≡ (has_side f (faced t e) && not (is_edge_between f g (faced t e)))
  first_test f g e h k ne s =
      but_not_both (has_side (label_of t f) e) (has_side (label_of t g) e)
      ∙ ap₂ (λ (a b : Bool). a && not b) (side_test f e h s) (between_test f g e h k ne s)
