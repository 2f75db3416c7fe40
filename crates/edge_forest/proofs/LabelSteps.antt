-- What labels tell of their faces; and when the label of the winner stands for the new face, the labels of edges stand for the faces
-- after the step.
use Rattle.std.proofs.Common.{◌≡◌, ◌≢◌, inl, inr, ℕ, ◌<◌, ◌==◌, Bool, cond, List, length, get_or, set, sym, ap, ◌∙◌, subst, arith}
use Rattle.std.proofs.lemmas.Bool.{cases_eq, eq-eqb, ne_eqb}
use Rattle.std.proofs.lemmas.List.{get_or-set_same, get_or-set_other, length-set}
use Rattle.tgap_model.specs.declared.merge.MergeStep.{MergeStep}
use Rattle.tgap_model.specs.History.{relabel}
use Rattle.map_laws.proofs.MergeSteps.{relabel_loser, relabel_winner, relabel_other}
use Rattle.edge_forest.specs.declared.face_labels.FaceLabels.{FaceLabels}
use Rattle.edge_forest.specs.FaceLabels.{face_of, label_of, HasLabel, IsCurrent, moved}

-- ---- labels and faces

module _ (t : FaceLabels) where
  -- the label of a face that has one is that of its face
  pub has_current : (f : ℕ) → HasLabel t f → IsCurrent t (label_of t f)
  has_current f h = record { label = h.label; face = omega (arith, h.face, h.exact); exact = ap (label_of t) h.exact }

  -- the face of a label that is its own has a label
  pub current_has : (l f : ℕ) → IsCurrent t l → face_of t l ≡ f → HasLabel t f
  current_has l f c e =
      let label : label_of t f ≡ l = ap (label_of t) (sym e) ∙ c.exact in
      record { face = omega (arith, c.face, e); label = omega (arith, c.label, label); exact = ap (face_of t) label ∙ e }

  -- two faces have different labels
  pub labels_differ : (f g : ℕ) → HasLabel t f → HasLabel t g → f ≢ g → label_of t f ≢ label_of t g
  labels_differ f g a b ne = λ e. ne (sym a.exact ∙ ap (face_of t) e ∙ b.exact)

  -- a label is that of a face where its face is this one
  pub label_test : (l f : ℕ) → IsCurrent t l → HasLabel t f → (l == label_of t f) ≡ (face_of t l == f)
  label_test l f c h = elim (cases_eq (face_of t l) f) [
    | inl e ↦ eq-eqb l (label_of t f) (sym c.exact ∙ ap (label_of t) e) ∙ sym (eq-eqb (face_of t l) f e)
    | inr ne ↦ ne_eqb l (label_of t f) (λ e. ne (ap (face_of t) e ∙ h.exact)) ∙ sym (ne_eqb (face_of t l) f ne)
  ]

-- ---- a step

module _ (t u : FaceLabels) (s : MergeStep) (loser : HasLabel t s.loser) (winner : HasLabel t s.winner) (apart : s.loser ≢ s.winner) (made : s.made < length t.labels.items)
    (faces : u.faces.items ≡ set t.faces.items (label_of t s.winner) s.made) (labels : u.labels.items ≡ set t.labels.items s.made (label_of t s.winner)) where
  abbrev to : ℕ
  to = label_of t s.winner

  face_there : face_of u (label_of t s.winner) ≡ s.made
  face_there = ap (λ (xs : List ℕ). get_or xs to 0) faces ∙ get_or-set_same t.faces.items to s.made 0 winner.label

  label_there : label_of u s.made ≡ label_of t s.winner
  label_there = ap (λ (xs : List ℕ). get_or xs s.made 0) labels ∙ get_or-set_same t.labels.items s.made to 0 made

  face_kept : (l : ℕ) → l ≢ label_of t s.winner → face_of u l ≡ face_of t l
  face_kept l ne = ap (λ (xs : List ℕ). get_or xs l 0) faces ∙ get_or-set_other t.faces.items to l s.made 0 ne

  label_kept : (f : ℕ) → f ≢ s.made → label_of u f ≡ label_of t f
  label_kept f ne = ap (λ (xs : List ℕ). get_or xs f 0) labels ∙ get_or-set_other t.labels.items s.made f to 0 ne

  -- the label that stands for the new face
  winner_current : IsCurrent u (label_of t s.winner)
  winner_current = record {
    label = omega (arith, winner.label, ap length faces, length-set t.faces.items to s.made);
    face = omega (arith, face_there, made, ap length labels, length-set t.labels.items s.made to);
    exact = ap (label_of u) face_there ∙ label_there;
  }

  -- a label of another face
  other_current : (l : ℕ) → IsCurrent t l → face_of t l ≢ s.made → l ≢ label_of t s.winner → IsCurrent u l
  other_current l c new ne = record {
    label = omega (arith, c.label, ap length faces, length-set t.faces.items to s.made);
    face = omega (arith, face_kept l ne, c.face, ap length labels, length-set t.labels.items s.made to);
    exact = ap (label_of u) (face_kept l ne) ∙ label_kept (face_of t l) new ∙ c.exact;
  }

  -- after the step the label of a side stands for the face that the step makes of its face, and is its label
  pub labels_follow : (l : ℕ) → IsCurrent t l → face_of t l ≢ s.made → IsCurrent u (moved t s l) × (face_of u (moved t s l) ≡ relabel s (face_of t l))
  labels_follow l c new = elim (cases_eq l (label_of t s.loser)) [
    | inl e ↦
        (let is : moved t s l ≡ to = ap (λ (b : Bool). cond b to l) (eq-eqb l (label_of t s.loser) e) in
        let face : face_of t l ≡ s.loser = ap (face_of t) e ∙ loser.exact in
        subst (λ (n : ℕ). IsCurrent u n × (face_of u n ≡ relabel s (face_of t l))) (sym is) (winner_current, face_there ∙ sym (relabel_loser s (face_of t l) face)))
    | inr ne ↦
        (let is : moved t s l ≡ l = ap (λ (b : Bool). cond b to l) (ne_eqb l (label_of t s.loser) ne) in
        subst (λ (n : ℕ). IsCurrent u n × (face_of u n ≡ relabel s (face_of t l))) (sym is) (elim (cases_eq l (label_of t s.winner)) [
          | inl e ↦ (
            subst (IsCurrent u) (sym e) winner_current,
            ap (face_of u) e ∙ face_there ∙ sym (relabel_winner s (face_of t l) (ap (face_of t) e ∙ winner.exact)),
          )
          | inr other ↦ (
            other_current l c new other,
            face_kept l other ∙ sym (relabel_other s (face_of t l)
                (λ e. ne (sym c.exact ∙ ap (label_of t) e)) (λ e. other (sym c.exact ∙ ap (label_of t) e))),
          )
        ]))
  ]
