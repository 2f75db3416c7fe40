-- The labels down a line: other labels, neighbours that cancel, and the parity of the borders of a face.
use Rattle.std.proofs.Common.{◌≡◌, ℕ, Bool, true, false, ◌==◌, List, [], ◌∷◌, ◌++◌, refl, sym, ap, ◌∙◌, subst}
use Rattle.std.proofs.lemmas.Bool.{and_parts, and_from, eqb-true, eq-eqb}
use Rattle.tgap_model.specs.Partition.{Sides, agree_from}
use Rattle.map_laws.specs.PlaneLaws.{label_reached, relabelled, LabelsChange, NeighboursCancel}

-- agreement, taken apart and put together
agree_head : (u : ℕ) (s : Sides) (ss : List Sides) → agree_from u (s ∷ ss) ≡ true → s.upper ≡ u
agree_head u s ss h = eqb-true _ _ (and_parts _ _ h).0

agree_tail : (u : ℕ) (s : Sides) (ss : List Sides) → agree_from u (s ∷ ss) ≡ true → agree_from s.lower ss ≡ true
agree_tail u s ss h = (and_parts _ _ h).1

agree_cons : (u : ℕ) (s : Sides) (ss : List Sides) → s.upper ≡ u → agree_from s.lower ss ≡ true → agree_from u (s ∷ ss) ≡ true
agree_cons u s ss e h = and_from _ _ (eq-eqb _ _ e) h

-- one pair with other labels, in front of a list that agrees
agree_changed : (g : ℕ → ℕ) (s : Sides) (rest : List Sides) (b : Bool) → (g s.upper == g s.lower) ≡ b → agree_from (g s.lower) rest ≡ true
    → agree_from (g s.upper) (elim b [ true ↦ rest | false ↦ record { upper = g s.upper; lower = g s.lower } ∷ rest ]) ≡ true
agree_changed g s rest true e h = subst (λ (x : ℕ). agree_from x rest ≡ true) (sym (eqb-true _ _ e)) h
agree_changed g s rest false e h = agree_cons (g s.upper) (record { upper = g s.upper; lower = g s.lower }) rest refl h

pub labels_agree : (g : ℕ → ℕ) (u : ℕ) (ss : List Sides) → g 0 ≡ 0 → agree_from u ss ≡ true → agree_from (g u) (relabelled g ss) ≡ true
labels_agree g u [] z h = eq-eqb _ _ (ap g (eqb-true _ _ h) ∙ z)
labels_agree g u (s ∷ ss) z h =
    subst (λ (x : ℕ). agree_from (g x) (relabelled g (s ∷ ss)) ≡ true) (agree_head u s ss h)
    (agree_changed g s (relabelled g ss) (g s.upper == g s.lower) refl (labels_agree g s.lower ss z (agree_tail u s ss h)))

reached_changed : (g : ℕ → ℕ) (s : Sides) (rest : List Sides) (b : Bool) → (g s.upper == g s.lower) ≡ b
    → label_reached (g s.upper) (elim b [ true ↦ rest | false ↦ record { upper = g s.upper; lower = g s.lower } ∷ rest ]) ≡ label_reached (g s.lower) rest
reached_changed g s rest true e = ap (λ (x : ℕ). label_reached x rest) (eqb-true _ _ e)
reached_changed g s rest false e = refl

pub labels_reached : (g : ℕ → ℕ) (u : ℕ) (ss ts : List Sides) → agree_from u (ss ++ ts) ≡ true → label_reached (g u) (relabelled g ss) ≡ g (label_reached u ss)
labels_reached g u [] ts h = refl
labels_reached g u (s ∷ ss) ts h =
    ap (λ (x : ℕ). label_reached (g x) (relabelled g (s ∷ ss))) (sym (agree_head u s (ss ++ ts) h))
    ∙ reached_changed g s (relabelled g ss) (g s.upper == g s.lower) refl
    ∙ labels_reached g s.lower ss ts (agree_tail u s (ss ++ ts) h)

pub labels_change : LabelsChange
labels_change = record { agree = labels_agree; reached = labels_reached }

pub neighbours_cancel : NeighboursCancel
neighbours_cancel u [] s t ts h e =
    let f = agree_head u s (t ∷ ts) h in
    let k = agree_tail u s (t ∷ ts) h in
    subst (λ (x : ℕ). agree_from x ts ≡ true) (sym e ∙ f) (agree_tail s.lower t ts k)
neighbours_cancel u (r ∷ ss) s t ts h e =
    agree_cons u r (ss ++ ts) (agree_head u r (ss ++ s ∷ t ∷ ts) h) (neighbours_cancel r.lower ss s t ts (agree_tail u r (ss ++ s ∷ t ∷ ts) h) e)
