-- No step of a history has the outside as loser or winner, so its label stays 0.
use Rattle.std.proofs.Common.{◌≡◌, ◌≢◌, ℕ, zero, suc, ◌+◌, Bool, true, false, not, ◌&&◌, ◌||◌, ◌==◌, List, [], ◌∷◌, ◌++◌, map, length, take, Option, Some, None, refl, sym, ap, ap₂, ◌∙◌, subst, ne_eqb, if◌then◌else◌}
use Rattle.std.proofs.lemmas.Bool.{and_parts, not-true, eqb-false}
use Rattle.tgap_model.specs.declared.base.Rules.{Rules}
use Rattle.tgap_model.specs.declared.merge.MergeStep.{MergeStep}
use Rattle.tgap_model.specs.declared.merge.LabelledArc.{LabelledArc}
use Rattle.tgap_model.specs.Base.{BaseMap}
use Rattle.tgap_model.specs.History.{relabel, relabel_arc, label_after, classes_after, labelled, loses_before, wins_before, permits, permitting, permitted_by, first_from, first_by, is_shared, mergeable, neighbours_of, step_against, next_step, steps_from, history_of}
use Rattle.tgap_model.specs.Merged.{merged, label_at}

-- each member is a face and not the outside
abbrev AreFaces : List ℕ → Type 0
AreFaces [] = Unit {0}
AreFaces (f ∷ fs) = (f ≢ 0) × AreFaces fs

-- a step of two faces
abbrev IsOfFaces : MergeStep → Type 0
IsOfFaces s = (s.loser ≢ 0) × (s.winner ≢ 0)

abbrev AreOfFaces : List MergeStep → Type 0
AreOfFaces [] = Unit {0}
AreOfFaces (s ∷ steps) = IsOfFaces s × AreOfFaces steps

faces_append : (fs gs : List ℕ) → AreFaces fs → AreFaces gs → AreFaces (fs ++ gs)
faces_append [] gs h g = g
faces_append (f ∷ fs) gs h g = (h.0, faces_append fs gs h.1 g)

-- ---- the lists that losers and winners are of

-- a shared arc has two faces at its sides
shared_faces : (a : LabelledArc) → is_shared a ≡ true → (a.left ≢ 0) × (a.right ≢ 0)
shared_faces a h =
    let b = and_parts (not (a.left == 0) && not (a.right == 0)) (not (a.left == a.right)) h in
    let c = and_parts (not (a.left == 0)) (not (a.right == 0)) b.0 in
    (eqb-false _ _ (not-true _ c.0), eqb-false _ _ (not-true _ c.1))

-- the face at a side, where it has a permitted neighbour or is one
permitting_face : (rules : Rules) (classes : List ℕ) (f g : ℕ) → f ≢ 0 → AreFaces (permitting rules classes f g)
permitting_face rules classes f g n = by (permits rules classes f g)
  where
    by : (b : Bool) → AreFaces (if b then f ∷ [] else [])
    by true = (n, tt)
    by false = tt

permitted_face : (rules : Rules) (classes : List ℕ) (f g : ℕ) → g ≢ 0 → AreFaces (permitted_by rules classes f g)
permitted_face rules classes f g n = by (permits rules classes f g)
  where
    by : (b : Bool) → AreFaces (if b then g ∷ [] else [])
    by true = (n, tt)
    by false = tt

module _ (rules : Rules) (classes : List ℕ) where
  mergeable_faces : (arcs : List LabelledArc) → AreFaces (mergeable rules classes arcs)
  mergeable_faces [] = tt
  mergeable_faces (a ∷ arcs) =
      faces_append (if is_shared a then permitting rules classes a.left a.right ++ permitting rules classes a.right a.left else []) (mergeable rules classes arcs)
      (by (is_shared a) refl) (mergeable_faces arcs)
    where
      by : (b : Bool) → is_shared a ≡ b → AreFaces (if b then permitting rules classes a.left a.right ++ permitting rules classes a.right a.left else [])
      by true e =
          let f = shared_faces a e in
          faces_append (permitting rules classes a.left a.right) (permitting rules classes a.right a.left)
          (permitting_face rules classes a.left a.right f.0) (permitting_face rules classes a.right a.left f.1)
      by false e = tt

  neighbour_faces : (arcs : List LabelledArc) (f : ℕ) → AreFaces (neighbours_of rules classes arcs f)
  neighbour_faces [] f = tt
  neighbour_faces (a ∷ arcs) f =
      faces_append (if is_shared a && (a.left == f) then permitted_by rules classes f a.right else (if is_shared a && (a.right == f) then permitted_by rules classes f a.left else []))
      (neighbours_of rules classes arcs f)
      (by (is_shared a) refl (a.left == f) (a.right == f)) (neighbour_faces arcs f)
    where
      by : (b : Bool) → is_shared a ≡ b → (l r : Bool)
          → AreFaces (if b && l then permitted_by rules classes f a.right else (if b && r then permitted_by rules classes f a.left else []))
      by true e true r = permitted_face rules classes f a.right (shared_faces a e).1
      by true e false true = permitted_face rules classes f a.left (shared_faces a e).0
      by true e false false = tt
      by false e l r = tt

-- the first of a list of faces is one
first_from_face : (before : ℕ → ℕ → Bool) (best : ℕ) (fs : List ℕ) → best ≢ 0 → AreFaces fs → first_from before best fs ≢ 0
first_from_face before best [] n h = n
first_from_face before best (f ∷ fs) n h = first_from_face before (if before f best then f else best) fs (by (before f best)) h.1
  where
    by : (b : Bool) → (if b then f else best) ≢ 0
    by true = h.0
    by false = n

first_by_face : (before : ℕ → ℕ → Bool) (fs : List ℕ) (f : ℕ) → AreFaces fs → first_by before fs ≡ Some f → f ≢ 0
first_by_face before [] f h e = absurd cc
first_by_face before (g ∷ fs) f h e =
    let s : first_from before g fs ≡ f = cc in
    subst (λ x. x ≢ 0) s (first_from_face before g fs h.0 h.1)

-- ---- the steps

against_faces : (rules : Rules) (classes : List ℕ) (arcs : List LabelledArc) (loser : ℕ) (s : MergeStep) → loser ≢ 0
    → step_against rules classes arcs loser ≡ Some s → IsOfFaces s
against_faces rules classes arcs loser s n e = by (first_by (wins_before rules classes arcs loser) (neighbours_of rules classes arcs loser)) refl e
  where
    by : (o : Option ℕ) → first_by (wins_before rules classes arcs loser) (neighbours_of rules classes arcs loser) ≡ o
        → ◌≡◌ {A = Option MergeStep} (elim o [ None ↦ None | Some winner ↦ Some (record { loser = loser; winner = winner; made = length classes + 1 }) ]) (Some s)
        → IsOfFaces s
    by None f g = absurd cc
    by (Some w) f g =
        let same : record { loser = loser; winner = w; made = length classes + 1 } ≡ s = cc in
        subst IsOfFaces same (n, first_by_face (wins_before rules classes arcs loser) (neighbours_of rules classes arcs loser) w (neighbour_faces rules classes arcs loser) f)

next_faces : (rules : Rules) (classes : List ℕ) (arcs : List LabelledArc) (s : MergeStep) → next_step rules classes arcs ≡ Some s → IsOfFaces s
unfolding next_step
next_faces rules classes arcs s e = by (first_by (loses_before rules classes arcs) (mergeable rules classes arcs)) refl e
  where
    by : (o : Option ℕ) → first_by (loses_before rules classes arcs) (mergeable rules classes arcs) ≡ o
        → ◌≡◌ {A = Option MergeStep} (elim o [ None ↦ None | Some loser ↦ step_against rules classes arcs loser ]) (Some s) → IsOfFaces s
    by None f g = absurd cc
    by (Some l) f g =
        against_faces rules classes arcs l s (first_by_face (loses_before rules classes arcs) (mergeable rules classes arcs) l (mergeable_faces rules classes arcs) f) g

steps_faces : (n : ℕ) (rules : Rules) (classes : List ℕ) (arcs : List LabelledArc) → AreOfFaces (steps_from n rules classes arcs)
steps_faces zero rules classes arcs = tt
steps_faces (suc n) rules classes arcs =
    by (next_step rules classes arcs) refl (λ s. steps_faces n rules (classes_after s classes) (map (relabel_arc s) arcs))
  where
    by : (o : Option MergeStep) → next_step rules classes arcs ≡ o
        → ((s : MergeStep) → AreOfFaces (steps_from n rules (classes_after s classes) (map (relabel_arc s) arcs)))
        → AreOfFaces (elim o [ None ↦ [] | Some s ↦ s ∷ steps_from n rules (classes_after s classes) (map (relabel_arc s) arcs) ])
    by None e rest = tt
    by (Some s) e rest = (next_faces rules classes arcs s e, rest s)

history_faces : (m : BaseMap) → AreOfFaces (history_of m)
unfolding history_of
history_faces m = steps_faces (length m.arcs) m.rules m.classes (map labelled m.arcs)

take_faces : (k : ℕ) (steps : List MergeStep) → AreOfFaces steps → AreOfFaces (take k steps)
take_faces zero steps h = tt
take_faces (suc k) [] h = tt
take_faces (suc k) (s ∷ steps) h = (h.0, take_faces k steps h.1)

outside_stays : (steps : List MergeStep) → AreOfFaces steps → label_after steps 0 ≡ 0
outside_stays [] h = refl
outside_stays (s ∷ steps) h = ap (label_after steps) kept ∙ outside_stays steps h.1
  where
    kept : relabel s 0 ≡ 0
    kept = ap₂ (λ a b. if a || b then s.made else 0) (ne_eqb 0 s.loser (λ e. h.0.0 (sym e))) (ne_eqb 0 s.winner (λ e. h.0.1 (sym e)))

-- the label of the outside is 0
pub outside_label : (m : BaseMap) (k : ℕ) → label_at (merged m) k 0 ≡ 0
outside_label m k = outside_stays (take k (history_of m)) (take_faces k (history_of m) (history_faces m))
