-- The history of a base map: its steps are numbered and few, and each merges two live faces.
use Rattle.std.proofs.Common.{◌≡◌, ◌<◌, ◌≤◌, ◌⊎◌, inl, inr, ℕ, zero, suc, ◌+◌, ◌-◌, ◌^◌, true, false, ◌==◌, Option, None, List, [], ◌∷◌, ◌++◌, length, map, get_or, take, refl, sym, ap, ◌∙◌, subst, arith, append_assoc, filter, fold, ne_eqb}
use Rattle.std.specs.Prelude.{IsTrue}
use Rattle.std.specs.List.{AllByRecursion, list_any, range_with_len}
use Rattle.std.specs.Option.{is_none}
use Rattle.std.proofs.lemmas.Bool.{or_cases, and_parts}
use Rattle.std.proofs.lemmas.List.{append-nil, length_push}
use Rattle.std.proofs.lemmas.List.Elements.{recursion_from_All}
use Rattle.lemmas.proofs.Members.{filter_agree_on}
use Rattle.tgap_model.specs.declared.base.Rules.{Rules}
use Rattle.tgap_model.specs.declared.base.BaseArc.{BaseArc}
use Rattle.tgap_model.specs.declared.merge.MergeStep.{MergeStep}
use Rattle.tgap_model.specs.declared.merge.LabelledArc.{LabelledArc}
use Rattle.tgap_model.specs.Base.{BaseMap, is_base}
use Rattle.tgap_model.specs.History.{relabel, labelled, relabel_arc, classes_after, class_of, is_between, AreSteps, IsHistory, AreNumbered, IsNumberedStep, history_of}
use Rattle.tgap_model.proofs.BaseFacts.{ArcFacts, base_facts, each_arc}
use Rattle.face_merge.proofs.Neighbours.{is_pair, between_labels}
use Rattle.face_merge.proofs.Start.{history_numbered}
use Rattle.face_merge.proofs.Steps.{history_is, one_history, length-history_of}
use Rattle.face_tree.specs.Tree.{FaceHistory, MergesLive, AreParents, AreJumpsBy, AreAscending, IsTree, face_history, last_face, step_after, merges, parent_by, parent_of, root_faces, without_parent}
use Rattle.face_tree.proofs.Ways.{relabel_unmerged, parent_above}
use Rattle.face_tree.proofs.Live.{IsLabel, live_from, label_append}

-- ---- numbered and few

-- the steps of the history are those that are computed
steps_are : (m : BaseMap) (steps : List MergeStep) → IsHistory m steps → history_of m ≡ steps
steps_are m steps h = one_history m (history_of m) steps (history_is m) h

pub steps_numbered : (m : BaseMap) (steps : List MergeStep) → IsTrue (is_base m) → IsHistory m steps → AreNumbered (length m.classes) steps
steps_numbered m steps base h = subst (AreNumbered (length m.classes)) (steps_are m steps h) (history_numbered m base)

pub steps_few : (m : BaseMap) (steps : List MergeStep) → IsHistory m steps → length steps ≤ length m.arcs
steps_few m steps h = subst (λ (ss : List MergeStep). length ss ≤ length m.arcs) (steps_are m steps h) (length-history_of m)

-- ---- live faces at the sides of arcs

-- a side of an arc is the outside, or the label of a face of the base map after these steps
abbrev IsSide : ℕ → List MergeStep → ℕ → Type 0
IsSide n steps x = (x ≡ 0) ⊎ IsLabel n steps x

abbrev HasSides : ℕ → List MergeStep → LabelledArc → Type 0
HasSides n steps a = IsSide n steps a.left × IsSide n steps a.right

-- a step does not merge the outside
unmerged_outside : (m : ℕ) (s : MergeStep) → IsNumberedStep m s → merges s 0 ≡ false
unmerged_outside m s h =
    let other : (f : ℕ) → 0 < f → (0 == f) ≡ false = λ f lt. ne_eqb 0 f (λ e. absurd (omega arith)) in
    rw (other s.loser h.loser.0, other s.winner h.winner.0) refl

-- one step later
side_after : (n m : ℕ) (steps : List MergeStep) (s : MergeStep) (x : ℕ) → IsNumberedStep m s → IsSide n steps x → IsSide n (steps ++ s ∷ []) (relabel s x)
side_after n m steps s x h (inl e) =
    inl (ap (relabel s) e ∙ relabel_unmerged s 0 (unmerged_outside m s h))
side_after n m steps s x h (inr l) =
    inr (record { base = l.base; above = l.above; below = l.below; label = label_append steps (s ∷ []) l.base ∙ ap (relabel s) l.label })

sides_after : (n m : ℕ) (steps : List MergeStep) (s : MergeStep) (arcs : List LabelledArc) → IsNumberedStep m s
    → AllByRecursion (HasSides n steps) arcs → AllByRecursion (HasSides n (steps ++ s ∷ [])) (map (relabel_arc s) arcs)
sides_after n m steps s [] h each = tt
sides_after n m steps s (a ∷ arcs) h each =
    ((side_after n m steps s a.left h each.0.0, side_after n m steps s a.right h each.0.1), sides_after n m steps s arcs h each.1)

-- before the first step
side_first : (n x : ℕ) → x ≤ n → IsSide n [] x
side_first n zero le = inl refl
side_first n (suc x) le = inr (record { base = suc x; above = omega arith; below = le; label = refl })

sides_first : (n : ℕ) (arcs : List BaseArc) → AllByRecursion (ArcFacts n) arcs → AllByRecursion (HasSides n []) (map labelled arcs)
sides_first n [] each = tt
sides_first n (a ∷ arcs) each = ((side_first n a.left each.0.left, side_first n a.right each.0.right), sides_first n arcs each.1)

-- what is known of the sides of arcs is known of two neighbours
of_neighbours : (P : ℕ → Type 0) (f g : ℕ) (arcs : List LabelledArc) → AllByRecursion (λ a. P a.left × P a.right) arcs → list_any (is_between f g) arcs ≡ true → P f × P g
of_neighbours P f g [] each e = absurd cc
of_neighbours P f g (a ∷ arcs) each e = elim (or_cases (is_between f g a) _ e) [
  | inl here ↦ elim (between_labels f g a.left a.right here) [
    | inl at ↦ (subst P at.0 each.0.0, subst P at.1 each.0.1)
    | inr at ↦ (subst P at.1 each.0.1, subst P at.0 each.0.0)
  ]
  | inr later ↦ of_neighbours P f g arcs each.1 later
]

-- a side that is a face is a label
side_label : (n : ℕ) (steps : List MergeStep) (x : ℕ) → 0 < x → IsSide n steps x → IsLabel n steps x
side_label n steps x some (inl e) = absurd (omega arith)
side_label n steps x some (inr l) = l

-- ---- each step merges two live faces

abbrev no_step : MergeStep
no_step = record { loser = 0; winner = 0; made = 0 }

-- both faces of the step at place j of the steps from here on, after the steps before them
abbrev MergesLabels : ℕ → List MergeStep → List MergeStep → ℕ → Type 0
MergesLabels n before steps j =
    let s = get_or steps j no_step in IsLabel n (before ++ take j steps) s.loser × IsLabel n (before ++ take j steps) s.winner

merges_labels : (n m : ℕ) (rules : Rules) (classes : List ℕ) (arcs : List LabelledArc) (before steps : List MergeStep) → AreSteps rules classes arcs steps → AreNumbered m steps
    → AllByRecursion (HasSides n before) arcs → (j : ℕ) → j < length steps → MergesLabels n before steps j
merges_labels n m rules classes arcs before [] are h each j lt = absurd (omega arith)
merges_labels n m rules classes arcs before (s ∷ steps) are h each zero lt =
    let sides = of_neighbours (IsSide n before) s.loser s.winner arcs each (and_parts (is_pair s.loser s.winner) _ are.0.neighbours).1 in
    let none : before ++ take 0 (s ∷ steps) ≡ before = append-nil before in
    rw none (side_label n before s.loser h.0.loser.0 sides.0, side_label n before s.winner h.0.winner.0 sides.1)
merges_labels n m rules classes arcs before (s ∷ steps) are h each (suc j) lt =
    let rest = merges_labels n (m + 1) rules (classes_after s classes) (map (relabel_arc s) arcs) (before ++ s ∷ []) steps are.1 h.1
    (sides_after n m before s arcs h.0 each) j (omega arith) in
    let e : (before ++ s ∷ []) ++ take j steps ≡ before ++ (s ∷ take j steps) = append_assoc before (s ∷ []) (take j steps) in
    rw (← e) rest

steps_live : (m : BaseMap) (steps : List MergeStep) → IsTrue (is_base m) → IsHistory m steps → MergesLive (face_history (record { base = m; steps = steps }))
steps_live m steps base h =
    let n = length m.classes in
    let t = face_history (record { base = m; steps = steps }) in
    let arcs = sides_first n m.arcs (recursion_from_All (ArcFacts n) m.arcs (each_arc m (base_facts m base))) in
    let each = merges_labels n n m.rules m.classes (map labelled m.arcs) [] steps h (steps_numbered m steps base h) arcs in
    record {
      loser = λ j lt. live_from t j (step_after t j).loser (each j lt).0;
      winner = λ j lt. live_from t j (step_after t j).winner (each j lt).1;
    }

-- ---- what the tree takes from the history

pub record HistoryFacts (m : BaseMap) (steps : List MergeStep) : Type 0 where
  pub numbered : AreNumbered (length m.classes) steps
  pub live : MergesLive (face_history (record { base = m; steps = steps }))
  pub small : length m.classes + length steps + 1 < 2 ^ 32

pub history_facts : (m : BaseMap) (steps : List MergeStep) → IsTrue (is_base m) → IsHistory m steps → HistoryFacts m steps
history_facts m steps base h =
    let facts = base_facts m base in
    record {
      numbered = steps_numbered m steps base h;
      live = steps_live m steps base h;
      small = omega (arith, facts.few_faces, facts.few_arcs, steps_few m steps h);
    }

-- of lists that are the classes and the history of a base map: the steps are numbered, and all faces are few
pub handed_over : (m : BaseMap) (steps : List MergeStep) (ks : List ℕ) (ss : List MergeStep) → IsTrue (is_base m) → IsHistory m steps → ks ≡ m.classes → ss ≡ steps
    → AreNumbered (length ks) ss × (length ks + length ss + 1 < 2 ^ 32)
handed_over m steps ks ss base h ek es =
    let facts = history_facts m steps base h in
    (rw (ek, es) facts.numbered, rw (ek, es) facts.small)

-- each step gives one more face a class
pub count_classes : (ks : List ℕ) (steps : List MergeStep) → length (fold (λ ks s. classes_after s ks) ks steps) ≡ length ks + length steps
count_classes ks [] = omega arith
count_classes ks (s ∷ steps) = omega (arith, count_classes (classes_after s ks) steps, length_push ks (class_of ks s.winner))

-- parents have greater numbers than their children
pub parents_ascend : (n : ℕ) (steps : List MergeStep) (parents : List (Option ℕ)) → AreNumbered n steps → length parents ≡ n + length steps + 1
    → ((f : ℕ) → get_or parents f None ≡ parent_by steps f) → AreAscending parents
parents_ascend n steps parents h count value = record {
  above = λ f p inside e. (parent_above n steps f p h (sym (value f) ∙ e)).0;
  below = λ f p inside e. omega (arith, (parent_above n steps f p h (sym (value f) ∙ e)).2);
}

-- the faces whose stored parent is none are the roots
roots_listed : (t : FaceHistory) (parents : List (Option ℕ)) → length parents ≡ t.faces + length t.steps + 1 → ((f : ℕ) → get_or parents f None ≡ parent_by t.steps f)
    → without_parent parents ≡ root_faces t
roots_listed t parents count value =
    let all : length parents - 1 ≡ last_face t = omega (arith, count) in
    ap (λ (n : ℕ). filter (λ f. is_none (get_or parents f None)) (range_with_len 1 n)) all
    ∙ filter_agree_on (λ f. is_none (get_or parents f None)) (λ f. is_none (parent_of t f)) (range_with_len 1 (last_face t))
    (λ k d inside. ap (λ (o : Option ℕ). is_none o) (value (get_or (range_with_len 1 (last_face t)) k d)))

-- what is stored is a tree
pub tree_is : (m : BaseMap) (steps : List MergeStep) (t : FaceHistory) (parents : List (Option ℕ)) (jumps tops : List ℕ) → HistoryFacts m steps
    → t ≡ face_history (record { base = m; steps = steps }) → length parents ≡ t.faces + length t.steps + 1 → ((f : ℕ) → get_or parents f None ≡ parent_by t.steps f)
    → AreJumpsBy parents jumps → tops ≡ without_parent parents → IsTree t parents jumps tops
tree_is m steps t parents jumps tops facts e count value known listed =
    let stored : AreParents t parents = record { count = count; value = λ f _. value f } in
    let numbered : AreNumbered t.faces t.steps = rw e facts.numbered in
    record {
      numbered = numbered;
      live = rw e facts.live;
      small = rw e facts.small;
      classed = rw e (count_classes m.classes steps);
      are_parents = stored;
      are_jumps = known t numbered stored;
      are_roots = listed ∙ roots_listed t parents count value;
    }
