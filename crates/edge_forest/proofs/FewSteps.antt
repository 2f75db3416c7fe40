-- A history has at most as many steps as faces: a step makes one face of two.
use Rattle.std.proofs.Common.{◌≡◌, ◌≢◌, ◌⊎◌, inl, inr, ℕ, ◌+◌, ◌-◌, ◌<◌, ◌≤◌, ◌==◌, not, Bool, true, false, cond, List, [], ◌∷◌, filter, map, length, get_or, eq-eqb, ne_eqb, true≢false, refl, sym, ap, ◌∙◌, subst, arith}
use Rattle.std.specs.Prelude.{Contains, IsTrue}
use Rattle.std.specs.List.{All, list_any, range_with_len}
use Rattle.std.proofs.lemmas.Bool.{cases_eq, and_parts}
use Rattle.std.proofs.lemmas.List.Elements.{recursion_from_All, All-map, All-weaker, Contains-get_or}
use Rattle.std.proofs.lemmas.List.Sums.{length-filter, count_by-le-length}
use Rattle.std.proofs.lemmas.List.FromFn.{length-range_with_len, get_or-range_with_len}
use Rattle.lemmas.proofs.Members.{in_head, in_tail, in_cases, in_none, Contains-filter}
use Rattle.tgap_model.specs.declared.base.Rules.{Rules}
use Rattle.tgap_model.specs.declared.merge.MergeStep.{MergeStep}
use Rattle.tgap_model.specs.declared.merge.LabelledArc.{LabelledArc}
use Rattle.tgap_model.specs.Base.{BaseMap, is_base}
use Rattle.tgap_model.specs.History.{relabel, labelled, is_between, relabel_arc, classes_after, history_of, AreSteps, AreNumbered}
use Rattle.tgap_model.proofs.BaseFacts.{ArcFacts, base_facts, each_arc}
use Rattle.map_laws.proofs.MergeSteps.{relabel_loser, relabel_winner, relabel_other}
use Rattle.face_merge.proofs.Neighbours.{is_pair}
use Rattle.face_merge.proofs.Start.{history_numbered}
use Rattle.face_merge.proofs.Steps.{history_is}
use Rattle.edge_forest.proofs.StepFaces.{faces_between}

-- ---- a list without a number

abbrev without : ℕ → List ℕ → List ℕ
without x xs = filter (λ y. not (y == x)) xs

without_less : (x : ℕ) (xs : List ℕ) → Contains xs x → length (without x xs) < length xs
without_less x [] c = absurd (in_none x c)
without_less x (y ∷ ys) c = by (y == x) refl (in_cases y ys x c) (without_less x ys)
  where
    le : length (without x ys) ≤ length ys
    le = omega (arith, length-filter (λ y. not (y == x)) ys, count_by-le-length (λ y. not (y == x)) ys)

    by : (b : Bool) → (y == x) ≡ b → (y ≡ x) ⊎ Contains ys x → (Contains ys x → length (without x ys) < length ys) → length (cond (not b) (y ∷ without x ys) (without x ys)) < length (y ∷ ys)
    by true e c less = omega (arith, le)
    by false e (inl same) less = absurd (true≢false (sym (eq-eqb y x same) ∙ e))
    by false e (inr c) less = omega (arith, less c)

kept : (x y : ℕ) (xs : List ℕ) → y ≢ x → Contains xs y → Contains (without x xs) y
kept x y xs ne c = Contains-filter (λ z. not (z == x)) xs y c (ap not (ne_eqb y x ne))

-- ---- the faces that are live

-- each face at the sides of an arc is one of these
abbrev IsLive : List ℕ → ℕ → Type 0
IsLive live f = 0 < f → Contains live f

abbrev AreLive : List ℕ → LabelledArc → Type 0
AreLive live a = IsLive live a.left × IsLive live a.right

-- the faces after a step
abbrev live_next : MergeStep → List ℕ → List ℕ
live_next s live = s.made ∷ without s.winner (without s.loser live)

stays_live : (s : MergeStep) (live : List ℕ) (f : ℕ) → IsLive live f → IsLive (live_next s live) (relabel s f)
stays_live s live f known some = elim (cases_eq f s.loser) [
  | inl e ↦ subst (Contains (live_next s live)) (sym (relabel_loser s f e)) (in_head s.made (without s.winner (without s.loser live)))
  | inr p ↦ elim (cases_eq f s.winner) [
    | inl e ↦ subst (Contains (live_next s live)) (sym (relabel_winner s f e)) (in_head s.made (without s.winner (without s.loser live)))
    | inr q ↦
        let same : relabel s f ≡ f = relabel_other s f p q in
        subst (Contains (live_next s live)) (sym same)
        (in_tail s.made (without s.winner (without s.loser live)) f (kept s.winner f (without s.loser live) q (kept s.loser f live p (known (omega (arith, some, same))))))
  ]
]

few_from : (rules : Rules) (classes : List ℕ) (arcs : List LabelledArc) (steps : List MergeStep) (n : ℕ) (live : List ℕ) → All (AreLive live) arcs → AreNumbered n steps
    → AreSteps rules classes arcs steps → length steps ≤ length live
few_from rules classes arcs [] n live all numbered p = omega arith
few_from rules classes arcs (s ∷ steps) n live all numbered p =
    let rest = few_from rules (classes_after s classes) (map (relabel_arc s) arcs) steps (n + 1) (live_next s live) all_next numbered.1 p.1 in
    omega (arith, rest, without_less s.loser live loser_live, without_less s.winner (without s.loser live) winner_live)
  where
    any : IsLive live s.loser × IsLive live s.winner
    any =
        faces_between (IsLive live) s.loser s.winner arcs (recursion_from_All (AreLive live) arcs all)
        (and_parts (is_pair s.loser s.winner) (list_any (is_between s.loser s.winner) arcs) p.0.neighbours).1

    loser_live : Contains live s.loser
    loser_live = any.0 numbered.0.loser.0

    winner_live : Contains (without s.loser live) s.winner
    winner_live = kept s.loser s.winner live (λ e. numbered.0.differ (sym e)) (any.1 numbered.0.winner.0)

    all_next : All (AreLive (live_next s live)) (map (relabel_arc s) arcs)
    all_next =
        All-map (AreLive (live_next s live)) (relabel_arc s) arcs
        (All-weaker (AreLive live) (λ a. AreLive (live_next s live) (relabel_arc s a)) (λ a known. (stays_live s live a.left known.0, stays_live s live a.right known.1)) arcs all)

-- the history of a base map has at most as many steps as the map has faces
pub few_steps : (m : BaseMap) → IsTrue (is_base m) → length (history_of m) ≤ length m.classes
few_steps m h =
    omega (
      arith,
      few_from m.rules m.classes (map labelled m.arcs) (history_of m) (length m.classes) faces
          (All-map (AreLive faces) labelled m.arcs
          (All-weaker (ArcFacts (length m.classes)) (λ a. AreLive faces (labelled a)) (λ a known. (face a.left known.left, face a.right known.right)) m.arcs (each_arc m (base_facts m h))))
          (history_numbered m h) (history_is m),
      length-range_with_len 1 (length m.classes),
    )
  where
    faces : List ℕ
    faces = range_with_len 1 (length m.classes)

    face : (f : ℕ) → f ≤ length m.classes → IsLive faces f
    face f le some =
        let read : get_or faces (f - 1) 0 ≡ f = omega (arith, get_or-range_with_len 1 (length m.classes) (f - 1) 0 (omega (arith, le, some))) in
        subst (Contains faces) read (Contains-get_or faces (f - 1) 0 (omega (arith, le, some, length-range_with_len 1 (length m.classes))))
