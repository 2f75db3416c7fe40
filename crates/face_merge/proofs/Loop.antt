-- The loop of the history: what it keeps at its start, at each step and at its end.
use Rattle.std.proofs.Common.{◌≡◌, ◌<◌, ℕ, zero, suc, List, [], ◌∷◌, ◌++◌, length, map, Some, None, refl, sym, ◌∙◌, ap, arith, append_assoc}
use Rattle.std.specs.Prelude.{count_by}
use Rattle.std.proofs.lemmas.List.{length-map, append-nil}
use Rattle.std.proofs.lemmas.List.Sums.{count_by-le-length}
use Rattle.tgap_model.specs.declared.merge.MergeStep.{MergeStep}
use Rattle.tgap_model.specs.Base.{BaseMap}
use Rattle.tgap_model.specs.History.{is_shared, labelled, steps_from, history_of}
use Rattle.face_merge.specs.Merging.{MergeState, begin, after, next_of}
use Rattle.face_merge.proofs.Steps.{next_step_is, step_less, steps_from_some, steps_from_none, steps_from_enough}

-- how many arcs are shared
abbrev pub count_shared : MergeState → ℕ
count_shared m = count_by is_shared m.arcs

-- the steps from here on: each makes fewer arcs shared
abbrev pub steps_to_come : MergeState → List MergeStep
steps_to_come m = steps_from (count_shared m) m.rules m.classes m.arcs

-- all steps are still to come at the start
pub steps_begin : (m : BaseMap) (steps : List MergeStep) (state : MergeState) → state ≡ begin m → steps ≡ [] → steps ++ steps_to_come state ≡ history_of m
unfolding history_of
steps_begin m steps state e none =
    let arcs = map labelled m.arcs in
    rw (e, none)
    (steps_from_enough (count_by is_shared arcs) (length m.arcs) m.rules m.classes arcs
    (omega arith) (omega (arith, count_by-le-length is_shared arcs, length-map m.arcs labelled)))

-- fewer arcs are shared after a step
pub fewer_shared : (m : MergeState) (s : MergeStep) → next_of m ≡ Some s → count_shared (after s m) < count_shared m
fewer_shared m s is = step_less s m.arcs (next_step_is m.rules m.classes m.arcs s is).neighbours

-- one step, and those after it, where there is room for as many as there are shared arcs
one_step : (m : MergeState) (s : MergeStep) → next_of m ≡ Some s → (n : ℕ) → n ≡ count_shared m
    → steps_from n m.rules m.classes m.arcs ≡ s ∷ steps_to_come (after s m)
one_step m s is zero e = absurd (omega (arith, fewer_shared m s is))
one_step m s is (suc n) e =
    let less = fewer_shared m s is in
    let next = after s m in
    steps_from_some n m.rules m.classes m.arcs s is
    ∙ ap (λ (rest : List MergeStep). s ∷ rest)
    (steps_from_enough n (count_shared next) next.rules next.classes next.arcs (omega arith) (omega arith))

-- the steps so far and those to come stay the whole
pub steps_go_on : (m next : MergeState) (s : MergeStep) (steps more whole : List MergeStep) → next_of m ≡ Some s → next ≡ after s m → more ≡ steps ++ s ∷ []
    → steps ++ steps_to_come m ≡ whole → more ++ steps_to_come next ≡ whole
steps_go_on m next s steps more whole is en em e =
    rw (en, em)
    (append_assoc steps (s ∷ []) _ ∙ (ap (λ (rest : List MergeStep). steps ++ rest) (sym (one_step m s is (count_shared m) refl)) ∙ e))

-- no steps are to come at the end
pub steps_end_here : (m : MergeState) (steps whole : List MergeStep) → next_of m ≡ None → steps ++ steps_to_come m ≡ whole → steps ≡ whole
steps_end_here m steps whole is e =
    let none = steps_from_none (count_shared m) m.rules m.classes m.arcs is in
    sym (append-nil steps) ∙ (ap (λ (rest : List MergeStep). steps ++ rest) (sym none) ∙ e)
