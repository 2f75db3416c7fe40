-- The labels and the parents of faces, from the last step back to the first.
use Rattle.std.proofs.Common.{◌≡◌, ℕ, zero, suc, ◌+◌, ◌-◌, ◌<◌, ◌≤◌, ◌==◌, true, false, List, [], ◌∷◌, length, get_or, set, drop, take, Option, Some, None, refl, ap, ◌∙◌, inl, inr, arith}
use Rattle.std.proofs.lemmas.Bool.{cases_eq, eq-eqb, ne_eqb}
use Rattle.std.proofs.Math.Bool.{or-true}
use Rattle.std.proofs.lemmas.List.{drop_more, get_or_read, get_or-set_same, get_or-set_other, length-set}
use Rattle.tgap_model.specs.declared.merge.MergeStep.{MergeStep}
use Rattle.tgap_model.specs.History.{label_after, AreNumbered}
use Rattle.face_tree.specs.Tree.{merges, parent_by}
use Rattle.map_laws.proofs.MergeSteps.{numbered_at, relabel_loser, relabel_winner, relabel_other}

-- going back over one step gives its two faces the label of the face that they became
pub labels_back : (labels : List ℕ) (rest : List MergeStep) (s : MergeStep) (v : ℕ) → s.loser < length labels → s.winner < length labels
    → v ≡ label_after rest s.made → ((f : ℕ) → f < length labels → get_or labels f 0 ≡ label_after rest f)
    → (f : ℕ) → f < length labels → get_or (set (set labels s.loser v) s.winner v) f 0 ≡ label_after (s ∷ rest) f
labels_back labels rest s v loser winner made known f inside =
    let once = set labels s.loser v in
    let wide : f < length once = omega (arith, length-set labels s.loser v) in
    elim (cases_eq f s.winner) [
      | inl same ↦ rw (same, get_or-set_same once s.winner v 0 (omega (arith, length-set labels s.loser v, same)), relabel_winner s s.winner refl) made
      | inr other ↦ rw (get_or-set_other once s.winner f v 0 other) (elim (cases_eq f s.loser) [
        | inl same ↦ rw (same, get_or-set_same labels s.loser v 0 loser, relabel_loser s s.loser refl) made
        | inr apart ↦ rw (get_or-set_other labels s.loser f v 0 apart, relabel_other s f apart other) (known f inside)
      ])
    ]

abbrev pub no_step : MergeStep
no_step = record { loser = 0; winner = 0; made = 0 }

-- the step before place i, among numbered steps, and the labels that it reads and writes
pub step_before : (n : ℕ) (steps : List MergeStep) (i size : ℕ) → AreNumbered n steps → 0 < i → i ≤ length steps → size ≡ n + length steps + 1
    → let s = get_or steps (i - 1) no_step in (s.loser < size) × (s.winner < size) × (s.made < size)
step_before n steps i size h some inside count =
    let s = numbered_at n steps (i - 1) no_step h (omega arith) in
    (omega (arith, s.loser.1), omega (arith, s.winner.1), omega (arith, s.made))

-- the labels after the steps from place i on, taken back to those from the place before it on
pub labels_before : (n : ℕ) (steps : List MergeStep) (i : ℕ) (labels : List ℕ) (v : ℕ) → AreNumbered n steps → 0 < i → i ≤ length steps → length labels ≡ n + length steps + 1
    → v ≡ get_or labels (get_or steps (i - 1) no_step).made v → ((f : ℕ) → f < length labels → get_or labels f 0 ≡ label_after (drop i steps) f)
    → let s = get_or steps (i - 1) no_step in (f : ℕ) → f < length (set (set labels s.loser v) s.winner v) → get_or (set (set labels s.loser v) s.winner v) f 0 ≡ label_after (drop (i - 1) steps) f
labels_before n steps i labels v h some inside count read known f within =
    let s = get_or steps (i - 1) no_step in
    let b = step_before n steps i (length labels) h some inside count in
    let size : length (set (set labels s.loser v) s.winner v) ≡ length labels = length-set (set labels s.loser v) s.winner v ∙ length-set labels s.loser v in
    let next : i - 1 + 1 ≡ i = omega arith in
    let split : drop (i - 1) steps ≡ s ∷ drop i steps = drop_more steps (i - 1) no_step (omega arith) ∙ ap (λ (k : ℕ). s ∷ drop k steps) next in
    let made : v ≡ label_after (drop i steps) s.made = get_or_read labels s.made v b.2 read 0 ∙ known s.made b.2 in
    rw split (labels_back labels (drop i steps) s v b.0 b.1 made known f (omega (arith, size)))

-- the first steps of numbered steps are numbered
pub numbered_take : (n k : ℕ) (steps : List MergeStep) → AreNumbered n steps → AreNumbered n (take k steps)
numbered_take n zero steps h = tt
numbered_take n (suc k) [] h = tt
numbered_take n (suc k) (s ∷ steps) h = (h.0, numbered_take (n + 1) k steps h.1)

-- going back over one step gives its two faces the face that they became as parent
parents_back : (parents : List (Option ℕ)) (rest : List MergeStep) (s : MergeStep) → s.loser < length parents → s.winner < length parents
    → ((f : ℕ) → get_or parents f None ≡ parent_by rest f)
    → (f : ℕ) → get_or (set (set parents s.loser (Some s.made)) s.winner (Some s.made)) f None ≡ parent_by (s ∷ rest) f
parents_back parents rest s loser winner known f =
    let made = Some s.made in
    let once = set parents s.loser made in
    elim (cases_eq f s.winner) [
      | inl same ↦
          let here : merges s f ≡ true = rw (eq-eqb f s.winner same, or-true (f == s.loser)) refl in
          rw (here, same) (get_or-set_same once s.winner made None (omega (arith, winner, length-set parents s.loser made)))
      | inr other ↦ rw (get_or-set_other once s.winner f made None other) (elim (cases_eq f s.loser) [
        | inl same ↦
            let here : merges s f ≡ true = rw (eq-eqb f s.loser same) refl in
            rw (here, same) (get_or-set_same parents s.loser made None loser)
        | inr apart ↦
            let there : merges s f ≡ false = rw (ne_eqb f s.loser apart, ne_eqb f s.winner other) refl in
            rw (there, get_or-set_other parents s.loser f made None apart) (known f)
      ])
    ]

-- the parents by the steps from place i on, taken back to those from the place before it on
pub parents_before : (n : ℕ) (steps : List MergeStep) (i : ℕ) (parents : List (Option ℕ)) → AreNumbered n steps → 0 < i → i ≤ length steps → length parents ≡ n + length steps + 1
    → ((f : ℕ) → get_or parents f None ≡ parent_by (drop i steps) f)
    → let s = get_or steps (i - 1) no_step in (f : ℕ) → get_or (set (set parents s.loser (Some s.made)) s.winner (Some s.made)) f None ≡ parent_by (drop (i - 1) steps) f
parents_before n steps i parents h some inside count known f =
    let s = get_or steps (i - 1) no_step in
    let b = step_before n steps i (length parents) h some inside count in
    let next : i - 1 + 1 ≡ i = omega arith in
    let split : drop (i - 1) steps ≡ s ∷ drop i steps = drop_more steps (i - 1) no_step (omega arith) ∙ ap (λ (k : ℕ). s ∷ drop k steps) next in
    rw split (parents_back parents (drop i steps) s b.0 b.1 known f)
