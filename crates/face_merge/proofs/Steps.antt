-- The next step: what `next_step` computes is one, there is no other, and there is none only where no face has a permitted neighbour.
use Rattle.std.proofs.Common.{◌≡◌, ◌<◌, ◌≤◌, inl, inr, ℕ, zero, suc, ◌+◌, Bool, true, false, ◌&&◌, ◌||◌, ◌==◌, List, [], ◌∷◌, length, map, Option, Some, None, cond, refl, sym, ◌∙◌, subst, arith}
use Rattle.std.specs.Prelude.{count_by}
use Rattle.std.specs.List.{AllByRecursion, list_any}
use Rattle.std.proofs.lemmas.Bool.{or_cases, and_parts, and_from, false_from_ne_true, both_ways}
use Rattle.std.proofs.lemmas.Bool.Decides.{nat_tests}
use Rattle.std.proofs.lemmas.List.Sums.{sum_by-cons, count_by-le-length}
use Rattle.std.proofs.lemmas.List.{length-map}
use Rattle.tgap_model.specs.declared.base.Rules.{Rules}
use Rattle.tgap_model.specs.declared.merge.MergeStep.{MergeStep}
use Rattle.tgap_model.specs.declared.merge.LabelledArc.{LabelledArc}
use Rattle.tgap_model.specs.Base.{BaseMap}
use Rattle.tgap_model.specs.History.{is_between, are_neighbours, is_permitted, is_shared, mergeable, neighbours_of, relabel_arc, labelled, importance, score, loses_before, wins_before, first_by, step_against, next_step, classes_after, steps_from, history_of, IsNextStep, AreSteps, IsHistory}
use Rattle.face_merge.proofs.Order.{IsOrder, least_first_is, greatest_first_is}
use Rattle.face_merge.proofs.First.{first_by_member, first_by_first, first_by_none}
use Rattle.face_merge.proofs.Neighbours.{is_pair, between_shared, mergeable_neighbours, mergeable_has, neighbours_are, neighbours_has}

-- the order of the losers
pub losers : (rules : Rules) (classes : List ℕ) (arcs : List LabelledArc) → IsOrder (loses_before rules classes arcs)
losers rules classes arcs = least_first_is (importance rules classes arcs)

-- the order of the winners
pub winners : (rules : Rules) (classes : List ℕ) (arcs : List LabelledArc) (loser : ℕ) → IsOrder (wins_before rules classes arcs loser)
winners rules classes arcs loser = greatest_first_is (score rules classes arcs loser)

-- what holds of each mergeable face holds of a face with a permitted neighbour
first_neighbour : (P : ℕ → Type 0) (rules : Rules) (classes : List ℕ) (arcs : List LabelledArc) (f g : ℕ) → AllByRecursion P (mergeable rules classes arcs)
    → is_permitted rules classes arcs f g ≡ true → P f
first_neighbour P rules classes arcs f g ps e =
    let both = and_parts (are_neighbours arcs f g) _ e in
    let parts = and_parts (is_pair f g) _ both.0 in
    mergeable_has rules classes P arcs f g ps parts.0 parts.1 both.1

-- what holds of each listed neighbour of a face holds of a permitted neighbour
second_neighbour : (P : ℕ → Type 0) (rules : Rules) (classes : List ℕ) (arcs : List LabelledArc) (f g : ℕ) → AllByRecursion P (neighbours_of rules classes arcs f)
    → is_permitted rules classes arcs f g ≡ true → P g
second_neighbour P rules classes arcs f g ps e =
    let both = and_parts (are_neighbours arcs f g) _ e in
    let parts = and_parts (is_pair f g) _ both.0 in
    neighbours_has rules classes P arcs f g ps parts.0 parts.1 both.1

-- a step's winner is a permitted neighbour of its loser
pub step_permitted : (rules : Rules) (classes : List ℕ) (arcs : List LabelledArc) (s : MergeStep) → IsNextStep rules classes arcs s
    → is_permitted rules classes arcs s.loser s.winner ≡ true
step_permitted rules classes arcs s is = and_from _ _ is.neighbours is.permitted

-- a step is its three numbers
pub same_step : (s t : MergeStep) → s.loser ≡ t.loser → s.winner ≡ t.winner → s.made ≡ t.made → s ≡ t
same_step s t a b d =
    let make : ℕ → ℕ → ℕ → MergeStep = λ (x y z : ℕ). record { loser = x; winner = y; made = z } in
    let e : make s.loser s.winner s.made ≡ make t.loser t.winner t.made = cc in
    e

module _ (rules : Rules) (classes : List ℕ) (arcs : List LabelledArc) where
  -- the winner, or none, against a loser
  against : (loser : ℕ) (s : MergeStep) → AllByRecursion (λ f. loses_before rules classes arcs f loser ≡ false) (mergeable rules classes arcs)
      → step_against rules classes arcs loser ≡ Some s → IsNextStep rules classes arcs s
  against loser s least e = chosen (first_by (wins_before rules classes arcs loser) (neighbours_of rules classes arcs loser)) refl e
    where
      permitted : (winner : ℕ) → first_by (wins_before rules classes arcs loser) (neighbours_of rules classes arcs loser) ≡ Some winner → is_permitted rules classes arcs loser winner ≡ true
      permitted winner is =
          first_by_member _ (λ g. is_permitted rules classes arcs loser g ≡ true) (neighbours_of rules classes arcs loser) winner is (neighbours_are rules classes arcs loser)

      found : (winner : ℕ) → first_by (wins_before rules classes arcs loser) (neighbours_of rules classes arcs loser) ≡ Some winner
          → IsNextStep rules classes arcs (record { loser = loser; winner = winner; made = length classes + 1 })
      found winner is = record {
        neighbours = (and_parts (are_neighbours arcs loser winner) _ (permitted winner is)).0;
        permitted = (and_parts (are_neighbours arcs loser winner) _ (permitted winner is)).1;
        loser = λ f g e. first_neighbour (λ x. loses_before rules classes arcs x loser ≡ false) rules classes arcs f g least e;
        winner = λ g e. second_neighbour (λ x. wins_before rules classes arcs loser x winner ≡ false) rules classes arcs loser g
            (first_by_first _ (winners rules classes arcs loser) (neighbours_of rules classes arcs loser) winner is) e;
        made = refl;
      }

      chosen : (o : Option ℕ) → first_by (wins_before rules classes arcs loser) (neighbours_of rules classes arcs loser) ≡ o
          → elim o [ None ↦ None | Some winner ↦ Some (record { loser = loser; winner = winner; made = length classes + 1 }) ] ≡ Some s
          → IsNextStep rules classes arcs s
      chosen None is e = absurd cc
      chosen (Some winner) is e =
          let same : record { loser = loser; winner = winner; made = length classes + 1 } ≡ s = cc in
          subst (IsNextStep rules classes arcs) same (found winner is)

  -- what `next_step` gives is the next step
  pub next_step_is : (s : MergeStep) → next_step rules classes arcs ≡ Some s → IsNextStep rules classes arcs s
  unfolding next_step
  next_step_is s e = chosen (first_by (loses_before rules classes arcs) (mergeable rules classes arcs)) refl e
    where
      chosen : (o : Option ℕ) → first_by (loses_before rules classes arcs) (mergeable rules classes arcs) ≡ o
          → elim o [ None ↦ None | Some loser ↦ step_against rules classes arcs loser ] ≡ Some s → IsNextStep rules classes arcs s
      chosen None is e = absurd cc
      chosen (Some loser) is e = against loser s (first_by_first _ (losers rules classes arcs) (mergeable rules classes arcs) loser is) e

  -- a loser that has a permitted neighbour has a winner
  some_winner : (loser g : ℕ) → is_permitted rules classes arcs loser g ≡ true → step_against rules classes arcs loser ≡ None → ⊥
  some_winner loser g near e = chosen (first_by (wins_before rules classes arcs loser) (neighbours_of rules classes arcs loser)) refl e
    where
      chosen : (o : Option ℕ) → first_by (wins_before rules classes arcs loser) (neighbours_of rules classes arcs loser) ≡ o
          → ◌≡◌ {A = Option MergeStep} (elim o [ None ↦ None | Some winner ↦ Some (record { loser = loser; winner = winner; made = length classes + 1 }) ]) None → ⊥
      chosen None is e = second_neighbour (λ _. ⊥) rules classes arcs loser g (first_by_none _ (λ _. ⊥) (neighbours_of rules classes arcs loser) is) near
      chosen (Some winner) is e = cc

  -- where it gives none, no face has a permitted neighbour
  pub no_next_step : next_step rules classes arcs ≡ None → (f g : ℕ) → is_permitted rules classes arcs f g ≡ false
  unfolding next_step
  no_next_step e f g = false_from_ne_true _ (λ near. chosen (first_by (loses_before rules classes arcs) (mergeable rules classes arcs)) refl e near)
    where
      chosen : (o : Option ℕ) → first_by (loses_before rules classes arcs) (mergeable rules classes arcs) ≡ o
          → ◌≡◌ {A = Option MergeStep} (elim o [ None ↦ None | Some loser ↦ step_against rules classes arcs loser ]) None → is_permitted rules classes arcs f g ≡ true → ⊥
      chosen None is e near = first_neighbour (λ _. ⊥) rules classes arcs f g (first_by_none _ (λ _. ⊥) (mergeable rules classes arcs) is) near
      chosen (Some loser) is e near =
          let h = first_by_member _ (λ x. (y : ℕ) × (is_permitted rules classes arcs x y ≡ true)) (mergeable rules classes arcs) loser is (mergeable_neighbours rules classes arcs) in
          some_winner loser h.0 h.1 e

  -- there is at most one next step
  pub one_next_step : (s t : MergeStep) → IsNextStep rules classes arcs s → IsNextStep rules classes arcs t → s ≡ t
  one_next_step s t p q =
      let loser : s.loser ≡ t.loser = (losers rules classes arcs).decided s.loser t.loser
      (q.loser s.loser s.winner (step_permitted rules classes arcs s p)) (p.loser t.loser t.winner (step_permitted rules classes arcs t q)) in
      let near : is_permitted rules classes arcs s.loser t.winner ≡ true =
      subst (λ (f : ℕ). is_permitted rules classes arcs f t.winner ≡ true) (sym loser) (step_permitted rules classes arcs t q) in
      let near' : is_permitted rules classes arcs t.loser s.winner ≡ true =
      subst (λ (f : ℕ). is_permitted rules classes arcs f s.winner ≡ true) loser (step_permitted rules classes arcs s p) in
      let wins : wins_before rules classes arcs s.loser s.winner t.winner ≡ false =
      subst (λ (f : ℕ). wins_before rules classes arcs f s.winner t.winner ≡ false) (sym loser) (q.winner s.winner near') in
      let winner : s.winner ≡ t.winner = (winners rules classes arcs s.loser).decided s.winner t.winner wins (p.winner t.winner near) in
      let made : s.made ≡ t.made = p.made ∙ sym q.made in
      same_step s t loser winner made

-- ---- each step takes an arc out of the borders

-- an arc that is not shared stays so
stays_unshared : (l w m a b : ℕ) → is_pair l w ≡ true
    → is_pair (cond ((a == l) || (a == w)) m a) (cond ((b == l) || (b == w)) m b) ≡ true → is_pair a b ≡ true
stays_unshared l w m a b pair e = grind (arith, nat_tests)

-- an arc between the loser and the winner is shared no longer
becomes_unshared : (l w m a b : ℕ) → (((a == l) && (b == w)) || ((a == w) && (b == l))) ≡ true
    → is_pair (cond ((a == l) || (a == w)) m a) (cond ((b == l) || (b == w)) m b) ≡ false
becomes_unshared l w m a b e = grind (arith, nat_tests)

-- a count of one by two tests
below_one : (x y : Bool) → (x ≡ true → y ≡ true) → cond x 1 0 ≤ cond y 1 0
below_one true y h = grind (arith, h refl)
below_one false y h = omega arith

-- a count of one less
one_less : (x y : Bool) → x ≡ false → y ≡ true → cond x 1 0 < cond y 1 0
one_less x y p q = grind arith

-- the count with one more arc
count-cons : (a : LabelledArc) (arcs : List LabelledArc) → count_by is_shared (a ∷ arcs) ≡ cond (is_shared a) 1 0 + count_by is_shared arcs
count-cons a arcs = sum_by-cons (λ x. cond (is_shared x) 1 0) a arcs

-- relabelling shares no more arcs
shared_no_more : (s : MergeStep) (arcs : List LabelledArc) → is_pair s.loser s.winner ≡ true → count_by is_shared (map (relabel_arc s) arcs) ≤ count_by is_shared arcs
shared_no_more s [] pair = omega arith
shared_no_more s (a ∷ arcs) pair =
    let here : cond (is_shared (relabel_arc s a)) 1 0 ≤ cond (is_shared a) 1 0 = below_one (is_shared (relabel_arc s a)) (is_shared a) (stays_unshared s.loser s.winner s.made a.left a.right pair) in
    let rest = shared_no_more s arcs pair in
    omega (arith, count-cons a arcs, count-cons (relabel_arc s a) (map (relabel_arc s) arcs))

-- relabelling shares fewer arcs, where one is between the loser and the winner
shared_less : (s : MergeStep) (arcs : List LabelledArc) → is_pair s.loser s.winner ≡ true → list_any (is_between s.loser s.winner) arcs ≡ true
    → count_by is_shared (map (relabel_arc s) arcs) < count_by is_shared arcs
shared_less s [] pair e = absurd cc
shared_less s (a ∷ arcs) pair e =
    elim (or_cases (is_between s.loser s.winner a) _ e) [
      | inl here ↦
          let less : cond (is_shared (relabel_arc s a)) 1 0 < cond (is_shared a) 1 0 =
          one_less _ _ (becomes_unshared s.loser s.winner s.made a.left a.right here) (between_shared s.loser s.winner a.left a.right pair here) in
          omega (arith, shared_no_more s arcs pair, count-cons a arcs, count-cons (relabel_arc s a) (map (relabel_arc s) arcs))
      | inr later ↦
          let here : cond (is_shared (relabel_arc s a)) 1 0 ≤ cond (is_shared a) 1 0 = below_one (is_shared (relabel_arc s a)) (is_shared a) (stays_unshared s.loser s.winner s.made a.left a.right pair) in
          omega (arith, shared_less s arcs pair later, count-cons a arcs, count-cons (relabel_arc s a) (map (relabel_arc s) arcs))
    ]

-- the number of shared arcs falls at a step
pub step_less : (s : MergeStep) (arcs : List LabelledArc) → are_neighbours arcs s.loser s.winner ≡ true
    → count_by is_shared (map (relabel_arc s) arcs) < count_by is_shared arcs
step_less s arcs e =
    let parts = and_parts (is_pair s.loser s.winner) _ e in
    shared_less s arcs parts.0 parts.1

-- ---- the whole history

-- what `steps_from` gives at a step
pub steps_from_some : (n : ℕ) (rules : Rules) (classes : List ℕ) (arcs : List LabelledArc) (s : MergeStep) → next_step rules classes arcs ≡ Some s
    → steps_from (suc n) rules classes arcs ≡ s ∷ steps_from n rules (classes_after s classes) (map (relabel_arc s) arcs)
steps_from_some n rules classes arcs s e = rw (e, steps_from)

-- what it gives where there is none
pub steps_from_none : (n : ℕ) (rules : Rules) (classes : List ℕ) (arcs : List LabelledArc) → next_step rules classes arcs ≡ None → steps_from n rules classes arcs ≡ []
steps_from_none zero rules classes arcs e = refl
steps_from_none (suc n) rules classes arcs e = rw (e, steps_from)

-- a step takes a shared arc
some_shared : (rules : Rules) (classes : List ℕ) (arcs : List LabelledArc) (s : MergeStep) → next_step rules classes arcs ≡ Some s → 0 < count_by is_shared arcs
some_shared rules classes arcs s e =
    let less = step_less s arcs (next_step_is rules classes arcs s e).neighbours in
    omega arith

-- one step, and those after it
steps_more : (n : ℕ) (rules : Rules) (classes : List ℕ) (arcs : List LabelledArc) (o : Option MergeStep) → next_step rules classes arcs ≡ o
    → ((s : MergeStep) → next_step rules classes arcs ≡ Some s → AreSteps rules (classes_after s classes) (map (relabel_arc s) arcs) (steps_from n rules (classes_after s classes) (map (relabel_arc s) arcs)))
    → AreSteps rules classes arcs (steps_from (suc n) rules classes arcs)
steps_more n rules classes arcs None is rest = rw (steps_from_none (suc n) rules classes arcs is) (no_next_step rules classes arcs is)
steps_more n rules classes arcs (Some s) is rest = rw (steps_from_some n rules classes arcs s is) (next_step_is rules classes arcs s is, rest s is)

-- none, where no arc is shared
steps_end : (rules : Rules) (classes : List ℕ) (arcs : List LabelledArc) → count_by is_shared arcs ≡ 0 → (o : Option MergeStep) → next_step rules classes arcs ≡ o → AreSteps rules classes arcs []
steps_end rules classes arcs none None is = no_next_step rules classes arcs is
steps_end rules classes arcs none (Some s) is = absurd (omega (arith, some_shared rules classes arcs s is))

-- the steps from here on, where there is room for as many as there are shared arcs
pub steps_from_are : (n : ℕ) (rules : Rules) (classes : List ℕ) (arcs : List LabelledArc) → count_by is_shared arcs ≤ n → AreSteps rules classes arcs (steps_from n rules classes arcs)
steps_from_are zero rules classes arcs enough = steps_end rules classes arcs (omega arith) (next_step rules classes arcs) refl
steps_from_are (suc n) rules classes arcs enough =
    steps_more n rules classes arcs (next_step rules classes arcs) refl
    (λ s e. steps_from_are n rules (classes_after s classes) (map (relabel_arc s) arcs) (omega (arith, step_less s arcs (next_step_is rules classes arcs s e).neighbours)))

-- no other list holds the steps from here on
pub one_list_of_steps : (rules : Rules) (classes : List ℕ) (arcs : List LabelledArc) (ss ts : List MergeStep) → AreSteps rules classes arcs ss → AreSteps rules classes arcs ts → ss ≡ ts
one_list_of_steps rules classes arcs [] [] p q = refl
one_list_of_steps rules classes arcs [] (t ∷ ts) p q = absurd (both_ways _ (p t.loser t.winner) (step_permitted rules classes arcs t q.0))
one_list_of_steps rules classes arcs (s ∷ ss) [] p q = absurd (both_ways _ (q s.loser s.winner) (step_permitted rules classes arcs s p.0))
one_list_of_steps rules classes arcs (s ∷ ss) (t ∷ ts) p q =
    let e : s ≡ t = one_next_step rules classes arcs s t p.0 q.0 in
    let later = subst (λ (w : MergeStep). AreSteps rules (classes_after w classes) (map (relabel_arc w) arcs) ts) (sym e) q.1 in
    let rest : ss ≡ ts = one_list_of_steps rules (classes_after s classes) (map (relabel_arc s) arcs) ss ts p.1 later in
    cc

-- more room changes nothing
pub steps_from_enough : (n k : ℕ) (rules : Rules) (classes : List ℕ) (arcs : List LabelledArc) → count_by is_shared arcs ≤ n → count_by is_shared arcs ≤ k
    → steps_from n rules classes arcs ≡ steps_from k rules classes arcs
steps_from_enough n k rules classes arcs p q = one_list_of_steps rules classes arcs _ _ (steps_from_are n rules classes arcs p) (steps_from_are k rules classes arcs q)

-- one step takes one place
steps_within : (n : ℕ) (rules : Rules) (classes : List ℕ) (arcs : List LabelledArc) → (o : Option MergeStep) → next_step rules classes arcs ≡ o
    → ((s : MergeStep) → length (steps_from n rules (classes_after s classes) (map (relabel_arc s) arcs)) ≤ n) → length (steps_from (suc n) rules classes arcs) ≤ suc n
steps_within n rules classes arcs None is rest = rw (steps_from_none (suc n) rules classes arcs is) (omega arith)
steps_within n rules classes arcs (Some s) is rest = rw (steps_from_some n rules classes arcs s is) (omega (arith, rest s))

-- there are no more steps than there is room for
pub length-steps_from : (n : ℕ) (rules : Rules) (classes : List ℕ) (arcs : List LabelledArc) → length (steps_from n rules classes arcs) ≤ n
length-steps_from zero rules classes arcs = omega arith
length-steps_from (suc n) rules classes arcs =
    steps_within n rules classes arcs (next_step rules classes arcs) refl (λ s. length-steps_from n rules (classes_after s classes) (map (relabel_arc s) arcs))

-- what `history_of` computes is the history of the map
pub history_is : (m : BaseMap) → IsHistory m (history_of m)
unfolding history_of
history_is m = steps_from_are (length m.arcs) m.rules m.classes (map labelled m.arcs)
    (omega (arith, count_by-le-length is_shared (map labelled m.arcs), length-map m.arcs labelled))

-- a map has no other history
pub one_history : (m : BaseMap) (ss ts : List MergeStep) → IsHistory m ss → IsHistory m ts → ss ≡ ts
one_history m ss ts p q = one_list_of_steps m.rules m.classes (map labelled m.arcs) ss ts p q

-- it has at most as many steps as the map has arcs
pub length-history_of : (m : BaseMap) → length (history_of m) ≤ length m.arcs
unfolding history_of
length-history_of m = length-steps_from (length m.arcs) m.rules m.classes (map labelled m.arcs)
