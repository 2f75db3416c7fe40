-- A map some steps into its history, beside the areas of its faces, and one more step.
use Rattle.std.proofs.Common.{◌≡◌, ◌≢◌, ◌<◌, ◌≤◌, ◌⊎◌, inl, inr, ℕ, ◌+◌, ◌-◌, ℤ, pos, ◌+ℤ◌, unsigned_abs, List, [], ◌∷◌, ◌++◌, length, map, fold, take, drop, get_or, refl, sym, ◌∙◌, ap, subst, arith}
use Rattle.std.specs.List.{All}
use Rattle.std.proofs.lemmas.Bool.{and_parts, cases_eq}
use Rattle.std.proofs.lemmas.List.{length_push, get_or_push, get_or_append_left, drop_more, take_more}
use Rattle.std.proofs.lemmas.List.Elements.{recursion_from_All, All-map, All-weaker}
use Rattle.std.proofs.lemmas.List.Sums.{fold_more}
use Rattle.std.proofs.lemmas.List.FromFn.{map-range_with_len_more}
use Rattle.tgap_model.specs.declared.base.BaseArc.{BaseArc}
use Rattle.tgap_model.specs.declared.base.Rules.{Rules}
use Rattle.tgap_model.specs.declared.merge.LabelledArc.{LabelledArc}
use Rattle.tgap_model.specs.declared.merge.MergeStep.{MergeStep}
use Rattle.tgap_model.specs.Bounds.{max_area}
use Rattle.tgap_model.specs.Base.{BaseMap}
use Rattle.tgap_model.specs.History.{relabel, relabel_arc, label_after, labelled, class_of, classes_after, area_of, history_of, IsNumberedStep, AreSteps}
use Rattle.tgap_model.specs.Merged.{MergedMap, labelled_at, face_area, step_number}
use Rattle.face_merge.specs.Areas.{first_lost_areas, joined_area}
use Rattle.face_merge.specs.Merging.{MergeState, IsLabelled, IsMerging, AreAreas, begin, after}
use Rattle.face_merge.proofs.Neighbours.{is_pair}
use Rattle.face_merge.proofs.Steps.{history_is}
use Rattle.face_merge.proofs.Numbers.{next_step_numbered, merging_after}
use Rattle.face_merge.proofs.Sums.{area_small}
use Rattle.face_merge.proofs.Relabelled.{to_made, to_itself, area_made, area_kept, between_have}

-- the map after the first k steps
abbrev pub state_at : MergedMap → ℕ → MergeState
state_at h k = record {
  rules = h.base.rules;
  classes = fold (λ classes s. classes_after s classes) h.base.classes (take k h.steps);
  arcs = map (labelled_at h k) h.base.arcs;
}

-- one more step of a label
label_last : (steps : List MergeStep) (s : MergeStep) (f : ℕ) → label_after (steps ++ s ∷ []) f ≡ relabel s (label_after steps f)
label_last [] s f = refl
label_last (t ∷ steps) s f = label_last steps s (relabel t f)

label_more : (steps : List MergeStep) (k : ℕ) (d : MergeStep) (f : ℕ) → k < length steps
    → label_after (take (k + 1) steps) f ≡ relabel (get_or steps k d) (label_after (take k steps) f)
label_more steps k d f p = ap (λ (ss : List MergeStep). label_after ss f) (take_more steps k d p) ∙ label_last (take k steps) (get_or steps k d) f

-- one more step of the arcs
arcs_more : (h : MergedMap) (k : ℕ) (d : MergeStep) (arcs : List BaseArc) → k < length h.steps
    → map (labelled_at h (k + 1)) arcs ≡ map (relabel_arc (get_or h.steps k d)) (map (labelled_at h k) arcs)
arcs_more h k d [] p = refl
arcs_more h k d (a ∷ arcs) p =
    let left = label_more h.steps k d a.left p in
    let right = label_more h.steps k d a.right p in
    let rest = arcs_more h k d arcs p in
    let first : labelled_at h (k + 1) a ≡ relabel_arc (get_or h.steps k d) (labelled_at h k a) = rw (left, right) refl in
    cc

-- one more step of the map
pub state_more : (h : MergedMap) (k : ℕ) (d : MergeStep) → k < length h.steps → state_at h (k + 1) ≡ after (get_or h.steps k d) (state_at h k)
state_more h k d p =
    same_state h.base.rules _ _ _ _ (fold_more (λ classes s. classes_after s classes) h.base.classes h.steps k d p) (arcs_more h k d h.base.arcs p)
  where
    same_state : (rules : Rules) (cs ds : List ℕ) (xs ys : List LabelledArc) → cs ≡ ds → xs ≡ ys
        → ◌≡◌ {A = MergeState} (record { rules = rules; classes = cs; arcs = xs }) (record { rules = rules; classes = ds; arcs = ys })
    same_state rules cs ds xs ys e d = rw (e, d) refl

-- ---- the areas beside the map

-- the area of a face stands at its number
pub record HasArea (arcs : List LabelledArc) (areas : List ℤ) (f : ℕ) : Type 0 where
  pub below : f < length areas
  pub value : get_or areas f (pos 0) ≡ area_of arcs f

-- those of the two faces of an arc do
abbrev pub HasAreas : List LabelledArc → List ℤ → LabelledArc → Type 0
HasAreas arcs areas a = HasArea arcs areas a.left × HasArea arcs areas a.right

-- a map while it is merged, with the area of each label of its arcs, before these steps
pub record IsReached (m : MergeState) (areas : List ℤ) (steps : List MergeStep) : Type 0 where
  pub known : IsMerging m
  pub count : length areas ≡ length m.classes + 1
  pub areas_are : All (HasAreas m.arcs areas) m.arcs
  pub next : AreSteps m.rules m.classes m.arcs steps

-- before the first step
pub reached_begin : (m : BaseMap) (areas : List ℤ) → IsMerging (begin m) → AreAreas (length m.classes) (map labelled m.arcs) areas → IsReached (begin m) areas (history_of m)
reached_begin m areas known is = record {
  known = known;
  count = is.count;
  areas_are = All-weaker (IsLabelled (length m.classes)) (HasAreas arcs areas) (λ a p. (has a.left p.left, has a.right p.right)) arcs known.labelled;
  next = history_is m;
} where
  arcs : List LabelledArc
  arcs = map labelled m.arcs

  has : (f : ℕ) → f ≤ length m.classes → HasArea arcs areas f
  has f p = record { below = omega (arith, is.count); value = is.value f p }

-- what is known of the next step: its loser and its winner are two faces of the map, and their areas stand at their numbers
pub record IsReady (m : MergeState) (areas : List ℤ) (s : MergeStep) : Type 0 where
  pub numbered : IsNumberedStep (length m.classes) s
  pub loser : HasArea m.arcs areas s.loser
  pub winner : HasArea m.arcs areas s.winner
  pub loser_small : unsigned_abs (get_or areas s.loser (pos 0)) ≤ max_area
  pub winner_small : unsigned_abs (get_or areas s.winner (pos 0)) ≤ max_area

pub ready : (m : MergeState) (areas : List ℤ) (s : MergeStep) (steps : List MergeStep) → IsReached m areas (s ∷ steps) → IsReady m areas s
ready m areas s steps is =
    let parts = and_parts (is_pair s.loser s.winner) _ is.next.0.neighbours in
    let both = between_have (HasArea m.arcs areas) s.loser s.winner m.arcs (recursion_from_All (HasAreas m.arcs areas) m.arcs is.areas_are) parts.1 in
    let small : (f : ℕ) → HasArea m.arcs areas f → unsigned_abs (get_or areas f (pos 0)) ≤ max_area =
    λ f e. subst (λ (z : ℤ). unsigned_abs z ≤ max_area) (sym e.value) (area_small f m.arcs is.known.measured is.known.few_arcs) in
    record {
      numbered = next_step_numbered m.rules m.classes m.arcs s is.known.labelled is.next.0;
      loser = both.0;
      winner = both.1;
      loser_small = small s.loser both.0;
      winner_small = small s.winner both.1;
    }

-- ---- one more step

module _ (m : MergeState) (areas : List ℤ) (s : MergeStep) (steps : List MergeStep) (is : IsReached m areas (s ∷ steps)) where
  -- the new face
  has_made : HasArea (map (relabel_arc s) m.arcs) (areas ++ joined_area areas s ∷ []) s.made
  has_made =
      let step = ready m areas s steps is in
      let labels = recursion_from_All (IsLabelled (length m.classes)) m.arcs is.known.labelled in
      let place : length areas ≡ s.made = is.count ∙ sym step.numbered.made in
      record {
        below = omega (arith, length_push areas (joined_area areas s));
        value = get_or_push areas (joined_area areas s) (pos 0) s.made place
            ∙ sum _ _ _ _ _ step.loser.value step.winner.value (area_made (length m.classes) s m.arcs step.numbered labels);
      }
    where
      sum : (x y u v w : ℤ) → x ≡ u → y ≡ v → w ≡ u +ℤ v → x +ℤ y ≡ w
      sum x y u v w a b d = cc

  -- each other face
  has_other : (f : ℕ) → f ≢ s.loser → f ≢ s.winner → HasArea m.arcs areas f → HasArea (map (relabel_arc s) m.arcs) (areas ++ joined_area areas s ∷ []) f
  has_other f l w has =
      let step = ready m areas s steps is in
      let other : f ≢ s.made = λ e. omega (arith, has.below, is.count, step.numbered.made) in
      record {
        below = omega (arith, length_push areas (joined_area areas s), has.below);
        value = get_or_append_left areas (joined_area areas s ∷ []) (pos 0) f has.below ∙ has.value ∙ sym (area_kept s f m.arcs l w other);
      }

  -- a label after the step
  has_next : (f : ℕ) → HasArea m.arcs areas f → HasArea (map (relabel_arc s) m.arcs) (areas ++ joined_area areas s ∷ []) (relabel s f)
  has_next f has = chosen (cases_eq f s.loser) (cases_eq f s.winner)
    where
      P : ℕ → Type 0
      P g = HasArea (map (relabel_arc s) m.arcs) (areas ++ joined_area areas s ∷ []) g

      chosen : (f ≡ s.loser) ⊎ (f ≡ s.loser → ⊥) → (f ≡ s.winner) ⊎ (f ≡ s.winner → ⊥) → P (relabel s f)
      chosen (inl a) w = subst P (sym (to_made s.loser s.winner s.made f (inl a))) has_made
      chosen (inr a) (inl b) = subst P (sym (to_made s.loser s.winner s.made f (inr b))) has_made
      chosen (inr a) (inr b) = subst P (sym (to_itself s.loser s.winner s.made f a b)) (has_other f a b has)

  -- the map after the step
  pub reached_after : IsReached (after s m) (areas ++ joined_area areas s ∷ []) steps
  reached_after =
      record {
        known = merging_after m s is.known is.next.0;
        count = omega (arith, is.count, length_push areas (joined_area areas s), length_push m.classes (class_of m.classes s.winner));
        areas_are = All-map (HasAreas (map (relabel_arc s) m.arcs) (areas ++ joined_area areas s ∷ [])) (relabel_arc s) m.arcs
            (All-weaker (HasAreas m.arcs areas) (λ a. HasAreas (map (relabel_arc s) m.arcs) (areas ++ joined_area areas s ∷ []) (relabel_arc s a))
            (λ a p. (has_next a.left p.0, has_next a.right p.1)) m.arcs is.areas_are);
        next = is.next.1;
      }

-- ---- the steps of a history, by their places

-- no step
abbrev pub no_step : MergeStep
no_step = record { loser = 0; winner = 0; made = 0 }

-- the step at place k is the next one of the map after k steps
next_at : (h : MergedMap) (k : ℕ) (areas : List ℤ) → k < length h.steps → IsReached (state_at h k) areas (drop k h.steps)
    → IsReached (state_at h k) areas (get_or h.steps k no_step ∷ drop (k + 1) h.steps)
next_at h k areas inside is = subst (IsReached (state_at h k) areas) (drop_more h.steps k no_step inside) is

-- what is known of it
pub ready_at : (h : MergedMap) (k : ℕ) (areas : List ℤ) → k < length h.steps → IsReached (state_at h k) areas (drop k h.steps)
    → IsReady (state_at h k) areas (get_or h.steps k no_step)
ready_at h k areas inside is = ready (state_at h k) areas (get_or h.steps k no_step) (drop (k + 1) h.steps) (next_at h k areas inside is)

-- the map after it
pub reached_more : (h : MergedMap) (k : ℕ) (areas : List ℤ) → k < length h.steps → IsReached (state_at h k) areas (drop k h.steps)
    → IsReached (state_at h (k + 1)) (areas ++ joined_area areas (get_or h.steps k no_step) ∷ []) (drop (k + 1) h.steps)
reached_more h k areas inside is =
    let s = get_or h.steps k no_step in
    subst (λ (m : MergeState). IsReached m (areas ++ joined_area areas s ∷ []) (drop (k + 1) h.steps)) (sym (state_more h k no_step inside))
    (reached_after (state_at h k) areas s (drop (k + 1) h.steps) (next_at h k areas inside is))

-- the area of its loser is told next
pub lost_more : (h : MergedMap) (k : ℕ) (areas lost : List ℤ) → k < length h.steps → IsReached (state_at h k) areas (drop k h.steps)
    → lost ≡ first_lost_areas h k
    → lost ++ get_or areas (get_or h.steps k no_step).loser (pos 0) ∷ [] ≡ first_lost_areas h (k + 1)
lost_more h k areas lost inside is told =
    let area : ℕ → ℤ = λ (j : ℕ). face_area h j (get_or h.steps j no_step).loser in
    let here : get_or areas (get_or h.steps k no_step).loser (pos 0) ≡ area k = (ready_at h k areas inside is).loser.value in
    let place : 1 + k - 1 ≡ k = omega arith in
    let next : first_lost_areas h (k + 1) ≡ first_lost_areas h k ++ area (1 + k - 1) ∷ [] =
    map-range_with_len_more (λ j. face_area h (j - 1) (step_number h j).loser) 1 k (1 + k) refl in
    let next' : first_lost_areas h (k + 1) ≡ first_lost_areas h k ++ area k ∷ [] = next ∙ ap (λ (j : ℕ). first_lost_areas h k ++ area j ∷ []) place in
    cc
