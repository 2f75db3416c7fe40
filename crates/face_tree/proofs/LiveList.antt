-- The faces that are live after some steps: those that later steps merge, and the roots, less the faces that are made later.
use Rattle.std.proofs.Common.{◌≡◌, ◌≢◌, ◌<◌, ◌≤◌, ◌⊎◌, inl, inr, ℕ, zero, suc, ◌+◌, ◌-◌, Bool, true, false, ◌==◌, nat_le, nat_lt, cond, List, [], ◌∷◌, ◌++◌, length, get_or, take, drop, filter, map-id, Option, Some, None, All, AllPairs, Contains, IsPermutation, refl, sym, ap, ◌∙◌, subst, arith, eq-eqb, le-leb}
use Rattle.std.specs.List.{range_with_len}
use Rattle.std.specs.List.Sorted.{IsNonDecreasingBy}
use Rattle.std.specs.Option.{is_none}
use Rattle.std.proofs.lemmas.Bool.{or_cases, or_left, or_right, eqb-true, leb-true}
use Rattle.std.proofs.lemmas.Bool.Decides.{Decides-ltb}
use Rattle.std.proofs.lemmas.List.{get_or-drop, get_or_default, length-drop, take_all}
use Rattle.std.proofs.lemmas.List.Elements.{All-filter, All-append, All-nil, All-cons, All-head, Contains-append_left, Contains-append_right, Contains-append_cases, Contains-get_or, filter_passes}
use Rattle.std.proofs.lemmas.List.FromFn.{filter_of_map_range_with_len_more, length-range_with_len, get_or-range_with_len}
use Rattle.std.proofs.lemmas.List.Kept.{AllPairs-filter, AllPairs-cons}
use Rattle.std.proofs.lemmas.List.Sorted.{Contains-permutation, IsPermutation-sym}
use Rattle.lemmas.proofs.Members.{All-from_members, Contains-filter, Contains-from_filter, Contains-flat_map, Contains-from_flat_map, AllPairs-append, AllPairs-nil, in_head, in_tail, in_cases, in_none}
use Rattle.lemmas.proofs.Orders.{nat_lt_order}
use Rattle.lemmas.proofs.Sorting.{AllPairs-permutation, filter-is_sorted, sorted_from_adjacent, sorted_same}
use Rattle.lemmas.specs.Sorting.{is_sorted_by}
use Rattle.tgap_model.specs.declared.merge.MergeStep.{MergeStep}
use Rattle.tgap_model.specs.History.{AreNumbered}
use Rattle.map_laws.proofs.MergeSteps.{numbered_at}
use Rattle.face_tree.specs.Tree.{FaceHistory, MergesLive, children, high_by, high_step, is_live, last_face, live_after, low_step, merges, parent_by, parent_of, root_faces, step_after}
use Rattle.face_tree.proofs.Ways.{merges_or_leaves, parent_left, high_parent, high_root}
use Rattle.face_tree.proofs.Live.{live_range, parent_is}

abbrev no_step : MergeStep
no_step = record { loser = 0; winner = 0; made = 0 }

abbrev pair : MergeStep → List ℕ
pair s = s.loser ∷ s.winner ∷ []

-- ---- numbers in a row

in_range : (n f : ℕ) → 1 ≤ f → f ≤ n → Contains (range_with_len 1 n) f
in_range n f low high =
    let long = length-range_with_len 1 n in
    let at : get_or (range_with_len 1 n) (f - 1) f ≡ f = omega (arith, get_or-range_with_len 1 n (f - 1) f (omega arith)) in
    (f - 1, omega (arith, long), at)

from_range : (n f : ℕ) → Contains (range_with_len 1 n) f → (1 ≤ f) × (f ≤ n)
from_range n f (k, inside, e) =
    let place = get_or-range_with_len 1 n k f (omega (arith, inside, length-range_with_len 1 n)) in
    (omega (arith, place, e), omega (arith, place, e, inside, length-range_with_len 1 n))

range_ascends : (n : ℕ) → AllPairs (λ f g. f < g) (range_with_len 1 n)
range_ascends n i j d less short =
    let long = length-range_with_len 1 n in
    let one = get_or-range_with_len 1 n i d (omega (arith, less, short, long)) in
    let other = get_or-range_with_len 1 n j d (omega (arith, short, long)) in
    omega (arith, less, one, other)

range_sorted : (n : ℕ) → is_sorted_by nat_lt (range_with_len 1 n) ≡ true
range_sorted n = sorted_from_adjacent nat_lt (range_with_len 1 n) (λ i d short.
    let long = length-range_with_len 1 n in
    let here = get_or-range_with_len 1 n i d (omega (arith, short, long)) in
    let next = get_or-range_with_len 1 n (i + 1) d (omega (arith, short, long)) in
    (Decides-ltb _ _).1 (omega (arith, here, next)))

-- those that pass a test, with one more number
pub passing_more : (test : ℕ → Bool) (n f : ℕ) → 1 + n ≡ f → filter test (range_with_len 1 (n + 1)) ≡ filter test (range_with_len 1 n) ++ cond (test f) (f ∷ []) []
passing_more test n f e =
    ap (filter test) (sym (map-id (range_with_len 1 (n + 1))))
    ∙ filter_of_map_range_with_len_more test (λ i. i) 1 n f e
    ∙ ap (λ (xs : List ℕ). filter test xs ++ cond (test f) (f ∷ []) []) (map-id (range_with_len 1 n))

-- numbers that ascend and are apart
strictly : (xs : List ℕ) → IsNonDecreasingBy (λ x. x) xs → AllPairs (λ f g. f ≢ g) xs → is_sorted_by nat_lt xs ≡ true
strictly xs rise apart = sorted_from_adjacent nat_lt xs (λ i d short.
    let le : get_or xs i d ≤ get_or xs (i + 1) d = rise i (i + 1) d (omega arith) short in
    let ne : get_or xs i d ≢ get_or xs (i + 1) d = apart i (i + 1) d (omega arith) short in
    (Decides-ltb _ _).1 (omega arith))

-- the rest of a list, to its end
pub rest_of : {A : Type 0} (xs : List A) (k : ℕ) → take (length xs - k) (drop k xs) ≡ drop k xs
rest_of xs k = take_all (length xs - k) (drop k xs) (omega (arith, length-drop k xs))

-- ---- the step that merges a face

-- a face with a parent is merged by the step of its number
merged_by : (steps : List MergeStep) (f p : ℕ) → parent_by steps f ≡ Some p
    → (j : ℕ) × (j < length steps) × (merges (get_or steps j no_step) f ≡ true) × (high_by steps f ≡ j + 1)
merged_by [] f p e = absurd cc
merged_by (s ∷ steps) f p e = elim (merges_or_leaves s f) [
  | inl m ↦ (0, omega arith, m, rw m refl)
  | inr m ↦
      let rest = merged_by steps f p (sym (parent_left s steps f m) ∙ e) in
      let high : high_by (s ∷ steps) f ≡ 1 + high_by steps f = rw m refl in
      (suc rest.0, omega (arith, rest.1), rest.2, omega (arith, rest.3, high))
]

-- ---- the faces of steps are apart, where each has a number that its step gives

module _ (high : ℕ → ℕ) where
  -- the faces of the steps have the numbers from i + 1 on, and those of one step differ
  abbrev HaveHighs : ℕ → List MergeStep → Type 0
  HaveHighs i steps =
      (j : ℕ) → j < length steps → let s = get_or steps j no_step in (high s.loser ≡ i + j + 1) × (high s.winner ≡ i + j + 1) × (s.loser ≢ s.winner)

  next_highs : (i : ℕ) (s : MergeStep) (steps : List MergeStep) → HaveHighs i (s ∷ steps) → HaveHighs (i + 1) steps
  next_highs i s steps each = λ j short. let h = each (suc j) (omega arith) in (omega (arith, h.0), omega (arith, h.1), h.2)

  highs_within : (i : ℕ) (steps : List MergeStep) → HaveHighs i steps → (f : ℕ) → Contains (children steps) f → (i < high f) × (high f ≤ i + length steps)
  highs_within i [] each f c = absurd (in_none f c)
  highs_within i (s ∷ steps) each f c = elim (Contains-append_cases (pair s) (children steps) f c) [
    | inl here ↦ elim (in_cases s.loser (s.winner ∷ []) f here) [
      | inl e ↦ (let h = (each 0 (omega arith)).0 in let same = ap high e in (omega (arith, h, same), omega (arith, h, same)))
      | inr d ↦ elim (in_cases s.winner [] f d) [
        | inl e ↦ (let h = (each 0 (omega arith)).1 in let same = ap high e in (omega (arith, h, same), omega (arith, h, same)))
        | inr none ↦ absurd (in_none f none)
      ]
    ]
    | inr later ↦ (let h = highs_within (i + 1) steps (next_highs i s steps each) f later in (omega (arith, h.0), omega (arith, h.1)))
  ]

  children_apart : (i : ℕ) (steps : List MergeStep) → HaveHighs i steps → AllPairs (λ f g. f ≢ g) (children steps)
  children_apart i [] each = AllPairs-nil (λ f g. f ≢ g)
  children_apart i (s ∷ steps) each =
      let here = each 0 (omega arith) in
      let rest = next_highs i s steps each in
      let later : (x : ℕ) → high x ≡ i + 0 + 1 → All (λ y. x ≢ y) (children steps) = λ x e. All-from_members (λ y. x ≢ y) (children steps) (λ y c same.
      omega (arith, e, (highs_within (i + 1) steps rest y c).0, ap high same)) in
      AllPairs-cons (λ f g. f ≢ g) s.loser (s.winner ∷ children steps) (All-cons (λ y. s.loser ≢ y) s.winner (children steps) here.2 (later s.loser here.0))
      (AllPairs-cons (λ f g. f ≢ g) s.winner (children steps) (later s.winner here.1) (children_apart (i + 1) steps rest))

-- ---- the faces of a tree

module _ (t : FaceHistory) (h : AreNumbered t.faces t.steps) (live : MergesLive t) where
  -- a step gives its faces its number
  high_child : (j f : ℕ) → j < length t.steps → merges (step_after t j) f ≡ true → high_step t f ≡ j + 1
  high_child j f inside e =
      let made = (numbered_at t.faces t.steps j no_step h inside).made in
      let parent = (parent_is t f h live).merged j inside e in
      omega (arith, made, high_parent t.faces t.steps f (step_after t j).made h parent)

  loser_of : (s : MergeStep) → merges s s.loser ≡ true
  loser_of s = or_left (s.loser == s.loser) (s.loser == s.winner) (eq-eqb s.loser s.loser refl)

  winner_of : (s : MergeStep) → merges s s.winner ≡ true
  winner_of s = or_right (s.winner == s.loser) (s.winner == s.winner) (eq-eqb s.winner s.winner refl)

  module _ (k : ℕ) (inside : k ≤ length t.steps) where
    abbrev later : List MergeStep
    later = drop k t.steps

    -- the faces that later steps merge, and the roots
    abbrev found : List ℕ
    found = children later ++ root_faces t

    abbrev soon : ℕ → Bool
    soon f = nat_le f (t.faces + k)

    later_at : (j : ℕ) → get_or later j no_step ≡ step_after t (k + j)
    later_at j = get_or-drop k t.steps j no_step

    later_within : (j : ℕ) → j < length later → k + j < length t.steps
    later_within j short = omega (arith, length-drop k t.steps)

    have_highs : HaveHighs (high_step t) k later
    have_highs j short =
        let place = later_within j short in
        let s = step_after t (k + j) in
        subst (λ (u : MergeStep). (high_step t u.loser ≡ k + j + 1) × (high_step t u.winner ≡ k + j + 1) × (u.loser ≢ u.winner)) (sym (later_at j)) (
          high_child (k + j) s.loser place (loser_of s),
          high_child (k + j) s.winner place (winner_of s),
          (numbered_at t.faces t.steps (k + j) no_step h place).differ,
        )

    root_is : (f : ℕ) → Contains (root_faces t) f → (1 ≤ f) × (f ≤ last_face t) × (parent_of t f ≡ None)
    root_is f c =
        let d = Contains-from_filter (λ g. is_none (parent_of t g)) (range_with_len 1 (last_face t)) f c in
        let r = from_range (last_face t) f d.0 in
        (r.0, r.1, none (parent_of t f) d.1)
      where
        none : (o : Option ℕ) → is_none o ≡ true → o ≡ None
        none None e = refl
        none (Some p) e = absurd cc

    found_apart : AllPairs (λ f g. f ≢ g) found
    found_apart =
        AllPairs-append (λ f g. f ≢ g) (children later) (root_faces t) (children_apart (high_step t) k later have_highs) roots_apart
        (All-from_members (λ f. All (λ g. f ≢ g) (root_faces t)) (children later) (λ f c. All-from_members (λ g. f ≢ g) (root_faces t) (λ g r. child_no_root f g c r)))
      where
        child_no_root : (f g : ℕ) → Contains (children later) f → Contains (root_faces t) g → f ≢ g
        child_no_root f g c r same =
            let within = (highs_within (high_step t) k later have_highs f c).1 in
            omega (arith, inside, within, length-drop k t.steps, high_root t.steps g (root_is g r).2, ap (high_step t) same)

        apart_by_order : AllPairs (λ f g. f < g) (root_faces t)
        apart_by_order = AllPairs-filter (λ f g. f < g) (λ g. is_none (parent_of t g)) (range_with_len 1 (last_face t)) (range_ascends (last_face t))

        roots_apart : AllPairs (λ f g. f ≢ g) (root_faces t)
        roots_apart i j d less short e = omega (arith, apart_by_order i j d less short, e)

    -- a face that is made by then and is merged later, or by no step, is live
    made_live : (f : ℕ) → 1 ≤ f → f ≤ t.faces + k → k < high_step t f → is_live t k f ≡ true
    made_live f some low late =
        (live_range t f h live (record { above = some; below = omega (arith, low, inside) }) k inside).1 (omega (arith, low), late)

    found_live : (f : ℕ) → Contains (filter soon found) f → Contains (live_after t k) f
    found_live f c =
        let d = Contains-from_filter soon found f c in
        let low : f ≤ t.faces + k = leb-true f (t.faces + k) d.1 in
        let facts = of_found d.0 in
        Contains-filter (is_live t k) (range_with_len 1 (t.faces + k)) f (in_range (t.faces + k) f facts.0 low) (made_live f facts.0 low facts.1)
      where
        of_child : (s : MergeStep) → Contains later s → Contains (pair s) f → 1 ≤ f
        of_child s (j, short, e) c =
            let same : step_after t (k + j) ≡ s = sym (later_at j) ∙ get_or_same j s short ∙ e in
            let n = numbered_at t.faces t.steps (k + j) no_step h (later_within j short) in
            elim (in_cases s.loser (s.winner ∷ []) f c) [
              | inl e ↦ omega (arith, n.loser.0, ap (λ (u : MergeStep). u.loser) same, e)
              | inr d ↦ elim (in_cases s.winner [] f d) [
                | inl e ↦ omega (arith, n.winner.0, ap (λ (u : MergeStep). u.winner) same, e)
                | inr none ↦ absurd (in_none f none)
              ]
            ]
          where
            get_or_same : (j : ℕ) (s : MergeStep) → j < length later → get_or later j no_step ≡ get_or later j s
            get_or_same j s short = get_or_default later j no_step s short

        of_found : Contains found f → (1 ≤ f) × (k < high_step t f)
        of_found c = elim (Contains-append_cases (children later) (root_faces t) f c) [
          | inl child ↦
              let s = Contains-from_flat_map pair later f child in
              (of_child s.0 s.1 s.2, (highs_within (high_step t) k later have_highs f child).0)
          | inr root ↦ (let r = root_is f root in (r.0, omega (arith, inside, high_root t.steps f r.2)))
        ]

    live_found : (f : ℕ) → Contains (live_after t k) f → Contains (filter soon found) f
    live_found f c =
        let d = Contains-from_filter (is_live t k) (range_with_len 1 (t.faces + k)) f c in
        let r = from_range (t.faces + k) f d.0 in
        let range = (live_range t f h live (record { above = r.0; below = omega (arith, r.1, inside) }) k inside).0 d.1 in
        Contains-filter soon found f (by (parent_of t f) refl r.0 r.1 range.1) (le-leb f (t.faces + k) r.1)
      where
        in_pair : (s : MergeStep) → merges s f ≡ true → Contains (pair s) f
        in_pair s e = elim (or_cases (f == s.loser) (f == s.winner) e) [
          | inl l ↦ subst (λ (x : ℕ). Contains (pair s) x) (sym (eqb-true f s.loser l)) (in_head s.loser (s.winner ∷ []))
          | inr w ↦ subst (λ (x : ℕ). Contains (pair s) x) (sym (eqb-true f s.winner w)) (in_tail s.loser (s.winner ∷ []) s.winner (in_head s.winner []))
        ]

        by : (o : Option ℕ) → parent_of t f ≡ o → 1 ≤ f → f ≤ t.faces + k → k < high_step t f → Contains found f
        by None e some low late =
            Contains-append_right (children later) (root_faces t) f
            (Contains-filter (λ g. is_none (parent_of t g)) (range_with_len 1 (last_face t)) f (in_range (last_face t) f some (omega (arith, low, inside))) (ap (λ (o : Option ℕ). is_none o) e))
        by (Some p) e some low late =
            let m = merged_by t.steps f p e in
            let place : k + (m.0 - k) ≡ m.0 = omega (arith, late, m.3) in
            let short : m.0 - k < length later = omega (arith, late, m.1, m.3, length-drop k t.steps) in
            let is : step_after t m.0 ≡ get_or later (m.0 - k) no_step = ap (step_after t) (sym place) ∙ sym (later_at (m.0 - k)) in
            Contains-append_left (children later) (root_faces t) f
            (Contains-flat_map pair later (get_or later (m.0 - k) no_step) f (Contains-get_or later (m.0 - k) no_step short)
            (in_pair (get_or later (m.0 - k) no_step) (ap (λ (u : MergeStep). merges u f) (sym is) ∙ m.2)))

    -- those that are found, in order, are the live faces
    pub live_listed : (xs : List ℕ) → IsPermutation (filter soon found) xs → IsNonDecreasingBy (λ x. x) xs → xs ≡ live_after t k
    live_listed xs moved rise =
        let apart = AllPairs-permutation (λ f g. f ≢ g) (λ f g ne e. ne (sym e)) (filter soon found) xs moved (AllPairs-filter (λ f g. f ≢ g) soon found found_apart) in
        sorted_same nat_lt_order xs (live_after t k) (λ i d l. tt) (λ i d l. tt) (strictly xs rise apart)
        (filter-is_sorted nat_lt_order (is_live t k) (range_with_len 1 (t.faces + k)) (λ i d l. tt) (range_sorted (t.faces + k)))
        (λ z c. found_live z (Contains-permutation xs (filter soon found) z (IsPermutation-sym (filter soon found) xs moved) c))
        (λ z c. Contains-permutation (filter soon found) xs z moved (live_found z c))
