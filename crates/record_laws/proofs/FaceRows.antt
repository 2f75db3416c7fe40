-- The faces of a slice and those one step before: the new face takes the place of loser and winner.
use Rattle.std.proofs.Common.{◌≡◌, ◌≢◌, inl, inr, ℕ, zero, suc, ◌+◌, ◌-◌, ◌<◌, ◌≤◌, ◌==◌, ◌&&◌, ◌||◌, true, false, not, nat_lt, List, [], ◌∷◌, map, filter, fold, length, get_or, eq-eqb, refl, sym, ap, ◌∙◌, subst, arith}
use Rattle.std.specs.Prelude.{⊤}
use Rattle.std.specs.List.{list_any, range_with_len}
use Rattle.std.proofs.lemmas.Bool.{eqb-true, eqb-false, lt-ltb, or_left, or_right, not-true, not_from_false, false_from_ne_true, and_from, cases_order}
use Rattle.std.proofs.lemmas.List.{length-append, get_or_append_left}
use Rattle.std.proofs.Math.Seq.{get_or-append_seam}
use Rattle.lemmas.specs.Sorting.{insert_by, sort_by, is_sorted_by}
use Rattle.lemmas.proofs.Orders.{nat_lt_order, order_by_key}
use Rattle.lemmas.proofs.Sorting.{filter-is_sorted, map-is_sorted, sort_by-sorted, sorted_cons}
use Rattle.tgap_model.specs.declared.merge.MergeStep.{MergeStep}
use Rattle.tgap_model.specs.declared.slice.FaceRow.{FaceRow}
use Rattle.tgap_model.specs.Base.{BaseMap, is_base}
use Rattle.tgap_model.specs.History.{relabel, class_of, classes_after, AreNumbered, IsNumberedStep, history_of}
use Rattle.tgap_model.specs.Merged.{MergedMap, merged, label_at, step_number, all_classes, is_live, live_faces}
use Rattle.tgap_model.specs.Slice.{face_row}
use Rattle.tgap_model.specs.Records.{face_before}
use Rattle.map_laws.proofs.ChainMembers.{Among, any_among, filter_among, sorted_same}
use Rattle.map_laws.proofs.Lists.{ArePairs, all_members, any_from, kept_among, among_kept, sort_among, among_sort, sort_pairs, sorted_ascend, map_among, among_map, among_range, pairs_weaker}
use Rattle.map_laws.proofs.MergeSteps.{numbered_at, label_bounded, relabel_loser, relabel_winner, relabel_other}
use Rattle.face_merge.proofs.Start.{history_numbered}
use Rattle.face_merge.proofs.Steps.{history_is}
use Rattle.face_tree.specs.Tree.{MergesLive, face_history}
use Rattle.face_tree.proofs.Merged.{history_facts}
use Rattle.slice_laws.proofs.Coverage.{range_holds}
use Rattle.record_laws.proofs.Merging.{label_up, relabel_cases}

-- ---- ranges

range_sorted : (a n : ℕ) → is_sorted_by nat_lt (range_with_len a n) ≡ true
range_sorted a zero = refl
range_sorted a (suc n) =
    sorted_cons nat_lt a (range_with_len (a + 1) n)
    (all_members (λ b. nat_lt a b ≡ true) (range_with_len (a + 1) n) (λ b m. lt-ltb a b (omega (arith, (among_range (a + 1) n b m).0))))
    (range_sorted (a + 1) n)

-- ---- classes

-- the class of a face so far stays
class_kept : (classes : List ℕ) (steps : List MergeStep) (f : ℕ) → 1 ≤ f → f ≤ length classes
    → class_of (fold (λ ks s. classes_after s ks) classes steps) f ≡ class_of classes f
class_kept classes [] f one last = refl
class_kept classes (s ∷ steps) f one last =
    class_kept (classes_after s classes) steps f one (omega (arith, last, length-append classes (class_of classes s.winner ∷ [])))
    ∙ get_or_append_left classes (class_of classes s.winner ∷ []) 0 (f - 1) (omega (arith, one, last))

-- the new face of a step has the class of the winner
class_made : (classes : List ℕ) (steps : List MergeStep) (i : ℕ) (d : MergeStep) → AreNumbered (length classes) steps → i < length steps
    → class_of (fold (λ ks s. classes_after s ks) classes steps) (get_or steps i d).made
    ≡ class_of (fold (λ ks s. classes_after s ks) classes steps) (get_or steps i d).winner
class_made classes [] i d h l = absurd (omega arith)
class_made classes (s ∷ steps) zero d h l =
    let longer : length (classes_after s classes) ≡ length classes + 1 = length-append classes (class_of classes s.winner ∷ []) in
    let place : s.made - 1 ≡ length classes = omega (arith, h.0.made) in
    class_kept (classes_after s classes) steps s.made (omega (arith, h.0.made)) (omega (arith, h.0.made, longer))
    ∙ ap (λ (n : ℕ). get_or (classes_after s classes) n 0) place
    ∙ get_or-append_seam classes (class_of classes s.winner) [] 0
    ∙ sym (class_kept (classes_after s classes) steps s.winner (omega (arith, h.0.winner.0)) (omega (arith, h.0.winner.1, longer))
    ∙ get_or_append_left classes (class_of classes s.winner ∷ []) 0 (s.winner - 1) (omega (arith, h.0.winner.0, h.0.winner.1)))
class_made classes (s ∷ steps) (suc i) d h l =
    let longer : length classes + 1 ≡ length (classes_after s classes) = omega (arith, length-append classes (class_of classes s.winner ∷ [])) in
    class_made (classes_after s classes) steps i d (subst (λ (n : ℕ). AreNumbered n steps) longer h.1) (omega arith)

module _ (m : BaseMap) (base : is_base m ≡ true) (k : ℕ) (small : k < length (history_of m)) where
  abbrev h : MergedMap
  h = merged m

  abbrev n : ℕ
  n = length m.classes

  abbrev s : MergeStep
  s = step_number h (k + 1)

  abbrev no_step : MergeStep
  no_step = record { loser = 0; winner = 0; made = 0 }

  numbers : AreNumbered n (history_of m)
  numbers = history_numbered m base

  place : k + 1 - 1 ≡ k
  place = omega arith

  -- ---- the step

  pub step_is : IsNumberedStep (length m.classes + k) (step_number (merged m) (k + 1))
  step_is = subst (λ (i : ℕ). IsNumberedStep (n + k) (get_or (history_of m) i no_step)) (sym place) (numbered_at n (history_of m) k no_step numbers small)

  pub made_class : class_of (all_classes (merged m)) (step_number (merged m) (k + 1)).made ≡ class_of (all_classes (merged m)) (step_number (merged m) (k + 1)).winner
  made_class =
      subst (λ (i : ℕ). class_of (all_classes h) (get_or (history_of m) i no_step).made ≡ class_of (all_classes h) (get_or (history_of m) i no_step).winner) (sym place)
      (class_made m.classes (history_of m) k no_step numbers small)

  lives : MergesLive (face_history (record { base = m; steps = history_of m }))
  lives = (history_facts m (history_of m) base (history_is m)).live

  loser_live : is_live h k s.loser ≡ true
  loser_live = subst (λ (i : ℕ). is_live h k (get_or (history_of m) i no_step).loser ≡ true) (sym place) (lives.loser k small)

  winner_live : is_live h k s.winner ≡ true
  winner_live = subst (λ (i : ℕ). is_live h k (get_or (history_of m) i no_step).winner ≡ true) (sym place) (lives.winner k small)

  -- ---- which faces are live

  -- a live face is the label of a base face, and one of the faces so far
  live_bounded : (f : ℕ) → is_live h k f ≡ true → f ≤ n + k
  live_bounded f e =
      let g = any_among (λ g. label_at h k g == f) (range_with_len 1 n) e in
      let r = among_range 1 n g.0 g.1 in
      let same : label_at h k g.0 ≡ f = eqb-true _ _ g.2 in
      omega (arith, same, label_bounded n (history_of m) k g.0 numbers (omega (arith, small)) (omega (arith, r.1)))

  pub label_small : (f : ℕ) → f ≤ length m.classes → label_at (merged m) k f ≤ length m.classes + k
  label_small f l = label_bounded n (history_of m) k f numbers (omega (arith, small)) l

  -- after the step the new face is live
  made_live : is_live h (k + 1) s.made ≡ true
  made_live =
      let g = any_among (λ g. label_at h k g == s.loser) (range_with_len 1 n) loser_live in
      any_from (λ g. label_at h (k + 1) g == s.made) (range_with_len 1 n) g.0 g.1
      (eq-eqb _ _ (label_up h k small g.0 ∙ relabel_loser s (label_at h k g.0) (eqb-true _ _ g.2)))

  -- loser and winner are not
  pub loser_gone : is_live (merged m) (k + 1) (step_number (merged m) (k + 1)).loser ≡ false
  loser_gone = false_from_ne_true (is_live h (k + 1) s.loser) (λ e.
      let g = any_among (λ g. label_at h (k + 1) g == s.loser) (range_with_len 1 n) e in
      let same : relabel s (label_at h k g.0) ≡ s.loser = sym (label_up h k small g.0) ∙ eqb-true _ _ g.2 in
      elim (relabel_cases s (label_at h k g.0)) [
        | inl a ↦ omega (arith, step_is.loser.1, step_is.made, relabel_loser s (label_at h k g.0) (sym a ∙ same), same)
        | inr a ↦ omega (arith, step_is.loser.1, step_is.made, a.0, same)
      ])

  pub winner_gone : is_live (merged m) (k + 1) (step_number (merged m) (k + 1)).winner ≡ false
  winner_gone = false_from_ne_true (is_live h (k + 1) s.winner) (λ e.
      let g = any_among (λ g. label_at h (k + 1) g == s.winner) (range_with_len 1 n) e in
      let same : relabel s (label_at h k g.0) ≡ s.winner = sym (label_up h k small g.0) ∙ eqb-true _ _ g.2 in
      elim (relabel_cases s (label_at h k g.0)) [
        | inl a ↦ omega (arith, step_is.winner.1, step_is.made, relabel_winner s (label_at h k g.0) (sym a ∙ same), same)
        | inr a ↦ omega (arith, step_is.winner.1, step_is.made, a.0, same)
      ])

  -- another face is live after the step where it was before
  live_before : (f : ℕ) → f ≢ s.made → is_live h (k + 1) f ≡ true → is_live h k f ≡ true
  live_before f ne e =
      let g = any_among (λ g. label_at h (k + 1) g == f) (range_with_len 1 n) e in
      let same : relabel s (label_at h k g.0) ≡ f = sym (label_up h k small g.0) ∙ eqb-true _ _ g.2 in
      elim (relabel_cases s (label_at h k g.0)) [
        | inl a ↦ any_from (λ g. label_at h k g == f) (range_with_len 1 n) g.0 g.1 (eq-eqb _ _ (sym a ∙ same))
        | inr a ↦ absurd (ne (sym same ∙ a.0))
      ]

  live_after : (f : ℕ) → f ≢ s.loser → f ≢ s.winner → is_live h k f ≡ true → is_live h (k + 1) f ≡ true
  live_after f p q e =
      let g = any_among (λ g. label_at h k g == f) (range_with_len 1 n) e in
      let same : label_at h k g.0 ≡ f = eqb-true _ _ g.2 in
      any_from (λ g. label_at h (k + 1) g == f) (range_with_len 1 n) g.0 g.1
      (eq-eqb _ _ (label_up h k small g.0 ∙ relabel_other s (label_at h k g.0) (λ e. p (sym same ∙ e)) (λ e. q (sym same ∙ e)) ∙ same))

  -- ---- the rows

  -- a face has a row where it is live
  row_of : (i f : ℕ) → 1 ≤ f → f ≤ n + i → is_live h i f ≡ true → Among (face_row h f) (map (face_row h) (live_faces h i))
  row_of i f one last e =
      among_map (face_row h) (live_faces h i) f (among_kept (is_live h i) (range_with_len 1 (n + i)) f (range_holds 1 (n + i) f one (omega (arith, last))) e)

  -- and each row is that of a live face
  of_row : (i : ℕ) (r : FaceRow) → Among r (map (face_row h) (live_faces h i))
      → (f : ℕ) × (face_row h f ≡ r) × (1 ≤ f) × (f ≤ n + i) × (is_live h i f ≡ true)
  of_row i r o =
      let f = map_among (face_row h) (live_faces h i) r o in
      let range = among_range 1 (n + i) f.0 (kept_among (is_live h i) (range_with_len 1 (n + i)) f.0 f.1) in
      (f.0, f.2, range.0, omega (arith, range.1), filter_among (is_live h i) (range_with_len 1 (n + i)) f.0 f.1)

  rows_sorted : (i : ℕ) → is_sorted_by face_before (map (face_row h) (live_faces h i)) ≡ true
  rows_sorted i =
      map-is_sorted (λ (f : ℕ). ⊤) nat_lt face_before (face_row h) (λ f g p q. refl) (live_faces h i) (all_members (λ (f : ℕ). ⊤) (live_faces h i) (λ f o. tt))
      ∙ filter-is_sorted nat_lt_order (is_live h i) (range_with_len 1 (n + i)) (all_members (λ (f : ℕ). ⊤) (range_with_len 1 (n + i)) (λ f o. tt)) (range_sorted 1 (n + i))

  abbrev others : List FaceRow
  others = filter (λ f. not (f.face == s.made)) (map (face_row h) (live_faces h (k + 1)))

  others_sorted : is_sorted_by face_before others ≡ true
  others_sorted =
      filter-is_sorted {P = λ (f : FaceRow). ⊤} (order_by_key (λ (f : FaceRow). f.face) nat_lt_order) (λ f. not (f.face == s.made)) (map (face_row h) (live_faces h (k + 1)))
      (all_members (λ (f : FaceRow). ⊤) (map (face_row h) (live_faces h (k + 1))) (λ f o. tt)) (rows_sorted (k + 1))

  -- a row of the others is that of a face that is live before and after the step
  other_row : (r : FaceRow) → Among r others
      → (f : ℕ) × (face_row h f ≡ r) × (1 ≤ f) × (f ≤ n + k) × (is_live h k f ≡ true) × (is_live h (k + 1) f ≡ true)
  other_row r o =
      let w = of_row (k + 1) r (kept_among (λ (f : FaceRow). not (f.face == s.made)) (map (face_row h) (live_faces h (k + 1))) r o) in
      let test : not (r.face == s.made) ≡ true = filter_among (λ (f : FaceRow). not (f.face == s.made)) (map (face_row h) (live_faces h (k + 1))) r o in
      let ne : w.0 ≢ s.made = λ e. eqb-false _ _ (not-true _ test) (ap (λ (x : FaceRow). x.face) (sym w.1) ∙ e) in
      let live = live_before w.0 ne w.4 in
      (w.0, w.1, w.2, live_bounded w.0 live, live, w.4)

  differ : (f g : FaceRow) → f.face ≢ g.face → (face_before f g || face_before g f) ≡ true
  differ f g ne = elim (cases_order f.face g.face) [
    | inl e ↦ absurd (ne e)
    | inr o ↦ elim o [
      | inl l ↦ or_left (nat_lt f.face g.face) (nat_lt g.face f.face) (lt-ltb f.face g.face l)
      | inr l ↦ or_right (nat_lt f.face g.face) (nat_lt g.face f.face) (lt-ltb g.face f.face l)
    ]
  ]

  not_other : (f : ℕ) → is_live h (k + 1) f ≡ false → (r : FaceRow) → Among r others → f ≢ r.face
  not_other f e r o s =
      let w = other_row r o in
      let live : is_live h (k + 1) f ≡ true = ap (is_live h (k + 1)) (s ∙ ap (λ (x : FaceRow). x.face) (sym w.1)) ∙ w.5 in
      absurd cc

  abbrev with_both : List FaceRow
  with_both = face_row h s.loser ∷ face_row h s.winner ∷ others

  pairs : ArePairs (λ x y. (face_before x y || face_before y x) ≡ true) with_both
  pairs = (
    (λ r o. elim o [
      | inl e ↦ differ (face_row h s.loser) r (λ f. step_is.differ (f ∙ ap (λ (x : FaceRow). x.face) (sym e)))
      | inr p ↦ differ (face_row h s.loser) r (not_other s.loser loser_gone r p)
    ]),
    (
      (λ r o. differ (face_row h s.winner) r (not_other s.winner winner_gone r o)),
      pairs_weaker (λ x y. face_before x y ≡ true) (λ x y. (face_before x y || face_before y x) ≡ true) (λ x y e. or_left (face_before x y) (face_before y x) e)
          others (sorted_ascend face_before (order_by_key (λ (f : FaceRow). f.face) nat_lt_order) others others_sorted),
    ),
  )

  there : (r : FaceRow) → Among r with_both → Among r (map (face_row h) (live_faces h k))
  there r (inl e) = subst (λ (x : FaceRow). Among x (map (face_row h) (live_faces h k))) e (row_of k s.loser (omega (arith, step_is.loser.0)) step_is.loser.1 loser_live)
  there r (inr (inl e)) = subst (λ (x : FaceRow). Among x (map (face_row h) (live_faces h k))) e (row_of k s.winner (omega (arith, step_is.winner.0)) step_is.winner.1 winner_live)
  there r (inr (inr o)) = let w = other_row r o in subst (λ (x : FaceRow). Among x (map (face_row h) (live_faces h k))) w.1 (row_of k w.0 w.2 w.3 w.4)

  back : (r : FaceRow) → Among r (map (face_row h) (live_faces h k)) → Among r with_both
  back r o =
      let w = of_row k r o in
      elim (relabel_cases s w.0) [
        | inr a ↦ elim a.1 [
          | inl e ↦ inl (ap (face_row h) (sym e) ∙ w.1)
          | inr e ↦ inr (inl (ap (face_row h) (sym e) ∙ w.1))
        ]
        | inl a ↦ inr (inr (subst (λ (x : FaceRow). Among x others) w.1 (
            let p : w.0 ≢ s.loser = λ e. omega (arith, w.3, step_is.made, relabel_loser s w.0 e, a) in
            let q : w.0 ≢ s.winner = λ e. omega (arith, w.3, step_is.made, relabel_winner s w.0 e, a) in
            among_kept (λ (f : FaceRow). not (f.face == s.made)) (map (face_row h) (live_faces h (k + 1))) (face_row h w.0)
            (row_of (k + 1) w.0 w.2 (omega (arith, w.3)) (live_after w.0 p q w.4))
            (not_from_false (w.0 == s.made) (false_from_ne_true (w.0 == s.made) (λ e.
            let same : w.0 ≡ s.made = eqb-true _ _ e in
            omega (arith, w.3, step_is.made, same)))))))
      ]

  -- with loser and winner in their places the others are the faces before the step
  pub faces_back : insert_by face_before (face_row (merged m) (step_number (merged m) (k + 1)).loser)
      (insert_by face_before (face_row (merged m) (step_number (merged m) (k + 1)).winner)
      (filter (λ f. not (f.face == (step_number (merged m) (k + 1)).made)) (map (face_row (merged m)) (live_faces (merged m) (k + 1)))))
      ≡ map (face_row (merged m)) (live_faces (merged m) k)
  faces_back =
      ap (λ (rs : List FaceRow). insert_by face_before (face_row h s.loser) (insert_by face_before (face_row h s.winner) rs)) (sym (sort_by-sorted face_before others others_sorted))
      ∙ sorted_same (λ (f : FaceRow). f.face) (sort_by face_before with_both) (map (face_row h) (live_faces h k))
      (sort_pairs face_before with_both pairs) (rows_sorted k)
      (λ r o. there r (sort_among face_before with_both r o))
      (λ r o. among_sort face_before with_both r (back r o))

  -- ---- what the faces after the step have

  pub made_there : list_any (λ f. (f.face == (step_number (merged m) (k + 1)).made) && (f.class == class_of (all_classes (merged m)) (step_number (merged m) (k + 1)).winner))
      (map (face_row (merged m)) (live_faces (merged m) (k + 1))) ≡ true
  made_there =
      any_from (λ (f : FaceRow). (f.face == s.made) && (f.class == class_of (all_classes h) s.winner)) (map (face_row h) (live_faces h (k + 1))) (face_row h s.made)
      (row_of (k + 1) s.made (omega (arith, step_is.made)) (omega (arith, step_is.made)) made_live)
      (and_from (s.made == s.made) _ (eq-eqb s.made s.made refl) (eq-eqb _ _ made_class))

  pub not_there : (f : ℕ) → is_live (merged m) (k + 1) f ≡ false → list_any (λ r. r.face == f) (map (face_row (merged m)) (live_faces (merged m) (k + 1))) ≡ false
  not_there f e = false_from_ne_true (list_any (λ r. r.face == f) (map (face_row h) (live_faces h (k + 1)))) (λ t.
      let r = any_among (λ (r : FaceRow). r.face == f) (map (face_row h) (live_faces h (k + 1))) t in
      let w = of_row (k + 1) r.0 r.1 in
      let same : is_live h (k + 1) f ≡ true = ap (is_live h (k + 1)) (sym (ap (λ (x : FaceRow). x.face) w.1 ∙ eqb-true _ _ r.2)) ∙ w.4 in
      absurd cc)
