-- How many sides of the edges of a window each face is, before a step and after it.
use Rattle.std.proofs.Common.{◌≡◌, ◌≢◌, inl, inr, ℕ, ◌+◌, ◌-◌, ◌*◌, ◌^◌, ◌<◌, ◌≤◌, ◌==◌, ◌||◌, Bool, true, false, not, cond, List, [], ◌∷◌, ◌++◌, map, filter, length, sum_by, eq-eqb, ne_eqb, refl, sym, ap, ap₂, ◌∙◌, subst, arith}
use Rattle.std.specs.Prelude.{flat_map}
use Rattle.std.specs.List.{list_any}
use Rattle.std.proofs.lemmas.Bool.{eqb-true, eqb-false, or_left, or_right, or_cases, true≢false}
use Rattle.std.proofs.lemmas.List.Sums.{sum_by-append, sum_by-cons}
use Rattle.std.proofs.lemmas.List.Sorted.{sum_by-IsPermutation}
use Rattle.std.proofs.lemmas.List.Filters.{length-filter_both}
use Rattle.tgap_model.specs.declared.geometry.Window.{Window}
use Rattle.tgap_model.specs.declared.merge.MergeStep.{MergeStep}
use Rattle.tgap_model.specs.declared.slice.Edge.{Edge}
use Rattle.tgap_model.specs.declared.slice.Slice.{Slice}
use Rattle.tgap_model.specs.declared.record.StepRecord.{StepRecord}
use Rattle.tgap_model.specs.Base.{BaseMap, is_base}
use Rattle.tgap_model.specs.Partition.{IsPartition, base_segments}
use Rattle.tgap_model.specs.History.{history_of}
use Rattle.tgap_model.specs.Merged.{MergedMap, merged, step_number, is_live}
use Rattle.tgap_model.specs.Chains.{Chain, arc_number, key, chains_at}
use Rattle.tgap_model.specs.Removals.{edge_of, has_side, removals_to}
use Rattle.tgap_model.specs.Slice.{meets_window, window_of, slice}
use Rattle.tgap_model.specs.Records.{step_record, in_place_of, refined}
use Rattle.tgap_model.specs.WindowRecords.{window_at, window_step}
use Rattle.map_laws.proofs.ChainMembers.{Among, filter_among}
use Rattle.map_laws.proofs.Lists.{all_members, members_all, map_among, among_map}
use Rattle.map_laws.proofs.MergeSteps.{label_bounded}
use Rattle.face_merge.proofs.Start.{history_numbered}
use Rattle.record_laws.proofs.FaceRows.{winner_gone}
use Rattle.record_laws.proofs.Refined.{needs_mend}
use Rattle.record_laws.proofs.StepFacts.{few, step_numbered}
use Rattle.slice_read.proofs.EdgesLeaveNodes.{leave_nodes}
use Rattle.slice_read.proofs.WindowFaces.{side_live}
use Rattle.tgap_build.proofs.Sides.{arc_sides}
use Rattle.refine_packets.specs.Counts.{AreCounted, one_at, read_for, sides_at}
use Rattle.refine_packets.specs.Walk.{bare}
use Rattle.refine_packets.proofs.InWindow.{chain_there}
use Rattle.refine_packets.proofs.Lists.{two_sums, same_sums}
use Rattle.refine_packets.proofs.StepChanges.{gone_of, kept_of, come_of, gone_part, left_part, kept_part, gone_is, kept_is, come_is, unmended, come_part, comes_permuted, before_permuted, there_is}

-- ---- sides

abbrev sides : ℕ → Edge → ℕ
sides f e = one_at f e.left + one_at f e.right

one_small : (f g : ℕ) → one_at f g ≤ 1
one_small f g = by (g == f)
  where
    by : (b : Bool) → cond b 1 0 ≤ 1
    by true = omega arith
    by false = omega arith

-- an edge has two sides
pub sides_few : (f : ℕ) (edges : List Edge) → sides_at f edges ≤ 2 * length edges
sides_few f [] = omega arith
sides_few f (e ∷ edges) = omega (arith, sum_by-cons (sides f) e edges, sides_few f edges, one_small f e.left, one_small f e.right)

-- points make no difference
pub bare_sides : (f : ℕ) (edges : List Edge) → sides_at f (map bare edges) ≡ sides_at f edges
bare_sides f [] = refl
bare_sides f (e ∷ edges) = omega (arith, sum_by-cons (sides f) (bare e) (map bare edges), sum_by-cons (sides f) e edges, bare_sides f edges)

pub bare_counted : (faces : ℕ) (edges : List Edge) → AreCounted faces edges → AreCounted faces (map bare edges)
bare_counted faces edges counted = all_members (λ e. (e.left < faces) × (e.right < faces)) (map bare edges) (λ e o.
    let g = map_among bare edges e o in
    subst (λ (x : Edge). (x.left < faces) × (x.right < faces)) g.2 (members_all (λ e. (e.left < faces) × (e.right < faces)) edges g.0 counted g.1))

-- a face beside an edge is counted, and what is counted is beside one
pub beside_counts : (f : ℕ) (edges : List Edge) → list_any (has_side f) edges ≡ true → 0 < sides_at f edges
beside_counts f [] t = absurd cc
beside_counts f (e ∷ edges) t = elim (or_cases (has_side f e) (list_any (has_side f) edges) t) [
  | inl here ↦ elim (or_cases (e.left == f) (e.right == f) here) [
    | inl l ↦ (let one : one_at f e.left ≡ 1 = ap (λ (b : Bool). cond b 1 0) l in omega (arith, sum_by-cons (sides f) e edges, one))
    | inr r ↦ (let one : one_at f e.right ≡ 1 = ap (λ (b : Bool). cond b 1 0) r in omega (arith, sum_by-cons (sides f) e edges, one))
  ]
  | inr later ↦ omega (arith, sum_by-cons (sides f) e edges, beside_counts f edges later)
]

pub counted_beside : (f : ℕ) (edges : List Edge) → 0 < sides_at f edges → list_any (has_side f) edges ≡ true
counted_beside f [] some = absurd (omega (arith, some))
counted_beside f (e ∷ edges) some = by (e.left == f) refl (e.right == f) refl (counted_beside f edges)
  where
    by : (a : Bool) → (e.left == f) ≡ a → (b : Bool) → (e.right == f) ≡ b → (0 < sides_at f edges → list_any (has_side f) edges ≡ true)
        → (has_side f e || list_any (has_side f) edges) ≡ true
    by true l b r later = or_left (has_side f e) _ (or_left (e.left == f) _ l)
    by false l true r later = or_left (has_side f e) _ (or_right (e.left == f) _ r)
    by false l false r later =
        let first : one_at f e.left ≡ 0 = ap (λ (b : Bool). cond b 1 0) l in
        let none : one_at f e.right ≡ 0 = ap (λ (b : Bool). cond b 1 0) r in
        or_right (has_side f e) _ (later (omega (arith, sum_by-cons (sides f) e edges, some, first, none)))

-- a face that takes the winner's place, counted as before
moved : (made winner f g : ℕ) → g ≢ winner → one_at f (in_place_of made winner g) ≡ one_at (read_for made winner f) g
moved made winner f g other = by (g == made) refl (f == winner) refl (f == made) refl
  where
    yes : (x y : ℕ) → x ≡ y → one_at y x ≡ 1
    yes x y e = ap (λ (b : Bool). cond b 1 0) (eq-eqb x y e)

    not_yes : (x y : ℕ) → x ≢ y → one_at y x ≡ 0
    not_yes x y e = ap (λ (b : Bool). cond b 1 0) (ne_eqb x y e)

    by : (a : Bool) → (g == made) ≡ a → (b : Bool) → (f == winner) ≡ b → (c : Bool) → (f == made) ≡ c
        → one_at f (cond a winner g) ≡ one_at (cond b made (cond c winner f)) g
    by true ea true eb c ec = yes winner f (sym (eqb-true f winner eb)) ∙ sym (yes g made (eqb-true g made ea))
    by true ea false eb true ec = not_yes winner f (λ e. eqb-false f winner eb (sym e)) ∙ sym (not_yes g winner other)
    by true ea false eb false ec =
        not_yes winner f (λ e. eqb-false f winner eb (sym e)) ∙ sym (not_yes g f (λ e. eqb-false f made ec (sym e ∙ eqb-true g made ea)))
    by false ea true eb c ec = not_yes g f (λ e. other (e ∙ eqb-true f winner eb)) ∙ sym (not_yes g made (eqb-false g made ea))
    by false ea false eb true ec = not_yes g f (λ e. eqb-false g made ea (e ∙ eqb-true f made ec)) ∙ sym (not_yes g winner other)
    by false ea false eb false ec = refl

-- ---- the edges of a window

module _ (m : BaseMap) (base : is_base m ≡ true) (i : ℕ) (within : i ≤ length (history_of m)) (area : Window) where
  -- the faces at their sides are some of those so far
  pub sides_small : (e : Edge) → Among e (window_at (merged m) area i).edges → (e.left ≤ length m.classes + i) × (e.right ≤ length m.classes + i)
  sides_small e o =
      let c = chain_there (merged m) area i e o in
      let faces = arc_sides m base (key c.0) in
      subst (λ (x : Edge). (x.left ≤ length m.classes + i) × (x.right ≤ length m.classes + i)) c.2 (
        label_bounded (length m.classes) (history_of m) i (arc_number m.arcs (key c.0)).left (history_numbered m base) within faces.0,
        label_bounded (length m.classes) (history_of m) i (arc_number m.arcs (key c.0)).right (history_numbered m base) within faces.1,
      )

  pub sides_counted : (edges : List Edge) → ((e : Edge) → Among e edges → Among e (window_at (merged m) area i).edges)
      → AreCounted (length m.classes + length (history_of m) + 1) edges
  sides_counted edges some =
      all_members (λ e. (e.left < length m.classes + length (history_of m) + 1) × (e.right < length m.classes + length (history_of m) + 1)) edges (λ e o.
      let s = sides_small e (some e o) in (omega (arith, s.0, within), omega (arith, s.1, within)))

  pub counts_small : IsPartition (base_segments m) → (f : ℕ) → sides_at f (window_at (merged m) area i).edges < 2 ^ 32
  unfolding window_of slice
  counts_small planar f =
      omega (
        arith,
        sides_few f (window_at (merged m) area i).edges,
        length-filter_both (meets_window area) (λ e. not (meets_window area e)) (λ e. refl) (slice m i).edges,
        (leave_nodes m base planar i within).few,
      )

-- ---- a step

module _ (m : BaseMap) (base : is_base m ≡ true) (planar : IsPartition (base_segments m)) (j : ℕ) (one : 1 ≤ j) (last : j ≤ length (history_of m)) (area : Window) where
  abbrev h : MergedMap
  h = merged m

  abbrev k : ℕ
  k = j - 1

  abbrev s : MergeStep
  s = step_number h j

  abbrev cs : List Chain
  cs = chains_at h j

  abbrev edge_here : Chain → Edge
  edge_here c = edge_of h j (removals_to h j) c

  abbrev record_here : StepRecord
  record_here = step_record h j

  abbrev meets : Edge → Bool
  meets e = meets_window area e

  abbrev there : Slice
  there = window_at h area j

  abbrev before : Slice
  before = window_at h area k

  abbrev needed : Chain → Bool
  needed c = needs_mend m base planar j one last c

  abbrev back_in : Chain → List Edge
  back_in c = filter meets (refined record_here (edge_here c))

  abbrev plain : Edge → Edge
  plain e = record e { left = in_place_of s.made s.winner e.left; right = in_place_of s.made s.winner e.right }

  abbrev gone : List Edge
  gone = gone_of there before record_here.mends

  abbrev kept : List Edge
  kept = kept_of there before record_here.mends

  abbrev comes : List Edge
  comes = (window_step h area j).comes

  -- no edge after the step has the winner at a side
  not_winner : (c : Chain) → Among c cs → ((edge_here c).left ≢ s.winner) × ((edge_here c).right ≢ s.winner)
  not_winner c n = (
    λ e. none (or_left ((edge_here c).left == s.winner) _ (eq-eqb _ _ e)),
    λ e. none (or_right ((edge_here c).left == s.winner) _ (eq-eqb _ _ e)),
  )
    where
      gone_there : is_live h j s.winner ≡ false
      gone_there = subst (λ (i : ℕ). is_live h i (step_number h i).winner ≡ false) (omega (arith, one)) (winner_gone m base k (few m base planar j one last))

      none : has_side s.winner (edge_here c) ≡ true → ⊥
      none t =
          let face : s.winner ≢ 0 = λ z. omega (arith, (step_numbered m base planar j one last).winner.0, z) in
          let live = side_live m base j last (edge_here c ∷ []) (λ e o. elim o [ inl same ↦ subst (λ (x : Edge). Among x (map edge_here cs)) same (among_map edge_here cs c n) | inr o ↦ absurd o ])
          s.winner face (or_left (has_side s.winner (edge_here c)) _ t) in
          true≢false (sym (filter_among (is_live h j) _ s.winner live) ∙ gone_there)

  -- what the edges without a mend become
  abbrev plain_part : Chain → List Edge
  plain_part c = cond (meets (edge_here c)) (cond (needed c) [] (plain (edge_here c) ∷ [])) []

  abbrev left : Chain → List Edge
  left c = left_part m base planar j one last area c

  abbrev went : Chain → List Edge
  went c = gone_part m base planar j one last area c

  abbrev pieces : Chain → List Edge
  pieces c = kept_part m base planar j one last area c

  abbrev come : Chain → List Edge
  come c = come_part m base planar j one last area c

  abbrev others : Chain → List Edge
  others c = cond (meets (edge_here c)) (cond (needed c) (back_in c) []) (back_in c)

  -- the edges after the step are those that go and those that are left
  there_counts : (f : ℕ) → sides_at f there.edges ≡ sides_at f (flat_map left cs) + sides_at f gone
  there_counts f =
      ap (sides_at f) (there_is m base planar j one last area)
      ∙ two_sums (sides f) (λ c. cond (meets (edge_here c)) (edge_here c ∷ []) []) left went cs (λ c n. by (meets (edge_here c)) (needed c) (edge_here c))
      ∙ ap (λ (es : List Edge). sides_at f (flat_map left cs) + sides_at f es) (sym (gone_is m base planar j one last area))
    where
      by : (b v : Bool) (e : Edge) → sum_by (sides f) (cond b (e ∷ []) []) ≡ sum_by (sides f) (cond b (cond v [] (e ∷ [])) []) + sum_by (sides f) (cond b (cond v (e ∷ []) []) [])
      by true true e = omega arith
      by true false e = omega arith
      by false true e = refl
      by false false e = refl

  -- those that are left, with the winner in place of the new face
  left_counts : (f : ℕ) → sides_at f (flat_map plain_part cs) ≡ sides_at (read_for s.made s.winner f) (flat_map left cs)
  left_counts f = same_sums (sides f) (sides (read_for s.made s.winner f)) plain_part left cs (λ c n.
      by (meets (edge_here c)) (needed c) (edge_here c)
      (ap₂ (λ (a b : ℕ). a + b) (moved s.made s.winner f (edge_here c).left (not_winner c n).0) (moved s.made s.winner f (edge_here c).right (not_winner c n).1)))
    where
      by : (b v : Bool) (e : Edge) → sides f (plain e) ≡ sides (read_for s.made s.winner f) e
          → sum_by (sides f) (cond b (cond v [] (plain e ∷ [])) []) ≡ sum_by (sides (read_for s.made s.winner f)) (cond b (cond v [] (e ∷ [])) [])
      by true true e same = refl
      by true false e same = ap (λ (n : ℕ). 0 + n) same
      by false true e same = refl
      by false false e same = refl

  -- the edges before the step
  before_counts : (f : ℕ) → sides_at f before.edges ≡ sides_at f (flat_map plain_part cs) + sides_at f kept + sides_at f comes
  before_counts f =
      let ended : List Edge = filter meets record_here.ended in
      omega (
        arith,
        sum_by-IsPermutation (sides f) (flat_map back_in cs ++ ended) before.edges (before_permuted m base planar j one last area),
        sum_by-append (sides f) (flat_map back_in cs) ended,
        two_sums (sides f) back_in plain_part others cs (λ c n. apart c n (meets (edge_here c)) refl (needed c) refl),
        two_sums (sides f) others pieces come cs (λ c n. by (meets (edge_here c)) (needed c) (back_in c)),
        ap (sides_at f) (kept_is m base planar j one last area),
        ap (sides_at f) (come_is m base planar j one last area),
        sum_by-IsPermutation (sides f) (come_of there before record_here.mends ++ ended) comes (comes_permuted m base planar j one last area),
        sum_by-append (sides f) (come_of there before record_here.mends) ended,
      )
    where
      by : (b v : Bool) (es : List Edge)
          → sum_by (sides f) (cond b (cond v es []) es) ≡ sum_by (sides f) (cond b (cond v es []) []) + sum_by (sides f) (cond b [] es)
      by true true es = omega arith
      by true false es = refl
      by false true es = omega arith
      by false false es = omega arith

      apart : (c : Chain) → Among c cs → (b : Bool) → meets (edge_here c) ≡ b → (v : Bool) → needed c ≡ v
          → sum_by (sides f) (back_in c) ≡ sum_by (sides f) (cond b (cond v [] (plain (edge_here c) ∷ [])) []) + sum_by (sides f) (cond b (cond v (back_in c) []) (back_in c))
      apart c n true met true is = omega arith
      apart c n true met false is =
          ap (sum_by (sides f)) (unmended m base planar j one last area c n is ∙ ap (λ (b : Bool). cond {A = List Edge} b (plain (edge_here c) ∷ []) []) met) ∙ omega arith
      apart c n false met v is = omega arith

  -- so the counts before the step are found
  pub counts_before : (f : ℕ) → sides_at f (window_at (merged m) area (j - 1)).edges
      ≡ sides_at (read_for (step_number (merged m) j).made (step_number (merged m) j).winner f) (window_at (merged m) area j).edges
      - sides_at (read_for (step_number (merged m) j).made (step_number (merged m) j).winner f)
      (gone_of (window_at (merged m) area j) (window_at (merged m) area (j - 1)) (step_record (merged m) j).mends)
      + sides_at f (kept_of (window_at (merged m) area j) (window_at (merged m) area (j - 1)) (step_record (merged m) j).mends)
      + sides_at f (window_step (merged m) area j).comes
  counts_before f = omega (arith, before_counts f, left_counts f, there_counts (read_for s.made s.winner f))
