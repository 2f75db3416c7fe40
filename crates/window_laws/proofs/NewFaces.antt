-- A face whose row comes with a step is loser or winner, or stands beside an edge that comes.
use Rattle.std.proofs.Common.{◌≡◌, ◌≢◌, ◌⊎◌, inl, inr, ℕ, ◌+◌, ◌-◌, ◌≤◌, ◌==◌, ◌||◌, Bool, true, false, not, cond, List, map, filter, length, eq-eqb, refl, sym, ap, ◌∙◌, subst, arith}
use Rattle.std.specs.List.{list_all, list_any, range_with_len}
use Rattle.std.proofs.lemmas.Bool.{or_cases, or_left, or_right, or_parts, cases_eq, eqb-true, not-false, not-true}
use Rattle.tgap_model.specs.declared.geometry.Window.{Window}
use Rattle.tgap_model.specs.declared.merge.MergeStep.{MergeStep}
use Rattle.tgap_model.specs.declared.slice.Edge.{Edge}
use Rattle.tgap_model.specs.declared.slice.FaceRow.{FaceRow}
use Rattle.tgap_model.specs.Base.{BaseMap, is_base}
use Rattle.tgap_model.specs.Partition.{IsPartition, base_segments}
use Rattle.tgap_model.specs.History.{relabel, history_of}
use Rattle.tgap_model.specs.Merged.{MergedMap, merged, label_at, step_number, is_live, live_faces}
use Rattle.tgap_model.specs.Chains.{Link, Chain, key, chains_at}
use Rattle.tgap_model.specs.Removals.{edge_of, has_side, removals_to}
use Rattle.tgap_model.specs.Slice.{left_of, right_of, face_row, meets_window, window_of}
use Rattle.tgap_model.specs.Records.{is_edge_between, runs}
use Rattle.tgap_model.specs.WindowRecords.{has_key, key_after, is_coming, window_step}
use Rattle.map_laws.proofs.ChainMembers.{Among, any_among, filter_among}
use Rattle.map_laws.proofs.Lists.{all_from, any_from, kept_among, among_kept, map_among, among_map, among_range}
use Rattle.map_laws.proofs.MergeSteps.{relabel_other}
use Rattle.slice_laws.proofs.Coverage.{range_holds}
use Rattle.record_laws.specs.RunLaws.{chain_of_run, is_turned_run}
use Rattle.record_laws.proofs.StepFacts.{label_next, left_next, right_next, chain_sides, run_is_part, run_sides, run_within}
use Rattle.window_laws.specs.WindowLaws.{WindowFacesComeWithEdges}
use Rattle.window_laws.proofs.ComesOf.{key_link, comes_of, run_of}
use Rattle.window_laws.proofs.WindowEdges.{key_there}

module _ (m : BaseMap) (base : is_base m ≡ true) (planar : IsPartition (base_segments m)) (j : ℕ) (one : 1 ≤ j) (last : j ≤ length (history_of m)) where
  abbrev h : MergedMap
  h = merged m

  abbrev k : ℕ
  k = j - 1

  abbrev s : MergeStep
  s = step_number h j

  abbrev finer : List Chain
  finer = chains_at h k

  abbrev edge_here : Chain → Edge
  edge_here c = edge_of h j (removals_to h j) c

  abbrev edge_back : Chain → Edge
  edge_back c = edge_of h k (removals_to h k) c

  -- a live face that is neither loser nor winner is live after the step
  live_after : (f : ℕ) → f ≢ s.loser → f ≢ s.winner → Among f (live_faces h k) → Among f (live_faces h j)
  live_after f p q o =
      let range = among_range 1 (length m.classes + k) f (kept_among (is_live h k) (range_with_len 1 (length m.classes + k)) f o) in
      let g = any_among (λ g. label_at h k g == f) (range_with_len 1 (length m.classes)) (filter_among (is_live h k) (range_with_len 1 (length m.classes + k)) f o) in
      among_kept (is_live h j) (range_with_len 1 (length m.classes + j)) f
      (range_holds 1 (length m.classes + j) f range.0 (omega (arith, range.1)))
      (any_from (λ g. label_at h j g == f) (range_with_len 1 (length m.classes)) g.0 g.1
      (eq-eqb _ _ (label_next m base planar j one last g.0 ∙ ap (relabel s) (eqb-true _ _ g.2) ∙ relabel_other s f p q)))

  -- it stands beside the edge after the step of which its edge comes
  beside_after : (f : ℕ) → f ≢ s.loser → f ≢ s.winner → (c : Chain) (n : Among c (chains_at h j)) (r : Chain) (o : Among r (runs finer c))
      → has_side f (edge_back (chain_of_run finer r)) ≡ true → has_side f (edge_here c) ≡ true
  beside_after f p q c n r o beside =
      by (is_turned_run finer r) (run_sides m base planar j one last r (run_is_part m base planar j one last c n r o) d.0 d.1 (is_turned_run finer r) refl)
      (or_cases ((edge_back (chain_of_run finer r)).left == f) ((edge_back (chain_of_run finer r)).right == f) beside)
    where
      d : (e : Link) × Among e r × (e.arc ≡ key (chain_of_run finer r))
      d = key_link m base planar j one last c n r o

      sides : (left_of h j d.0 ≡ (edge_here c).left) × (right_of h j d.0 ≡ (edge_here c).right)
      sides = chain_sides m base planar j one last j c n d.0 (run_within m base planar j one last c n r o d.0 d.1)

      at_left : left_of h k d.0 ≡ f → has_side f (edge_here c) ≡ true
      at_left e = or_left ((edge_here c).left == f) ((edge_here c).right == f)
          (eq-eqb _ _ (sym sides.0 ∙ left_next m base planar j one last d.0 ∙ ap (relabel s) e ∙ relabel_other s f p q))

      at_right : right_of h k d.0 ≡ f → has_side f (edge_here c) ≡ true
      at_right e = or_right ((edge_here c).left == f) ((edge_here c).right == f)
          (eq-eqb _ _ (sym sides.1 ∙ right_next m base planar j one last d.0 ∙ ap (relabel s) e ∙ relabel_other s f p q))

      by : (b : Bool) → (left_of h k d.0 ≡ cond b (edge_back (chain_of_run finer r)).right (edge_back (chain_of_run finer r)).left) × (right_of h k d.0 ≡ cond b (edge_back (chain_of_run finer r)).left (edge_back (chain_of_run finer r)).right)
          → (((edge_back (chain_of_run finer r)).left == f) ≡ true) ⊎ (((edge_back (chain_of_run finer r)).right == f) ≡ true) → has_side f (edge_here c) ≡ true
      by true e (inl l) = at_right (e.1 ∙ eqb-true _ _ l)
      by true e (inr l) = at_left (e.0 ∙ eqb-true _ _ l)
      by false e (inl l) = at_left (e.0 ∙ eqb-true _ _ l)
      by false e (inr l) = at_right (e.1 ∙ eqb-true _ _ l)

  module _ (area : Window) where
    abbrev meets : Edge → Bool
    meets e = meets_window area e

    abbrev there : List Edge
    there = filter meets (map edge_here (chains_at h j))

    abbrev before : List Edge
    before = filter meets (map edge_back finer)

    abbrev coming : Edge → Bool
    coming e = is_coming h j there e

    abbrev rows_before : List FaceRow
    rows_before = filter (λ r. list_any (has_side r.face) before) (map (face_row h) (live_faces h k))

    abbrev rows_there : List FaceRow
    rows_there = filter (λ r. list_any (has_side r.face) there) (map (face_row h) (live_faces h j))

    abbrev is_known : FaceRow → Bool
    is_known r = list_any (λ q. q.face == r.face) rows_there

    -- an edge that does not come has faces that are known, but for loser and winner
    known_beside : (f : ℕ) → f ≢ s.loser → f ≢ s.winner → Among f (live_faces h k) → (g : Chain) → Among g finer → has_side f (edge_back g) ≡ true
        → coming (edge_back g) ≡ false → list_any (λ q. q.face == f) rows_there ≡ true
    known_beside f p q live g n beside stays =
        let parts = or_parts (is_edge_between s.loser s.winner (edge_back g)) (not (has_key there (key_after h j (edge_back g)))) stays in
        let c = run_of m base planar j one last g n parts.0 in
        let after : key_after h j (edge_back g) ≡ key c.0
        = ap (λ (g : Chain). key_after h j (edge_back g)) (sym c.4) ∙ comes_of m base planar j one last c.0 c.2 c.1 c.3 in
        let meeting : meets (edge_here c.0) ≡ true
        = sym (key_there m base planar j one last area c.0 c.2) ∙ ap (has_key there) (sym after) ∙ not-false (has_key there (key_after h j (edge_back g))) parts.1 in
        let side : has_side f (edge_here c.0) ≡ true
        = beside_after f p q c.0 c.2 c.1 c.3 (ap (λ (g : Chain). has_side f (edge_back g)) c.4 ∙ beside) in
        any_from (λ q. q.face == f) rows_there (face_row h f)
        (among_kept (λ r. list_any (has_side r.face) there) (map (face_row h) (live_faces h j)) (face_row h f)
        (among_map (face_row h) (live_faces h j) f (live_after f p q live))
        (any_from (has_side f) there (edge_here c.0)
        (among_kept meets (map edge_here (chains_at h j)) (edge_here c.0) (among_map edge_here (chains_at h j) c.0 c.2) meeting) side))
        (eq-eqb f f refl)

    -- each row of the record
    each_row : (r : FaceRow) → Among r rows_before → is_known r ≡ false
        → ((r.face == s.loser) || (r.face == s.winner) || list_any (has_side r.face) (filter coming before)) ≡ true
    each_row r o new = elim (cases_eq r.face s.loser) [
      | inl e ↦ or_left ((r.face == s.loser) || (r.face == s.winner)) _ (or_left (r.face == s.loser) (r.face == s.winner) (eq-eqb _ _ e))
      | inr p ↦ elim (cases_eq r.face s.winner) [
        | inl e ↦ or_left ((r.face == s.loser) || (r.face == s.winner)) _ (or_right (r.face == s.loser) (r.face == s.winner) (eq-eqb _ _ e))
        | inr q ↦ or_right ((r.face == s.loser) || (r.face == s.winner)) _ (beside p q)
      ]
    ]
      where
        beside : r.face ≢ s.loser → r.face ≢ s.winner → list_any (has_side r.face) (filter coming before) ≡ true
        beside p q =
            let e = any_among (has_side r.face) before (filter_among (λ r. list_any (has_side r.face) before) (map (face_row h) (live_faces h k)) r o) in
            by e.0 e.1 e.2 (coming e.0) refl
          where
            f : (g : ℕ) × Among g (live_faces h k) × (face_row h g ≡ r)
            f = map_among (face_row h) (live_faces h k) r (kept_among (λ r. list_any (has_side r.face) before) (map (face_row h) (live_faces h k)) r o)

            live : Among r.face (live_faces h k)
            live = subst (λ (x : FaceRow). Among x.face (live_faces h k)) f.2 f.1

            by : (e : Edge) → Among e before → has_side r.face e ≡ true → (b : Bool) → coming e ≡ b → list_any (has_side r.face) (filter coming before) ≡ true
            by e n t true c = any_from (has_side r.face) (filter coming before) e (among_kept coming before e n c) t
            by e n t false c =
                let g = map_among edge_back finer e (kept_among meets (map edge_back finer) e n) in
                let known = known_beside r.face p q live g.0 g.1 (ap (has_side r.face) g.2 ∙ t) (ap coming g.2 ∙ c) in
                absurd cc

    pub faces_near : let r = window_step (merged m) area j in
        list_all (λ f. (f.face == r.loser) || (f.face == r.winner) || list_any (has_side f.face) r.comes) r.faces ≡ true
    unfolding window_of
    faces_near = all_from (λ f. (f.face == s.loser) || (f.face == s.winner) || list_any (has_side f.face) (filter coming before)) (filter (λ r. not (is_known r)) rows_before)
        (λ r o. each_row r (kept_among (λ r. not (is_known r)) rows_before r o) (not-true (is_known r) (filter_among (λ r. not (is_known r)) rows_before r o)))

pub window_faces_come_with_edges : WindowFacesComeWithEdges
window_faces_come_with_edges m base planar j one last area = faces_near m base planar j one last area
