-- The table before a step can be merged: loser and winner have labels, and no edge has the new face; and after it each live face has its label.
use Rattle.std.proofs.Common.{◌≡◌, ◌≢◌, inl, inr, ℕ, ◌+◌, ◌-◌, ◌<◌, ◌≤◌, ◌==◌, true, List, length, All, eq-eqb, eqb-true, sym, ◌∙◌, subst, arith}
use Rattle.std.specs.List.{range_with_len}
use Rattle.std.proofs.lemmas.Bool.{cases_eq}
use Rattle.tgap_model.specs.declared.merge.MergeStep.{MergeStep}
use Rattle.tgap_model.specs.declared.slice.Edge.{Edge}
use Rattle.tgap_model.specs.declared.slice.Removal.{Removal}
use Rattle.tgap_model.specs.Base.{BaseMap, is_base}
use Rattle.tgap_model.specs.Partition.{IsPartition, base_segments}
use Rattle.tgap_model.specs.History.{relabel, history_of, IsNumberedStep}
use Rattle.tgap_model.specs.Merged.{MergedMap, merged, label_at, step_number, is_live}
use Rattle.tgap_model.specs.Chains.{arc_number, key, chains_at}
use Rattle.tgap_model.specs.Removals.{edge_of, edges_of}
use Rattle.map_laws.proofs.ChainMembers.{any_among}
use Rattle.map_laws.proofs.Lists.{all_members, any_from, map_among}
use Rattle.map_laws.proofs.MergeSteps.{relabel_loser, relabel_winner}
use Rattle.face_merge.proofs.Steps.{history_is}
use Rattle.face_tree.specs.Tree.{MergesLive, face_history}
use Rattle.face_tree.proofs.Merged.{history_facts}
use Rattle.record_laws.proofs.FaceRows.{label_small}
use Rattle.record_laws.proofs.Merging.{relabel_cases}
use Rattle.record_laws.proofs.StepFacts.{step_numbered, label_next, arc_faces, key_within}
use Rattle.edge_forest.specs.FaceLabels.{HasLabel}
use Rattle.edge_forest.specs.Forest.{EdgeForest, IsForest}
use Rattle.tgap_build.specs.declared.edge_table.EdgeTable.{EdgeTable}
use Rattle.tgap_build.specs.Table.{table_edges, IsTable}
use Rattle.tgap_build.specs.Running.{AreRunning}

module _ (m : BaseMap) (base : is_base m ≡ true) (planar : IsPartition (base_segments m)) (k : ℕ) (some : 0 < k) (last : k ≤ length (history_of m)) where
  abbrev h : MergedMap
  h = merged m

  abbrev s : MergeStep
  s = step_number h k

  few : k - 1 < length (history_of m)
  few = omega (arith, some, last)

  lives : MergesLive (face_history (record { base = m; steps = history_of m }))
  lives = (history_facts m (history_of m) base (history_is m)).live

  pub loser_live : is_live (merged m) (k - 1) (step_number (merged m) k).loser ≡ true
  loser_live = lives.loser (k - 1) few

  pub winner_live : is_live (merged m) (k - 1) (step_number (merged m) k).winner ≡ true
  winner_live = lives.winner (k - 1) few

  -- after the step the new face is live
  pub made_live : is_live (merged m) k (step_number (merged m) k).made ≡ true
  made_live =
      let b = any_among (λ b. label_at h (k - 1) b == s.loser) (range_with_len 1 (length m.classes)) loser_live in
      any_from (λ b. label_at h k b == s.made) (range_with_len 1 (length m.classes)) b.0 b.1
      (eq-eqb _ _ (label_next m base planar k some last b.0 ∙ relabel_loser s (label_at h (k - 1) b.0) (eqb-true _ _ b.2)))

  -- no edge before the step has the new face
  pub made_new : (rs : List Removal) → All (λ e. (e.left ≢ (step_number (merged m) k).made) × (e.right ≢ (step_number (merged m) k).made)) (edges_of (merged m) (k - 1) rs (chains_at (merged m) (k - 1)))
  made_new rs = all_members (λ (e : Edge). (e.left ≢ s.made) × (e.right ≢ s.made)) (edges_of h (k - 1) rs (chains_at h (k - 1))) (λ e n.
      let c = map_among (edge_of h (k - 1) rs) (chains_at h (k - 1)) e n in
      let faces = arc_faces m base planar k some last (key c.0) (key_within m base planar k some last (k - 1) c.0 c.1) in
      let made : s.made ≡ length m.classes + (k - 1) + 1 = (step_numbered m base planar k some last).made in
      subst (λ (e : Edge). (e.left ≢ s.made) × (e.right ≢ s.made)) c.2 (
        (λ u. absurd (omega (arith, u, made, label_small m base (k - 1) few (arc_number m.arcs (key c.0)).left faces.0))),
        (λ u. absurd (omega (arith, u, made, label_small m base (k - 1) few (arc_number m.arcs (key c.0)).right faces.1))),
      ))

  -- another face that is live after the step was so before, and is neither loser nor winner
  pub live_was : (g : ℕ) → g ≢ (step_number (merged m) k).made → is_live (merged m) k g ≡ true
      → (is_live (merged m) (k - 1) g ≡ true) × (g ≢ (step_number (merged m) k).loser) × (g ≢ (step_number (merged m) k).winner)
  live_was g ne live =
      let b = any_among (λ b. label_at h k b == g) (range_with_len 1 (length m.classes)) live in
      let same : relabel s (label_at h (k - 1) b.0) ≡ g = sym (label_next m base planar k some last b.0) ∙ eqb-true _ _ b.2 in
      elim (relabel_cases s (label_at h (k - 1) b.0)) [
        | inr a ↦ absurd (ne (sym same ∙ a.0))
        | inl a ↦
            (let was : label_at h (k - 1) b.0 ≡ g = sym a ∙ same in (
              any_from (λ b. label_at h (k - 1) b == g) (range_with_len 1 (length m.classes)) b.0 b.1 (eq-eqb _ _ was),
              (λ e. ne (sym same ∙ relabel_loser s (label_at h (k - 1) b.0) (was ∙ e))),
              (λ e. ne (sym same ∙ relabel_winner s (label_at h (k - 1) b.0) (was ∙ e))),
            ))
      ]

  pub made_small : (step_number (merged m) k).made < length m.classes + length (history_of m) + 1
  made_small = omega (arith, (step_numbered m base planar k some last).made, few)

-- what a merge of the table needs
module _ (f : EdgeForest) (w : IsForest f) (k : ℕ) (some : 0 < k) (last : k ≤ length (history_of f.base)) (before : List Removal) (t : EdgeTable) (r : AreRunning f (k - 1) before t)
    (s : MergeStep) (is : s ≡ step_number (merged f.base) k) where
  numbered : IsNumberedStep (length f.base.classes + (k - 1)) s
  numbered = subst (IsNumberedStep (length f.base.classes + (k - 1))) (sym is) (step_numbered f.base w.base w.partition k some last)

  pub merge_loser : (s.loser < length t.beside.items) × HasLabel t.labels s.loser
  merge_loser = (
    omega (arith, numbered.loser.1, r.lists, last),
    subst (λ (x : MergeStep). HasLabel t.labels x.loser) (sym is) (r.labels (step_number (merged f.base) k).loser (loser_live f.base w.base w.partition k some last)),
  )

  pub merge_winner : (s.winner < length t.beside.items) × HasLabel t.labels s.winner
  merge_winner = (
    omega (arith, numbered.winner.1, r.lists, last),
    subst (λ (x : MergeStep). HasLabel t.labels x.winner) (sym is) (r.labels (step_number (merged f.base) k).winner (winner_live f.base w.base w.partition k some last)),
  )

  pub merge_apart : s.loser ≢ s.winner
  merge_apart = numbered.differ

  pub merge_made : s.made < length t.beside.items
  merge_made = omega (arith, numbered.made, r.lists, last, some)

  pub merge_fresh : All (λ e. (e.left ≢ s.made) × (e.right ≢ s.made)) (table_edges t)
  merge_fresh = subst (λ (x : MergeStep). All (λ (e : Edge). (e.left ≢ x.made) × (e.right ≢ x.made)) (table_edges t)) (sym is)
      (subst (All (λ (e : Edge). (e.left ≢ (step_number (merged f.base) k).made) × (e.right ≢ (step_number (merged f.base) k).made))) (sym r.edges)
      (made_new f.base w.base w.partition k some last before))

-- the table after the step
pub running_next : (f : EdgeForest) → IsForest f → (k : ℕ) → 0 < k → k ≤ length (history_of f.base) → (before now : List Removal) (t u : EdgeTable) → AreRunning f (k - 1) before t → IsTable u
    → table_edges u ≡ edges_of (merged f.base) k now (chains_at (merged f.base) k) → length u.places.items ≡ length t.places.items → length u.beside.items ≡ length t.beside.items
    → HasLabel u.labels (step_number (merged f.base) k).made
    → ((g : ℕ) → g ≢ (step_number (merged f.base) k).loser → g ≢ (step_number (merged f.base) k).winner → g ≢ (step_number (merged f.base) k).made → HasLabel t.labels g → HasLabel u.labels g)
    → AreRunning f k now u
running_next f w k some last before now t u r table edges places lists made others = record {
  forest = w;
  table = table;
  edges = edges;
  places = places ∙ r.places;
  lists = lists ∙ r.lists;
  outside =
      (let s = step_numbered f.base w.base w.partition k some last in
      others 0 (λ e. absurd (omega (arith, e, s.loser.0))) (λ e. absurd (omega (arith, e, s.winner.0))) (λ e. absurd (omega (arith, e, s.made))) r.outside);
  labels = λ g live. elim (cases_eq g (step_number (merged f.base) k).made) [
    | inl e ↦ subst (HasLabel u.labels) (sym e) made
    | inr ne ↦ (let was = live_was f.base w.base w.partition k some last g ne live in others g was.1 was.2 ne (r.labels g was.0))
  ];
}
