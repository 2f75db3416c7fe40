-- A step in the table of edges: from the merge of its faces to the edges that it changed.
use Rattle.std.proofs.Common.{◌≡◌, ℕ, ◌-◌, ◌<◌, ◌^◌, ◌==◌, not, List, [], ◌++◌, map, filter, length, All, IsPermutation, sym, ap, ap₂, ◌∙◌, subst, arith}
use Rattle.std.specs.Prelude.{flat_map}
use Rattle.std.specs.List.{list_any}
use Rattle.std.specs.List.Sorted.{IsNonDecreasingBy}
use Rattle.std.proofs.lemmas.List.{map-append}
use Rattle.lemmas.proofs.Members.{filter_agree_on}
use Rattle.tgap_model.specs.declared.merge.MergeStep.{MergeStep}
use Rattle.tgap_model.specs.declared.slice.Edge.{Edge}
use Rattle.tgap_model.specs.declared.slice.Removal.{Removal}
use Rattle.tgap_model.specs.Merged.{MergedMap, merged, step_number}
use Rattle.tgap_model.specs.Chains.{chains_at}
use Rattle.tgap_model.specs.Removals.{edge_of, edges_of, has_side, removals_to}
use Rattle.tgap_model.specs.Records.{is_edge_between}
use Rattle.map_laws.proofs.ChainMembers.{Among}
use Rattle.map_laws.proofs.Lists.{all_members, members_all, map_among, kept_among}
use Rattle.grid_index.specs.Keyed.{edges_at}
use Rattle.grid_index.specs.Live.{keys, AreLive}
use Rattle.edge_forest.specs.FaceLabels.{label_of}
use Rattle.edge_forest.specs.Forest.{EdgeForest, IsForest}
use Rattle.tgap_build.specs.declared.edge_table.EdgeTable.{EdgeTable}
use Rattle.tgap_build.specs.declared.live_edges.Made.{Made}
use Rattle.tgap_build.specs.Table.{faced, labelled_edges, table_edges, IsTable, IsHeld, moved_edge, left_by}
use Rattle.tgap_build.specs.Running.{AreRunning, relabelled}
use Rattle.tgap_build.specs.Changes.{HasGrown, born_chains, count_at, losing_keys, part_keys, whole_of, made_of, is_changed, is_part_of, HasJoined, IsChange}
use Rattle.tgap_build.proofs.Alive.{key_within}
use Rattle.tgap_build.proofs.Born.{within}
use Rattle.tgap_build.proofs.ChangedChains.{lost, joined_all, merged_faces, made_sorted}
use Rattle.tgap_build.proofs.EachLive.{before_live}
use Rattle.tgap_build.proofs.EdgeTables.{ascending}
use Rattle.tgap_build.proofs.Exchange.{any_parts, any_permuted, exchanged}
use Rattle.tgap_build.proofs.Joining.{joined_none}
use Rattle.tgap_build.proofs.KeyedEdges.{Ascend}
use Rattle.tgap_build.proofs.LostEdges.{lost_made}
use Rattle.tgap_build.proofs.Sided.{side_test}
use Rattle.tgap_build.proofs.StepTable.{merge_loser}
use Rattle.tgap_build.proofs.TableLive.{labels_live, counts_few}

module _ (f : EdgeForest) (k old : ℕ) (some : 0 < k) (grown : HasGrown f k old) (t0 t1 : EdgeTable) (r : AreRunning f (k - 1) (removals_to (merged f.base) (k - 1)) t0) (s : MergeStep)
    (is : s ≡ step_number (merged f.base) k) (table : IsTable t1) (edges : table_edges t1 ≡ map (relabelled s) (left_by s (table_edges t0)))
    (labelled : labelled_edges t1 ≡ map (moved_edge (label_of t0.labels s.loser) (label_of t0.labels s.winner))
    (filter (λ e. not (is_edge_between s.loser s.winner (faced t0.labels e))) (labelled_edges t0)))
    (losing : List ℕ) (losing_told : losing ≡ keys (filter (has_side s.loser) (left_by s (table_edges t0))))
    (ended : List Edge) (ended_told : ended ≡ filter (is_edge_between s.loser s.winner) (table_edges t0)) where
  abbrev h : MergedMap
  h = merged f.base

  abbrev before : List Removal
  before = removals_to h (k - 1)

  abbrev finer_edges : List Edge
  finer_edges = edges_of h (k - 1) before (chains_at h (k - 1))

  abbrev w : IsForest f
  w = grown.forest

  pub losing_are : losing ≡ losing_keys (merged f.base) k
  losing_are =
      losing_told
      ∙ ap (λ (x : MergeStep). keys (filter (has_side x.loser) (left_by x (table_edges t0)))) is
      ∙ ap (λ (es : List Edge). keys (filter (has_side (step_number h k).loser) (left_by (step_number h k) es))) r.edges

  pub ended_are : ended ≡ filter (is_edge_between (step_number (merged f.base) k).loser (step_number (merged f.base) k).winner)
      (edges_of (merged f.base) (k - 1) (removals_to (merged f.base) (k - 1)) (chains_at (merged f.base) (k - 1)))
  ended_are =
      ended_told
      ∙ ap (λ (x : MergeStep). filter (is_edge_between x.loser x.winner) (table_edges t0)) is
      ∙ ap (filter (is_edge_between (step_number h k).loser (step_number h k).winner)) r.edges

  pub first_joined : HasJoined (merged f.base) k (labelled_edges t1) [] t1
  first_joined = joined_none f k old some grown t1 table (
      edges
      ∙ ap (λ (x : MergeStep). map (relabelled x) (left_by x (table_edges t0))) is
      ∙ ap (λ (es : List Edge). map (relabelled (step_number h k)) (left_by (step_number h k) es)) r.edges
      ∙ merged_faces f k old some grown
      )

  module _ (t : EdgeTable) (state : HasJoined (merged f.base) k (labelled_edges t1) (born_chains f k old (length f.edges)) t) where
    ascend : Ascend (labelled_edges t)
    ascend = ascending t.places.items state.table.keyed

    pub edges_now : table_edges t ≡ edges_of (merged f.base) k (removals_to (merged f.base) (k - 1)) (chains_at (merged f.base) k)
    edges_now = joined_all f k old some grown (labelled_edges t1) t ascend state

    pub live_now : AreLive (labelled_edges t)
    live_now = labels_live t.labels (labelled_edges t) (subst AreLive (sym edges_now) (before_live f.base w.base w.partition k some (within f k old some grown)))

    pub few_now : (i : ℕ) → count_at t.places.items i < 2 ^ 32
    few_now = counts_few t.places.items live_now

    module _ (places : length t.places.items ≡ length f.base.arcs) where
      pub losing_room : All (λ i. i < length t.places.items) losing
      losing_room = all_members (λ i. i < length t.places.items) losing (λ i m.
          let e = map_among (λ (e : Edge). e.key) (filter (has_side (step_number h k).loser) (left_by (step_number h k) finer_edges)) i (subst (Among i) losing_are m) in
          let c = map_among (edge_of h (k - 1) before) (chains_at h (k - 1)) e.0 (kept_among (λ (e : Edge). not (is_edge_between (step_number h k).loser (step_number h k).winner e)) finer_edges e.0
          (kept_among (has_side (step_number h k).loser) (left_by (step_number h k) finer_edges) e.0 e.1)) in
          omega (arith, key_within h (k - 1) c.0 c.1, ap (λ (e : Edge). e.key) c.2, e.2, places))

      module _ (joined : List ℕ) (joined_told : IsPermutation (flat_map (part_keys (merged f.base) k) (born_chains f k old (length f.edges))) joined) where
        joined_is : (i : ℕ) → list_any (λ j. j == i) joined ≡ is_part_of (chains_at h (k - 1)) (born_chains f k old (length f.edges)) i
        joined_is i =
            any_permuted (λ j. j == i) (flat_map (part_keys h k) (born_chains f k old (length f.edges))) joined joined_told
            ∙ any_parts h k (born_chains f k old (length f.edges)) i

        module _ (made sorted : List Made) (made_told : made ≡ map (made_of (merged f.base) k) (born_chains f k old (length f.edges))
            ++ map (whole_of t.places.items s losing) (filter (λ i. not (list_any (λ j. j == i) joined)) losing)) (moved : IsPermutation made sorted) (order : IsNonDecreasingBy (λ (o : Made). o.key) sorted) where
          raw_is : made ≡ map (made_of h k) (born_chains f k old (length f.edges) ++ lost f k old some grown)
          raw_is =
              made_told
              ∙ ap₂ (λ (x : MergeStep) (is : List ℕ). map (made_of h k) (born_chains f k old (length f.edges)) ++ map (whole_of t.places.items x losing) is) is
              (filter_agree_on (λ i. not (list_any (λ j. j == i) joined)) (λ i. not (is_part_of (chains_at h (k - 1)) (born_chains f k old (length f.edges)) i)) losing
              (all_members (λ i. not (list_any (λ j. j == i) joined) ≡ not (is_part_of (chains_at h (k - 1)) (born_chains f k old (length f.edges)) i)) losing (λ i m. ap not (joined_is i))))
              ∙ ap (λ (os : List Made). map (made_of h k) (born_chains f k old (length f.edges)) ++ os) (lost_made f k old some grown t state.table edges_now losing losing_are)
              ∙ sym (map-append (made_of h k) (born_chains f k old (length f.edges)) (lost f k old some grown))

          pub made_are : sorted ≡ map (made_of (merged f.base) k) (filter (is_changed (merged f.base) k) (chains_at (merged f.base) k))
          made_are = made_sorted f k old some grown sorted (subst (λ (os : List Made). IsPermutation os sorted) raw_is moved) order

          pub exchange : IsChange (labelled_edges t0) (joined ++ losing ++ keys ended) (edges_at t.places.items (map (λ (o : Made). o.key) sorted)) (labelled_edges t)
          exchange =
              exchanged f k old some grown t0.labels (label_of t0.labels s.loser) (label_of t0.labels s.winner) (labelled_edges t0) (labelled_edges t1) (ascending t0.places.items r.table.keyed) r.edges
              (all_members (λ (e : Edge). has_side (label_of t0.labels s.loser) e ≡ has_side (step_number h k).loser (faced t0.labels e)) (labelled_edges t0) (λ e m.
              let held = members_all (IsHeld t0.labels t0.beside.items) (labelled_edges t0) e r.table.each m in
              side_test t0.labels s.loser e (merge_loser f w k some (within f k old some grown) before t0 r s is).1 (record { left = held.left; right = held.right })
              ∙ ap (λ (x : MergeStep). has_side x.loser (faced t0.labels e)) is))
              (labelled ∙ ap (λ (x : MergeStep). map (moved_edge (label_of t0.labels s.loser) (label_of t0.labels s.winner)) (filter (λ e. not (is_edge_between x.loser x.winner (faced t0.labels e))) (labelled_edges t0))) is)
              t ascend state sorted made_are joined losing ended joined_is losing_are ended_are
