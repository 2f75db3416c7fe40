-- What a sweep over the labelled edges of the table removes is what the step removes, and what is left of them.
use Rattle.std.proofs.Common.{◌≡◌, ℕ, ◌-◌, ◌<◌, ◌≤◌, ◌&&◌, ℤ, Bool, List, map, length, refl, sym, ap, ◌∙◌, subst, arith}
use Rattle.tgap_model.specs.declared.geometry.Point.{Point}
use Rattle.tgap_model.specs.declared.merge.MergeStep.{MergeStep}
use Rattle.tgap_model.specs.declared.slice.Edge.{Edge}
use Rattle.tgap_model.specs.declared.slice.Removal.{Removal}
use Rattle.tgap_model.specs.History.{history_of}
use Rattle.tgap_model.specs.Merged.{MergedMap, merged, step_number}
use Rattle.tgap_model.specs.Chains.{chains_at}
use Rattle.tgap_model.specs.Removals.{edges_of, has_side, is_removed, sweep, removals_to}
use Rattle.map_laws.proofs.ChainMembers.{Among}
use Rattle.map_laws.proofs.Lists.{members_all}
use Rattle.removal_laws.specs.Trace.{step_area}
use Rattle.step_laws.proofs.StepRemovals.{step_list}
use Rattle.grid_index.specs.Live.{AreLive}
use Rattle.edge_forest.specs.FaceLabels.{label_of, HasLabel}
use Rattle.edge_forest.specs.Forest.{EdgeForest, IsForest}
use Rattle.tgap_build.specs.declared.edge_table.EdgeTable.{EdgeTable}
use Rattle.tgap_build.specs.Built.{HasRemoved}
use Rattle.tgap_build.specs.Table.{faced, labelled_edges, table_edges, IsHeld}
use Rattle.tgap_build.specs.Running.{AreRunning, has_point, has_any}
use Rattle.tgap_build.specs.Changes.{less_where}
use Rattle.tgap_build.proofs.EachLive.{before_live}
use Rattle.tgap_build.proofs.LabelSweeps.{label_sweep}
use Rattle.tgap_build.proofs.LessEdges.{less_removals, faced_less}
use Rattle.tgap_build.proofs.Sided.{side_test}
use Rattle.tgap_build.proofs.StepTable.{made_live}
use Rattle.tgap_build.proofs.Swept.{list_is}
use Rattle.tgap_build.proofs.TableLive.{labels_live}
use Rattle.tgap_build.proofs.Taken.{taken_is}
use Rattle.tgap_build.proofs.WideEdges.{others_stay}

module _ (f : EdgeForest) (k : ℕ) (some : 0 < k) (made : f.made ≡ k) (t : EdgeTable) (r : AreRunning f k (removals_to (merged f.base) (k - 1)) t) where
  abbrev h : MergedMap
  h = merged f.base

  abbrev s : MergeStep
  s = step_number h k

  abbrev w : IsForest f
  w = r.forest

  pub last : k ≤ length (history_of f.base)
  last = omega (arith, made, w.steps)

  pub has_made : HasLabel t.labels (step_number (merged f.base) k).made
  has_made = r.labels s.made (made_live f.base w.base w.partition k some last)

  -- the label tells which edges have the new face
  pub made_sides : (e : Edge) → Among e (labelled_edges t) → has_side (label_of t.labels (step_number (merged f.base) k).made) e ≡ has_side (step_number (merged f.base) k).made (faced t.labels e)
  made_sides e m =
      let held = members_all (IsHeld t.labels t.beside.items) (labelled_edges t) e r.table.each m in
      side_test t.labels s.made e has_made (record { left = held.left; right = held.right })

  pub labelled_live : AreLive (labelled_edges t)
  labelled_live = labels_live t.labels (labelled_edges t) (subst AreLive (sym r.edges) (before_live f.base w.base w.partition k some last))

  module _ (removed : HasRemoved f (k - 1)) (ratio label : ℕ) (area : ℤ) (list : List Removal) (ratio_is : ratio ≡ f.base.rules.ratio) (label_is : label ≡ label_of t.labels (step_number (merged f.base) k).made)
      (area_is : area ≡ step_area (merged f.base) k) (told : list ≡ map (λ p. record { point = p; step = k }) (sweep ratio area label (labelled_edges t))) where
    pub told_faces : list ≡ map (λ p. record { point = p; step = k }) (sweep ratio area (step_number (merged f.base) k).made (table_edges t))
    told_faces =
        told
        ∙ ap (λ (l : ℕ). map (λ p. record { point = p; step = k }) (sweep ratio area l (labelled_edges t))) label_is
        ∙ ap (map (λ p. record { point = p; step = k })) (label_sweep t.labels ratio area (label_of t.labels s.made) s.made (labelled_edges t) made_sides)

    pub swept_list : list ≡ step_list f.base w.base w.partition k some last
    swept_list = list_is f k w.base w.partition some last removed (table_edges t) r.edges ratio s.made area list ratio_is refl area_is told_faces

    module _ (gone : List Point) (same : (p : Point) → has_point gone p ≡ is_removed list p) where
      -- the labelled edges less the points that go, with faces, are those after the step
      pub less_faces : map (faced t.labels) (map (less_where gone (λ (e : Edge). has_any gone e && has_side label e)) (labelled_edges t))
          ≡ edges_of (merged f.base) k (removals_to (merged f.base) k) (chains_at (merged f.base) k)
      less_faces =
          faced_less t.labels gone (λ (e : Edge). has_any gone e && has_side label e) (λ (e : Edge). has_any gone e && has_side s.made e) (labelled_edges t)
          (λ e m. ap (λ (b : Bool). has_any gone e && b) (ap (λ (l : ℕ). has_side l e) label_is ∙ made_sides e m))
          ∙ ap (map (less_where gone (λ (e : Edge). has_any gone e && has_side s.made e))) r.edges
          ∙ less_removals gone list same s.made (edges_of h k (removals_to h (k - 1)) (chains_at h k)) (others_stay f.base w.base w.partition k some last list swept_list)
          ∙ taken_is f.base w.base w.partition k some last list swept_list
