-- An edge that loses a point in a step borders the new face and has a small corner, so it is one of the candidates.
use Rattle.std.proofs.Common.{◌≡◌, ◌∙◌, ℕ, ◌-◌, ◌<◌, ℤ, ◌&&◌, Bool, true, false, List, map, filter, AllPairs, Contains, refl, sym, ap, ap₂, subst, true≢false}
use Rattle.std.specs.Prelude.{flat_map, option_to_list}
use Rattle.std.proofs.lemmas.Bool.{and_parts}
use Rattle.lemmas.proofs.Members.{filter_agree_on}
use Rattle.tgap_model.specs.declared.geometry.Point.{Point}
use Rattle.tgap_model.specs.declared.slice.Edge.{Edge}
use Rattle.tgap_model.specs.declared.slice.Removal.{Removal}
use Rattle.tgap_model.specs.Merged.{merged, step_number}
use Rattle.tgap_model.specs.Removals.{has_side, is_removed, sweep, removals_to, without}
use Rattle.map_laws.proofs.ChainMembers.{Among}
use Rattle.map_laws.proofs.Lists.{all_members, members_all, among_map}
use Rattle.removal_laws.specs.Trace.{step_area, edges_before_sweep}
use Rattle.removal_laws.proofs.ChainEnds.{contained}
use Rattle.grid_index.specs.Keyed.{edge_in}
use Rattle.grid_index.specs.Live.{keys}
use Rattle.edge_forest.specs.FaceLabels.{label_of}
use Rattle.edge_forest.specs.Forest.{EdgeForest}
use Rattle.vertex_drop.specs.Corners.{has_small_corner}
use Rattle.tgap_build.specs.declared.edge_table.EdgeTable.{EdgeTable}
use Rattle.tgap_build.specs.Built.{HasRemoved}
use Rattle.tgap_build.specs.Table.{faced, labelled_edges}
use Rattle.tgap_build.specs.Running.{AreRunning, has_point, has_any}
use Rattle.tgap_build.proofs.Covered.{covered}
use Rattle.tgap_build.proofs.Filters.{filter_both}
use Rattle.tgap_build.proofs.LessEdges.{less_points}
use Rattle.tgap_build.proofs.StepSweep.{last, made_sides, swept_list}
use Rattle.tgap_build.proofs.Tables.{map_flat}
use Rattle.tgap_build.proofs.WideEdges.{none_of_all, wide_stay}

module _ (f : EdgeForest) (k : ℕ) (some : 0 < k) (made : f.made ≡ k) (t : EdgeTable) (r : AreRunning f k (removals_to (merged f.base) (k - 1)) t)
    (removed : HasRemoved f (k - 1)) (ratio label : ℕ) (area : ℤ) (list : List Removal) (ratio_is : ratio ≡ f.base.rules.ratio) (label_is : label ≡ label_of t.labels (step_number (merged f.base) k).made)
    (area_is : area ≡ step_area (merged f.base) k) (told : list ≡ map (λ p. record { point = p; step = k }) (sweep ratio area label (labelled_edges t)))
    (gone : List Point) (same : (p : Point) → has_point gone p ≡ is_removed list p) where
  -- an edge that may lose no vertex has none of the points that go
  none_lost : (e : Edge) → Among e (labelled_edges t) → (has_side label e && has_small_corner ratio area e.points) ≡ false → has_any gone e ≡ false
  none_lost e m off =
      none_of_all (has_point gone) e.points
      (less_points gone list same e.points
      ∙ members_all
      (λ (d : Edge). (has_side (step_number (merged f.base) k).made d && has_small_corner f.base.rules.ratio (step_area (merged f.base) k) d.points) ≡ false → without list d.points ≡ d.points)
      (edges_before_sweep (merged f.base) k) (faced t.labels e)
      (wide_stay f.base r.forest.base r.forest.partition k some (last f k some made t r) list (swept_list f k some made t r removed ratio label area list ratio_is label_is area_is told))
      (subst (Among (faced t.labels e)) r.edges (among_map (faced t.labels) (labelled_edges t) e m))
      (sym (ap₂ (λ (a b : Bool). a && b)
      (ap (λ (l : ℕ). has_side l e) label_is ∙ made_sides f k some made t r e m)
      (ap₂ (λ (n : ℕ) (z : ℤ). has_small_corner n z e.points) ratio_is area_is)) ∙ off))

  loses : (e : Edge) → Among e (labelled_edges t) → has_any gone e ≡ true → (has_side label e ≡ true) × (has_small_corner ratio area e.points ≡ true)
  loses e m h = by (has_side label e && has_small_corner ratio area e.points) refl
    where
      by : (b : Bool) → (has_side label e && has_small_corner ratio area e.points) ≡ b → (has_side label e ≡ true) × (has_small_corner ratio area e.points ≡ true)
      by true is = and_parts (has_side label e) (has_small_corner ratio area e.points) is
      by false is = absurd (true≢false (sym h ∙ none_lost e m is))

  -- those among the candidates are all that lose a point
  pub losing_border : (ks : List ℕ) → AllPairs (λ i j. i < j) ks
      → ((e : Edge) → Contains (labelled_edges t) e → has_side label e ≡ true → has_small_corner ratio area e.points ≡ true → Contains ks e.key)
      → flat_map (λ j. keys (filter (has_any gone) (option_to_list (edge_in t.places.items j)))) ks ≡ keys (filter (has_any gone) (filter (has_side label) (labelled_edges t)))
  losing_border ks up small =
      sym (map_flat (λ (e : Edge). e.key) (λ j. filter (has_any gone) (option_to_list (edge_in t.places.items j))) ks)
      ∙ ap keys (covered (has_any gone) t.places.items r.table.keyed ks up
      (all_members (λ (e : Edge). has_any gone e ≡ true → Contains ks e.key) (labelled_edges t) (λ e m h.
      let both = loses e m h in
      small e (contained (labelled_edges t) e m) both.0 both.1))
      ∙ filter_agree_on (has_any gone) (λ (e : Edge). has_any gone e && has_side label e) (labelled_edges t)
      (all_members (λ (e : Edge). has_any gone e ≡ (has_any gone e && has_side label e)) (labelled_edges t) (λ e m. agree e m (has_any gone e) refl))
      ∙ sym (filter_both (has_any gone) (has_side label) (labelled_edges t)))
    where
      agree : (e : Edge) → Among e (labelled_edges t) → (b : Bool) → has_any gone e ≡ b → b ≡ (b && has_side label e)
      agree e m true h = sym (loses e m h).0
      agree e m false h = refl
