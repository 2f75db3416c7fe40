-- When the keys of a step have been visited, the edges between its loser and its winner are out.
use Rattle.std.proofs.Common.{◌≡◌, ◌≢◌, ◌⊎◌, inl, inr, ℕ, suc, ◌+◌, ◌-◌, ◌<◌, ◌≤◌, Bool, true, false, cond, List, [], map, length, get_or, set, Option, Some, None, refl, sym, ap, ◌∙◌, subst, subst₂, arith, ◌↔◌}
use Rattle.std.specs.Prelude.{Contains}
use Rattle.std.proofs.lemmas.Bool.{cases_eq}
use Rattle.std.proofs.lemmas.List.{ext_get_or, get_or-map, get_or-set_other, length-map, length-set}
use Rattle.std.proofs.lemmas.List.Elements.{All-get_or}
use Rattle.lemmas.proofs.Members.{Contains-filter}
use Rattle.tgap_model.specs.declared.merge.MergeStep.{MergeStep}
use Rattle.tgap_model.specs.Base.{BaseMap}
use Rattle.tgap_model.specs.History.{relabel, history_of, IsNumberedStep, AreNumbered}
use Rattle.tgap_model.specs.Merged.{MergedMap, merged, label_at, step_number}
use Rattle.tgap_model.specs.Chains.{Chain, arc_number, chains_at}
use Rattle.tgap_model.proofs.BaseFacts.{ArcFacts, base_facts, each_arc}
use Rattle.map_laws.proofs.MergeSteps.{numbered_at, label_next, label_bounded}
use Rattle.face_merge.proofs.Start.{history_numbered}
use Rattle.face_merge.proofs.Steps.{length-history_of}
use Rattle.edge_forest.specs.declared.edge.ForestEdge.{ForestEdge}
use Rattle.edge_forest.specs.declared.nodes.Nodes.{Nodes}
use Rattle.edge_forest.specs.declared.net.Current.{Current}
use Rattle.edge_forest.specs.declared.face_labels.FaceLabels.{FaceLabels}
use Rattle.edge_forest.specs.declared.face_labels.Sides.{Sides}
use Rattle.edge_forest.specs.declared.growth.Growth.{Growth}
use Rattle.edge_forest.specs.Edges.{edge_at, chains_of, chain_of, alive_edges}
use Rattle.edge_forest.specs.FaceLabels.{face_of, label_of, HasLabel, IsCurrent, sides_of, moved, moved_label}
use Rattle.edge_forest.specs.Forest.{never}
use Rattle.edge_forest.specs.Nodes.{node_at}
use Rattle.edge_forest.specs.Net.{row_at, IsNet}
use Rattle.edge_forest.specs.Rows.{IsRow, AreRows}
use Rattle.edge_forest.specs.Growth.{rows_of, keys_at, keys_with, has_row, is_row_between, relabel_row, row_after, IsTouched, IsLabelled, AreFacesLabelled, IsStored, IsAtRest, IsSettled}
use Rattle.edge_forest.specs.Settle.{IsSettling}
use Rattle.edge_forest.proofs.FewSteps.{few_steps}
use Rattle.edge_forest.proofs.LabelSteps.{has_current, current_has, labels_differ}
use Rattle.edge_forest.proofs.SettledKeys.{read_inside, row_before, row_unchanged, moved_loser, moved_other}
use Rattle.edge_forest.proofs.StepFaces.{step_sides}
use Rattle.edge_forest.proofs.EndedEdges.{same_key, same_low, same_chains, same_alive_chains, same_edge}

-- ---- the step

module _ (g : Growth) (low : ℕ) (s : MergeStep) (some : 0 < low) (within : low ≤ length (history_of g.base)) (is : s ≡ step_number (merged g.base) low)
    (rest : IsAtRest (low - 1) g) where
  abbrev h : MergedMap
  h = merged g.base

  abbrev known : ℕ
  known = length g.base.classes + (low - 1)

  abbrev no_step : MergeStep
  no_step = record { loser = 0; winner = 0; made = 0 }

  numbered : AreNumbered (length g.base.classes) (history_of g.base)
  numbered = history_numbered g.base rest.stored.base

  step_is : IsNumberedStep (length g.base.classes + (low - 1)) s
  step_is = subst (IsNumberedStep known) (sym is) (numbered_at (length g.base.classes) (history_of g.base) (low - 1) no_step numbered (omega (arith, some, within)))

  pub step_small : low < never
  step_small = omega (arith, length-history_of g.base, (base_facts g.base rest.stored.base).few_arcs, within)

  -- ---- the labels of the step

  -- the loser and the winner have labels
  pub sides_known : HasLabel g.labels s.loser × HasLabel g.labels s.winner
  sides_known =
      let both = step_sides g.base rest.stored.base (HasLabel g.labels) (low - 1) no_step (omega (arith, some, within)) rest.stored.faces.each in (
        subst (λ (t : MergeStep). HasLabel g.labels t.loser) (sym is) both.0,
        subst (λ (t : MergeStep). HasLabel g.labels t.winner) (sym is) both.1,
      )

  pub sides_differ : label_of g.labels s.winner ≢ label_of g.labels s.loser
  sides_differ = labels_differ g.labels s.winner s.loser sides_known.1 sides_known.0 (λ e. step_is.differ (sym e))

  -- there is a list for each of their labels
  pub sides_listed : (label_of g.labels s.loser < length g.keys.items) × (label_of g.labels s.winner < length g.keys.items)
  sides_listed = (
    omega (arith, sides_known.0.label, rest.stored.faces.faces_count, rest.stored.faces.lists_count),
    omega (arith, sides_known.1.label, rest.stored.faces.faces_count, rest.stored.faces.lists_count),
  )

  -- and room for that of the new face
  pub made_within : s.made < length g.labels.labels.items
  made_within = omega (arith, step_is.made, within, few_steps g.base rest.stored.base, rest.stored.faces.labels_count)

  abbrev sides : Sides
  sides = sides_of g.labels s

  -- the label after the step
  label_is : (f : ℕ) → label_at h low f ≡ relabel s (label_at h (low - 1) f)
  label_is f =
      let before : low ≡ suc (low - 1) = omega (arith, some) in
      ap (λ (k : ℕ). label_at h k f) before ∙ label_next (history_of g.base) (low - 1) no_step f (omega (arith, some, within))
      ∙ ap (λ (t : MergeStep). relabel t (label_at h (low - 1) f)) (sym is)

  label_within : (f : ℕ) → f ≤ length g.base.classes → label_at h (low - 1) f ≤ known
  label_within f le = label_bounded (length g.base.classes) (history_of g.base) (low - 1) f numbered (omega (arith, within)) le

  arc_within : (i : ℕ) → i < length g.base.arcs → ArcFacts (length g.base.classes) (arc_number g.base.arcs i)
  arc_within i l =
      All-get_or (ArcFacts (length g.base.classes)) g.base.arcs i (record { left = 0; right = 0; points = [] }) l
      (each_arc g.base (base_facts g.base rest.stored.base))

  -- ---- the rows

  module _ (keys : List ℕ) (listed : keys ≡ keys_with g (label_of g.labels s.loser))
      (at_winner : (i : ℕ) → Contains keys i → Contains (keys_at g.keys.items (label_of g.labels s.winner)) i) where
    -- a row with the loser's label has its key in the list
    has_key : (i l : ℕ) → has_row (rows_of g) i ≡ true → Contains (keys_at g.keys.items l) i → l ≡ label_of g.labels s.loser → Contains keys i
    has_key i l there has e =
        subst (λ (ks : List ℕ). Contains ks i) (sym listed)
        (Contains-filter (has_row (rows_of g)) (keys_at g.keys.items (label_of g.labels s.loser)) i (subst (λ (n : ℕ). Contains (keys_at g.keys.items n) i) e has) there)

    row_there : (i : ℕ) (r : Current) → row_at (rows_of g) i ≡ Some r → has_row (rows_of g) i ≡ true
    row_there i r e = ap (λ (x : Option Current). elim x [ None ↦ false | Some r ↦ true ]) e

    module _ (rows : List (Option Current)) (edges : List ForestEdge) (touched : List ℕ) (w : IsSettling (sides_of g.labels s) low keys g rows edges touched) where
      -- each row is that after the step
      each_row : (i : ℕ) → row_at rows i ≡ row_after sides (row_at (rows_of g) i)
      each_row i = elim (w.rows i) [
        | inl e ↦ e
        | inr e ↦ by (row_at (rows_of g) i) refl e
      ]
        where
          by : (x : Option Current) → row_at (rows_of g) i ≡ x → row_at rows i ≡ row_at (rows_of g) i → row_at rows i ≡ row_after sides (row_at (rows_of g) i)
          by None f e = e ∙ f ∙ ap (row_after sides) (sym f)
          by (Some r) f e =
              let labels = rest.stored.labels i r f in
              elim (cases_eq r.left sides.loser) [
                | inl a ↦ w.visited i (has_key i r.left (row_there i r f) labels.left_listed a)
                | inr left ↦ elim (cases_eq r.right sides.loser) [
                  | inl a ↦ w.visited i (has_key i r.right (row_there i r f) labels.right_listed a)
                  | inr right ↦ e ∙ f ∙ sym (row_unchanged sides r left right) ∙ ap (row_after sides) (sym f)
                ]
              ]

      pub all_rows : rows ≡ map (row_after (sides_of g.labels s)) (rows_of g)
      all_rows =
          ext_get_or None rows (map (row_after sides) (rows_of g)) (w.count ∙ sym (length-map (rows_of g) (row_after sides)))
          (λ i l. each_row i ∙ sym (get_or-map (row_after sides) (rows_of g) i None None (omega (arith, l, w.count))))

      -- a row is that of one before the step, not between loser and winner
      row_source : (i : ℕ) (r : Current) → row_at rows i ≡ Some r → (q : Current) × (row_at (rows_of g) i ≡ Some q) × (is_row_between sides q ≡ false) × (relabel_row sides q ≡ r)
      row_source i r e = row_before sides (row_at (rows_of g) i) r (sym (each_row i) ∙ e)

      pub settled_touched : (n : ℕ) → Contains touched n ↔ IsTouched s g n
      settled_touched n = (w.only n, λ t. there t.0 t.1 t.2 t.3 t.4)
        where
          there : (i : ℕ) (r : Current) → row_at (rows_of g) i ≡ Some r → is_row_between sides r ≡ true → (node_at g.nodes r.first ≡ n) ⊎ (node_at g.nodes r.last ≡ n) → Contains touched n
          there i r e between at =
              let gone : row_at rows i ≡ None = each_row i ∙ ap (row_after sides) e ∙ ap (λ (b : Bool). cond b None (Some (relabel_row sides r))) between in
              let both = w.touched i r e gone in
              elim at [
                | inl a ↦ subst (Contains touched) a both.0
                | inr a ↦ subst (Contains touched) a both.1
              ]

      pub settled_rows : AreRows (chains_of edges) rows
      settled_rows i r e =
          let source = row_source i r e in
          let q = source.0 in
          let row = rest.stored.rows i q source.1 in
          let known : IsRow (chains_of g.edges.items) i (relabel_row sides q)
          = record { id = row.id; links = row.links; key = row.key; directed = row.directed; first = row.first; last = row.last } in
          subst (λ (chains : List Chain). IsRow chains i r) (sym (same_chains low g.edges.items edges w.edge_count w.edges))
          (subst (IsRow (chains_of g.edges.items) i) source.3 known)

      -- ---- the labels and the lists

      module _ (t : FaceLabels) (lists : List (List ℕ)) (faces : t.faces.items ≡ set g.labels.faces.items (label_of g.labels s.winner) s.made)
          (labels : t.labels.items ≡ set g.labels.labels.items s.made (label_of g.labels s.winner))
          (follow : (l : ℕ) → IsCurrent g.labels l → face_of g.labels l ≢ s.made
          → IsCurrent t (moved g.labels s l) × (face_of t (moved g.labels s l) ≡ relabel s (face_of g.labels l)))
          (dropped : lists ≡ set g.keys.items (label_of g.labels s.loser) []) where
        -- the label of a face of before stands for what the step makes of the face
        stands : (l f : ℕ) → IsCurrent g.labels l → face_of g.labels l ≡ f → f ≤ known → IsCurrent t (moved_label sides l) × (face_of t (moved_label sides l) ≡ relabel s f)
        stands l f c e le =
            let after = follow l c (λ m. absurd (omega (arith, m, e, le, step_is.made))) in
            (after.0, after.1 ∙ ap (relabel s) e)

        still_listed : (i l : ℕ) → has_row (rows_of g) i ≡ true → Contains (keys_at g.keys.items l) i → Contains (keys_at lists (moved_label sides l)) i
        still_listed i l there has = elim (cases_eq l sides.loser) [
          | inl e ↦
              subst (λ (n : ℕ). Contains (keys_at lists n) i) (sym (moved_loser sides l e))
              (subst (λ (ks : List ℕ). Contains ks i) (sym (others sides.winner sides_differ)) (at_winner i (has_key i l there has e)))
          | inr ne ↦
              subst (λ (n : ℕ). Contains (keys_at lists n) i) (sym (moved_other sides l ne)) (subst (λ (ks : List ℕ). Contains ks i) (sym (others l ne)) has)
        ]
          where
            others : (l : ℕ) → l ≢ sides.loser → keys_at lists l ≡ keys_at g.keys.items l
            others l ne = ap (λ (ls : List (List ℕ)). keys_at ls l) dropped ∙ get_or-set_other g.keys.items sides.loser l [] [] ne

        pub settled_labels : (i : ℕ) (r : Current) → row_at rows i ≡ Some r → IsLabelled (merged g.base) low t lists i r
        settled_labels i r e =
            let source = row_source i r e in
            let q = source.0 in
            let before = rest.stored.labels i q source.1 in
            let arc = arc_within i (omega (arith, read_inside (rows_of g) i q source.1, rest.stored.count)) in
            let left = stands q.left _ before.left_current before.left (label_within (arc_number g.base.arcs i).left arc.left) in
            let right = stands q.right _ before.right_current before.right (label_within (arc_number g.base.arcs i).right arc.right) in
            let after : IsLabelled (merged g.base) low t lists i (relabel_row sides q) = record {
              left = left.1 ∙ sym (label_is (arc_number g.base.arcs i).left);
              right = right.1 ∙ sym (label_is (arc_number g.base.arcs i).right);
              left_current = left.0;
              right_current = right.0;
              left_listed = still_listed i q.left (row_there i q source.1) before.left_listed;
              right_listed = still_listed i q.right (row_there i q source.1) before.right_listed;
            } in
            subst (IsLabelled (merged g.base) low t lists i) source.3 after

        pub settled_faces : AreFacesLabelled (merged g.base) low t lists
        settled_faces = record {
          lists_count = ap length dropped ∙ length-set g.keys.items sides.loser [] ∙ rest.stored.faces.lists_count;
          faces_count = ap length faces ∙ length-set g.labels.faces.items sides.winner s.made ∙ rest.stored.faces.faces_count;
          labels_count = ap length labels ∙ length-set g.labels.labels.items s.made sides.winner ∙ rest.stored.faces.labels_count;
          each = λ f le.
              let before = rest.stored.faces.each f le in
              let after = stands (label_of g.labels (label_at h (low - 1) f)) (label_at h (low - 1) f) (has_current g.labels (label_at h (low - 1) f) before) before.exact (label_within f le) in
              subst (HasLabel t) (sym (label_is f)) (current_has t _ (relabel s (label_at h (low - 1) f)) after.0 after.1);
        }

      -- ---- the edges

      pub settled_low : (i : ℕ) → i < length edges → (edge_at edges i).low ≤ low
      settled_low i l =
          omega (arith, same_low low g.edges.items edges w.edge_count w.edges i l, rest.stored.low i (omega (arith, l, w.edge_count)))

      pub settled_high : (i : ℕ) → i < length edges → ((edge_at edges i).high ≤ low) ⊎ ((edge_at edges i).high ≡ never)
      settled_high i l = elim (w.edges i l) [
        | inl e ↦
            let high : (edge_at edges i).high ≡ (edge_at g.edges.items i).high = ap (λ (c : ForestEdge). c.high) e in
            elim (rest.stored.high i (omega (arith, l, w.edge_count))) [
              | inl le ↦ inl (omega (arith, high, le))
              | inr n ↦ inr (high ∙ n)
            ]
        | inr e ↦ inl (omega (arith, ap (λ (c : ForestEdge). c.high) e.1))
      ]

      pub settled_order : (i : ℕ) → i < length edges → (edge_at edges i).low ≤ (edge_at edges i).high
      settled_order i l = elim (w.edges i l) [
        | inl e ↦ rw e (rest.stored.order i (omega (arith, l, w.edge_count)))
        | inr e ↦
            omega (arith, rest.stored.low i (omega (arith, l, w.edge_count)), ap (λ (c : ForestEdge). c.low) e.1, ap (λ (c : ForestEdge). c.high) e.1)
      ]

      pub settled_longer : (i j : ℕ) → i < j → j < length edges → (edge_at edges i).key ≡ (edge_at edges j).key → length (chain_of edges i) < length (chain_of edges j)
      settled_longer i j less l e =
          subst (λ (chains : List Chain). length (get_or chains i []) < length (get_or chains j [])) (sym (same_chains low g.edges.items edges w.edge_count w.edges))
          (rest.stored.longer i j less (omega (arith, l, w.edge_count))
          (sym (same_key low g.edges.items edges w.edge_count w.edges i (omega (arith, less, l))) ∙ e ∙ same_key low g.edges.items edges w.edge_count w.edges j l))

      pub settled_latest : (i : ℕ) (r : Current) → row_at rows i ≡ Some r → (j : ℕ) → j < length edges → (edge_at edges j).key ≡ i → j ≤ r.id
      settled_latest i r e j l k =
          let source = row_source i r e in
          let before = rest.stored.latest i source.0 source.1 j (omega (arith, l, w.edge_count)) (sym (same_key low g.edges.items edges w.edge_count w.edges j l) ∙ k) in
          omega (arith, before, ap (λ (c : Current). c.id) source.3)

      pub settled_past : (j : ℕ) → j < low → map (chain_of edges) (alive_edges edges j) ≡ chains_at (merged g.base) j
      settled_past j less = same_alive_chains low g.edges.items edges w.edge_count w.edges step_small j less ∙ elim (cases_eq j (low - 1)) [
        | inl e ↦ rw e rest.alive
        | inr ne ↦ rest.stored.past j (omega (arith, less, ne))
      ]

    -- ---- together

    module _ (g' : Growth) (base : g'.base ≡ g.base) (nodes : g'.nodes ≡ g.nodes) (touched : List ℕ) (w : IsSettling (sides_of g.labels s) low keys g (rows_of g') g'.edges.items touched) where
      pub settled : IsSettled s g g' touched
      settled = record {
        base = base;
        nodes = nodes;
        rows = all_rows (rows_of g') g'.edges.items touched w;
        chains = same_chains low g.edges.items g'.edges.items w.edge_count w.edges;
        nodes_touched = settled_touched (rows_of g') g'.edges.items touched w;
      }

      module _ (net : IsNet g'.nodes g'.net) (faces : g'.labels.faces.items ≡ set g.labels.faces.items (label_of g.labels s.winner) s.made)
          (labels : g'.labels.labels.items ≡ set g.labels.labels.items s.made (label_of g.labels s.winner))
          (follow : (l : ℕ) → IsCurrent g.labels l → face_of g.labels l ≢ s.made
          → IsCurrent g'.labels (moved g.labels s l) × (face_of g'.labels (moved g.labels s l) ≡ relabel s (face_of g.labels l)))
          (dropped : g'.keys.items ≡ set g.keys.items (label_of g.labels s.loser) []) where
        stored_at : IsStored low (record g' { base = g.base; nodes = g.nodes })
        stored_at = record {
          base = rest.stored.base;
          partition = rest.stored.partition;
          steps = within;
          nodes = rest.stored.nodes;
          net = subst (λ (n : Nodes). IsNet n g'.net) nodes net;
          count = w.count ∙ rest.stored.count;
          faces = settled_faces (rows_of g') g'.edges.items touched w g'.labels g'.keys.items faces labels follow dropped;
          edges = λ i l. same_edge low g.edges.items g'.edges.items w.edge_count w.edges (merged g.base) i l (rest.stored.edges i (omega (arith, l, w.edge_count)));
          low = settled_low (rows_of g') g'.edges.items touched w;
          high = settled_high (rows_of g') g'.edges.items touched w;
          order = settled_order (rows_of g') g'.edges.items touched w;
          longer = settled_longer (rows_of g') g'.edges.items touched w;
          latest = settled_latest (rows_of g') g'.edges.items touched w;
          rows = settled_rows (rows_of g') g'.edges.items touched w;
          labels = settled_labels (rows_of g') g'.edges.items touched w g'.labels g'.keys.items faces labels follow dropped;
          of_edges = w.of_edges;
          of_rows = w.of_rows;
          past = settled_past (rows_of g') g'.edges.items touched w;
        }

        pub stored : IsStored low g'
        stored = subst₂ (λ (b : BaseMap) (n : Nodes). IsStored low (record g' { base = b; nodes = n })) (sym base) (sym nodes) stored_at
