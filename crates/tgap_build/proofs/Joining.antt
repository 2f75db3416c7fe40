-- While the new edges of a step are joined: of which edges of the table the next one is made, and what the table has then and at the end.
use Rattle.std.proofs.Common.{◌≡◌, ◌≢◌, inl, inr, ℕ, suc, ◌+◌, ◌-◌, ◌<◌, ◌≤◌, ◌==◌, ◌&&◌, ◌||◌, Bool, true, false, cond, not, List, [], ◌∷◌, ◌++◌, append_assoc, map, filter, length, sum_by, All, AllPairs, Contains, IsPermutation, Option, Some, None, eq-eqb, refl, sym, ap, ap₂, ◌∙◌, subst, true≢false, arith}
use Rattle.std.specs.List.{list_any}
use Rattle.std.proofs.lemmas.Bool.{eqb-true, eqb-false, or_parts, false_from_ne_true}
use Rattle.std.proofs.lemmas.List.Folds.{list_any-append}
use Rattle.std.proofs.lemmas.List.{append-nil, map-append}
use Rattle.std.proofs.lemmas.List.Elements.{filter-append}
use Rattle.std.proofs.lemmas.List.Sorted.{Contains-permutation, IsPermutation-refl, IsPermutation-trans, IsPermutation-append_left}
use Rattle.lemmas.proofs.Members.{filter_agree_on}
use Rattle.lemmas.proofs.Permutations.{IsPermutation-filter}
use Rattle.tgap_model.specs.declared.geometry.Point.{Point}
use Rattle.tgap_model.specs.declared.slice.Edge.{Edge}
use Rattle.tgap_model.specs.declared.slice.Removal.{Removal}
use Rattle.tgap_model.specs.History.{history_of}
use Rattle.tgap_model.specs.Merged.{MergedMap, merged, label_at, step_number}
use Rattle.tgap_model.specs.Chains.{Chain, arc_number, chain_points, key, chains_at}
use Rattle.tgap_model.specs.Removals.{edge_of, edges_of, has_side, removals_to, without}
use Rattle.tgap_model.specs.Records.{is_edge_between, runs}
use Rattle.map_laws.specs.ChainLaws.{chains_left}
use Rattle.map_laws.proofs.ChainMembers.{Among, any_among, filter_among, among_left}
use Rattle.map_laws.proofs.Lists.{all_members, any_from, kept_among, among_kept, map_among, among_map}
use Rattle.removal_laws.proofs.ChainEnds.{contained, among_contained}
use Rattle.grid_index.specs.Keyed.{edge_in, edges_in, AreAtKeys}
use Rattle.grid_index.specs.Live.{keys, without_keys}
use Rattle.record_laws.specs.RunLaws.{chain_of_run}
use Rattle.record_laws.proofs.Holders.{arc_once_in, same_key}
use Rattle.record_laws.proofs.StepFacts.{whole_chain, run_is_part, run_member}
use Rattle.edge_forest.specs.FaceLabels.{face_of}
use Rattle.edge_forest.specs.Edges.{edge_at, chain_of, is_alive}
use Rattle.edge_forest.specs.Forest.{EdgeForest, IsForest}
use Rattle.tgap_build.specs.declared.edge_table.EdgeTable.{EdgeTable}
use Rattle.tgap_build.specs.declared.joined.OldEdge.{OldEdge}
use Rattle.tgap_build.specs.Table.{faced, labelled_edges, IsTable, edge_with, joined_row, joined_edge, old_keys, left_by}
use Rattle.tgap_build.specs.OldEdges.{old_chains}
use Rattle.tgap_build.specs.Changes.{HasGrown, born_chains, part_pieces, count_at, side_with, losing_keys, made_of, is_part_of, HasJoined}
use Rattle.tgap_build.proofs.Alive.{alive_chain}
use Rattle.tgap_build.proofs.Filters.{filter_all, filter_both}
use Rattle.tgap_build.proofs.KeyedEdges.{pairs_mapped}
use Rattle.tgap_build.proofs.OldParts.{runs_are, parts_read}
use Rattle.tgap_build.proofs.StepPieces.{old_edge, pieces_are, row_is, places_are}
use Rattle.tgap_build.proofs.Born.{up_to, within, new_chain, many_runs, only_key, only_part, own_key, run_keys_apart, part_of, born_known, born_here, run_left}

-- ---- lists

pub permuted : {A : Type 0} (xs ys : List A) (x : A) → IsPermutation xs ys → Among x xs → Among x ys
permuted xs ys x h m = among_contained ys x (Contains-permutation xs ys x h (contained xs x m))

-- an edge of a table stands at the place of its key
placed_from : (places : List (Option Edge)) (e : Edge) → Among e (edges_in places) → (i : ℕ) × (edge_in places i ≡ Some e)
placed_from [] e m = absurd m
placed_from (None ∷ xs) e m = let r = placed_from xs e m in (suc r.0, r.1)
placed_from (Some x ∷ xs) e (inl s) = (0, ap (λ (y : Edge). Some y) s)
placed_from (Some x ∷ xs) e (inr m) = let r = placed_from xs e m in (suc r.0, r.1)

pub placed : (places : List (Option Edge)) → AreAtKeys places → (e : Edge) → Among e (edges_in places) → edge_in places e.key ≡ Some e
placed places keyed e m = let r = placed_from places e m in subst (λ (i : ℕ). edge_in places i ≡ Some e) (sym (keyed r.0 e r.1)) r.1

pub placed_with : (places : List (Option Edge)) → AreAtKeys places → (e : Edge) → Among e (edges_in places) → (k : ℕ) → e.key ≡ k → edge_with places k ≡ e
placed_with places keyed e m k same =
    ap (edge_with places) (sym same)
    ∙ ap (λ (o : Option Edge). elim o [ None ↦ record { key = e.key; left = 0; right = 0; points = [] } | Some x ↦ x ]) (placed places keyed e m)

any_mapped : {A B : Type 0} (p : B → Bool) (f : A → B) (xs : List A) → list_any p (map f xs) ≡ list_any (λ x. p (f x)) xs
any_mapped p f [] = refl
any_mapped p f (x ∷ xs) = ap (λ (b : Bool). p (f x) || b) (any_mapped p f xs)

or_none : (b : Bool) → (b || false) ≡ b
or_none true = refl
or_none false = refl

not_both : (a b : Bool) → (not b && not a) ≡ not (a || b)
not_both true true = refl
not_both true false = refl
not_both false true = refl
not_both false false = refl

-- ---- the loser's edges

-- a chain that the step leaves has its key among those of the loser's edges exactly where it borders the loser
module _ (h : MergedMap) (k : ℕ) where
  abbrev back : Chain → Edge
  back c = edge_of h (k - 1) (removals_to h (k - 1)) c

  abbrev finer_edges : List Edge
  finer_edges = edges_of h (k - 1) (removals_to h (k - 1)) (chains_at h (k - 1))

  abbrev between : Edge → Bool
  between e = is_edge_between (step_number h k).loser (step_number h k).winner e

  pub losing_is : (c : Chain) → Among c (chains_at h (k - 1)) → is_edge_between (step_number h k).loser (step_number h k).winner (edge_of h (k - 1) (removals_to h (k - 1)) c) ≡ false
      → list_any (λ i. i == key c) (losing_keys h k) ≡ has_side (step_number h k).loser (edge_of h (k - 1) (removals_to h (k - 1)) c)
  losing_is c m off = by (has_side (step_number h k).loser (back c)) refl
    where
      rest : List Edge
      rest = filter (has_side (step_number h k).loser) (left_by (step_number h k) finer_edges)

      by : (b : Bool) → has_side (step_number h k).loser (back c) ≡ b → list_any (λ i. i == key c) (losing_keys h k) ≡ b
      by true t =
          any_from (λ i. i == key c) (keys rest) (key c)
          (among_map (λ (e : Edge). e.key) rest (back c) (among_kept (has_side (step_number h k).loser) (left_by (step_number h k) finer_edges) (back c)
          (among_kept (λ (e : Edge). not (between e)) finer_edges (back c) (among_map back (chains_at h (k - 1)) c m) (ap not off)) t))
          (eq-eqb (key c) (key c) refl)
      by false t = false_from_ne_true (list_any (λ i. i == key c) (losing_keys h k)) (λ any.
          let i = any_among (λ i. i == key c) (keys rest) any in
          let e = map_among (λ (e : Edge). e.key) rest i.0 i.1 in
          let d = map_among back (chains_at h (k - 1)) e.0 (kept_among (λ (e : Edge). not (between e)) finer_edges e.0
          (kept_among (has_side (step_number h k).loser) (left_by (step_number h k) finer_edges) e.0 e.1)) in
          let same : d.0 ≡ c = same_key h (k - 1) d.0 c d.1 m (ap (λ (e : Edge). e.key) d.2 ∙ e.2 ∙ eqb-true i.0 (key c) i.2) in
          true≢false (sym (filter_among (has_side (step_number h k).loser) (left_by (step_number h k) finer_edges) e.0 e.1)
          ∙ ap (has_side (step_number h k).loser) (sym d.2 ∙ ap back same) ∙ t))

module _ (f : EdgeForest) (k old : ℕ) (some : 0 < k) (grown : HasGrown f k old) where
  abbrev h : MergedMap
  h = merged f.base

  abbrev finer : List Chain
  finer = chains_at h (k - 1)

  abbrev before : List Removal
  before = removals_to h (k - 1)

  abbrev edge_now : Chain → Edge
  edge_now c = edge_of h k before c

  abbrev is_part : List Chain → Edge → Bool
  is_part bs e = is_part_of finer bs e.key

  abbrev w : IsForest f
  w = grown.forest

  abbrev inside_history : k ≤ length (history_of f.base)
  inside_history = within f k old some grown

  -- nothing is joined yet
  pub joined_none : (t : EdgeTable) → IsTable t
      → map (faced t.labels) (labelled_edges t) ≡ edges_of (merged f.base) k (removals_to (merged f.base) (k - 1)) (chains_left (merged f.base) (k - 1))
      → HasJoined (merged f.base) k (labelled_edges t) [] t
  joined_none t table faces = record {
    table = table;
    left_faces = faces;
    new = [];
    edges = subst (λ (es : List Edge). IsPermutation es (labelled_edges t))
        (sym (append-nil (filter (λ e. not (is_part_of finer [] e.key)) (labelled_edges t)) ∙ filter_all (λ (e : Edge). not (is_part_of finer [] e.key)) (labelled_edges t) (λ e m. refl)))
        (IsPermutation-refl (labelled_edges t));
    new_faces = refl;
  }

  -- ---- one more

  module _ (left : List Edge) (t : EdgeTable) (id : ℕ) (from : old ≤ id) (inside : id < length f.edges) (alive : is_alive k (edge_at f.edges id) ≡ true)
      (state : HasJoined (merged f.base) k left (born_chains f k old id) t) where
    abbrev b : Chain
    b = chain_of f.edges id

    abbrev bs : List Chain
    bs = born_chains f k old id

    abbrev places : List (Option Edge)
    places = t.places.items

    here : Among b (chains_at h k)
    here = alive_chain f w k (up_to f k old some grown) id inside alive

    up_to_id : id ≤ length f.edges
    up_to_id = omega (arith, inside)

    -- it is none of those before
    apart : (c : Chain) → Among c bs → b ≡ c → ⊥
    apart c n e =
        let i = born_known f k old some grown id up_to_id c n in
        absurd (omega (arith, i.3, w.once i.0 id i.2 inside (i.5 ∙ sym e)))

    -- the edge of the chain of a run stands in the table
    part_in : (r : Chain) → Among r (runs finer b) → (e : Edge) × Among e (labelled_edges t) × (faced t.labels e ≡ edge_now (chain_of_run finer r))
    part_in r o =
        let q : Chain = chain_of_run finer r in
        let e = map_among (faced t.labels) left (edge_now q)
        (subst (Among (edge_now q)) (sym state.left_faces) (among_map edge_now (chains_left h (k - 1)) q (run_left f k old some grown b here r o))) in
        let key_is : e.0.key ≡ key q = ap (λ (e : Edge). e.key) e.2 in
        let free : is_part_of finer bs e.0.key ≡ false
        = false_from_ne_true (is_part_of finer bs e.0.key) (λ x.
        let p = part_of f k old some grown bs e.0.key x in
        apart p.0 p.1 (only_part f k old some grown b here r o p.0 (born_here f k old some grown id up_to_id p.0 p.1) p.2.0 p.2.1 (sym key_is ∙ sym p.2.2))) in
        let kept = among_kept (λ (e : Edge). not (is_part_of finer bs e.key)) left e.0 e.1 (ap not free) in (
          e.0,
          permuted (filter (λ (e : Edge). not (is_part_of finer bs e.key)) left ++ state.new) (labelled_edges t) e.0 state.edges
              (among_left (filter (λ (e : Edge). not (is_part_of finer bs e.key)) left) state.new e.0 kept),
          e.2,
        )

    part_with : (r : Chain) → Among r (runs finer b) → faced t.labels (edge_with places (key (chain_of_run finer r))) ≡ edge_now (chain_of_run finer r)
    part_with r o =
        let e = part_in r o in
        ap (faced t.labels) (placed_with places state.table.keyed e.0 e.1 (key (chain_of_run finer r)) (ap (λ (e : Edge). e.key) e.2)) ∙ e.2

    points_at : (r : Chain) → Among r (runs finer b) → (edge_with places (key (chain_of_run finer r))).points ≡ without before (chain_points f.base.arcs (chain_of_run finer r))
    points_at r o = ap (λ (e : Edge). e.points) (part_with r o)

    -- it borders the new face
    borders : has_side (step_number h k).made (edge_now b) ≡ true
    borders = by (has_side (step_number h k).made (edge_now b)) refl
      where
        by : (v : Bool) → has_side (step_number h k).made (edge_now b) ≡ v → v ≡ true
        by true e = refl
        by false e =
            let off = or_parts ((edge_now b).left == (step_number h k).made) ((edge_now b).right == (step_number h k).made) e in
            let one = whole_chain f.base w.base w.partition k some inside_history b here (eqb-false _ _ off.0) (eqb-false _ _ off.1) in
            absurd (omega (arith, many_runs f k old some grown b here (new_chain f k old some grown id from inside), ap length one))

    two_points : 2 ≤ length (without before (chain_points f.base.arcs b)) → 0 < length (without before (chain_points f.base.arcs b))
    two_points l = omega (arith, l)

    -- ---- the parts that are told

    module _ (parts : List OldEdge) (there : All (λ p. Contains (map key (chains_at (merged f.base) (k - 1))) p.key) parts)
        (chain : old_chains (chains_at (merged f.base) (k - 1)) parts ≡ chain_of f.edges id) where
      read : map (old_edge finer) (runs finer b) ≡ parts
      read = ap (map (old_edge finer)) (runs_are h (k - 1) b (arc_once_in h k b here) parts there chain) ∙ parts_read h (k - 1) parts there

      pub keys_there : All (λ p. Contains (keys (labelled_edges t)) p.key) parts
      keys_there = subst (All (λ (p : OldEdge). Contains (keys (labelled_edges t)) p.key)) read
          (all_members (λ (p : OldEdge). Contains (keys (labelled_edges t)) p.key) (map (old_edge finer) (runs finer b)) (λ p m.
          let r = map_among (old_edge finer) (runs finer b) p m in
          let e = part_in r.0 r.1 in
          subst (Contains (keys (labelled_edges t))) (ap (λ (e : Edge). e.key) e.2 ∙ ap (λ (p : OldEdge). p.key) r.2)
          (contained (keys (labelled_edges t)) e.0.key (among_map (λ (e : Edge). e.key) (labelled_edges t) e.0 e.1))))

      pub keys_apart : AllPairs (λ p q. p.key ≢ q.key) parts
      keys_apart = subst (AllPairs (λ (p q : OldEdge). p.key ≢ q.key)) read
          (pairs_mapped (λ (p q : OldEdge). p.key ≢ q.key) (old_edge finer) (runs finer b) (run_keys_apart f k old some grown b here))

      pub key_there : Contains (old_keys parts) (edge_at f.edges id).key
      key_there =
          let r = own_key f k old some grown b here in
          subst (λ (ps : List OldEdge). Contains (old_keys ps) (edge_at f.edges id).key) read
          (subst (Contains (old_keys (map (old_edge finer) (runs finer b)))) (r.2 ∙ sym (w.edges id inside).key)
          (contained (old_keys (map (old_edge finer) (runs finer b))) (key (chain_of_run finer r.0))
          (among_map (λ (p : OldEdge). p.key) (map (old_edge finer) (runs finer b)) (old_edge finer r.0) (among_map (old_edge finer) (runs finer b) r.0 r.1))))

      -- the keys of the parts are those of the chains of the runs
      pub keys_are : old_keys parts ≡ map (λ r. key (chain_of_run (chains_at (merged f.base) (k - 1)) r)) (runs (chains_at (merged f.base) (k - 1)) (chain_of f.edges id))
      keys_are = ap old_keys (sym read) ∙ by (runs finer b)
        where
          by : (rs : List Chain) → old_keys (map (old_edge finer) rs) ≡ map (λ r. key (chain_of_run finer r)) rs
          by [] = refl
          by (r ∷ rs) = ap (λ (ks : List ℕ). key (chain_of_run finer r) ∷ ks) (by rs)

      -- ---- pieces

      module _ (losing : List ℕ) (losing_are : losing ≡ losing_keys (merged f.base) k) where
        sides : (r : Chain) → Among r (runs finer b) → side_with (step_number h k) losing (key (chain_of_run finer r))
            ≡ cond (has_side (step_number h k).loser (edge_of h (k - 1) before (chain_of_run finer r))) (step_number h k).loser (step_number h k).winner
        sides r o =
            let q : Chain = chain_of_run finer r in
            let up : k - 1 + 1 ≡ k = omega (arith, some) in
            let off : not (is_edge_between (step_number h k).loser (step_number h k).winner (edge_of h (k - 1) [] q)) ≡ true
            = subst (λ (i : ℕ). not (is_edge_between (step_number h i).loser (step_number h i).winner (edge_of h (k - 1) [] q)) ≡ true) up
            (filter_among (λ c. not (is_edge_between (step_number h (k - 1 + 1)).loser (step_number h (k - 1 + 1)).winner (edge_of h (k - 1) [] c))) finer q (run_left f k old some grown b here r o)) in
            ap (λ (v : Bool). cond v (step_number h k).loser (step_number h k).winner)
            (ap (list_any (λ i. i == key q)) losing_are
            ∙ losing_is h k q (run_member f.base w.base w.partition k some inside_history r (run_is_part f.base w.base w.partition k some inside_history b here r o)) (not_true _ off))
          where
            not_true : (v : Bool) → not v ≡ true → v ≡ false
            not_true true e = absurd cc
            not_true false e = refl

        pieces_of_runs : part_pieces (count_at places) (side_with (step_number h k) losing) 0 (map (old_edge finer) (runs finer b)) ≡ (made_of h k b).pieces
        pieces_of_runs =
            pieces_are f.base w.base w.partition k some inside_history b here borders (count_at places) (side_with (step_number h k) losing)
            (λ r o. ap (λ (ps : List Point). length ps) (points_at r o)) sides

        pub pieces_made : part_pieces (count_at t.places.items) (side_with (step_number (merged f.base) k) losing) 0 parts ≡ (made_of (merged f.base) k (chain_of f.edges id)).pieces
        pieces_made = ap (part_pieces (count_at places) (side_with (step_number h k) losing) 0) (sym read) ∙ pieces_of_runs

        pub places_few : sum_by (λ (p : OldEdge). count_at t.places.items p.key - 1) parts ≤ length (without (removals_to (merged f.base) (k - 1)) (chain_points f.base.arcs (chain_of f.edges id)))
        places_few = subst (λ (ps : List OldEdge). sum_by (λ (p : OldEdge). count_at places p.key - 1) ps ≤ length (without before (chain_points f.base.arcs b))) read
            (places_are f.base w.base w.partition k some inside_history b here (count_at places) (side_with (step_number h k) losing) pieces_of_runs)

      -- ---- the edge that they make

      own : (r : Chain) × Among r (runs finer b) × (key (chain_of_run finer r) ≡ key b)
      own = own_key f k old some grown b here

      row : 2 ≤ length (without before (chain_points f.base.arcs b)) → joined_row places parts ≡ without before (chain_points f.base.arcs b)
      row long = ap (joined_row places) (sym read) ∙ row_is f.base w.base w.partition k some inside_history b here (two_points long)
          (λ (p : OldEdge). (edge_with places p.key).points) points_at

      made_faces : 2 ≤ length (without before (chain_points f.base.arcs b)) → faced t.labels (joined_edge places (edge_at f.edges id).key parts) ≡ edge_now b
      made_faces long =
          let keyed : (edge_at f.edges id).key ≡ key b = (w.edges id inside).key in
          let part : faced t.labels (edge_with places (key b)) ≡ edge_now (chain_of_run finer own.0)
          = subst (λ (i : ℕ). faced t.labels (edge_with places i) ≡ edge_now (chain_of_run finer own.0)) own.2 (part_with own.0 own.1) in
          ap₂ (λ (i : ℕ) (ps : List Point). record { key = i; left = face_of t.labels (edge_with places i).left; right = face_of t.labels (edge_with places i).right; points = ps }) keyed (row long)
          ∙ ap₂ (λ (l r : ℕ). record { key = key b; left = l; right = r; points = without before (chain_points f.base.arcs b) })
          (ap (λ (e : Edge). e.left) part ∙ ap (λ (i : ℕ). label_at h k (arc_number f.base.arcs i).left) own.2)
          (ap (λ (e : Edge). e.right) part ∙ ap (λ (i : ℕ). label_at h k (arc_number f.base.arcs i).right) own.2)

      -- the keys that go are those of the parts of one more chain
      gone_is : (i : ℕ) → list_any (λ j. j == i) (old_keys parts) ≡ is_part_of finer (b ∷ []) i
      gone_is i =
          ap (list_any (λ j. j == i)) keys_are ∙ any_mapped (λ j. j == i) (λ r. key (chain_of_run finer r)) (runs finer b)
          ∙ sym (or_none (list_any (λ r. key (chain_of_run finer r) == i) (runs finer b)))

      more_is : (i : ℕ) → is_part_of finer (bs ++ b ∷ []) i ≡ (is_part_of finer bs i || is_part_of finer (b ∷ []) i)
      more_is i = list_any-append (λ (c : Chain). list_any (λ r. key (chain_of_run finer r) == i) (runs finer c)) bs (b ∷ [])

      left_less : without_keys (old_keys parts) (filter (λ e. not (is_part_of finer bs e.key)) left) ≡ filter (λ e. not (is_part_of finer (bs ++ b ∷ []) e.key)) left
      left_less =
          filter_both (λ (e : Edge). not (list_any (λ j. j == e.key) (old_keys parts))) (λ (e : Edge). not (is_part_of finer bs e.key)) left
          ∙ filter_agree_on (λ (e : Edge). not (list_any (λ j. j == e.key) (old_keys parts)) && not (is_part_of finer bs e.key)) (λ (e : Edge). not (is_part_of finer (bs ++ b ∷ []) e.key)) left
          (all_members (λ (e : Edge). (not (list_any (λ j. j == e.key) (old_keys parts)) && not (is_part_of finer bs e.key)) ≡ not (is_part_of finer (bs ++ b ∷ []) e.key)) left (λ e m.
          ap (λ (v : Bool). not v && not (is_part_of finer bs e.key)) (gone_is e.key)
          ∙ not_both (is_part_of finer bs e.key) (is_part_of finer (b ∷ []) e.key) ∙ ap not (sym (more_is e.key))))

      -- the new ones before stay
      new_stay : without_keys (old_keys parts) state.new ≡ state.new
      new_stay = filter_all (λ (e : Edge). not (list_any (λ j. j == e.key) (old_keys parts))) state.new (λ e m.
          ap not (gone_is e.key ∙ false_from_ne_true (is_part_of finer (b ∷ []) e.key) (λ x.
          let c = map_among edge_now bs (faced t.labels e) (subst (Among (faced t.labels e)) state.new_faces (among_map (faced t.labels) state.new e m)) in
          let p = part_of f k old some grown (b ∷ []) e.key x in
          let one : b ≡ p.0 = elim p.1 [ inl s ↦ s | inr o ↦ absurd o ] in
          let same = only_key f k old some grown p.0 (subst (λ (d : Chain). Among d (chains_at h k)) one here) p.2.0 p.2.1 c.0 (born_here f k old some grown id up_to_id c.0 c.1)
          (p.2.2 ∙ sym (ap (λ (e : Edge). e.key) c.2)) in
          apart c.0 c.1 (one ∙ same))))

      pub joined_next : 2 ≤ length (without (removals_to (merged f.base) (k - 1)) (chain_points f.base.arcs (chain_of f.edges id))) → (t' : EdgeTable) → IsTable t' → t'.labels ≡ t.labels
          → IsPermutation (without_keys (old_keys parts) (labelled_edges t) ++ joined_edge t.places.items (edge_at f.edges id).key parts ∷ []) (labelled_edges t')
          → HasJoined (merged f.base) k left (born_chains f k old id ++ chain_of f.edges id ∷ []) t'
      joined_next long t' table labels moved = record {
        table = table;
        left_faces = subst (λ (l : _). map (faced l) left ≡ edges_of h k before (chains_left h (k - 1))) (sym labels) state.left_faces;
        new = state.new ++ made ∷ [];
        edges = IsPermutation-trans (kept_next ++ (state.new ++ made ∷ [])) (without_keys (old_keys parts) (labelled_edges t) ++ made ∷ []) (labelled_edges t') first moved;
        new_faces = subst (λ (l : _). map (faced l) (state.new ++ made ∷ []) ≡ edges_of h k before (bs ++ b ∷ [])) (sym labels)
            (map-append (faced t.labels) state.new (made ∷ [])
            ∙ ap₂ (λ (xs : List Edge) (e : Edge). xs ++ e ∷ []) state.new_faces (made_faces long)
            ∙ sym (map-append edge_now bs (b ∷ [])));
      }
        where
          made : Edge
          made = joined_edge places (edge_at f.edges id).key parts

          kept_next : List Edge
          kept_next = filter (λ (e : Edge). not (is_part_of finer (bs ++ b ∷ []) e.key)) left

          less : without_keys (old_keys parts) (filter (λ (e : Edge). not (is_part_of finer bs e.key)) left ++ state.new) ≡ kept_next ++ state.new
          less =
              filter-append (λ (e : Edge). not (list_any (λ j. j == e.key) (old_keys parts))) (filter (λ (e : Edge). not (is_part_of finer bs e.key)) left) state.new
              ∙ ap₂ (λ (xs ys : List Edge). xs ++ ys) left_less new_stay

          first : IsPermutation (kept_next ++ (state.new ++ made ∷ [])) (without_keys (old_keys parts) (labelled_edges t) ++ made ∷ [])
          first = subst (λ (es : List Edge). IsPermutation es (without_keys (old_keys parts) (labelled_edges t) ++ made ∷ [])) (append_assoc kept_next state.new (made ∷ []))
              (IsPermutation-append_left (made ∷ []) (kept_next ++ state.new) (without_keys (old_keys parts) (labelled_edges t))
              (subst (λ (es : List Edge). IsPermutation es (without_keys (old_keys parts) (labelled_edges t))) less
              (IsPermutation-filter (λ (e : Edge). not (list_any (λ j. j == e.key) (old_keys parts))) (filter (λ (e : Edge). not (is_part_of finer bs e.key)) left ++ state.new) (labelled_edges t) state.edges)))
