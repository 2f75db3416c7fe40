-- What is known of a forest, from its growth.
use Rattle.std.proofs.Common.{◌≡◌, ◌≢◌, inl, inr, ℕ, ◌+◌, ◌-◌, ◌<◌, ◌≤◌, ◌^◌, ◌==◌, ◌&&◌, nat_le, nat_lt, Bool, true, false, cond, List, [], ◌∷◌, map, filter, length, get_or, Contains, refl, sym, ap, ap₂, ◌∙◌, subst, arith}
use Rattle.std.specs.List.{All, range_with_len}
use Rattle.std.proofs.lemmas.Bool.{cases_eq, cases_order, and_parts, eqb-true, eq-eqb, leb-true, lt-ltb, ltb-true, true≢false}
use Rattle.std.proofs.lemmas.List.{length-map, get_or-map}
use Rattle.std.proofs.lemmas.List.Elements.{All-filter}
use Rattle.lemmas.specs.Sorting.{is_sorted_by}
use Rattle.lemmas.proofs.Sorting.{All-sort_by, map-is_sorted, sorted_tail}
use Rattle.tgap_model.specs.declared.geometry.Point.{Point}
use Rattle.tgap_model.specs.declared.base.BaseArc.{BaseArc}
use Rattle.tgap_model.specs.Base.{BaseMap}
use Rattle.tgap_model.specs.History.{history_of}
use Rattle.tgap_model.specs.Merged.{merged, label_at}
use Rattle.tgap_model.specs.Chains.{Chain, arc_number, key, has_links, chains_at}
use Rattle.tgap_model.proofs.BaseFacts.{base_facts}
use Rattle.face_merge.proofs.Steps.{length-history_of}
use Rattle.map_laws.proofs.ChainMembers.{Among, filter_among, sorted_below}
use Rattle.map_laws.proofs.Lists.{all_members, among_range, among_kept, among_sort}
use Rattle.map_laws.proofs.ChainLinks.{chains_sorted}
use Rattle.map_laws.proofs.ChainsExist.{chains_exist}
use Rattle.edge_forest.specs.declared.edge.ForestEdge.{ForestEdge}
use Rattle.edge_forest.specs.declared.growth.Growth.{Growth}
use Rattle.edge_forest.specs.Edges.{edge_at, chains_of, chain_of, is_alive, alive_edges, IsPart}
use Rattle.edge_forest.specs.Forest.{EdgeForest, never, last_step, AreChains, IsForest}
use Rattle.edge_forest.specs.Growth.{ended, IsStored, IsAtRest, IsFew}
use Rattle.edge_forest.specs.declared.index.RangeIndex.{RangeIndex}
use Rattle.edge_forest.specs.declared.spent.Spent.{Spent}
use Rattle.edge_forest.specs.Index.{IsIndexFor}
use Rattle.edge_forest.specs.Kept.{forest_of, IsKept, IsWhole, closed_edge}
use Rattle.edge_forest.specs.Removed.{PointSteps, arc_points, step_of}
use Rattle.edge_forest.specs.Spent.{AreSpans, AreSpent}
use Rattle.edge_forest.proofs.Chains.{same_parts}
use Rattle.edge_forest.proofs.AliveSame.{longer_chains}
use Rattle.edge_forest.proofs.Few.{few_small}
use Rattle.edge_forest.proofs.Rested.{among_in_range}

-- ---- at rest

-- no two edges have one chain: of two with one key the later one is longer
chains_differ : (made : ℕ) (g : Growth) → IsStored made g → (i j : ℕ) → i < length g.edges.items → j < length g.edges.items
    → chain_of g.edges.items i ≡ chain_of g.edges.items j → i ≡ j
chains_differ made g w i j l m e =
    let keys : (edge_at g.edges.items i).key ≡ (edge_at g.edges.items j).key = (w.edges i l).key ∙ ap key e ∙ sym (w.edges j m).key in
    elim (cases_order i j) [
      | inl s ↦ s
      | inr o ↦ elim o [
        | inl less ↦ absurd (omega (arith, w.longer i j less m keys, ap (λ (c : Chain). length c) e))
        | inr less ↦ absurd (omega (arith, w.longer j i less l (sym keys), ap (λ (c : Chain). length c) e))
      ]
    ]

pub rest_forest : (made : ℕ) (g : Growth) (t : PointSteps) → IsAtRest made g → IsForest (forest_of made false g t)
rest_forest made g t w = record {
  base = w.stored.base;
  partition = w.stored.partition;
  steps = w.stored.steps;
  edges = w.stored.edges;
  low = w.stored.low;
  ranges = λ i l. record {
    order = w.stored.order i l;
    growing = λ e. w.stored.high i l;
    done = λ e. absurd (true≢false (sym e));
    last = λ e. absurd (true≢false (sym e));
  };
  once = chains_differ made g w.stored;
  chains = λ k l. elim (cases_eq k made) [
    | inl e ↦ subst (λ (n : ℕ). map (chain_of g.edges.items) (alive_edges g.edges.items n) ≡ chains_at (merged g.base) n) (sym e) w.alive
    | inr ne ↦ w.stored.past k (omega (arith, l, ne))
  ];
}

pub rest_is_kept : (made : ℕ) (g : Growth) (t : PointSteps) → IsAtRest made g → IsFew g
    → ((p : Point) → Contains (arc_points g.base.arcs) p → Contains t.points p) → ((p : Point) → step_of t p ≤ made) → IsKept made false g t
rest_is_kept made g t w few listed within = record {
  forest = rest_forest made g t w;
  few = omega (arith, few_small made g w.stored few);
  growing = λ e. (w, few);
  done = λ e. absurd (true≢false (sym e));
  listed = listed;
  within = within;
}

-- ---- points are removed

-- it is a forest with any points
same_forest : (made : ℕ) (closed : Bool) (g : Growth) (t t' : PointSteps) → IsForest (forest_of made closed g t) → IsForest (forest_of made closed g t')
same_forest made closed g t t' w = record {
  base = w.base;
  partition = w.partition;
  steps = w.steps;
  edges = w.edges;
  low = w.low;
  ranges = λ i l. let r = w.ranges i l in record { order = r.order; growing = r.growing; done = r.done; last = r.last };
  once = w.once;
  chains = w.chains;
}

pub removed_is_kept : (made : ℕ) (closed : Bool) (g : Growth) (t t' : PointSteps) → IsKept made closed g t → t'.points ≡ t.points
    → ((p : Point) → step_of t' p ≤ made) → IsKept made closed g t'
removed_is_kept made closed g t t' w same within = record {
  forest = same_forest made closed g t t' w.forest;
  few = w.few;
  growing = w.growing;
  done = w.done;
  listed = λ p c. subst (λ (ps : List Point). Contains ps p) (sym same) (w.listed p c);
  within = within;
}

-- there are few steps
pub made_small : (f : EdgeForest) → IsForest f → f.made + 1 < never
made_small f w = omega (arith, w.steps, length-history_of f.base, (base_facts f.base w.base).few_arcs)

-- ---- the edges of a step

module _ (f : EdgeForest) (w : IsForest f) (k : ℕ) (chains : AreChains f k) where
  abbrev edges : List ForestEdge
  edges = f.edges

  abbrev listed : List ℕ
  listed = filter (λ i. is_alive k (edge_at f.edges i)) (range_with_len 0 (length f.edges))

  in_listed : All (λ i. i < length edges) listed
  in_listed =
      All-filter (λ i. is_alive k (edge_at edges i)) (λ i. i < length edges) (range_with_len 0 (length edges))
      (all_members (λ i. i < length edges) (range_with_len 0 (length edges)) (λ i m. omega (arith, (among_range 0 (length edges) i m).1)))

  pub alive_within : All (λ i. i < length f.edges) (alive_edges f.edges k)
  alive_within = All-sort_by (λ i j. nat_lt (edge_at edges i).key (edge_at edges j).key) (λ i. i < length edges) listed in_listed

  pub alive_low : All (λ i. (edge_at f.edges i).low ≤ k) (alive_edges f.edges k)
  alive_low =
      All-sort_by (λ i j. nat_lt (edge_at edges i).key (edge_at edges j).key) (λ i. (edge_at edges i).low ≤ k) listed
      (all_members (λ i. (edge_at edges i).low ≤ k) listed (λ i m.
      leb-true (edge_at edges i).low k (and_parts (nat_le (edge_at edges i).low k) (nat_lt k (edge_at edges i).high)
      (filter_among (λ i. is_alive k (edge_at edges i)) (range_with_len 0 (length edges)) i m)).0))

  -- there are as many as there are chains
  pub alive_count : length (alive_edges f.edges k) ≡ length (chains_at (merged f.base) k)
  alive_count = sym (length-map (alive_edges f.edges k) (chain_of f.edges)) ∙ ap length chains

  -- they have different keys
  ids_sorted : is_sorted_by (λ i j. nat_lt (edge_at edges i).key (edge_at edges j).key) (alive_edges edges k) ≡ true
  ids_sorted =
      sym (map-is_sorted (λ i. i < length edges) (λ i j. nat_lt (edge_at edges i).key (edge_at edges j).key) (λ c d. nat_lt (key c) (key d)) (chain_of edges)
      (λ i j li lj. ap₂ nat_lt (sym (w.edges i li).key) (sym (w.edges j lj).key)) (alive_edges edges k) alive_within)
      ∙ ap (is_sorted_by (λ c d. nat_lt (key c) (key d))) chains
      ∙ chains_sorted (merged f.base) k (chains_at (merged f.base) k) (chains_exist (merged f.base) k)

  pub keys_differ : (i j : ℕ) → i < length f.edges → j < length f.edges → i ≢ j → is_alive k (edge_at f.edges i) ≡ true → is_alive k (edge_at f.edges j) ≡ true
      → (edge_at f.edges i).key ≢ (edge_at f.edges j).key
  keys_differ i j li lj ne ai aj e = by (alive_edges edges k) ids_sorted (there i li ai) (there j lj aj)
    where
      there : (i : ℕ) → i < length edges → is_alive k (edge_at edges i) ≡ true → Among i (alive_edges edges k)
      there i l a =
          among_sort (λ i j. nat_lt (edge_at edges i).key (edge_at edges j).key) listed i
          (among_kept (λ i. is_alive k (edge_at edges i)) (range_with_len 0 (length edges)) i (among_in_range 0 (length edges) i (omega arith) (omega (arith, l))) a)

      by : (is : List ℕ) → is_sorted_by (λ i j. nat_lt (edge_at edges i).key (edge_at edges j).key) is ≡ true → Among i is → Among j is → ⊥
      by [] s m n = absurd m
      by (x ∷ is) s (inl a) (inl b) = ne (sym a ∙ b)
      by (x ∷ is) s (inl a) (inr n) =
          absurd (omega (arith, sorted_below (λ i. (edge_at edges i).key) x is j s n, e, ap (λ (n : ℕ). (edge_at edges n).key) a))
      by (x ∷ is) s (inr m) (inl b) =
          absurd (omega (arith, sorted_below (λ i. (edge_at edges i).key) x is i s m, e, ap (λ (n : ℕ). (edge_at edges n).key) b))
      by (x ∷ is) s (inr m) (inr n) = by is (sorted_tail (λ i j. nat_lt (edge_at edges i).key (edge_at edges j).key) x is s) m n

-- when the history is closed all its steps were made
pub step_known : (made : ℕ) (closed : Bool) (g : Growth) (t : PointSteps) → IsKept made closed g t → (f : EdgeForest) → forest_of made closed g t ≡ f
    → f.closed ≡ true → (k : ℕ) → k ≤ last_step f → k ≤ made
step_known made closed g t w f view done k l =
    omega (arith, l, w.done (ap (λ (f : EdgeForest). f.closed) view ∙ done), ap last_step view)

-- its index is one over steps of which this is one
pub index_for : (made : ℕ) (closed : Bool) (g : Growth) (t : PointSteps) (index : RangeIndex) (spent : Spent) → IsWhole made closed g t index spent → (f : EdgeForest) → forest_of made closed g t ≡ f
    → f.closed ≡ true → (k : ℕ) → k ≤ last_step f → IsIndexFor k g.edges.items index
index_for made closed g t index spent w f view done k l =
    let shut : closed ≡ true = ap (λ (f : EdgeForest). f.closed) view ∙ done in
    let is = w.indexed shut in
    record {
      last = made;
      within = step_known made closed g t w.kept f view done k l;
      few = omega (arith, made_small (forest_of made closed g t) w.kept.forest);
      is = is;
      ranges = λ i s. omega (arith, (w.kept.forest.ranges i s).done shut, w.kept.done shut, is.wide);
    }

-- ---- at the end of the history

-- no edge ends later than at the end of the history, nor before it begins
pub closed_within : (made : ℕ) (g : Growth) (t : PointSteps) → IsForest (forest_of made false g t) → (i : ℕ) → i < length g.edges.items
    → ((edge_at (map (closed_edge (made + 1)) g.edges.items) i).low ≤ (edge_at (map (closed_edge (made + 1)) g.edges.items) i).high)
    × ((edge_at (map (closed_edge (made + 1)) g.edges.items) i).high ≤ made + 1)
closed_within made g t w i s = rw (get_or-map (closed_edge (made + 1)) g.edges.items i no_edge no_edge s) (by (e.high == never) refl)
  where
    no_edge : ForestEdge
    no_edge = record { key = 0; low = 0; high = 0; left = 0; right = 0; parts = [] }

    e : ForestEdge
    e = edge_at g.edges.items i

    by : (b : Bool) → (e.high == never) ≡ b → (e.low ≤ cond b (made + 1) e.high) × (cond b (made + 1) e.high ≤ made + 1)
    by true h = (omega (arith, w.low i s), omega arith)
    by false h = (
      (w.ranges i s).order,
      elim ((w.ranges i s).growing refl) [
        | inl le ↦ omega (arith, le)
        | inr n ↦ absurd (true≢false (sym (eq-eqb e.high never n) ∙ h))
      ],
    )

-- the edges keep their chains
closed_chains : (high : ℕ) (es : List ForestEdge) → chains_of (map (closed_edge high) es) ≡ chains_of es
closed_chains high es = same_parts (map (closed_edge high) es) es (parts es)
  where
    parts : (es : List ForestEdge) → map (λ (e : ForestEdge). e.parts) (map (closed_edge high) es) ≡ map (λ (e : ForestEdge). e.parts) es
    parts [] = refl
    parts (e ∷ es) = ap (λ ps. e.parts ∷ ps) (parts es)

-- and their spans
pub closed_spent : (arcs : List BaseArc) (t : PointSteps) (high : ℕ) (es : List ForestEdge) (s : Spent) → AreSpent arcs t es s
    → AreSpent arcs t (map (closed_edge high) es) s
closed_spent arcs t high es s w = record {
  arcs_count = w.arcs_count;
  edges_count = w.edges_count ∙ sym (length-map es (closed_edge high));
  arc_steps = w.arc_steps;
  edge_spans = subst (λ (cs : List Chain). AreSpans arcs t cs s.edges.items) (sym (closed_chains high es)) w.edge_spans;
  gone = w.gone;
}

module _ (made : ℕ) (g g' : Growth) (t : PointSteps) (w : IsForest (forest_of made false g t)) (few : length g.edges.items < 2 ^ 32 - 1) (all : made ≡ length (history_of g.base)) (less : made + 1 < never)
    (base : g'.base ≡ g.base) (edges : g'.edges.items ≡ map (closed_edge (made + 1)) g.edges.items) where
  abbrev old : List ForestEdge
  old = g.edges.items

  abbrev new : List ForestEdge
  new = map (closed_edge (made + 1)) g.edges.items

  new_is : (i : ℕ) → i < length old → edge_at new i ≡ closed_edge (made + 1) (edge_at old i)
  new_is i l = get_or-map (closed_edge (made + 1)) old i _ _ l

  keeps : {A : Type 0} (f : ForestEdge → A) → ((h : ℕ) (e : ForestEdge) → f (ended h e) ≡ f e) → (i : ℕ) → i < length old → f (edge_at new i) ≡ f (edge_at old i)
  keeps f same i l = ap f (new_is i l) ∙ same (cond ((edge_at old i).high == never) (made + 1) (edge_at old i).high) (edge_at old i)

  chains_same : chains_of new ≡ chains_of old
  chains_same = closed_chains (made + 1) old

  count : length new ≡ length old
  count = length-map old (closed_edge (made + 1))

  alive_same : (k i : ℕ) → k ≤ made → i < length old → is_alive k (edge_at new i) ≡ is_alive k (edge_at old i)
  alive_same k i l s =
      ap₂ (λ (a b : ℕ). nat_le a k && nat_lt k b) (keeps (λ (e : ForestEdge). e.low) (λ h e. refl) i s) refl
      ∙ ap (λ (b : Bool). nat_le (edge_at old i).low k && b) (ap (λ (e : ForestEdge). nat_lt k e.high) (new_is i s) ∙ by ((edge_at old i).high == never) refl)
    where
      by : (b : Bool) → ((edge_at old i).high == never) ≡ b → nat_lt k (cond b (made + 1) (edge_at old i).high) ≡ nat_lt k (edge_at old i).high
      by true e =
          lt-ltb k (made + 1) (omega (arith, l))
          ∙ sym (lt-ltb k (edge_at old i).high (omega (arith, l, less, eqb-true (edge_at old i).high never e)))
      by false e = refl

  pub closed_forest : IsForest (forest_of made true g' t)
  closed_forest = rw (base, edges) (record {
    base = w.base;
    partition = w.partition;
    steps = w.steps;
    edges = λ i l.
        let s : i < length old = omega (arith, l, count) in
        let e = w.edges i s in
        let chain : chain_of new i ≡ chain_of old i = ap (λ (cs : List Chain). get_or cs i []) chains_same in
        let same_low = keeps (λ (e : ForestEdge). e.low) (λ h e. refl) i s in
        let same_key = keeps (λ (e : ForestEdge). e.key) (λ h e. refl) i s in
        record {
          parts = subst (All (IsPart (length g.base.arcs) i)) (sym (keeps (λ (e : ForestEdge). e.parts) (λ h e. refl) i s)) e.parts;
          links = ap has_links chain ∙ e.links;
          key = same_key ∙ e.key ∙ sym (ap key chain);
          left = keeps (λ (e : ForestEdge). e.left) (λ h e. refl) i s ∙ e.left
              ∙ sym (ap₂ (λ (n m : ℕ). label_at (merged g.base) n (arc_number g.base.arcs m).left) same_low same_key);
          right = keeps (λ (e : ForestEdge). e.right) (λ h e. refl) i s ∙ e.right
              ∙ sym (ap₂ (λ (n m : ℕ). label_at (merged g.base) n (arc_number g.base.arcs m).right) same_low same_key);
        };
    low = λ i l.
        let s : i < length old = omega (arith, l, count) in
        omega (arith, w.low i s, keeps (λ (e : ForestEdge). e.low) (λ h e. refl) i s);
    ranges = λ i l.
        let s : i < length old = omega (arith, l, count) in
        let bounds = closed_within made g t w i s in
        let limit : (edge_at new i).high ≤ length (history_of g.base) + 1 = omega (arith, bounds.1, all) in
        record {
          order = bounds.0;
          growing = λ e. absurd (true≢false e);
          done = λ e. limit;
          last = λ e alive.
              let there = ltb-true (length (history_of g.base)) (edge_at new i).high
              (and_parts (nat_le (edge_at new i).low (length (history_of g.base))) (nat_lt (length (history_of g.base)) (edge_at new i).high) alive).1 in
              omega (arith, there, limit);
        };
    once = λ i j l m e.
        let same : (n : ℕ) → chain_of new n ≡ chain_of old n = λ n. ap (λ (cs : List Chain). get_or cs n []) chains_same in
        w.once i j (omega (arith, l, count)) (omega (arith, m, count)) (sym (same i) ∙ e ∙ same j);
    chains = λ k l.
        longer_chains k old new (record {
          count = omega (arith, count);
          key = λ i s. keeps (λ (e : ForestEdge). e.key) (λ h e. refl) i s;
          chain = λ i s. ap (λ (cs : List Chain). get_or cs i []) chains_same;
          alive = λ i s. alive_same k i l s;
          later = λ i s z. absurd (omega (arith, s, z, count));
        }) ∙ w.chains k l;
  })

  pub closed_is_kept : ((p : Point) → Contains (arc_points g.base.arcs) p → Contains t.points p) → ((p : Point) → step_of t p ≤ made) → IsKept made true g' t
  closed_is_kept listed within = record {
    forest = closed_forest;
    few = omega (arith, few, ap length edges, count);
    growing = λ e. absurd (true≢false e);
    done = λ e. all ∙ ap (λ m. length (history_of m)) (sym base);
    listed = λ p c. listed p (subst (λ (m : BaseMap). Contains (arc_points m.arcs) p) base c);
    within = within;
  }
