-- The arcs as edges of their own are a forest before the first join.
use Rattle.std.proofs.Common.{◌≡◌, inr, ℕ, zero, suc, ◌+◌, ◌*◌, ◌<◌, ◌≤◌, ◌==◌, ◌&&◌, Bool, true, false, not, List, [], ◌∷◌, ◌++◌, map, length, get_or, All, Option, Some, refl, sym, ap, ap₂, ◌∙◌, subst, arith}
use Rattle.std.specs.List.{range_with_len}
use Rattle.std.proofs.lemmas.Bool.{or_right}
use Rattle.std.proofs.lemmas.List.Concat.{flat_map-append}
use Rattle.std.proofs.lemmas.List.Elements.{All-cons, All-get_or, All-nil, All-same, All-weaker}
use Rattle.std.proofs.lemmas.List.FromFn.{get_or-map-range_with_len, length-map-range_with_len, map-range_with_len_more}
use Rattle.std.proofs.lemmas.List.Sums.{fold-append}
use Rattle.tgap_model.specs.declared.base.BaseArc.{BaseArc}
use Rattle.tgap_model.specs.declared.limits.TheConstants.{MAX_ARCS, MAX_FACES}
use Rattle.tgap_model.specs.Base.{BaseMap, is_base}
use Rattle.tgap_model.specs.Partition.{IsPartition, base_segments}
use Rattle.tgap_model.specs.Merged.{MergedMap, merged, label_at}
use Rattle.tgap_model.specs.Chains.{Chain, arc_number, key, has_links, is_directed}
use Rattle.tgap_model.proofs.BaseFacts.{ArcFacts, base_facts, each_arc}
use Rattle.edge_forest.specs.declared.edge.Part.{Part}
use Rattle.edge_forest.specs.declared.edge.ForestEdge.{ForestEdge}
use Rattle.edge_forest.specs.declared.net.Current.{Current}
use Rattle.edge_forest.specs.declared.face_labels.FaceLabels.{FaceLabels}
use Rattle.edge_forest.specs.declared.growth.Growth.{Growth}
use Rattle.edge_forest.specs.Edges.{edge_at, parts_chain, chains_of, chain_of, IsPart, IsForestEdge}
use Rattle.edge_forest.specs.FaceLabels.{face_of, label_of, HasLabel, IsCurrent}
use Rattle.edge_forest.specs.Family.{row_chains, family}
use Rattle.edge_forest.specs.Nodes.{AreNodes}
use Rattle.edge_forest.specs.Net.{row_at, IsNet}
use Rattle.edge_forest.specs.Rows.{end_points, first_end, last_end, IsRow, AreRows}
use Rattle.edge_forest.specs.Growth.{rows_of, IsLabelled, AreFacesLabelled, IsOfEdge, IsStored}
use Rattle.edge_forest.specs.Start.{single, arc_edge, arc_current, arc_row, AreKeysListed}
use Rattle.edge_forest.proofs.LabelSteps.{has_current}
use Rattle.edge_forest.proofs.StartNet.{row_of, row_is}

single_directed : (i : ℕ) → is_directed (single i) ≡ true
single_directed i = ap (λ (b : Bool). b && true) (or_right (not (i == i)) true refl)

-- the label of a face after no step is the face
label_first : (h : MergedMap) (f : ℕ) → label_at h 0 f ≡ f
label_first h f = refl

module _ (arcs : List BaseArc) where
  abbrev arc_edges : List ForestEdge
  arc_edges = map (arc_edge arcs) (range_with_len 0 (length arcs))

  abbrev arc_rows : List (Option Current)
  arc_rows = map (arc_row arcs) (range_with_len 0 (length arcs))

  abbrev singles : List Chain
  singles = map single (range_with_len 0 (length arcs))

  edges_length : length arc_edges ≡ length arcs
  edges_length = length-map-range_with_len (arc_edge arcs) 0 (length arcs)

  edge_of : (i : ℕ) → i < length arcs → edge_at (map (arc_edge arcs) (range_with_len 0 (length arcs))) i ≡ arc_edge arcs i
  edge_of i l = get_or-map-range_with_len (arc_edge arcs) 0 (length arcs) i i (record { key = 0; low = 0; high = 0; left = 0; right = 0; parts = [] }) l (omega arith)

  -- ---- chains

  abbrev with_chain : List Chain → ForestEdge → List Chain
  with_chain chains e = chains ++ parts_chain chains e.parts ∷ []

  -- the chains of the first n edges are the first n arcs
  first_chains : (n : ℕ) → chains_of (map (arc_edge arcs) (range_with_len 0 n)) ≡ map single (range_with_len 0 n)
  first_chains zero = refl
  first_chains (suc n) =
      let next : suc n ≡ n + 1 = omega arith in
      ap (λ (k : ℕ). chains_of (map (arc_edge arcs) (range_with_len 0 k))) next
      ∙ ap chains_of (map-range_with_len_more (arc_edge arcs) 0 n n (omega arith))
      ∙ fold-append with_chain [] (map (arc_edge arcs) (range_with_len 0 n)) (arc_edge arcs n ∷ [])
      ∙ ap (λ (chains : List Chain). chains ++ single n ∷ []) (first_chains n)
      ∙ sym (map-range_with_len_more single 0 n n (omega arith))
      ∙ ap (λ (k : ℕ). map single (range_with_len 0 k)) (sym next)

  pub chains_are : chains_of (map (arc_edge arcs) (range_with_len 0 (length arcs))) ≡ map single (range_with_len 0 (length arcs))
  chains_are = first_chains (length arcs)

  single_at : (i : ℕ) → i < length arcs → get_or singles i [] ≡ single i
  single_at i l = get_or-map-range_with_len single 0 (length arcs) i i [] l (omega arith)

  chain_is : (i : ℕ) → i < length arcs → chain_of arc_edges i ≡ single i
  chain_is i l = ap (λ (chains : List Chain). get_or chains i []) chains_are ∙ single_at i l

  -- the family of the rows
  first_family : (n : ℕ) → n ≤ length arcs → family singles (map (arc_row arcs) (range_with_len 0 n)) ≡ map single (range_with_len 0 n)
  first_family zero l = refl
  first_family (suc n) l =
      let next : suc n ≡ n + 1 = omega arith in
      ap (λ (k : ℕ). family singles (map (arc_row arcs) (range_with_len 0 k))) next
      ∙ ap (family singles) (map-range_with_len_more (arc_row arcs) 0 n n (omega arith))
      ∙ flat_map-append (row_chains singles) (map (arc_row arcs) (range_with_len 0 n)) (arc_row arcs n ∷ [])
      ∙ ap₂ (λ (chains : List Chain) (c : Chain). chains ++ c ∷ []) (first_family n (omega arith)) (single_at n (omega arith))
      ∙ sym (map-range_with_len_more single 0 n n (omega arith))
      ∙ ap (λ (k : ℕ). map single (range_with_len 0 k)) (sym next)

  -- ---- rows

  arc_rows_are : AreRows singles arc_rows
  arc_rows_are i r e =
      let w = row_is arcs i r e in
      subst (IsRow singles i) (sym w.1) (at i w.0)
    where
      at : (i : ℕ) → i < length arcs → IsRow singles i (arc_current arcs i)
      at i l =
          let c = single_at i l in
          record {
            id = omega (arith, l, length-map-range_with_len single 0 (length arcs));
            links = ap has_links c;
            key = ap key c;
            directed = ap is_directed c ∙ single_directed i;
            first = omega (arith, ap first_end c);
            last = omega (arith, ap last_end c);
          }

  arc_of_edges : (i : ℕ) (r : Current) → row_at arc_rows i ≡ Some r → IsOfEdge arc_edges i r
  arc_of_edges i r e =
      let w = row_is arcs i r e in
      subst (IsOfEdge arc_edges i) (sym w.1) (at i w.0)
    where
      at : (i : ℕ) → i < length arcs → IsOfEdge arc_edges i (arc_current arcs i)
      at i l = record {
        id = omega (arith, l, edges_length);
        key = ap (λ (e : ForestEdge). e.key) (edge_of i l);
        high = ap (λ (e : ForestEdge). e.high) (edge_of i l);
      }

  arc_of_rows : (i : ℕ) → i < length arc_edges → (r : Current) × (row_at arc_rows (edge_at arc_edges i).key ≡ Some r) × (r.id ≡ i)
  arc_of_rows i l =
      let k : i < length arcs = omega (arith, l, edges_length) in
      (arc_current arcs i, ap (λ (e : ForestEdge). row_at arc_rows e.key) (edge_of i k) ∙ row_of arcs i k, refl)

-- ---- labels

-- Each number below n is a face that is its own label.
pub record AreOwnLabels (t : FaceLabels) (n : ℕ) : Type 0 where
  pub faces_count : length t.faces.items ≡ n
  pub labels_count : length t.labels.items ≡ n
  pub labels : (f : ℕ) → f < n → HasLabel t f
  pub own : (f : ℕ) → f < n → label_of t f ≡ f

module _ (h : MergedMap) where
  abbrev arcs : List BaseArc
  arcs = h.base.arcs

  arc_is_edge : (i : ℕ) → i < length arcs → IsForestEdge h (map (arc_edge arcs) (range_with_len 0 (length arcs))) i
  arc_is_edge i l =
      let edges = map (arc_edge arcs) (range_with_len 0 (length arcs)) in
      let e = edge_of arcs i l in
      let c = chain_is arcs i l in
      let leaf : Part = record { leaf = true; id = i; turned = false } in
      record {
        parts = subst (λ (e : ForestEdge). All (IsPart (length arcs) i) e.parts) (sym e)
            (All-cons (IsPart (length arcs) i) leaf [] (record { arc = λ _. l; edge = λ q. absurd cc }) (All-nil (IsPart (length arcs) i)));
        links = ap has_links c;
        key = ap (λ (e : ForestEdge). e.key) e ∙ sym (ap key c);
        left = subst (λ (e : ForestEdge). e.left ≡ label_at h e.low (arc_number arcs e.key).left) (sym e) refl;
        right = subst (λ (e : ForestEdge). e.right ≡ label_at h e.low (arc_number arcs e.key).right) (sym e) refl;
      }

  module _ (t : FaceLabels) (lists : List (List ℕ)) (same : AreOwnLabels t (2 * length h.base.classes + 1)) where
    -- a face is the face of its number, which is its label
    own : (f : ℕ) → f ≤ length h.base.classes → (face_of t f ≡ f) × IsCurrent t f
    own f le =
        let inside : f < 2 * length h.base.classes + 1 = omega (arith, le) in
        let label = same.own f inside in
        let face : face_of t f ≡ f = ap (face_of t) (sym label) ∙ (same.labels f inside).exact in
        (face, subst (IsCurrent t) label (has_current t f (same.labels f inside)))

    arc_labels : AreKeysListed arcs lists (length arcs) → ((i : ℕ) → i < length arcs → ArcFacts (length h.base.classes) (arc_number arcs i)) → (i : ℕ) (r : Current)
        → row_at (map (arc_row arcs) (range_with_len 0 (length arcs))) i ≡ Some r → IsLabelled h 0 t lists i r
    arc_labels listed facts i r e =
        let w = row_is arcs i r e in
        let left = own (arc_number arcs i).left (facts i w.0).left in
        let right = own (arc_number arcs i).right (facts i w.0).right in
        subst (IsLabelled h 0 t lists i) (sym w.1) (record {
          left = left.0;
          right = right.0;
          left_current = left.1;
          right_current = right.1;
          left_listed = (listed i w.0).left;
          right_listed = (listed i w.0).right;
        })

    start_faces : length lists ≡ 2 * length h.base.classes + 1 → AreFacesLabelled h 0 t lists
    start_faces many = record {
      lists_count = many;
      faces_count = same.faces_count;
      labels_count = same.labels_count;
      each = λ f le. same.labels f (omega (arith, le));
    }

-- ---- what is known of the arcs of a base map

pub arcs_few : (m : BaseMap) (arcs : List BaseArc) → is_base m ≡ true → arcs ≡ m.arcs → length arcs ≤ MAX_ARCS
arcs_few m arcs base e = rw e (base_facts m base).few_arcs

pub faces_few : (m : BaseMap) (n : ℕ) → is_base m ≡ true → n ≡ length m.classes → n ≤ MAX_FACES
faces_few m n base e = omega (arith, e, (base_facts m base).few_faces)

pub arcs_long : (m : BaseMap) (arcs : List BaseArc) → is_base m ≡ true → arcs ≡ m.arcs → All (λ a. 2 ≤ length a.points) arcs
arcs_long m arcs base e =
    All-same (λ (a : BaseArc). 2 ≤ length a.points) arcs m.arcs e
    (All-weaker (ArcFacts (length m.classes)) (λ a. 2 ≤ length a.points) (λ a f. f.two_points) m.arcs (each_arc m (base_facts m base)))

pub arcs_below : (m : BaseMap) (arcs : List BaseArc) (n : ℕ) → is_base m ≡ true → arcs ≡ m.arcs → n ≡ length m.classes
    → All (λ a. (a.left < 2 * n + 1) × (a.right < 2 * n + 1)) arcs
arcs_below m arcs n base e many =
    All-same (λ (a : BaseArc). (a.left < 2 * n + 1) × (a.right < 2 * n + 1)) arcs m.arcs e
    (All-weaker (ArcFacts (length m.classes)) (λ a. (a.left < 2 * n + 1) × (a.right < 2 * n + 1))
    (λ a f. (omega (arith, f.left, many), omega (arith, f.right, many))) m.arcs (each_arc m (base_facts m base)))

-- ---- before the first join

stored_at_start : (g : Growth) → is_base g.base ≡ true → IsPartition (base_segments g.base) → AreNodes (end_points g.base.arcs) g.nodes → IsNet g.nodes g.net
    → rows_of g ≡ map (arc_row g.base.arcs) (range_with_len 0 (length g.base.arcs))
    → g.edges.items ≡ map (arc_edge g.base.arcs) (range_with_len 0 (length g.base.arcs))
    → length g.keys.items ≡ 2 * length g.base.classes + 1 → AreKeysListed g.base.arcs g.keys.items (length g.base.arcs)
    → AreOwnLabels g.labels (2 * length g.base.classes + 1) → IsStored 0 g
stored_at_start g base partition nodes net er ee many listed same = record {
  base = base;
  partition = partition;
  steps = omega arith;
  nodes = nodes;
  net = net;
  count = ap length er ∙ length-map-range_with_len (arc_row arcs) 0 (length arcs);
  faces = start_faces h g.labels g.keys.items same many;
  edges = λ i l. subst (λ (es : List ForestEdge). IsForestEdge h es i) (sym ee) (arc_is_edge h i (within i l));
  low = λ i l. omega (arith, ap (λ (e : ForestEdge). e.low) (edge_is i l));
  high = λ i l. inr (ap (λ (e : ForestEdge). e.high) (edge_is i l));
  order = λ i l. omega (arith, ap (λ (e : ForestEdge). e.low) (edge_is i l));
  longer = λ i j less l e.
      absurd (omega (arith, less, e, ap (λ (e : ForestEdge). e.key) (edge_is i (omega (arith, less, l))), ap (λ (e : ForestEdge). e.key) (edge_is j l)));
  latest = λ i r k j l e.
      omega (arith, ap (λ (c : Current). c.id) (row_is arcs i r (read i r k)).1, e, ap (λ (e : ForestEdge). e.key) (edge_is j l));
  rows =
      subst (λ (cs : List Chain). AreRows cs (rows_of g)) (sym (ap chains_of ee ∙ chains_are arcs))
      (subst (AreRows (map single (range_with_len 0 (length arcs)))) (sym er) (arc_rows_are arcs));
  labels = λ i r k. arc_labels h g.labels g.keys.items same listed facts i r (read i r k);
  of_edges = λ i r k. subst (λ (es : List ForestEdge). IsOfEdge es i r) (sym ee) (arc_of_edges arcs i r (read i r k));
  of_rows = λ i l _.
      subst (λ (es : List ForestEdge). (r : Current) × (row_at (rows_of g) (edge_at es i).key ≡ Some r) × (r.id ≡ i)) (sym ee)
      (subst (λ (rs : List (Option Current)). (r : Current) × (row_at rs (edge_at made i).key ≡ Some r) × (r.id ≡ i)) (sym er)
      (arc_of_rows arcs i (omega (arith, l, ap length ee))));
  past = λ j l. absurd (omega arith);
}
  where
    arcs : List BaseArc
    arcs = g.base.arcs

    h : MergedMap
    h = merged g.base

    made : List ForestEdge
    made = map (arc_edge g.base.arcs) (range_with_len 0 (length g.base.arcs))

    facts : (i : ℕ) → i < length g.base.arcs → ArcFacts (length g.base.classes) (arc_number g.base.arcs i)
    facts i l =
        All-get_or (ArcFacts (length g.base.classes)) g.base.arcs i (record { left = 0; right = 0; points = [] }) l (each_arc g.base (base_facts g.base base))

    within : (i : ℕ) → i < length g.edges.items → i < length g.base.arcs
    within i l = omega (arith, l, ap length ee, length-map-range_with_len (arc_edge g.base.arcs) 0 (length g.base.arcs))

    edge_is : (i : ℕ) → i < length g.edges.items → edge_at g.edges.items i ≡ arc_edge g.base.arcs i
    edge_is i l = ap (λ (es : List ForestEdge). edge_at es i) ee ∙ edge_of g.base.arcs i (within i l)

    read : (i : ℕ) (r : Current) → row_at (rows_of g) i ≡ Some r → row_at (map (arc_row g.base.arcs) (range_with_len 0 (length g.base.arcs))) i ≡ Some r
    read i r k = ap (λ (rs : List (Option Current)). row_at rs i) (sym er) ∙ k

-- the forest is stored also where its parts were made from the arcs of a base map of which it has a copy
pub stored_by_copy : (g : Growth) (m : BaseMap) (arcs : List BaseArc) → g.base ≡ m → arcs ≡ m.arcs → is_base m ≡ true → IsPartition (base_segments m)
    → AreNodes (end_points arcs) g.nodes → IsNet g.nodes g.net
    → rows_of g ≡ map (arc_row arcs) (range_with_len 0 (length arcs)) → g.edges.items ≡ map (arc_edge arcs) (range_with_len 0 (length arcs))
    → length g.keys.items ≡ 2 * length m.classes + 1 → AreKeysListed arcs g.keys.items (length arcs) → AreOwnLabels g.labels (2 * length m.classes + 1) → IsStored 0 g
stored_by_copy g m arcs same e base partition nodes net er ee many listed own =
    let of_copy : arcs ≡ g.base.arcs = e ∙ ap (λ (m : BaseMap). m.arcs) (sym same) in
    stored_at_start g
    (ap is_base same ∙ base)
    (subst (λ (m : BaseMap). IsPartition (base_segments m)) (sym same) partition)
    (subst (λ (arcs : List BaseArc). AreNodes (end_points arcs) g.nodes) of_copy nodes)
    net
    (er ∙ ap (λ (arcs : List BaseArc). map (arc_row arcs) (range_with_len 0 (length arcs))) of_copy)
    (ee ∙ ap (λ (arcs : List BaseArc). map (arc_edge arcs) (range_with_len 0 (length arcs))) of_copy)
    (many ∙ ap (λ (m : BaseMap). 2 * length m.classes + 1) (sym same))
    (subst (λ (arcs : List BaseArc). AreKeysListed arcs g.keys.items (length arcs)) of_copy listed)
    (subst (λ (n : ℕ). AreOwnLabels g.labels n) (ap (λ (m : BaseMap). 2 * length m.classes + 1) (sym same)) own)

pub family_at_start : (arcs : List BaseArc) (edges : List ForestEdge) (rows : List (Option Current)) → edges ≡ map (arc_edge arcs) (range_with_len 0 (length arcs))
    → rows ≡ map (arc_row arcs) (range_with_len 0 (length arcs)) → family (chains_of edges) rows ≡ map single (range_with_len 0 (length arcs))
family_at_start arcs edges rows ee er =
    ap₂ (λ (es : List ForestEdge) (rs : List (Option Current)). family (chains_of es) rs) ee er
    ∙ ap (λ (chains : List Chain). family chains (map (arc_row arcs) (range_with_len 0 (length arcs)))) (chains_are arcs)
    ∙ first_family arcs (length arcs) (omega arith)
