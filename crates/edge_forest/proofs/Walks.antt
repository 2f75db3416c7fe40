-- The chain and the size of an edge, by its parts; and the parts of an edge that is turned round.
use Rattle.std.proofs.Common.{◌≡◌, ℕ, ◌+◌, ◌<◌, Bool, true, false, not, cond, List, [], ◌∷◌, ◌++◌, map, flat_map, reverse, sum_by, length, take, get_or, All, Contains, Some, refl, sym, ap, ap₂, ◌∙◌, subst, arith, if◌then◌else◌}
use Rattle.std.specs.Prelude.{slice_index_or}
use Rattle.std.proofs.lemmas.List.{append-nil, append_assoc, map-append, reverse-append}
use Rattle.std.proofs.lemmas.List.Concat.{flat_map-append}
use Rattle.std.proofs.lemmas.List.Elements.{All-head, All-tail, All-weaker, All-map, All-contains, All-pop, Contains-push}
use Rattle.std.proofs.lemmas.List.Sums.{sum_by-append, sum_by-cons}
use Rattle.std.proofs.lemmas.List.Sorted.{IsPermutation-reverse, All-permutation}
use Rattle.lemmas.proofs.Counts.{sum_by-agree}
use Rattle.tgap_model.specs.Chains.{Chain, turned_round}
use Rattle.edge_forest.specs.declared.edge.Part.{Part}
use Rattle.edge_forest.specs.declared.edge.ForestEdge.{ForestEdge}
use Rattle.edge_forest.specs.Edges.{edge_at, whole_part, part_chain, parts_chain, chains_of, chain_of}
use Rattle.edge_forest.specs.declared.walk.Link as walked
use Rattle.edge_forest.specs.Walks.{chain_link, IsMadeOfEarlier, turned_part, turned_parts, inner_parts}
use Rattle.edge_forest.proofs.Alike.{turned_append, turned_twice}
use Rattle.edge_forest.proofs.Tables.{table, entry, earlier}

abbrev no_edge : ForestEdge
no_edge = record { key = 0; low = 0; high = 0; left = 0; right = 0; parts = [] }

-- ---- sizes

-- how many parts a part has in all, itself among them
abbrev pub part_size : List ℕ → Part → ℕ
part_size sizes p = if p.leaf then 1 else slice_index_or sizes p.id 1

abbrev edge_size : List ℕ → ForestEdge → ℕ
edge_size sizes e = sum_by (part_size sizes) e.parts + 1

abbrev pub sizes_of : List ForestEdge → List ℕ
sizes_of edges = table edge_size edges

-- ---- an edge by its parts

cond_agree : {A : Type 0} (b : Bool) (x y z : A) → (b ≡ false → y ≡ z) → cond b x y ≡ cond b x z
cond_agree true x y z h = refl
cond_agree false x y z h = h refl

flat_map_agree : {A B : Type 0} (f g : A → List B) (xs : List A) → All (λ x. f x ≡ g x) xs → flat_map f xs ≡ flat_map g xs
flat_map_agree f g [] h = refl
flat_map_agree f g (x ∷ xs) h =
    ap₂ (λ ys zs. ys ++ zs) (All-head (λ x. f x ≡ g x) x xs h) (flat_map_agree f g xs (All-tail (λ x. f x ≡ g x) x xs h))

module _ (edges : List ForestEdge) (made : IsMadeOfEarlier edges) where
  pub chain_step : (i : ℕ) → i < length edges → chain_of edges i ≡ parts_chain (chains_of edges) (edge_at edges i).parts
  chain_step i l =
      entry (λ chains e. parts_chain chains e.parts) edges i [] no_edge l
      ∙ flat_map_agree (part_chain before) (part_chain (chains_of edges)) (edge_at edges i).parts
      (All-weaker (λ p. p.leaf ≡ false → p.id < i) (λ p. part_chain before p ≡ part_chain (chains_of edges) p) same (edge_at edges i).parts (made i l))
    where
      before : List Chain
      before = table (λ chains e. parts_chain chains e.parts) (take i edges)

      same : (p : Part) → (p.leaf ≡ false → p.id < i) → part_chain before p ≡ part_chain (chains_of edges) p
      same p h =
          ap (λ c. cond p.turned (turned_round c) c)
          (cond_agree p.leaf (record { arc = p.id; turned = false } ∷ []) (get_or before p.id []) (get_or (chains_of edges) p.id [])
          (λ e. earlier (λ chains e. parts_chain chains e.parts) edges i p.id [] (h e) (omega arith)))

  pub size_step : (i : ℕ) → i < length edges → slice_index_or (sizes_of edges) i 1 ≡ sum_by (part_size (sizes_of edges)) (edge_at edges i).parts + 1
  size_step i l =
      entry edge_size edges i 1 no_edge l
      ∙ ap (λ n. n + 1) (sum_by-agree (part_size before) (part_size (sizes_of edges)) (edge_at edges i).parts
      (All-weaker (λ p. p.leaf ≡ false → p.id < i) (λ p. part_size before p ≡ part_size (sizes_of edges) p) same (edge_at edges i).parts (made i l)))
    where
      before : List ℕ
      before = table edge_size (take i edges)

      same : (p : Part) → (p.leaf ≡ false → p.id < i) → part_size before p ≡ part_size (sizes_of edges) p
      same p h = cond_agree p.leaf 1 (get_or before p.id 1) (get_or (sizes_of edges) p.id 1) (λ e. earlier edge_size edges i p.id 1 (h e) (omega arith))

-- ---- parts turned round

part_turned : (chains : List Chain) (p : Part) → part_chain chains (turned_part p) ≡ turned_round (part_chain chains p)
part_turned chains p = by p.turned (whole_part chains p)
  where
    by : (b : Bool) (c : Chain) → cond (not b) (turned_round c) c ≡ turned_round (cond b (turned_round c) c)
    by true c = sym (turned_twice c)
    by false c = refl

turned_parts_cons : (p : Part) (parts : List Part) → turned_parts (p ∷ parts) ≡ turned_parts parts ++ turned_part p ∷ []
turned_parts_cons p parts = ap (map turned_part) (reverse-append (p ∷ []) parts) ∙ map-append turned_part (reverse parts) (p ∷ [])

pub parts_turned : (chains : List Chain) (parts : List Part) → parts_chain chains (turned_parts parts) ≡ turned_round (parts_chain chains parts)
parts_turned chains [] = refl
parts_turned chains (p ∷ parts) =
    ap (parts_chain chains) (turned_parts_cons p parts)
    ∙ flat_map-append (part_chain chains) (turned_parts parts) (turned_part p ∷ [])
    ∙ ap₂ (λ (c e : Chain). c ++ e) (parts_turned chains parts) (append-nil (part_chain chains (turned_part p)) ∙ part_turned chains p)
    ∙ sym (turned_append (part_chain chains p) (parts_chain chains parts))

sizes_turned : (sizes : List ℕ) (parts : List Part) → sum_by (part_size sizes) (turned_parts parts) ≡ sum_by (part_size sizes) parts
sizes_turned sizes [] = refl
sizes_turned sizes (p ∷ parts) =
    omega (
      arith,
      ap (sum_by (part_size sizes)) (turned_parts_cons p parts),
      sum_by-append (part_size sizes) (turned_parts parts) (turned_part p ∷ []),
      sum_by-cons (part_size sizes) (turned_part p) [],
      sum_by-cons (part_size sizes) p parts,
      sizes_turned sizes parts,
    )

-- ---- the parts of a part

-- what the walk puts in the place of a part that is an edge: its chain is the same, its size one less, and each is known
module _ (edges : List ForestEdge) (made : IsMadeOfEarlier edges) (p : Part) (edge : p.leaf ≡ false) (l : p.id < length edges) where
  pub inner_chain : part_chain (chains_of edges) p ≡ parts_chain (chains_of edges) (inner_parts edges p)
  inner_chain = ap (λ c. cond p.turned (turned_round c) c) whole ∙ by p.turned
    where
      parts : List Part
      parts = (edge_at edges p.id).parts

      whole : whole_part (chains_of edges) p ≡ parts_chain (chains_of edges) parts
      whole = ap (λ (b : Bool). cond b (record { arc = p.id; turned = false } ∷ []) (chain_of edges p.id)) edge ∙ chain_step edges made p.id l

      by : (b : Bool) → cond b (turned_round (parts_chain (chains_of edges) parts)) (parts_chain (chains_of edges) parts) ≡ parts_chain (chains_of edges) (cond b (turned_parts parts) parts)
      by true = sym (parts_turned (chains_of edges) parts)
      by false = refl

  pub inner_size : part_size (sizes_of edges) p ≡ sum_by (part_size (sizes_of edges)) (inner_parts edges p) + 1
  inner_size =
      ap (λ (b : Bool). cond b 1 (slice_index_or (sizes_of edges) p.id 1)) edge
      ∙ size_step edges made p.id l
      ∙ ap (λ n. n + 1) (by p.turned)
    where
      parts : List Part
      parts = (edge_at edges p.id).parts

      by : (b : Bool) → sum_by (part_size (sizes_of edges)) parts ≡ sum_by (part_size (sizes_of edges)) (cond b (turned_parts parts) parts)
      by true = sym (sizes_turned (sizes_of edges) parts)
      by false = refl

  pub inner_known : All (λ q. q.leaf ≡ false → q.id < length edges) (inner_parts edges p)
  inner_known = by p.turned
    where
      Known : Part → Type 0
      Known q = q.leaf ≡ false → q.id < length edges

      parts : List Part
      parts = (edge_at edges p.id).parts

      known : All Known parts
      known = All-weaker (λ q. q.leaf ≡ false → q.id < p.id) Known (λ q h e. let less = h e in omega arith) parts (made p.id l)

      by : (b : Bool) → All Known (cond b (turned_parts parts) parts)
      by true = All-map Known turned_part (reverse parts) (All-permutation Known parts (reverse parts) (IsPermutation-reverse parts) known)
      by false = known

-- ---- a step of the walk

-- the part at the end of the stack is an arc
pub visit_arc : (chains : List Chain) (old stack : List Part) (p : Part) (links : List walked.Link) (c : Chain)
    → old ≡ stack ++ p ∷ [] → p.leaf ≡ true → parts_chain chains old ++ reverse (map chain_link links) ≡ c
    → parts_chain chains stack ++ reverse (map chain_link (links ++ (record { arc = p.id; turned = p.turned }) ∷ [])) ≡ c
visit_arc chains old stack p links c popped leaf known =
    ap (λ (e : Chain). parts_chain chains stack ++ e)
    (ap reverse (map-append chain_link links (link ∷ [])) ∙ reverse-append (map chain_link links) (chain_link link ∷ []))
    ∙ sym (append_assoc (parts_chain chains stack) (chain_link link ∷ []) (reverse (map chain_link links)))
    ∙ ap (λ (e : Chain). e ++ reverse (map chain_link links)) (sym last)
    ∙ known
  where
    link : walked.Link
    link = record { arc = p.id; turned = p.turned }

    alone : part_chain chains p ≡ chain_link link ∷ []
    alone =
        ap (λ (b : Bool). cond p.turned (turned_round (cond b (record { arc = p.id; turned = false } ∷ []) (get_or chains p.id []))) (cond b (record { arc = p.id; turned = false } ∷ []) (get_or chains p.id []))) leaf
        ∙ by p.turned
      where
        by : (b : Bool) → cond b (turned_round (record { arc = p.id; turned = false } ∷ [])) (record { arc = p.id; turned = false } ∷ []) ≡ record { arc = p.id; turned = b } ∷ []
        by true = refl
        by false = refl

    last : parts_chain chains old ≡ parts_chain chains stack ++ chain_link link ∷ []
    last =
        ap (parts_chain chains) popped
        ∙ flat_map-append (part_chain chains) stack (p ∷ [])
        ∙ ap (λ (e : Chain). parts_chain chains stack ++ e) (append-nil (part_chain chains p) ∙ alone)

-- what is known of the stack is known of the part at its end
pub popped_known : (Q : Part → Type 0) (old stack : List Part) (p : Part) → old ≡ stack ++ p ∷ [] → All Q old → All Q stack × Q p
popped_known Q old stack p popped all =
    let parts = All-pop Q old stack (Some p) popped all in
    (parts.0, All-contains Q old p all (subst (λ ps. Contains ps p) (sym popped) (Contains-push stack p)))

module _ (edges : List ForestEdge) (made : IsMadeOfEarlier edges) (old stack : List Part) (p : Part) (popped : old ≡ stack ++ p ∷ []) (edge : p.leaf ≡ false) (l : p.id < length edges) where
  -- the part at the end of the stack is an edge
  pub visit_edge : (back c : Chain) → parts_chain (chains_of edges) old ++ back ≡ c → parts_chain (chains_of edges) (stack ++ inner_parts edges p) ++ back ≡ c
  visit_edge back c known =
      let f = part_chain (chains_of edges) in
      ap (λ (e : Chain). e ++ back)
      (flat_map-append f stack (inner_parts edges p)
      ∙ ap (λ (e : Chain). flat_map f stack ++ e) (sym (inner_chain edges made p edge l) ∙ sym (append-nil (f p)))
      ∙ sym (flat_map-append f stack (p ∷ []))
      ∙ ap (flat_map f) (sym popped))
      ∙ known

  -- and fewer parts are left
  pub visit_smaller : sum_by (part_size (sizes_of edges)) (stack ++ inner_parts edges p) < sum_by (part_size (sizes_of edges)) old
  visit_smaller =
      let f = part_size (sizes_of edges) in
      omega (
        arith,
        ap (sum_by f) popped,
        sum_by-append f stack (p ∷ []),
        sum_by-cons f p [],
        sum_by-append f stack (inner_parts edges p),
        inner_size edges made p edge l,
      )
