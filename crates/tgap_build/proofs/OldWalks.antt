-- A walk from an edge that a step made to the edges before the step of which it is made.
use Rattle.std.proofs.Common.{◌≡◌, ℕ, ◌-◌, ◌<◌, ◌≤◌, Bool, true, false, cond, nat_le, nat_lt, List, [], ◌∷◌, ◌++◌, map, reverse, sum_by, length, All, Contains, sym, ap, ◌∙◌, subst, arith}
use Rattle.std.specs.Prelude.{flat_map}
use Rattle.std.proofs.lemmas.Bool.{and_from, le-leb, lt-ltb}
use Rattle.std.proofs.lemmas.List.{append-nil, append_assoc, reverse-append}
use Rattle.std.proofs.lemmas.List.Concat.{flat_map-append}
use Rattle.std.proofs.lemmas.List.Elements.{All-map, All-weaker}
use Rattle.std.proofs.lemmas.List.Sums.{sum_by-append, sum_by-cons}
use Rattle.std.proofs.lemmas.List.Sorted.{IsPermutation-reverse, All-permutation}
use Rattle.tgap_model.specs.Merged.{merged}
use Rattle.tgap_model.specs.Chains.{Chain, key, turned_round, chains_at}
use Rattle.map_laws.proofs.ChainMembers.{Among}
use Rattle.removal_laws.proofs.ChainEnds.{contained}
use Rattle.map_laws.proofs.Lists.{among_map}
use Rattle.edge_forest.specs.declared.edge.Part.{Part}
use Rattle.edge_forest.specs.declared.edge.ForestEdge.{ForestEdge}
use Rattle.edge_forest.specs.Edges.{edge_at, part_chain, parts_chain, chains_of, chain_of, is_alive}
use Rattle.edge_forest.specs.Forest.{EdgeForest, IsForest}
use Rattle.edge_forest.specs.Continued.{IsJoinedPart, AreJoined}
use Rattle.edge_forest.specs.Walks.{IsMadeOfEarlier, turned_part, turned_parts, inner_parts}
use Rattle.edge_forest.proofs.Walks.{part_size, sizes_of, inner_size}
use Rattle.edge_forest.proofs.WalkedArcs.{made_of_earlier}
use Rattle.tgap_build.specs.declared.joined.OldEdge.{OldEdge}
use Rattle.tgap_build.specs.OldEdges.{chain_with, old_chain, old_chains}
use Rattle.tgap_build.proofs.Alive.{alive_chain}
use Rattle.tgap_build.proofs.OldParts.{with_key}

-- A part on the stack is an edge, and one that was there before step k had not ended before it.
pub record IsWalked (k first : ℕ) (edges : List ForestEdge) (p : Part) : Type 0 where
  pub joined : IsJoinedPart k first edges p
  pub within : p.id < length edges

module _ (f : EdgeForest) (w : IsForest f) where
  abbrev edges : List ForestEdge
  edges = f.edges

  pub made_earlier : IsMadeOfEarlier f.edges
  made_earlier = made_of_earlier (length f.base.arcs) f.edges (λ i l. (w.edges i l).parts)

  module _ (k first : ℕ) (some : 0 < k) (up_to : k - 1 ≤ f.made) (before : (i : ℕ) → i < first → (edge_at f.edges i).low ≤ k - 1) (joined : AreJoined k first f.edges) where
    abbrev finer : List Chain
    finer = chains_at (merged f.base) (k - 1)

    -- an edge of before, by its number, is the chain with its key
    module _ (p : Part) (known : IsWalked k first f.edges p) (old : p.id < first) where
      alive : is_alive (k - 1) (edge_at f.edges p.id) ≡ true
      alive =
          let low = before p.id old in
          let high = known.joined.there old in
          and_from (nat_le (edge_at f.edges p.id).low (k - 1)) (nat_lt (k - 1) (edge_at f.edges p.id).high)
          (le-leb (edge_at f.edges p.id).low (k - 1) low) (lt-ltb (k - 1) (edge_at f.edges p.id).high (omega (arith, high, some)))

      there : Among (chain_of f.edges p.id) (chains_at (merged f.base) (k - 1))
      there = alive_chain f w (k - 1) up_to p.id known.within alive

      abbrev found : OldEdge
      found = record { key = (edge_at f.edges p.id).key; turned = p.turned }

      key_is : (edge_at f.edges p.id).key ≡ key (chain_of f.edges p.id)
      key_is = (w.edges p.id known.within).key

      pub found_there : Contains (map key (chains_at (merged f.base) (k - 1))) (edge_at f.edges p.id).key
      found_there =
          subst (Contains (map key finer)) (sym key_is) (contained (map key finer) (key (chain_of f.edges p.id)) (among_map key finer (chain_of f.edges p.id) there))

      same_chain : part_chain (chains_of f.edges) p ≡ old_chain (chains_at (merged f.base) (k - 1)) (record { key = (edge_at f.edges p.id).key; turned = p.turned })
      same_chain =
          ap (λ (c : Chain). cond p.turned (turned_round c) c)
          (ap (λ (b : Bool). cond b (record { arc = p.id; turned = false } ∷ []) (chain_of f.edges p.id)) known.joined.edge
          ∙ sym (ap (chain_with finer) key_is ∙ with_key (merged f.base) (k - 1) (chain_of f.edges p.id) there))

      -- it goes to those that were found
      pub visit_old : (all stack : List Part) (back : List OldEdge) (c : Chain) → all ≡ stack ++ p ∷ []
          → parts_chain (chains_of f.edges) all ++ old_chains (chains_at (merged f.base) (k - 1)) (reverse back) ≡ c
          → parts_chain (chains_of f.edges) stack
          ++ old_chains (chains_at (merged f.base) (k - 1)) (reverse (back ++ (record { key = (edge_at f.edges p.id).key; turned = p.turned }) ∷ [])) ≡ c
      visit_old all stack back c popped so_far =
          let g = part_chain (chains_of f.edges) in
          ap (λ (e : Chain). flat_map g stack ++ e) (ap (old_chains finer) (reverse-append back (found ∷ [])))
          ∙ sym (append_assoc (flat_map g stack) (old_chain finer found) (old_chains finer (reverse back)))
          ∙ ap (λ (e : Chain). e ++ old_chains finer (reverse back))
          (ap (λ (e : Chain). flat_map g stack ++ e) (sym same_chain ∙ sym (append-nil (g p))) ∙ sym (flat_map-append g stack (p ∷ [])) ∙ ap (flat_map g) (sym popped))
          ∙ so_far

      -- and one part less is left
      pub old_smaller : (all stack : List Part) → all ≡ stack ++ p ∷ [] → sum_by (part_size (sizes_of f.edges)) stack < sum_by (part_size (sizes_of f.edges)) all
      old_smaller all stack popped =
          let size = part_size (sizes_of f.edges) in
          omega (arith, ap (sum_by size) popped, sum_by-append size stack (p ∷ []), sum_by-cons size p [], inner_size f.edges made_earlier p known.joined.edge known.within)

    -- the parts of an edge that the step made are walked
    pub inner_walked : (p : Part) → IsWalked k first f.edges p → first ≤ p.id → All (IsWalked k first f.edges) (inner_parts f.edges p)
    inner_walked p known from = by p.turned
      where
        Walked : Part → Type 0
        Walked q = IsWalked k first f.edges q

        parts : List Part
        parts = (edge_at f.edges p.id).parts

        all : All (IsWalked k first f.edges) (edge_at f.edges p.id).parts
        all n d l =
            let j = joined p.id from known.within n d l in
            record {
              joined = j;
              within = let less = made_earlier p.id known.within n d l j.edge in omega (arith, less, known.within);
            }

        turned_walked : (q : Part) → IsWalked k first f.edges q → IsWalked k first f.edges (turned_part q)
        turned_walked q h = record { joined = record { edge = h.joined.edge; there = h.joined.there }; within = h.within }

        by : (b : Bool) → All (IsWalked k first f.edges) (cond b (turned_parts (edge_at f.edges p.id).parts) (edge_at f.edges p.id).parts)
        by true = All-map (IsWalked k first f.edges) turned_part (reverse parts)
            (All-permutation (λ (q : Part). IsWalked k first f.edges (turned_part q)) parts (reverse parts) (IsPermutation-reverse parts)
            (All-weaker (IsWalked k first f.edges) (λ (q : Part). IsWalked k first f.edges (turned_part q)) turned_walked parts all))
        by false = all
