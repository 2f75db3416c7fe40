-- Edges that end keep all but their high step, so the chains stay, and so do the edges whose range holds an earlier step.
use Rattle.std.proofs.Common.{◌≡◌, ◌⊎◌, inl, inr, ℕ, ◌<◌, Bool, true, ◌&&◌, nat_le, nat_lt, ◌∷◌, [], List, ◌++◌, map, filter, fold, length, get_or, All, refl, sym, ap, ap₂, ◌∙◌, subst, arith}
use Rattle.std.specs.List.{range_with_len}
use Rattle.std.proofs.lemmas.Bool.{lt-ltb}
use Rattle.std.proofs.lemmas.List.{ext_get_or, get_or-map, length-map}
use Rattle.std.proofs.lemmas.List.Elements.{All-filter}
use Rattle.std.proofs.lemmas.List.Folds.{fold-map}
use Rattle.std.proofs.lemmas.List.FromFn.{length-range_with_len, get_or-range_with_len}
use Rattle.lemmas.specs.Sorting.{sort_by}
use Rattle.lemmas.proofs.Members.{filter_agree_on}
use Rattle.lemmas.proofs.Sorting.{sort_by-agree}
use Rattle.tgap_model.specs.Chains.{Chain, arc_number, key, has_links}
use Rattle.tgap_model.specs.Merged.{MergedMap, label_at}
use Rattle.edge_forest.specs.declared.edge.Part.{Part}
use Rattle.edge_forest.specs.declared.edge.ForestEdge.{ForestEdge}
use Rattle.edge_forest.specs.Edges.{edge_at, parts_chain, chains_of, chain_of, is_alive, alive_edges, IsPart, IsForestEdge}
use Rattle.edge_forest.specs.Forest.{never}
use Rattle.edge_forest.specs.Growth.{ended}

abbrev no_edge : ForestEdge
no_edge = record { key = 0; low = 0; high = 0; left = 0; right = 0; parts = [] }

-- the chains depend on the parts alone
chains_by_parts : (edges : List ForestEdge) → chains_of edges ≡ fold (λ (chains : List Chain) parts. chains ++ parts_chain chains parts ∷ []) [] (map (λ (e : ForestEdge). e.parts) edges)
chains_by_parts edges = sym (fold-map (λ (chains : List Chain) parts. chains ++ parts_chain chains parts ∷ []) (λ (e : ForestEdge). e.parts) [] edges)

module _ (low : ℕ) (old edges : List ForestEdge) (count : length edges ≡ length old)
    (kept : (i : ℕ) → i < length edges → (edge_at edges i ≡ edge_at old i) ⊎ (((edge_at old i).high ≡ never) × (edge_at edges i ≡ ended low (edge_at old i)))) where
  -- what does not depend on the high step is as before
  same : {A : Type 0} (f : ForestEdge → A) → ((e : ForestEdge) → f (ended low e) ≡ f e) → (i : ℕ) → i < length edges → f (edge_at edges i) ≡ f (edge_at old i)
  same f h i l = elim (kept i l) [
    | inl e ↦ ap f e
    | inr e ↦ ap f e.1 ∙ h (edge_at old i)
  ]

  pub same_key : (i : ℕ) → i < length edges → (edge_at edges i).key ≡ (edge_at old i).key
  same_key = same (λ e. e.key) (λ e. refl)

  pub same_low : (i : ℕ) → i < length edges → (edge_at edges i).low ≡ (edge_at old i).low
  same_low = same (λ e. e.low) (λ e. refl)

  same_parts : (i : ℕ) → i < length edges → (edge_at edges i).parts ≡ (edge_at old i).parts
  same_parts = same (λ e. e.parts) (λ e. refl)

  all_parts : map (λ (e : ForestEdge). e.parts) edges ≡ map (λ (e : ForestEdge). e.parts) old
  all_parts =
      ext_get_or [] (map parts edges) (map parts old) (length-map edges parts ∙ count ∙ sym (length-map old parts))
      (λ i l.
      let short : i < length edges = omega (arith, l, length-map edges parts) in
      get_or-map parts edges i no_edge [] short ∙ same_parts i short ∙ sym (get_or-map parts old i no_edge [] (omega (arith, short, count))))
    where
      parts : ForestEdge → List Part
      parts e = e.parts

  pub same_chains : chains_of edges ≡ chains_of old
  same_chains =
      chains_by_parts edges ∙ ap (fold (λ (chains : List Chain) parts. chains ++ parts_chain chains parts ∷ []) []) all_parts ∙ sym (chains_by_parts old)

  -- ---- ranges

  module _ (small : low < never) (j : ℕ) (earlier : j < low) where
    same_alive : (i : ℕ) → i < length edges → is_alive j (edge_at edges i) ≡ is_alive j (edge_at old i)
    same_alive i l = elim (kept i l) [
      | inl e ↦ ap (is_alive j) e
      | inr e ↦
          let open_range : nat_lt j (edge_at old i).high ≡ true = lt-ltb j (edge_at old i).high (omega (arith, small, earlier, e.0)) in
          ap (is_alive j) e.1 ∙ ap (λ (b : Bool). nat_le (edge_at old i).low j && b) (lt-ltb j low earlier ∙ sym open_range)
    ]

    below : (n : ℕ) → All (λ i. i < n) (range_with_len 0 n)
    below n k d l = omega (arith, length-range_with_len 0 n, get_or-range_with_len 0 n k d (omega (arith, length-range_with_len 0 n)))

    abbrev numbers : List ℕ
    numbers = range_with_len 0 (length edges)

    same_filter : filter (λ i. is_alive j (edge_at edges i)) numbers ≡ filter (λ i. is_alive j (edge_at old i)) numbers
    same_filter =
        filter_agree_on (λ i. is_alive j (edge_at edges i)) (λ i. is_alive j (edge_at old i)) numbers
        (λ k d l. same_alive (get_or numbers k d) (below (length edges) k d l))

    abbrev by_key : List ForestEdge → ℕ → ℕ → Bool
    by_key es i k = nat_lt (edge_at es i).key (edge_at es k).key

    -- at an earlier step the same edges have a range that holds it
    pub same_alive_edges : alive_edges edges j ≡ alive_edges old j
    same_alive_edges =
        ap (sort_by (by_key edges)) same_filter
        ∙ sort_by-agree (λ i. i < length edges) (by_key edges) (by_key old) (λ x y p q. ap₂ nat_lt (sym (same_key x p)) (sym (same_key y q)))
        (filter (λ i. is_alive j (edge_at old i)) numbers) (All-filter (λ i. is_alive j (edge_at old i)) (λ i. i < length edges) numbers (below (length edges)))
        ∙ ap (λ (n : ℕ). sort_by (by_key old) (filter (λ i. is_alive j (edge_at old i)) (range_with_len 0 n))) count

    pub same_alive_chains : map (chain_of edges) (alive_edges edges j) ≡ map (chain_of old) (alive_edges old j)
    same_alive_chains =
        ap (map (chain_of edges)) same_alive_edges
        ∙ ap (λ (chains : List Chain). map (λ i. get_or chains i []) (alive_edges old j)) same_chains

  -- ---- each edge

  pub same_edge : (h : MergedMap) (i : ℕ) → i < length edges → IsForestEdge h old i → IsForestEdge h edges i
  same_edge h i l known = record {
    parts = subst (All (IsPart (length h.base.arcs) i)) (sym (same_parts i l)) known.parts;
    links = ap (λ (chains : List Chain). has_links (get_or chains i [])) same_chains ∙ known.links;
    key = same_key i l ∙ known.key ∙ ap (λ (chains : List Chain). key (get_or chains i [])) (sym same_chains);
    left = same (λ e. e.left) (λ e. refl) i l ∙ known.left
        ∙ sym (ap₂ (λ (k n : ℕ). label_at h k (arc_number h.base.arcs n).left) (same_low i l) (same_key i l));
    right = same (λ e. e.right) (λ e. refl) i l ∙ known.right
        ∙ sym (ap₂ (λ (k n : ℕ). label_at h k (arc_number h.base.arcs n).right) (same_low i l) (same_key i l));
  }
