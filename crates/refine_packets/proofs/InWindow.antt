-- The edges of a window by their keys.
use Rattle.std.proofs.Common.{◌≡◌, inl, inr, ℕ, ◌==◌, Bool, true, false, cond, List, map, filter, Option, Some, None, eq-eqb, refl, sym, ap, ◌∙◌}
use Rattle.std.specs.Prelude.{find}
use Rattle.std.specs.Option.{option_to_list}
use Rattle.std.proofs.lemmas.Bool.{eqb-true, false_from_ne_true, true≢false}
use Rattle.tgap_model.specs.declared.geometry.Window.{Window}
use Rattle.tgap_model.specs.declared.slice.Edge.{Edge}
use Rattle.tgap_model.specs.declared.record.Piece.{Piece}
use Rattle.tgap_model.specs.Merged.{MergedMap}
use Rattle.tgap_model.specs.Chains.{Chain, key, chains_at}
use Rattle.tgap_model.specs.Removals.{edge_of, removals_to}
use Rattle.tgap_model.specs.Slice.{meets_window, window_of}
use Rattle.tgap_model.specs.Records.{edge_with}
use Rattle.tgap_model.specs.WindowRecords.{window_at}
use Rattle.map_laws.proofs.ChainMembers.{Among, filter_among}
use Rattle.map_laws.proofs.Lists.{kept_among, among_kept, map_among, among_map}
use Rattle.record_laws.proofs.Holders.{same_key, find_only}
use Rattle.refine_packets.specs.Near.{seen}
use Rattle.refine_packets.specs.Walk.{pieces_in}
use Rattle.refine_packets.proofs.Lists.{none_found, found_among, among_given}

module _ (h : MergedMap) (area : Window) (k : ℕ) where
  abbrev edge_here : Chain → Edge
  edge_here c = edge_of h k (removals_to h k) c

  abbrev all : List Edge
  all = map edge_here (chains_at h k)

  abbrev meets : Edge → Bool
  meets e = meets_window area e

  abbrev there : List Edge
  there = filter meets all

  -- the chain of an edge of the window
  pub chain_there : (e : Edge) → Among e (window_at h area k).edges
      → (c : Chain) × Among c (chains_at h k) × (edge_of h k (removals_to h k) c ≡ e) × (meets_window area e ≡ true)
  unfolding window_of
  chain_there e o =
      let c = map_among edge_here (chains_at h k) e (kept_among meets all e o) in
      (c.0, c.1, c.2, filter_among meets all e o)

  -- no edge has a key where no chain that meets the window has it
  pub nothing_there : (i : ℕ) → ((c : Chain) → Among c (chains_at h k) → meets_window area (edge_of h k (removals_to h k) c) ≡ true → key c ≡ i → ⊥)
      → edge_with (window_at h area k) i ≡ None
  unfolding window_of
  nothing_there i other = none_found (λ (e : Edge). e.key == i) there (λ e o. false_from_ne_true (e.key == i) (λ t.
      let c = map_among edge_here (chains_at h k) e (kept_among meets all e o) in
      other c.0 c.1 (ap meets c.2 ∙ filter_among meets all e o) (ap (λ (x : Edge). x.key) c.2 ∙ eqb-true _ _ t)))

  -- the edge with the key of a chain is that of the chain, where it meets the window
  pub found_there : (c : Chain) → Among c (chains_at h k) → edge_with (window_at h area k) (key c) ≡ seen area (edge_of h k (removals_to h k) c)
  unfolding window_of
  found_there c n = by (meets (edge_here c)) refl
    where
      by : (b : Bool) → meets (edge_here c) ≡ b → find (λ (e : Edge). e.key == key c) there ≡ cond b (Some (edge_here c)) None
      by true met =
          find_only (λ (e : Edge). e.key == key c) there (edge_here c) (among_kept meets all (edge_here c) (among_map edge_here (chains_at h k) c n) met)
          (eq-eqb (key c) (key c) refl) (λ e o t.
          let d = map_among edge_here (chains_at h k) e (kept_among meets all e o) in
          sym d.2 ∙ ap edge_here (same_key h k d.0 c d.1 n (ap (λ (x : Edge). x.key) d.2 ∙ eqb-true _ _ t)))
      by false met = none_found (λ (e : Edge). e.key == key c) there (λ e o. false_from_ne_true (e.key == key c) (λ t.
          let d = map_among edge_here (chains_at h k) e (kept_among meets all e o) in
          true≢false (sym (filter_among meets all e o) ∙ ap meets (sym d.2 ∙ ap edge_here (same_key h k d.0 c d.1 n (ap (λ (x : Edge). x.key) d.2 ∙ eqb-true _ _ t))) ∙ met)))

  -- the edges with the keys of pieces are some of the window
  pub piece_there : (pieces : List Piece) (e : Edge) → Among e (pieces_in (window_at h area k) pieces) → Among e (window_at h area k).edges
  piece_there pieces e o =
      let p = among_given (λ (p : Piece). option_to_list (edge_with (window_at h area k) p.key)) pieces e o in
      by (edge_with (window_at h area k) p.0.key) refl p.2
    where
      by : (x : Option Edge) → (let q = among_given (λ (p : Piece). option_to_list (edge_with (window_at h area k) p.key)) pieces e o in
          edge_with (window_at h area k) q.0.key ≡ x) → Among e (option_to_list x) → Among e (window_at h area k).edges
      by None f m = absurd m
      by (Some g) f (inl s) =
          let q = among_given (λ (p : Piece). option_to_list (edge_with (window_at h area k) p.key)) pieces e o in
          found_among (λ (x : Edge). x.key == q.0.key) (window_at h area k).edges e (f ∙ ap (λ (x : Edge). Some x) s)
      by (Some g) f (inr m) = absurd m
