-- The edges of which another one is made are taken out one after the other.
use Rattle.std.proofs.Common.{◌≡◌, ◌≢◌, ℕ, ◌+◌, ◌<◌, List, [], ◌∷◌, ◌++◌, length, get_or, set, take, All, AllPairs, Contains, Option, Some, None, sym, ap, ◌∙◌, subst}
use Rattle.std.proofs.lemmas.List.{get_or-set_other, map-append, take_more}
use Rattle.std.proofs.lemmas.List.Elements.{All-contains, Contains-append_left, Contains-append_right}
use Rattle.std.proofs.lemmas.List.Sums.{fold_more}
use Rattle.lemmas.proofs.Members.{in_head, related_to_next, Contains-from_map}
use Rattle.tgap_model.specs.declared.geometry.Point.{Point}
use Rattle.tgap_model.specs.declared.slice.Edge.{Edge}
use Rattle.grid_index.specs.Keyed.{edge_in, edges_in, AreAtKeys}
use Rattle.grid_index.specs.Live.{keys, without_keys}
use Rattle.tgap_build.specs.declared.joined.OldEdge.{OldEdge}
use Rattle.point_rope.specs.Rows.{oriented, glued}
use Rattle.tgap_build.specs.Table.{edge_with, part_row, joined_row, old_keys}
use Rattle.tgap_build.proofs.EdgeTables.{cleared, without_more}
use Rattle.tgap_build.proofs.Merging.{key_there}
use Rattle.tgap_build.proofs.Tables.{place_within}

-- the edge with a key, as it is read
pub with_read : (places : List (Option Edge)) (k : ℕ) (e : Edge) → edge_in places k ≡ Some e → edge_with places k ≡ e
with_read places k e is = ap (λ (o : Option Edge). elim o [ None ↦ record { key = k; left = 0; right = 0; points = [] } | Some f ↦ f ]) is

module _ (places : List (Option Edge)) (keyed : AreAtKeys places) (parts : List OldEdge) (there : All (λ p. Contains (keys (edges_in places)) p.key) parts) where
  -- each part has a place
  pub part_placed : (i : ℕ) (d : OldEdge) → i < length parts → (get_or parts i d).key < length places
  part_placed i d l = let e = key_there places keyed (get_or parts i d).key (there i d l) in place_within places (get_or parts i d).key e.0 e.1

  -- and so has the key of one
  pub joined_there : (k : ℕ) → Contains (old_keys parts) k → (e : Edge) × (edge_in places k ≡ Some e)
  joined_there k c =
      let p = Contains-from_map (λ (p : OldEdge). p.key) parts k c in
      key_there places keyed k (subst (Contains (keys (edges_in places))) p.2 (All-contains (λ (p : OldEdge). Contains (keys (edges_in places)) p.key) parts p.0 there p.1))

  pub key_within : (k : ℕ) → Contains (old_keys parts) k → k < length places
  key_within k c = let e = joined_there k c in place_within places k e.0 e.1

module _ (places : List (Option Edge)) (parts : List OldEdge) where
  keys_more : (i : ℕ) (d : OldEdge) → i < length parts → old_keys (take (i + 1) parts) ≡ old_keys (take i parts) ++ (get_or parts i d).key ∷ []
  keys_more i d l = ap old_keys (take_more parts i d l) ∙ map-append (λ (p : OldEdge). p.key) (take i parts) (get_or parts i d ∷ [])

  -- the place of the next part is as it was
  pub part_still : AllPairs (λ p q. p.key ≢ q.key) parts → (i : ℕ) (d : OldEdge) → i < length parts → (now : List (Option Edge))
      → ((k : ℕ) → (Contains (old_keys (take i parts)) k → ⊥) → edge_in now k ≡ edge_in places k) → edge_in now (get_or parts i d).key ≡ edge_in places (get_or parts i d).key
  part_still apart i d l now still = still (get_or parts i d).key (λ c.
      let p = Contains-from_map (λ (p : OldEdge). p.key) (take i parts) (get_or parts i d).key c in
      related_to_next (λ (p q : OldEdge). p.key ≢ q.key) parts i d p.0 apart l p.1 p.2)

  pub left_more : (i : ℕ) (d : OldEdge) → i < length parts → (now : List (Option Edge)) → AreAtKeys now → edges_in now ≡ without_keys (old_keys (take i parts)) (edges_in places)
      → edges_in (set now (get_or parts i d).key None) ≡ without_keys (old_keys (take (i + 1) parts)) (edges_in places)
  left_more i d l now keyed left =
      let k = (get_or parts i d).key in
      cleared now k keyed
      ∙ ap (without_keys (k ∷ [])) left
      ∙ without_more (old_keys (take i parts)) k (edges_in places)
      ∙ ap (λ (ks : List ℕ). without_keys ks (edges_in places)) (sym (keys_more i d l))

  pub still_more : (i : ℕ) (d : OldEdge) → i < length parts → (now : List (Option Edge))
      → ((k : ℕ) → (Contains (old_keys (take i parts)) k → ⊥) → edge_in now k ≡ edge_in places k)
      → (k : ℕ) → (Contains (old_keys (take (i + 1) parts)) k → ⊥) → edge_in (set now (get_or parts i d).key None) k ≡ edge_in places k
  still_more i d l now still k out =
      let n = (get_or parts i d).key in
      let out' : Contains (old_keys (take i parts) ++ n ∷ []) k → ⊥ = λ c. out (subst (λ (ks : List ℕ). Contains ks k) (sym (keys_more i d l)) c) in
      get_or-set_other now n k None None (λ e. out' (Contains-append_right (old_keys (take i parts)) (n ∷ []) k (subst (Contains (n ∷ [])) (sym e) (in_head n []))))
      ∙ still k (λ c. out' (Contains-append_left (old_keys (take i parts)) (n ∷ []) k c))

  -- its points are appended
  pub row_more : (i : ℕ) (d : OldEdge) → i < length parts → (row : List Point) → row ≡ joined_row places (take i parts) → (row' : List Point) (e : Edge)
      → edge_in places (get_or parts i d).key ≡ Some e → row' ≡ glued row (oriented (get_or parts i d).turned e.points) → row' ≡ joined_row places (take (i + 1) parts)
  row_more i d l row before row' e is more =
      let p = get_or parts i d in
      more
      ∙ ap (λ (r : List Point). glued r (oriented p.turned e.points)) before
      ∙ ap (λ (f : Edge). glued (joined_row places (take i parts)) (oriented p.turned f.points)) (sym (with_read places p.key e is))
      ∙ sym (fold_more (λ (r : List Point) (p : OldEdge). glued r (part_row places p)) [] parts i d l)
