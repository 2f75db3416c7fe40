-- The edges of a table can be looked up with their labels where they can be with their faces, and have few points.
use Rattle.std.proofs.Common.{◌≡◌, ℕ, ◌-◌, ◌<◌, ◌^◌, List, [], map, length, Contains, Option, Some, None, refl, ap, subst, arith}
use Rattle.std.proofs.lemmas.List.{get_or-map, length-map}
use Rattle.tgap_model.specs.declared.slice.Edge.{Edge}
use Rattle.map_laws.proofs.Lists.{all_members, members_all, map_among, among_map}
use Rattle.removal_laws.proofs.ChainEnds.{among_contained}
use Rattle.grid_index.specs.Keyed.{edge_in, edges_in, AreAtKeys}
use Rattle.grid_index.specs.Live.{keys, AreLive, IsLiveEdge}
use Rattle.edge_forest.specs.declared.face_labels.FaceLabels.{FaceLabels}
use Rattle.tgap_build.specs.Table.{faced}
use Rattle.tgap_build.specs.Changes.{count_at}
use Rattle.tgap_build.proofs.Tables.{key_placed, placed_all}

pub labels_live : (labels : FaceLabels) (edges : List Edge) → AreLive (map (faced labels) edges) → AreLive edges
labels_live labels edges live = record {
  ascending = λ i j d l s.
      let inside : i < length edges = omega (arith, l, s) in
      omega (
        arith,
        live.ascending i j (faced labels d) l (omega (arith, s, length-map edges (faced labels))),
        ap (λ (e : Edge). e.key) (get_or-map (faced labels) edges i d (faced labels d) inside),
        ap (λ (e : Edge). e.key) (get_or-map (faced labels) edges j d (faced labels d) s),
      );
  each = all_members IsLiveEdge edges (λ e m.
      let x = members_all IsLiveEdge (map (faced labels) edges) (faced labels e) live.each (among_map (faced labels) edges e m) in
      record { limits = x.limits; some = x.some; few = x.few });
}

-- how many points the edge with a key has
pub counts_few : (places : List (Option Edge)) → AreLive (edges_in places) → (i : ℕ) → count_at places i < 2 ^ 32
counts_few places live i = by (edge_in places i) (λ x e. (placed_all IsLiveEdge places live.each i x e).few) refl
  where
    with_it : Option Edge → Edge
    with_it o = elim o [ None ↦ record { key = i; left = 0; right = 0; points = [] } | Some x ↦ x ]

    by : (o : Option Edge) → ((x : Edge) → edge_in places i ≡ Some x → length x.points < 2 ^ 32 - 1) → edge_in places i ≡ o → count_at places i < 2 ^ 32
    by None few e = let n : count_at places i ≡ 0 = ap (λ (o : Option Edge). length (with_it o).points) e in omega (arith, n)
    by (Some x) few e = let n : count_at places i ≡ length x.points = ap (λ (o : Option Edge). length (with_it o).points) e in let l = few x e in omega (arith, n, l)

-- the keys of edges of a table have places
pub keys_placed : (places : List (Option Edge)) → AreAtKeys places → (i : ℕ) → Contains (keys (edges_in places)) i → i < length places
keys_placed places keyed i c =
    let e = map_among (λ (e : Edge). e.key) (edges_in places) i (among_contained (keys (edges_in places)) i c) in
    subst (λ (n : ℕ). n < length places) e.2 (key_placed places keyed e.0 e.1)
