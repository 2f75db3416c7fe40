-- The edges of the chains of a planar partition with all their vertices are sound, and their two faces differ.
use Rattle.std.proofs.Common.{◌≡◌, ◌≢◌, inl, inr, ℕ, ◌≤◌, Bool, true, false, not, cond, nat_lt, List, [], ◌∷◌, map, length, reverse, All, AllPairs, refl, sym, ap, ◌∙◌, subst, arith}
use Rattle.std.proofs.lemmas.Bool.{and_parts, and_from, not-true, ltb-true, true≢false}
use Rattle.std.proofs.lemmas.List.Kept.{AllPairs-cons}
use Rattle.lemmas.proofs.Members.{AllPairs-nil}
use Rattle.lemmas.proofs.Orders.{nat_lt_order, order_by_key}
use Rattle.tgap_model.specs.declared.geometry.Point.{Point}
use Rattle.tgap_model.specs.declared.geometry.Seg.{Seg}
use Rattle.tgap_model.specs.declared.slice.Edge.{Edge}
use Rattle.tgap_model.specs.declared.slice.Removal.{Removal}
use Rattle.tgap_model.specs.Base.{BaseMap, is_base, same_point, no_repeat}
use Rattle.tgap_model.specs.Partition.{base_segments, IsPartition}
use Rattle.tgap_model.specs.Merged.{MergedMap, merged}
use Rattle.tgap_model.specs.Chains.{Link, Chain, arc_number, link_points, chain_points, key, has_links, chains_at}
use Rattle.tgap_model.specs.Removals.{path, edge_of, edges_of}
use Rattle.tgap_model.specs.Slice.{left_of, right_of}
use Rattle.tgap_model.proofs.Points.{same_point-true, same_point-from}
use Rattle.map_laws.proofs.ChainMembers.{Among}
use Rattle.map_laws.proofs.ChainLinks.{chains_sorted, chains_whole}
use Rattle.map_laws.proofs.ChainsExist.{chains_exist}
use Rattle.map_laws.proofs.Lists.{ArePairs, all_members, members_all, map_among, sorted_ascend}
use Rattle.slice_laws.proofs.BaseParts.{base_arc}
use Rattle.slice_laws.proofs.Coverage.{number_among}
use Rattle.slice_laws.proofs.EdgeSums.{without_none, chain_has_points, chain_meets}
use Rattle.slice_laws.proofs.EvenSides.{border_faces, chains_faces}
use Rattle.slice_laws.proofs.Paths.{flip, path_reversed, chain_path}
use Rattle.slice_laws.proofs.Places.{among_flat_map, among_reverse}
use Rattle.slice_laws.proofs.SliceSegments.{slice_apart}
use Rattle.removal_laws.specs.StandLaws.{AreSound}
use Rattle.removal_laws.proofs.ChainEnds.{chain_length}

-- ---- no two points in a row that are one

abbrev IsProper : Seg → Type 0
IsProper s = s.a ≢ s.b

proper_path : (points : List Point) → no_repeat points ≡ true → (s : Seg) → Among s (path points) → IsProper s
proper_path [] h s m = absurd m
proper_path (a ∷ []) h s m = absurd m
proper_path (a ∷ b ∷ points) h s m =
    let parts = and_parts (not (same_point a b)) (no_repeat (b ∷ points)) h in
    elim m [
      | inl e ↦ subst IsProper e (λ f. true≢false (sym (same_point-from a b f) ∙ not-true (same_point a b) parts.0))
      | inr n ↦ proper_path (b ∷ points) parts.1 s n
    ]

from_proper : (points : List Point) → ((s : Seg) → Among s (path points) → IsProper s) → no_repeat points ≡ true
from_proper [] h = refl
from_proper (a ∷ []) h = refl
from_proper (a ∷ b ∷ points) h =
    and_from (not (same_point a b)) (no_repeat (b ∷ points)) (by (same_point a b) refl) (from_proper (b ∷ points) (λ s m. h s (inr m)))
  where
    by : (v : Bool) → same_point a b ≡ v → not v ≡ true
    by true e = absurd (h (record { a = a; b = b }) (inl refl) (same_point-true a b e))
    by false e = refl

turned_proper : (points : List Point) → ((s : Seg) → Among s (path points) → IsProper s) → (s : Seg) → Among s (path (reverse points)) → IsProper s
turned_proper points h s m =
    let f = map_among flip (path points) s (among_reverse (map flip (path points)) s (subst (Among s) (path_reversed points) m)) in
    subst IsProper f.2 (λ e. h f.0 f.1 (sym e))

-- ---- different keys

pub keys_differ : (h : MergedMap) (k : ℕ) (removals : List Removal) (cs : List Chain) → ArePairs (λ c d. nat_lt (key c) (key d) ≡ true) cs
    → AllPairs (λ (e f : Edge). e.key ≢ f.key) (edges_of h k removals cs)
keys_differ h k removals [] p = AllPairs-nil (λ (e f : Edge). e.key ≢ f.key)
keys_differ h k removals (c ∷ cs) p =
    AllPairs-cons (λ (e f : Edge). e.key ≢ f.key) (edge_of h k removals c) (edges_of h k removals cs)
    (all_members (λ (f : Edge). key c ≢ f.key) (edges_of h k removals cs) (λ f n e.
    let d = map_among (edge_of h k removals) cs f n in
    omega (arith, ltb-true (key c) (key d.0) (p.0 d.0 d.1), ap (λ (g : Edge). g.key) d.2, e)))
    (keys_differ h k removals cs p.1)

-- ---- the edges

module _ (m : BaseMap) (base : is_base m ≡ true) (planar : IsPartition (base_segments m)) (k : ℕ) where
  long : (c : Chain) → Among c (chains_at (merged m) k) → (d : Link) → Among d c → 2 ≤ length (arc_number m.arcs d.arc).points
  long c n d l =
      let w = chains_whole (merged m) k (chains_at (merged m) k) (chains_exist (merged m) k) c n in
      let within = (w.3.border d (subst (Among d) w.2 l)).within in
      (base_arc m base (arc_number m.arcs d.arc) (number_among m.arcs d.arc within)).two_points

  -- an edge has two points at least
  two_points : (c : Chain) → Among c (chains_at (merged m) k) → 2 ≤ length (chain_points m.arcs c)
  two_points c n =
      let w = chains_whole (merged m) k (chains_at (merged m) k) (chains_exist (merged m) k) c n in
      chain_length m.arcs c (ap has_links w.2) (long c n)

  -- and no two in a row that are one
  steps : (c : Chain) → Among c (chains_at (merged m) k) → no_repeat (chain_points m.arcs c) ≡ true
  steps c n =
      let w = chains_whole (merged m) k (chains_at (merged m) k) (chains_exist (merged m) k) c n in
      from_proper (chain_points m.arcs c) (λ s a.
      let path_is = chain_path m.arcs w.0 w.1 (chain_meets m k w.0 w.1 w.3) (chain_has_points m base k w.0 w.1 w.3) in
      let l = among_flat_map (λ d. path (link_points m.arcs d)) (w.0 ∷ w.1) s (subst (Among s) path_is (subst (λ c. Among s (path (chain_points m.arcs c))) w.2 a)) in
      let arc = base_arc m base (arc_number m.arcs l.0.arc) (number_among m.arcs l.0.arc (w.3.border l.0 l.1).within) in
      by (arc_number m.arcs l.0.arc).points l.0.turned s (proper_path (arc_number m.arcs l.0.arc).points arc.apart) l.2)
    where
      by : (points : List Point) (t : Bool) (s : Seg) → ((s : Seg) → Among s (path points) → IsProper s) → Among s (path (cond t (reverse points) points))
          → IsProper s
      by points true s h a = turned_proper points h s a
      by points false s h a = h s a

  -- of a planar partition they are sound
  pub all_sound : AreSound (edges_of (merged m) k [] (chains_at (merged m) k))
  all_sound = record {
    keys = keys_differ (merged m) k [] (chains_at (merged m) k)
        (sorted_ascend (λ c d. nat_lt (key c) (key d)) (order_by_key key nat_lt_order) (chains_at (merged m) k) (chains_sorted (merged m) k (chains_at (merged m) k) (chains_exist (merged m) k)));
    points = of_chains (λ ps. 2 ≤ length ps) two_points;
    steps = of_chains (λ ps. no_repeat ps ≡ true) steps;
    apart = slice_apart m base k (chains_at (merged m) k) (chains_exist (merged m) k) planar.arcs.apart;
  }
    where
      of_chains : (P : List Point → Type 0) → ((c : Chain) → Among c (chains_at (merged m) k) → P (chain_points m.arcs c))
          → All (λ (e : Edge). P e.points) (edges_of (merged m) k [] (chains_at (merged m) k))
      of_chains P h = all_members (λ (e : Edge). P e.points) (edges_of (merged m) k [] (chains_at (merged m) k)) (λ e n.
          let c = map_among (edge_of (merged m) k []) (chains_at (merged m) k) e n in
          subst (λ (f : Edge). P f.points) c.2 (subst P (sym (without_none (chain_points m.arcs c.0))) (h c.0 c.1)))

  -- whatever is removed, the two faces of an edge differ
  pub faces_differ : (removals : List Removal) → All (λ (e : Edge). e.left ≢ e.right) (edges_of (merged m) k removals (chains_at (merged m) k))
  faces_differ removals = all_members (λ (e : Edge). e.left ≢ e.right) (edges_of (merged m) k removals (chains_at (merged m) k)) (λ e n.
      let c = map_among (edge_of (merged m) k removals) (chains_at (merged m) k) e n in
      let w = chains_whole (merged m) k (chains_at (merged m) k) (chains_exist (merged m) k) c.0 c.1 in
      let keeps = chains_faces m base planar.arcs.nodes k (chains_at (merged m) k) (chains_exist (merged m) k) removals c.0 c.1 in
      let first : Among w.0 c.0 = subst (Among w.0) (sym w.2) (inl refl) in
      subst (λ (f : Edge). f.left ≢ f.right) c.2 (λ same.
      border_faces (merged m) k w.0 (w.3.border w.0 (inl refl)).border
      (members_all (λ d. left_of (merged m) k d ≡ (edge_of (merged m) k removals c.0).left) c.0 w.0 keeps.left first ∙ same
      ∙ sym (members_all (λ d. right_of (merged m) k d ≡ (edge_of (merged m) k removals c.0).right) c.0 w.0 keeps.right first))))
