-- The ways out of a node of the edges of chains, each with the arc end that it leaves by.
use Rattle.std.proofs.Common.{◌≡◌, ◌≢◌, inl, inr, ℕ, ◌≤◌, not, Bool, true, false, cond, List, [], ◌∷◌, ◌++◌, map, flat_map, length, reverse, drop, AllPairs, Contains, refl, sym, ap, ap₂, ◌∙◌, subst, arith}
use Rattle.std.proofs.lemmas.Bool.{eq-eqb, ne_eqb}
use Rattle.std.proofs.lemmas.List.{map-append}
use Rattle.std.proofs.lemmas.List.Concat.{flat_map-append}
use Rattle.std.proofs.lemmas.List.Elements.{All-map}
use Rattle.lemmas.specs.Sorting.{sort_by}
use Rattle.lemmas.proofs.Members.{AllPairs-head, AllPairs-tail, Contains-flat_map, Contains-from_flat_map}
use Rattle.lemmas.proofs.Sorting.{map-sort_by}
use Rattle.tgap_model.specs.declared.geometry.Point.{Point}
use Rattle.tgap_model.specs.declared.base.BaseArc.{BaseArc}
use Rattle.tgap_model.specs.declared.slice.Removal.{Removal}
use Rattle.tgap_model.specs.Base.{same_point}
use Rattle.tgap_model.specs.Merged.{MergedMap}
use Rattle.tgap_model.specs.Partition.{path_segments, edge_segments}
use Rattle.tgap_model.specs.Chains.{Chain, first_point, last_point, chain_start, chain_end, chain_points, has_links, key, turned_round}
use Rattle.tgap_model.specs.Removals.{is_removed, without, edge_of, edges_of}
use Rattle.map_laws.proofs.ChainMembers.{Among}
use Rattle.map_laws.proofs.ChainEnds.{turn}
use Rattle.map_laws.proofs.JoinPaths.{turned_cons, turned_links, append_start, append_end, turned_start, turned_end, IsPath, path_append, path_turned}
use Rattle.map_laws.proofs.Lists.{members_all}
use Rattle.removal_laws.proofs.ChainEnds.{AreLong, chain_length, chain_first, chain_last, contained, among_contained}
use Rattle.removal_laws.proofs.Less.{without_append}
use Rattle.slice_laws.proofs.NodeLinks.{next_to_last, second_point}
use Rattle.step_laws.proofs.ChainPoints.{without_reversed, without_first, without_last, without_drop, turned_long, append_long, append_points, turned_points}
use Rattle.step_laws.proofs.EdgesAlong.{Anywhere}
use Rattle.order_laws.specs.NodeOrder.{End, Way, ways_of, way_before, start_end, finish_end, chain_with, arc_end}
use Rattle.order_laws.proofs.WayPlaces.{way, end_of, Leaves, AreDecided}
use Rattle.order_laws.proofs.Ways.{end_at, all_ways, pairs_to_map, AreWays}
use Rattle.order_laws.proofs.RowWays.{way_if, row_ways, segment_ways, HasWay, way_of_row, row_has_way, way_reversed, reversed_way}

-- ---- the arc ends of a chain that is turned round, or put together of two

start_append : (c e : Chain) → has_links c ≡ true → start_end (c ++ e) ≡ start_end c
start_append [] e h = absurd cc
start_append (d ∷ c) e h = refl

finish_append : (c e : Chain) → has_links e ≡ true → finish_end (c ++ e) ≡ finish_end e
finish_append [] e h = refl
finish_append (d ∷ []) [] h = absurd cc
finish_append (d ∷ []) (f ∷ e) h = refl
finish_append (d ∷ g ∷ c) e h = finish_append (g ∷ c) e h

start_turned : (c : Chain) → start_end (turned_round c) ≡ finish_end c
start_turned [] = refl
start_turned (d ∷ []) = by d.turned
  where
    by : (t : Bool) → end_at d.arc (not (not t)) ≡ end_at d.arc t
    by true = refl
    by false = refl
start_turned (d ∷ e ∷ c) =
    ap start_end (turned_cons d (e ∷ c))
    ∙ start_append (turned_round (e ∷ c)) (turn d ∷ []) (turned_links (e ∷ c) refl)
    ∙ start_turned (e ∷ c)

finish_turned : (c : Chain) → finish_end (turned_round c) ≡ start_end c
finish_turned [] = refl
finish_turned (d ∷ c) = ap finish_end (turned_cons d c) ∙ finish_append (turned_round c) (turn d ∷ []) refl

-- ---- the chain with a key

pub chain_found : (cs : List Chain) → AllPairs (λ c d. key c ≢ key d) cs → (c : Chain) → Among c cs → chain_with cs (key c) ≡ c
chain_found [] h c m = absurd m
chain_found (d ∷ cs) h c (inl e) =
    ap (λ (b : Bool). cond b d (chain_with cs (key c))) (eq-eqb (key d) (key c) (ap key e)) ∙ e
chain_found (d ∷ cs) h c (inr m) =
    ap (λ (b : Bool). cond b d (chain_with cs (key c)))
    (ne_eqb (key d) (key c) (members_all (λ f. key d ≢ key f) cs c (AllPairs-head (λ c d. key c ≢ key d) d cs h) m))
    ∙ chain_found cs (AllPairs-tail (λ c d. key c ≢ key d) d cs h) c m

module _ (arcs : List BaseArc) (rs : List Removal) where
  -- the points of a chain less the listed vertices
  abbrev pub points_along : Chain → List Point
  points_along c = without rs (chain_points arcs c)

  -- its ways out of a node, and those of all chains
  abbrev pub chain_ways : Point → Chain → List Way
  chain_ways v c = row_ways v (start_end c) (finish_end c) (points_along c)

  abbrev pub chains_ways : Point → List Chain → List Way
  chains_ways v cs = flat_map (chain_ways v) cs

  -- a way as a fact
  abbrev pub ChainWay : Chain → Point → Way → Type 0
  ChainWay c v w = HasWay v (start_end c) (finish_end c) (points_along c) w

  abbrev pub IsWay : List Chain → Point → Way → Type 0
  IsWay cs v w = (c : Chain) × Among c cs × ChainWay c v w

  pub is_way : (cs : List Chain) (v : Point) (w : Way) → Contains (chains_ways v cs) w → IsWay cs v w
  is_way cs v w m =
      let c = Contains-from_flat_map (chain_ways v) cs w m in
      (c.0, among_contained cs c.0 c.1, way_of_row v (start_end c.0) (finish_end c.0) (points_along c.0) w c.2)

  pub way_is : (cs : List Chain) (v : Point) (w : Way) → IsWay cs v w → Contains (chains_ways v cs) w
  way_is cs v w (c, m, h) =
      Contains-flat_map (chain_ways v) cs c w (contained cs c m) (row_has_way v (start_end c) (finish_end c) (points_along c) w h)

  -- ---- a path of arcs with two points at least, whose ends are not listed

  pub record KeepsEnds (c : Chain) : Type 0 where
    pub path : IsPath arcs Anywhere c
    pub long : AreLong arcs c
    pub start : is_removed rs (chain_start arcs c) ≡ false
    pub end : is_removed rs (chain_end arcs c) ≡ false

  some_points : (c : Chain) → KeepsEnds c → 1 ≤ length (chain_points arcs c)
  some_points c p = omega (arith, chain_length arcs c p.path.links p.long)

  start_kept : (c : Chain) → KeepsEnds c → is_removed rs (first_point (chain_points arcs c)) ≡ false
  start_kept c p = ap (is_removed rs) (chain_first arcs c p.path.links p.long) ∙ p.start

  pub first_along : (c : Chain) → KeepsEnds c → first_point (points_along c) ≡ chain_start arcs c
  first_along c p = without_first rs (chain_points arcs c) (some_points c p) (start_kept c p) ∙ chain_first arcs c p.path.links p.long

  pub last_along : (c : Chain) → KeepsEnds c → last_point (points_along c) ≡ chain_end arcs c
  last_along c p =
      let last = chain_last arcs c p.path.links p.long in
      (without_last rs (chain_points arcs c) (some_points c p) (ap (is_removed rs) last ∙ p.end)).1 ∙ last

  -- turned round
  pub keeps_turned : (c : Chain) → KeepsEnds c → KeepsEnds (turned_round c)
  keeps_turned c p = record {
    path = path_turned arcs Anywhere c p.path;
    long = turned_long arcs c p.long;
    start = ap (is_removed rs) (turned_start arcs c) ∙ p.end;
    end = ap (is_removed rs) (turned_end arcs c) ∙ p.start;
  }

  points_turned : (c : Chain) → KeepsEnds c → points_along (turned_round c) ≡ reverse (points_along c)
  points_turned c p = ap (without rs) (turned_points arcs Anywhere c p.path p.long) ∙ without_reversed rs (chain_points arcs c)

  -- the ways of a chain turned round, by its own
  round_is : (c : Chain) → KeepsEnds c → (v : Point) (w : Way)
      → HasWay v (finish_end c) (start_end c) (reverse (points_along c)) w ≡ ChainWay (turned_round c) v w
  round_is c p v w =
      ap₂ (λ (e f : End). HasWay v e f (reverse (points_along c)) w) (sym (start_turned c)) (sym (finish_turned c))
      ∙ ap (λ ps. HasWay v (start_end (turned_round c)) (finish_end (turned_round c)) ps w) (sym (points_turned c p))

  pub way_turned : (c : Chain) → KeepsEnds c → (v : Point) (w : Way) → ChainWay c v w → ChainWay (turned_round c) v w
  way_turned c p v w h = subst (λ T. T) (round_is c p v w) (way_reversed v (start_end c) (finish_end c) (points_along c) w h)

  pub turned_way : (c : Chain) → KeepsEnds c → (v : Point) (w : Way) → ChainWay (turned_round c) v w → ChainWay c v w
  turned_way c p v w h = reversed_way v (start_end c) (finish_end c) (points_along c) w (subst (λ T. T) (sym (round_is c p v w)) h)

  -- put together
  pub keeps_append : (c e : Chain) → KeepsEnds c → KeepsEnds e → chain_end arcs c ≡ chain_start arcs e → KeepsEnds (c ++ e)
  keeps_append c e p q meets = record {
    path = path_append arcs Anywhere c e p.path q.path meets tt;
    long = append_long arcs c e p.long q.long;
    start = ap (is_removed rs) (append_start arcs c e p.path.links) ∙ p.start;
    end = ap (is_removed rs) (append_end arcs c e q.path.links) ∙ q.end;
  }

  pub points_append : (c e : Chain) → KeepsEnds c → KeepsEnds e → points_along (c ++ e) ≡ points_along c ++ drop 1 (points_along e)
  points_append c e p q =
      ap (without rs) (append_points arcs c e p.path.links q.path.links p.long)
      ∙ without_append rs (chain_points arcs c) (drop 1 (chain_points arcs e))
      ∙ ap (λ (ps : List Point). without rs (chain_points arcs c) ++ ps) (without_drop rs (chain_points arcs e) (some_points e q) (start_kept e q))

  pub append_is : (c e : Chain) → KeepsEnds c → KeepsEnds e → (v : Point) (w : Way)
      → HasWay v (start_end c) (finish_end e) (points_along c ++ drop 1 (points_along e)) w ≡ ChainWay (c ++ e) v w
  append_is c e p q v w =
      ap₂ (λ (a b : End). HasWay v a b (points_along c ++ drop 1 (points_along e)) w)
      (sym (start_append c e p.path.links)) (sym (finish_append c e q.path.links))
      ∙ ap (λ ps. HasWay v (start_end (c ++ e)) (finish_end (c ++ e)) ps w) (sym (points_append c e p q))

-- ---- edges of chains

-- a way with the arc end that its edge end is
abbrev pub tagged : List Chain → Way → Way
tagged chains w = way (arc_end chains w.end) w.toward

row_tagged : (chains : List Chain) (v : Point) (e f : End) (ps : List Point)
    → map (tagged chains) (row_ways v e f ps) ≡ row_ways v (arc_end chains e) (arc_end chains f) ps
row_tagged chains v e f ps = by (same_point (first_point ps) v) (same_point (last_point ps) v)
  where
    by : (s t : Bool)
        → map (tagged chains) (way_if s (way e (second_point ps)) ++ way_if t (way f (next_to_last ps)))
        ≡ way_if s (way (arc_end chains e) (second_point ps)) ++ way_if t (way (arc_end chains f) (next_to_last ps))
    by true true = refl
    by true false = refl
    by false true = refl
    by false false = refl

module _ (h : MergedMap) (k : ℕ) (rs : List Removal) (chains : List Chain) where
  -- the ways of the edges of some of the chains are those of these chains
  pub edges_tagged : (cs : List Chain) (v : Point)
      → ((c : Chain) → Among c cs → (chain_with chains (key c) ≡ c) × (2 ≤ length (points_along h.base.arcs rs c)))
      → map (tagged chains) (all_ways v (edges_of h k rs cs)) ≡ chains_ways h.base.arcs rs v cs
  edges_tagged [] v known = refl
  edges_tagged (c ∷ cs) v known =
      let e = edge_of h k rs c in
      let here = known c (inl refl) in
      ap (map (tagged chains)) (flat_map-append (ways_of v) (path_segments e.key e.left e.right 0 e.points) (edge_segments (edges_of h k rs cs)))
      ∙ map-append (tagged chains) (flat_map (ways_of v) (path_segments e.key e.left e.right 0 e.points)) (all_ways v (edges_of h k rs cs))
      ∙ ap₂ (λ (us ws : List Way). us ++ ws)
      (ap (map (tagged chains)) (segment_ways v e.key e.left e.right e.points here.1)
      ∙ row_tagged chains v (end_at (key c) true) (end_at (key c) false) e.points
      ∙ ap (λ (d : Chain). row_ways v (start_end d) (finish_end d) e.points) here.0)
      (edges_tagged cs v (λ d m. known d (inr m)))

-- their arc ends in the order of the ways
pub tagged_order : (chains : List Chain) (v : Point) (ws : List Way)
    → map (arc_end chains) (map end_of (sort_by (way_before v) ws)) ≡ map end_of (sort_by (way_before v) (map (tagged chains) ws))
tagged_order chains v ws =
    ends (sort_by (way_before v) ws)
    ∙ ap (map end_of) (map-sort_by (λ (w : Way). Unit {0}) (way_before v) (way_before v) (tagged chains) (λ x y p q. refl) ws (λ i d l. tt))
  where
    ends : (us : List Way) → map (arc_end chains) (map end_of us) ≡ map end_of (map (tagged chains) us)
    ends [] = refl
    ends (u ∷ us) = ap (λ (es : List End). arc_end chains u.end ∷ es) (ends us)

-- the arc ends play no part in the order
pub tagged_ways : (chains : List Chain) (v : Point) (ws : List Way) → AreWays v ws → AreWays v (map (tagged chains) ws)
tagged_ways chains v ws a = record {
  leave = All-map (Leaves v) (tagged chains) ws a.leave;
  decided = pairs_to_map (AreDecided v) (tagged chains) ws a.decided;
}
