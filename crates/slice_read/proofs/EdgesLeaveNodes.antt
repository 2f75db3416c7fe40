-- The edges of a slice are within the limits of a map, and each leaves its nodes by the first and the last segment of its arcs.
use Rattle.std.proofs.Common.{◌≡◌, ◌≢◌, inl, inr, ◌≤◌, ◌<◌, ℕ, Bool, true, false, cond, not, List, [], ◌∷◌, ◌++◌, map, length, reverse, All, refl, sym, ap, ◌∙◌, subst, true≢false, arith, IsTrue}
use Rattle.std.specs.Prelude.{sum_by}
use Rattle.std.specs.List.{AllZip}
use Rattle.std.proofs.lemmas.Bool.{and_parts, not-true}
use Rattle.std.proofs.lemmas.List.{length-map, length-reverse, reverse-append, reverse-reverse}
use Rattle.std.proofs.lemmas.List.Elements.{All-weaker}
use Rattle.std.proofs.lemmas.List.Sums.{sum_by-cons}
use Rattle.tgap_model.specs.declared.geometry.Point.{Point}
use Rattle.tgap_model.specs.declared.base.BaseArc.{BaseArc}
use Rattle.tgap_model.specs.declared.slice.Edge.{Edge}
use Rattle.tgap_model.specs.declared.slice.Removal.{Removal}
use Rattle.tgap_model.specs.declared.limits.TheConstants.{MAX_ARCS, MAX_POINTS}
use Rattle.tgap_model.specs.Base.{BaseMap, is_base, in_limits, same_point, no_repeat}
use Rattle.tgap_model.specs.Bounds.{IsNear}
use Rattle.tgap_model.specs.Partition.{IsPartition, base_segments}
use Rattle.tgap_model.specs.History.{history_of}
use Rattle.tgap_model.specs.Merged.{merged, is_border}
use Rattle.tgap_model.specs.Chains.{Link, Chain, arc_number, first_point, last_point, link_points, link_start, link_end, chain_start, chain_end, chain_points, has_links, chains_at}
use Rattle.tgap_model.specs.Removals.{is_removed, without, edge_of, edges_of, removals_to}
use Rattle.tgap_model.specs.Slice.{slice}
use Rattle.tgap_model.proofs.BaseFacts.{base_facts}
use Rattle.tgap_model.proofs.Points.{near_point, same_point-from}
use Rattle.map_laws.proofs.ChainMembers.{Among, all_among}
use Rattle.map_laws.proofs.ChainsExist.{chains_exist}
use Rattle.map_laws.proofs.Lists.{all_members, members_all, map_among}
use Rattle.removal_laws.proofs.ChainEnds.{AreLong, chain_length, chain_first, chain_last, chain_links, chain_arcs, contained}
use Rattle.slice_laws.proofs.BaseParts.{base_arc}
use Rattle.slice_laws.proofs.CountedSums.{sum_of_chains}
use Rattle.slice_laws.proofs.Coverage.{number_among}
use Rattle.step_laws.proofs.ChainPoints.{without_first, without_last}
use Rattle.record_laws.proofs.MapFacts.{ends_stay}
use Rattle.grid_index.specs.Live.{IsLiveEdge}
use Rattle.removal_laws.proofs.ChainLengths.{kept_length}
use Rattle.tgap_build.proofs.EachLive.{after_live, few}
use Rattle.ring_walk.specs.Spans.{IsSpan}
use Rattle.slice_read.specs.Ends.{second_point, last_link, chain_ends, slice_ends, span_with, IsEdgeWithin, LeaveNodes}

-- ---- the ends of a row of points

-- from p another point is the next one, and both are within the limits
record Leaves (p q : Point) : Type 0 where
  from : IsTrue (in_limits p)
  to : IsTrue (in_limits q)
  apart : p ≢ q

-- a row of at least one segment
record IsRow (points : List Point) : Type 0 where
  two : 2 ≤ length points
  limits : (p : Point) → Among p points → in_limits p ≡ true
  steps : no_repeat points ≡ true

differ : (p q : Point) (points : List Point) → no_repeat (p ∷ q ∷ points) ≡ true → p ≢ q
differ p q points h e = true≢false (sym (same_point-from p q e) ∙ not-true (same_point p q) (and_parts (not (same_point p q)) (no_repeat (q ∷ points)) h).0)

leaves_first : (points : List Point) → IsRow points → Leaves (first_point points) (second_point points)
leaves_first [] r = absurd (omega (arith, r.two))
leaves_first (p ∷ []) r = absurd (omega (arith, r.two))
leaves_first (p ∷ q ∷ points) r = record {
  from = r.limits p (inl refl);
  to = r.limits q (inr (inl refl));
  apart = differ p q points r.steps;
}

second_append : (xs ys : List Point) → 2 ≤ length xs → second_point (xs ++ ys) ≡ second_point xs
second_append [] ys l = absurd (omega arith)
second_append (x ∷ []) ys l = absurd (omega arith)
second_append (x ∷ y ∷ xs) ys l = refl

leaves_last : (points : List Point) → IsRow points → Leaves (last_point points) (second_point (reverse points))
leaves_last [] r = absurd (omega (arith, r.two))
leaves_last (p ∷ []) r = absurd (omega (arith, r.two))
leaves_last (p ∷ q ∷ []) r = record {
  from = r.limits q (inr (inl refl));
  to = r.limits p (inl refl);
  apart = λ e. differ p q [] r.steps (sym e);
}
leaves_last (p ∷ q ∷ r ∷ points) h =
    subst (Leaves (last_point (q ∷ r ∷ points))) (sym back)
    (leaves_last (q ∷ r ∷ points) (record {
      two = omega arith;
      limits = λ x n. h.limits x (inr n);
      steps = (and_parts (not (same_point p q)) (no_repeat (q ∷ r ∷ points)) h.steps).1;
    }))
  where
    back : second_point (reverse (p ∷ q ∷ r ∷ points)) ≡ second_point (reverse (q ∷ r ∷ points))
    back =
        ap second_point (reverse-append (p ∷ []) (q ∷ r ∷ points))
        ∙ second_append (reverse (q ∷ r ∷ points)) (p ∷ []) (omega (arith, length-reverse (q ∷ r ∷ points)))

-- ---- links and chains

module _ (m : BaseMap) (base : is_base m ≡ true) where
  arc_row : (i : ℕ) → i < length m.arcs → IsRow (arc_number m.arcs i).points
  arc_row i l =
      let f = base_arc m base (arc_number m.arcs i) (number_among m.arcs i l) in
      record { two = f.two_points; limits = λ p n. all_among in_limits (arc_number m.arcs i).points p f.in_limits n; steps = f.apart }

  -- an arc leaves where it starts, in the direction of its chain
  leaves_start : (d : Link) → d.arc < length m.arcs → Leaves (link_start m.arcs d) (second_point (link_points m.arcs d))
  leaves_start d l = by d.turned
    where
      points : List Point
      points = (arc_number m.arcs d.arc).points

      by : (t : Bool) → Leaves (cond t (last_point points) (first_point points)) (second_point (cond t (reverse points) points))
      by true = leaves_last points (arc_row d.arc l)
      by false = leaves_first points (arc_row d.arc l)

  -- and where it ends
  leaves_end : (d : Link) → d.arc < length m.arcs → Leaves (link_end m.arcs d) (second_point (reverse (link_points m.arcs d)))
  leaves_end d l = by d.turned
    where
      points : List Point
      points = (arc_number m.arcs d.arc).points

      by : (t : Bool) → Leaves (cond t (first_point points) (last_point points)) (second_point (reverse (cond t (reverse points) points)))
      by true = subst (λ (ps : List Point). Leaves (first_point points) (second_point ps)) (sym (reverse-reverse points)) (leaves_first points (arc_row d.arc l))
      by false = leaves_last points (arc_row d.arc l)

  last_among : (d : Link) (c : Chain) → Among (last_link d c) (d ∷ c)
  last_among d [] = inl refl
  last_among d (e ∷ c) = inr (last_among e c)

  last_end : (d : Link) (c : Chain) → chain_end m.arcs (d ∷ c) ≡ link_end m.arcs (last_link d c)
  last_end d [] = refl
  last_end d (e ∷ c) = last_end e c

  -- so does a chain
  chain_leaves : (c : Chain) → has_links c ≡ true → ((d : Link) → Among d c → d.arc < length m.arcs)
      → Leaves (chain_start m.arcs c) (chain_ends m.arcs c).after_first × Leaves (chain_end m.arcs c) (chain_ends m.arcs c).before_last
  chain_leaves [] h within = absurd cc
  chain_leaves (d ∷ c) h within = (
    leaves_start d (within d (inl refl)),
    subst (λ (p : Point). Leaves p (chain_ends m.arcs (d ∷ c)).before_last) (sym (last_end d c)) (leaves_end (last_link d c) (within (last_link d c) (last_among d c))),
  )

-- ---- as many edges as arcs at most

count_chains : (cs : List Chain) → ((c : Chain) → Among c cs → has_links c ≡ true) → length cs ≤ sum_by (λ (c : Chain). sum_by (λ (d : Link). 1) c) cs
count_chains [] some = omega arith
count_chains (c ∷ cs) some =
    omega (arith, sum_by-cons (λ (c : Chain). sum_by (λ (d : Link). 1) c) c cs, count_chains cs (λ d n. some d (inr n)), has_one c (some c (inl refl)))
  where
    has_one : (c : Chain) → has_links c ≡ true → 1 ≤ sum_by (λ (d : Link). 1) c
    has_one [] h = absurd cc
    has_one (d ∷ c) h = omega (arith, sum_by-cons (λ (d : Link). 1) d c)

count_arcs : (p : BaseArc → Bool) (arcs : List BaseArc) → sum_by (λ a. cond (p a) 1 0) arcs ≤ length arcs
count_arcs p [] = omega arith
count_arcs p (a ∷ arcs) = omega (arith, sum_by-cons (λ a. cond (p a) 1 0) a arcs, count_arcs p arcs, at_most (p a))
  where
    at_most : (b : Bool) → cond b 1 0 ≤ 1
    at_most true = omega arith
    at_most false = omega arith

-- members of two lists that one list gives, place by place
zip_mapped : {A B C : Type 0} (R : B → C → Type 0) (f : A → B) (g : A → C) (xs : List A) → ((x : A) → Among x xs → R (f x) (g x)) → AllZip R (map f xs) (map g xs)
zip_mapped R f g [] h = tt
zip_mapped R f g (x ∷ xs) h = (h x (inl refl), zip_mapped R f g xs (λ y n. h y (inr n)))

-- ---- the edges of a slice

module _ (m : BaseMap) (base : is_base m ≡ true) (planar : IsPartition (base_segments m)) (k : ℕ) (within : k ≤ length (history_of m)) where
  abbrev chains : List Chain
  chains = chains_at (merged m) k

  abbrev gone : List Removal
  gone = removals_to (merged m) k

  abbrev edges : List Edge
  edges = edges_of (merged m) k gone chains

  few_edges : length edges ≤ MAX_ARCS
  few_edges =
      omega (
        arith,
        length-map chains (edge_of (merged m) k gone),
        count_chains chains (chain_links (merged m) k),
        sum_of_chains (merged m) k chains (chains_exist (merged m) k) (λ a. 1),
        count_arcs (is_border (merged m) k) m.arcs,
        (base_facts m base).few_arcs,
      )

  edges_within : All IsEdgeWithin edges
  edges_within = all_members IsEdgeWithin edges (λ e n.
      let c = map_among (edge_of (merged m) k gone) chains e n in
      let live = all_live e n in
      record {
        near = All-weaker (λ p. in_limits p ≡ true) IsNear near_point e.points live.limits;
        some = live.some;
        short = subst (λ (f : Edge). length f.points ≤ MAX_POINTS) c.2 (omega (arith, few m base planar k c.0 c.1, kept_length (λ p. not (is_removed gone p)) (chain_points m.arcs c.0)));
      })
    where
      all_live : (e : Edge) → Among e edges → IsLiveEdge e
      all_live e n = members_all IsLiveEdge edges e (after_live m base planar k within).each n

  long : (c : Chain) → Among c chains → AreLong m.arcs c
  long c n d o = (base_arc m base (arc_number m.arcs d.arc) (number_among m.arcs d.arc (chain_arcs (merged m) k c n d o))).two_points

  -- an edge starts and ends where its chain does
  first_is : (c : Chain) → Among c chains → first_point (without gone (chain_points m.arcs c)) ≡ chain_start m.arcs c
  first_is c n =
      let some = chain_links (merged m) k c n in
      let first = chain_first m.arcs c some (long c n) in
      let two = chain_length m.arcs c some (long c n) in
      without_first gone (chain_points m.arcs c) (omega (arith, two))
      (ap (is_removed gone) first ∙ ends_stay m base planar k within (chain_start m.arcs c) (c, contained chains c n, inl refl)) ∙ first

  last_is : (c : Chain) → Among c chains → last_point (without gone (chain_points m.arcs c)) ≡ chain_end m.arcs c
  last_is c n =
      let some = chain_links (merged m) k c n in
      let last = chain_last m.arcs c some (long c n) in
      let two = chain_length m.arcs c some (long c n) in
      (without_last gone (chain_points m.arcs c) (omega (arith, two))
      (ap (is_removed gone) last ∙ ends_stay m base planar k within (chain_end m.arcs c) (c, contained chains c n, inr refl))).1 ∙ last

  edge_leaves : (c : Chain) → Among c chains → IsSpan (span_with (edge_of (merged m) k gone c) (chain_ends m.arcs c))
  edge_leaves c n =
      let l = chain_leaves m base c (chain_links (merged m) k c n) (chain_arcs (merged m) k c n) in
      let first = subst (λ (p : Point). Leaves p (chain_ends m.arcs c).after_first) (sym (first_is c n)) l.0 in
      let last = subst (λ (p : Point). Leaves p (chain_ends m.arcs c).before_last) (sym (last_is c n)) l.1 in
      record { first = (first.from, first.to); last = (last.from, last.to); leaves_first = first.apart; leaves_last = last.apart }

  pub leave_nodes : LeaveNodes (slice m k).edges (slice_ends m k)
  unfolding slice slice_ends
  leave_nodes = record {
    few = few_edges;
    within = edges_within;
    leave = zip_mapped (λ e x. IsSpan (span_with e x)) (edge_of (merged m) k gone) (chain_ends m.arcs) chains edge_leaves;
  }
