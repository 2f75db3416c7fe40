-- The edges after a step, before its sweep and after it, can be looked up: they ascend, are within the limits, and have two points at least
-- and not too many.
use Rattle.std.proofs.Common.{◌≡◌, ℕ, ◌-◌, ◌<◌, ◌≤◌, Bool, true, false, cond, not, List, length, All, AllPairs, get_or, refl, sym, ap, ◌∙◌, subst, arith, IsTrue}
use Rattle.std.specs.Prelude.{sum_by}
use Rattle.std.proofs.lemmas.Bool.{ltb-true}
use Rattle.lemmas.proofs.Orders.{nat_lt_order, order_by_key}
use Rattle.lemmas.proofs.Sorting.{sorted_pairs}
use Rattle.tgap_model.specs.declared.base.BaseArc.{BaseArc}
use Rattle.tgap_model.specs.declared.slice.Edge.{Edge}
use Rattle.tgap_model.specs.declared.slice.Removal.{Removal}
use Rattle.tgap_model.specs.declared.limits.TheConstants.{MAX_POINTS}
use Rattle.tgap_model.specs.Base.{BaseMap, is_base, in_limits}
use Rattle.tgap_model.specs.Partition.{IsPartition, base_segments}
use Rattle.tgap_model.specs.History.{history_of}
use Rattle.tgap_model.specs.Merged.{merged, is_border}
use Rattle.tgap_model.specs.Chains.{Link, Chain, arc_number, chain_points, key, chains_at}
use Rattle.tgap_model.specs.Removals.{edge_of, edges_of, without, removals_to, is_removed}
use Rattle.tgap_model.proofs.BaseFacts.{base_facts}
use Rattle.map_laws.proofs.ChainMembers.{Among}
use Rattle.map_laws.proofs.ChainLinks.{chains_sorted}
use Rattle.map_laws.proofs.ChainsExist.{chains_exist}
use Rattle.map_laws.proofs.Lists.{all_members, members_all, map_among, among_map, sum_member, sum_less}
use Rattle.removal_laws.specs.Trace.{edges_before_sweep}
use Rattle.removal_laws.proofs.ChainLengths.{chain_length, kept_length}
use Rattle.removal_laws.proofs.Less.{without_both}
use Rattle.slice_laws.proofs.CountedSums.{sum_of_chains}
use Rattle.step_laws.proofs.EachSlice.{each_good}
use Rattle.step_laws.proofs.StepRemovals.{step_list, listed_next}
use Rattle.grid_index.specs.Live.{AreLive, IsLiveEdge}
use Rattle.tgap_build.proofs.KeyedEdges.{pairs_mapped}
use Rattle.tgap_build.proofs.Swept.{near_points}

-- ---- few points

module _ (m : BaseMap) (base : is_base m ≡ true) (planar : IsPartition (base_segments m)) (k : ℕ) where
  abbrev chains : List Chain
  chains = chains_at (merged m) k

  -- the points of the arcs of a chain
  pub few_along : (c : Chain) → Among c (chains_at (merged m) k) → sum_by (λ (d : Link). length (arc_number m.arcs d.arc).points) c ≤ MAX_POINTS
  few_along c n =
      omega (
        arith,
        sum_member (λ (c : Chain). sum_by (λ d. length (arc_number m.arcs d.arc).points) c) chains c n,
        sum_of_chains (merged m) k chains (chains_exist (merged m) k) (λ a. length a.points),
        sum_less (λ (a : BaseArc). cond (is_border (merged m) k a) (length a.points) 0) (λ a. length a.points) m.arcs (λ a i. at_most (is_border (merged m) k a) (length a.points)),
        (base_facts m base).few_points,
      )
    where
      at_most : (b : Bool) (n : ℕ) → cond b n 0 ≤ n
      at_most true n = omega arith
      at_most false n = omega arith

  pub few : (c : Chain) → Among c (chains_at (merged m) k) → length (chain_points m.arcs c) ≤ MAX_POINTS
  few c n = omega (arith, chain_length m.arcs c, few_along c n)

  -- ---- in order of key

  pub ascending : (removals : List Removal) → AllPairs (λ (e f : Edge). e.key < f.key) (edges_of (merged m) k removals (chains_at (merged m) k))
  ascending removals =
      pairs_mapped (λ (e f : Edge). e.key < f.key) (edge_of (merged m) k removals) chains
      (λ i j d l s. ltb-true (key (get_or chains i d)) (key (get_or chains j d))
      (sorted_pairs (order_by_key key nat_lt_order) chains (λ n d l. tt) (chains_sorted (merged m) k chains (chains_exist (merged m) k)) i j d l s))

  -- ---- two points

  abbrev HasTwo : List Removal → Type 0
  HasTwo removals = (c : Chain) → Among c (chains_at (merged m) k) → 2 ≤ length (without removals (chain_points m.arcs c))

  after_two : k ≤ length (history_of m) → HasTwo (removals_to (merged m) k)
  after_two l c n =
      members_all (λ (e : Edge). 2 ≤ length e.points) (edges_of (merged m) k (removals_to (merged m) k) chains) (edge_of (merged m) k (removals_to (merged m) k) c)
      (each_good m base planar k l).sound.points (among_map (edge_of (merged m) k (removals_to (merged m) k)) chains c n)

  before_two : 0 < k → k ≤ length (history_of m) → HasTwo (removals_to (merged m) (k - 1))
  before_two some l c n =
      let earlier = removals_to (merged m) (k - 1) in
      let here = step_list m base planar k some l in
      let points = chain_points m.arcs c in
      let both : without (removals_to (merged m) k) points ≡ without here (without earlier points)
      = ap (λ (rs : List Removal). without rs points) (listed_next m base planar k some l) ∙ sym (without_both earlier here points) in
      omega (arith, after_two l c n, ap length both, kept_length (λ p. not (is_removed here p)) (without earlier points))

  -- ---- all

  all_live : (removals : List Removal) → HasTwo removals → AreLive (edges_of (merged m) k removals (chains_at (merged m) k))
  all_live removals two = record {
    ascending = ascending removals;
    each = all_members IsLiveEdge (edges_of (merged m) k removals chains) (λ e n.
        let c = map_among (edge_of (merged m) k removals) chains e n in
        subst IsLiveEdge c.2 (record {
          limits = members_all (λ (e : Edge). All (λ p. IsTrue (in_limits p)) e.points) (edges_of (merged m) k removals chains) (edge_of (merged m) k removals c.0)
              (near_points m base k removals (edges_of (merged m) k removals chains) refl) (among_map (edge_of (merged m) k removals) chains c.0 c.1);
          some = two c.0 c.1;
          few = omega (arith, few c.0 c.1, kept_length (λ p. not (is_removed removals p)) (chain_points m.arcs c.0));
        }));
  }

  pub after_live : k ≤ length (history_of m) → AreLive (edges_of (merged m) k (removals_to (merged m) k) (chains_at (merged m) k))
  after_live l = all_live (removals_to (merged m) k) (after_two l)

  pub before_live : 0 < k → k ≤ length (history_of m) → AreLive (edges_before_sweep (merged m) k)
  before_live some l = all_live (removals_to (merged m) (k - 1)) (before_two some l)
