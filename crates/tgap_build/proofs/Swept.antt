-- What is swept after a step of the history: the edges as they are then, and what goes can be noted in the forest.
use Rattle.std.proofs.Common.{◌≡◌, ◌≢◌, ℕ, ◌-◌, ◌<◌, ◌≤◌, ℤ, true, false, List, map, length, Contains, All, AllPairs, sym, ap, ap₂, ◌∙◌, subst, arith, IsTrue}
use Rattle.tgap_model.specs.declared.geometry.Point.{Point}
use Rattle.tgap_model.specs.declared.slice.Edge.{Edge}
use Rattle.tgap_model.specs.declared.slice.Removal.{Removal}
use Rattle.tgap_model.specs.Base.{BaseMap, is_base, in_limits}
use Rattle.tgap_model.specs.Partition.{IsPartition, base_segments}
use Rattle.tgap_model.specs.History.{history_of}
use Rattle.tgap_model.specs.Merged.{merged, step_number}
use Rattle.tgap_model.specs.Chains.{arc_number, chain_points, chains_at}
use Rattle.tgap_model.specs.Removals.{edge_of, edges_of, sweep}
use Rattle.map_laws.proofs.ChainMembers.{all_among}
use Rattle.map_laws.proofs.Lists.{all_members, kept_among, map_among}
use Rattle.removal_laws.specs.Trace.{edges_before_sweep, step_area}
use Rattle.removal_laws.proofs.ChainEnds.{contained}
use Rattle.slice_laws.proofs.BaseParts.{base_arc}
use Rattle.slice_laws.proofs.Coverage.{number_among}
use Rattle.edge_forest.specs.Forest.{EdgeForest, is_gone}
use Rattle.edge_forest.specs.Removed.{arc_points}
use Rattle.step_laws.proofs.StepRemovals.{chain_point, step_list, swept_is, step_apart, step_fresh, step_point}
use Rattle.tgap_build.specs.Built.{HasRemoved}

-- the points of the edges of a map are within its limits
pub near_points : (m : BaseMap) → is_base m ≡ true → (k : ℕ) (removals : List Removal) (edges : List Edge)
    → edges ≡ edges_of (merged m) k removals (chains_at (merged m) k)
    → All (λ e. All (λ p. IsTrue (in_limits p)) e.points) edges
near_points m base k removals edges is =
    subst (All (λ (e : Edge). All (λ p. IsTrue (in_limits p)) e.points)) (sym is)
    (all_members (λ (e : Edge). All (λ p. IsTrue (in_limits p)) e.points) (edges_of (merged m) k removals (chains_at (merged m) k)) (λ e n.
    let c = map_among (edge_of (merged m) k removals) (chains_at (merged m) k) e n in
    subst (λ (f : Edge). All (λ p. IsTrue (in_limits p)) f.points) c.2
    (all_members (λ p. IsTrue (in_limits p)) (edge_of (merged m) k removals c.0).points (λ p l.
    let place = chain_point (merged m) k c.0 c.1 p (kept_among _ (chain_points m.arcs c.0) p l) in
    all_among in_limits (arc_number m.arcs place.0).points p (base_arc m base (arc_number m.arcs place.0) (number_among m.arcs place.0 place.1)).in_limits place.2))))

module _ (f : EdgeForest) (k : ℕ) (base : is_base f.base ≡ true) (planar : IsPartition (base_segments f.base)) (some : 0 < k)
    (within : k ≤ length (history_of f.base)) (before : HasRemoved f (k - 1)) (live : List Edge)
    (live_is : live ≡ edges_before_sweep (merged f.base) k) where
  module _ (ratio made : ℕ) (area : ℤ) (list : List Removal) (ratio_is : ratio ≡ f.base.rules.ratio) (made_is : made ≡ (step_number (merged f.base) k).made)
      (area_is : area ≡ step_area (merged f.base) k)
      (swept : list ≡ map (λ p. record { point = p; step = k }) (sweep ratio area made live)) where
    -- what goes is what the step removes
    pub list_is : list ≡ step_list f.base base planar k some within
    list_is =
        swept
        ∙ ap (λ (r : ℕ). map (λ p. record { point = p; step = k }) (sweep r area made live)) ratio_is
        ∙ ap (λ (a : ℤ). map (λ p. record { point = p; step = k }) (sweep f.base.rules.ratio a made live)) area_is
        ∙ ap₂ (λ (n : ℕ) (es : List Edge). map (λ p. record { point = p; step = k }) (sweep f.base.rules.ratio (step_area (merged f.base) k) n es)) made_is live_is
        ∙ swept_is f.base base planar k some within

    pub list_steps : All (λ r. r.step ≡ k) list
    list_steps = subst (All (λ (r : Removal). r.step ≡ k)) (sym swept)
        (all_members (λ (r : Removal). r.step ≡ k) (map (λ p. record { point = p; step = k }) (sweep ratio area made live)) (λ r n.
        let p = map_among (λ (p : Point). record { point = p; step = k }) (sweep ratio area made live) r n in
        sym (ap (λ (s : Removal). s.step) p.2)))

    pub list_apart : AllPairs (λ r s. r.point ≢ s.point) list
    list_apart = subst (AllPairs (λ (r s : Removal). r.point ≢ s.point)) (sym list_is) (step_apart f.base base planar k some within)

    pub list_there : All (λ r. Contains (arc_points f.base.arcs) r.point) list
    list_there = subst (All (λ (r : Removal). Contains (arc_points f.base.arcs) r.point)) (sym list_is)
        (all_members (λ (r : Removal). Contains (arc_points f.base.arcs) r.point) (step_list f.base base planar k some within) (λ r n.
        contained (arc_points f.base.arcs) r.point (step_point f.base base planar k some within r n)))

    pub list_left : All (λ r. is_gone f k r.point ≡ false) list
    list_left = subst (All (λ (r : Removal). is_gone f k r.point ≡ false)) (sym list_is)
        (all_members (λ (r : Removal). is_gone f k r.point ≡ false) (step_list f.base base planar k some within) (λ r n.
        before.later k (omega arith) r.point ∙ step_fresh f.base base planar k some within r n))
