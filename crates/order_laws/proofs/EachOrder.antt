-- From one step to the next the edge ends round each node of a slice keep the cyclic order that their arc ends have in the base map.
use Rattle.std.proofs.Common.{◌≡◌, ◌≢◌, inl, inr, ℕ, zero, suc, ◌+◌, ◌-◌, ◌<◌, ◌≤◌, ◌==◌, ◌&&◌, Bool, true, false, not, cond, List, [], ◌∷◌, map, filter, length, get_or, All, Contains, refl, sym, ap, ◌∙◌, subst, subst₂, arith}
use Rattle.std.specs.List.{range_with_len}
use Rattle.std.proofs.lemmas.Bool.{and_from, le-leb, eq-eqb, eqb-true, not-true, true≢false}
use Rattle.std.proofs.lemmas.List.Elements.{All-weaker}
use Rattle.lemmas.specs.Sorting.{sort_by}
use Rattle.lemmas.proofs.Members.{in_head, AllPairs-from_map}
use Rattle.lemmas.proofs.Sorting.{sort_by-is_sorted, All-sort_by, Contains-sort_by, Contains-from_sort_by, sorted_same}
use Rattle.tgap_model.specs.declared.geometry.Point.{Point}
use Rattle.tgap_model.specs.declared.base.BaseArc.{BaseArc}
use Rattle.tgap_model.specs.declared.slice.Edge.{Edge}
use Rattle.tgap_model.specs.declared.slice.Removal.{Removal}
use Rattle.tgap_model.specs.Base.{BaseMap, is_base}
use Rattle.tgap_model.specs.Partition.{base_segments, edge_segments, IsPartition}
use Rattle.tgap_model.specs.History.{relabel, AreNumbered, history_of}
use Rattle.tgap_model.specs.Merged.{merged, label_at, step_number, is_border}
use Rattle.tgap_model.specs.Chains.{Link, Chain, chain_start, chain_end, arc_number, has_links, key, joints, border_numbers, chains_at}
use Rattle.tgap_model.specs.Removals.{is_removed, edge_of, edges_of, removals_to}
use Rattle.tgap_model.specs.Slice.{slice}
use Rattle.tgap_model.proofs.BaseFacts.{ArcFacts, base_facts, each_arc}
use Rattle.map_laws.specs.ChainLaws.{has_base_faces, IsEven, HasEvenSides, chains_left, new_joints}
use Rattle.map_laws.proofs.ChainMembers.{Among, joined_among}
use Rattle.map_laws.proofs.ChainLinks.{chains_border}
use Rattle.map_laws.proofs.ChainsExist.{single, single_joined, joints_next, chains_exist}
use Rattle.map_laws.proofs.ChainsStep.{Both, goes, link_vanishes, left_joined, new_next, chains_step}
use Rattle.map_laws.proofs.JoinPaths.{path_named}
use Rattle.map_laws.proofs.Lists.{all_members, members_all, kept_among, map_among, among_map, among_range}
use Rattle.map_laws.proofs.MergeSteps.{label_next}
use Rattle.face_merge.proofs.Start.{history_numbered}
use Rattle.slice_laws.specs.SliceLaws.{KeepsFaces}
use Rattle.slice_laws.proofs.EvenSides.{chains_keep_faces}
use Rattle.removal_laws.specs.Trace.{swept_edges, edges_before_sweep, edges_after_sweep, step_area}
use Rattle.removal_laws.specs.StandLaws.{AreSound}
use Rattle.removal_laws.specs.EndLaws.{IsChainEnd}
use Rattle.removal_laws.proofs.ChainEnds.{chain_links, chain_arcs, contained}
use Rattle.removal_laws.proofs.EndsStay.{ends_are_not_listed}
use Rattle.removal_laws.proofs.StandOnce.{chains_stand_once, partition_has_removals}
use Rattle.step_laws.proofs.EachSlice.{each_good}
use Rattle.step_laws.proofs.EdgesAlong.{Anywhere}
use Rattle.step_laws.proofs.JoinedChains.{step_edges}
use Rattle.order_laws.specs.NodeOrder.{End, Way, way_before, ends_round, IsRotation, start_end, finish_end, chain_with, arc_end, is_border_end, base_order, EndsKeepOrder}
use Rattle.order_laws.proofs.Rotations.{rotation_self, rotation_same, rotation_then, rotation_kept, rotation_mapped, rotation_some}
use Rattle.order_laws.proofs.WayPlaces.{end_of, Leaves, order_of_ways}
use Rattle.order_laws.proofs.Ways.{all_ways, AreWays, sound_ways}
use Rattle.order_laws.proofs.ReplacedOrder.{sweep_keeps_order}
use Rattle.order_laws.proofs.ChainWays.{points_along, chains_ways, is_way, way_is, KeepsEnds, chain_found, tagged, edges_tagged, tagged_order, tagged_ways}
use Rattle.order_laws.proofs.JoinedWays.{SameWays, joined_ways}
use Rattle.order_laws.proofs.BaseWays.{rows_kept, kept_twice, order_kept, ways_kept, base_order_is, single_ways}

-- ---- the links at the ends of a chain

start_link : (c : Chain) → has_links c ≡ true → (d : Link) × Among d c × (d.arc ≡ (start_end c).arc)
start_link [] h = absurd cc
start_link (d ∷ c) h = (d, inl refl, refl)

finish_link : (c : Chain) → has_links c ≡ true → (d : Link) × Among d c × (d.arc ≡ (finish_end c).arc)
finish_link [] h = absurd cc
finish_link (d ∷ []) h = (d, inl refl, refl)
finish_link (d ∷ e ∷ c) h = let r = finish_link (e ∷ c) refl in (r.0, inr r.1, r.2)

-- ---- lists of ways

-- the ends of some ways, in their order
abbrev ordered : Point → List Way → List End
ordered v ws = map end_of (sort_by (way_before v) ws)

-- the same ways have one order
same_order : (v : Point) (us ws : List Way) → AreWays v us → AreWays v ws
    → ((w : Way) → (Contains us w → Contains ws w) × (Contains ws w → Contains us w)) → sort_by (way_before v) us ≡ sort_by (way_before v) ws
same_order v us ws a b same =
    sorted_same (order_of_ways v) (sort_by (way_before v) us) (sort_by (way_before v) ws)
    (All-sort_by (way_before v) (Leaves v) us a.leave) (All-sort_by (way_before v) (Leaves v) ws b.leave)
    (sort_by-is_sorted (way_before v) us a.decided) (sort_by-is_sorted (way_before v) ws b.decided)
    (λ w c. Contains-sort_by (way_before v) ws w ((same w).0 (Contains-from_sort_by (way_before v) us w c)))
    (λ w c. Contains-sort_by (way_before v) us w ((same w).1 (Contains-from_sort_by (way_before v) ws w c)))

-- where there are some, there is one
some_way : (v : Point) (ws : List Way) → ordered v ws ≢ [] → ((w : Way) → Contains ws w → ⊥) → ⊥
some_way v [] some none = some refl
some_way v (w ∷ ws) some none = none w (in_head w ws)

-- what a test before a step and one after it say of an arc that is a border before it
gone_or_left : (b c g : Bool) → b ≡ true → (b && not c) ≡ g → c ≡ not g
gone_or_left true true g e f = ap not f
gone_or_left true false g e f = ap not f
gone_or_left false c g e f = absurd cc

module _ (m : BaseMap) (base : is_base m ≡ true) (planar : IsPartition (base_segments m)) where
  -- ---- what is known of the map at every step

  numbered : AreNumbered (length m.classes) (history_of m)
  numbered = history_numbered m base

  based : All (λ a. has_base_faces (merged m) a ≡ true) m.arcs
  based = All-weaker (λ a. ArcFacts (length m.classes) a) (λ a. has_base_faces (merged m) a ≡ true) (λ a f. both a f) m.arcs (each_arc m (base_facts m base))
    where
      both : (a : BaseArc) → ArcFacts (length m.classes) a → has_base_faces (merged m) a ≡ true
      both a f = and_from _ _ (le-leb a.left (length m.classes) f.left) (le-leb a.right (length m.classes) f.right)

  long : All (λ a. 2 ≤ length a.points) m.arcs
  long = All-weaker (λ a. ArcFacts (length m.classes) a) (λ a. 2 ≤ length a.points) (λ a f. f.two_points) m.arcs (each_arc m (base_facts m base))

  even : (k : ℕ) → HasEvenSides (merged m) k
  even k =
      all_members (IsEven (merged m) k) (chains_at (merged m) k) (λ c n.
      let f : KeepsFaces (merged m) k [] c = members_all (KeepsFaces (merged m) k []) (chains_at (merged m) k) c (chains_keep_faces m base planar k []) n in
      record { left = f.left; right = f.right })

  ends_stay : (k : ℕ) → k ≤ length (history_of m) → (p : Point) → IsChainEnd m.arcs (chains_at (merged m) k) p → is_removed (removals_to (merged m) k) p ≡ false
  ends_stay k l =
      ends_are_not_listed (merged m) k (record { numbered = numbered; within = l; faces = based; even = λ j less. even j }) long
      (λ j one last. chains_stand_once (merged m) base planar.arcs.apart j)

  -- ---- the ways of the chains after k steps, less some vertices

  module _ (k : ℕ) (rs : List Removal) (sound : AreSound (edges_of (merged m) k rs (chains_at (merged m) k))) (v : Point) where
    known : (c : Chain) → Among c (chains_at (merged m) k) → (chain_with (chains_at (merged m) k) (key c) ≡ c) × (2 ≤ length (points_along m.arcs rs c))
    known c n = (
      chain_found (chains_at (merged m) k)
          (AllPairs-from_map (λ (e f : Edge). e.key ≢ f.key) (edge_of (merged m) k rs) (chains_at (merged m) k) sound.keys) c n,
      members_all (λ (e : Edge). 2 ≤ length e.points) (edges_of (merged m) k rs (chains_at (merged m) k)) (edge_of (merged m) k rs c) sound.points
          (among_map (edge_of (merged m) k rs) (chains_at (merged m) k) c n),
    )

    are_tagged : map (tagged (chains_at (merged m) k)) (all_ways v (edges_of (merged m) k rs (chains_at (merged m) k)))
        ≡ chains_ways m.arcs rs v (chains_at (merged m) k)
    are_tagged = edges_tagged (merged m) k rs (chains_at (merged m) k) (chains_at (merged m) k) v known

    chains_are_ways : AreWays v (chains_ways m.arcs rs v (chains_at (merged m) k))
    chains_are_ways =
        subst (AreWays v) are_tagged
        (tagged_ways (chains_at (merged m) k) v (all_ways v (edges_of (merged m) k rs (chains_at (merged m) k))) (sound_ways _ sound v))

    -- the arc ends of the edges, in the order of the ways
    edges_order : map (arc_end (chains_at (merged m) k)) (ends_round v (edge_segments (edges_of (merged m) k rs (chains_at (merged m) k))))
        ≡ ordered v (chains_ways m.arcs rs v (chains_at (merged m) k))
    edges_order =
        tagged_order (chains_at (merged m) k) v (all_ways v (edges_of (merged m) k rs (chains_at (merged m) k)))
        ∙ ap (ordered v) are_tagged

  -- the order at a node of the slice after k steps
  abbrev chain_order : ℕ → Point → List End
  chain_order k v = ordered v (chains_ways m.arcs (removals_to (merged m) k) v (chains_at (merged m) k))

  abbrev KeepsOrder : ℕ → Type 0
  KeepsOrder k = (v : Point) → chain_order k v ≢ [] → IsRotation (base_order m k v) (chain_order k v)

  sound_slice : (k : ℕ) → k ≤ length (history_of m) → AreSound (edges_of (merged m) k (removals_to (merged m) k) (chains_at (merged m) k))
  sound_slice k l = (each_good m base planar k l).sound

  -- ---- before the first step

  abbrev singles : List Chain
  singles = map (single (merged m) 0) (border_numbers (merged m) 0)

  single_keeps : (c : Chain) → Among c singles → KeepsEnds m.arcs [] c
  single_keeps c n =
      let from = map_among (single (merged m) 0) (border_numbers (merged m) 0) c n in
      let range = among_range 0 (length m.arcs) from.0
      (kept_among (λ i. is_border (merged m) 0 (arc_number m.arcs i)) (range_with_len 0 (length m.arcs)) from.0 from.1) in
      subst (KeepsEnds m.arcs []) from.2 (record {
        path = record { links = refl; row = tt };
        long = λ d i. elim i [
          | inl e ↦ subst (λ (d : Link). 2 ≤ length (arc_number m.arcs d.arc).points) e
              (long from.0 (record { left = 0; right = 0; points = [] }) (omega (arith, range.1)))
          | inr none ↦ absurd none
        ];
        start = refl;
        end = refl;
      })

  first_same : (v : Point) → SameWays (merged m) 0 [] singles (chains_at (merged m) 0) v
  unfolding chains_at
  first_same v = joined_ways (merged m) 0 [] (joints (merged m) 0) (λ q. ⊥) singles (single_joined (merged m) 0) (joints_next (merged m) 0) single_keeps v

  -- the order of the same ways, where there are some
  order_same : (k : ℕ) (rs : List Removal) (cs ds : List Chain) (v : Point) → AreWays v (chains_ways m.arcs rs v cs) → AreWays v (chains_ways m.arcs rs v ds)
      → SameWays (merged m) k rs cs ds v → ordered v (chains_ways m.arcs rs v ds) ≢ []
      → ordered v (chains_ways m.arcs rs v cs) ≡ ordered v (chains_ways m.arcs rs v ds)
  order_same k rs cs ds v a b (inl same) some =
      ap (map end_of) (same_order v (chains_ways m.arcs rs v cs) (chains_ways m.arcs rs v ds) a b (λ w. (
        (λ c. way_is m.arcs rs ds v w ((same w).0 (is_way m.arcs rs cs v w c))),
        (λ c. way_is m.arcs rs cs v w ((same w).1 (is_way m.arcs rs ds v w c))),
      )))
  order_same k rs cs ds v a b (inr none) some =
      absurd (some_way v (chains_ways m.arcs rs v ds) some (λ w c. none w (is_way m.arcs rs ds v w c)))

  first_keeps : KeepsOrder 0
  unfolding removals_to
  first_keeps v some =
      rotation_same (base_order m 0 v) (ordered v (chains_ways m.arcs [] v (chains_at (merged m) 0)))
      (base_order_is m base 0 v planar
      ∙ order_same 0 [] singles (chains_at (merged m) 0) v (single_ways m base 0 v planar)
      (chains_are_ways 0 [] (sound_slice 0 (omega arith)) v) (first_same v) some)

  module _ (k : ℕ) (more : k < length (history_of m)) (keeps : KeepsOrder k) where
    abbrev rs : List Removal
    rs = removals_to (merged m) k

    abbrev left : List Chain
    left = chains_left (merged m) k

    abbrev next : List Chain
    next = chains_at (merged m) (k + 1)

    within : k ≤ length (history_of m)
    within = omega (arith, more)

    -- ---- the labels change

    -- what is no border stays none
    next_label : (f : ℕ) → label_at (merged m) (k + 1) f ≡ relabel (get_or (history_of m) k (record { loser = 0; winner = 0; made = 0 })) (label_at (merged m) k f)
    next_label f =
        let one_more : k + 1 ≡ suc k = omega arith in
        ap (λ (i : ℕ). label_at (merged m) i f) one_more ∙ label_next (history_of m) k (record { loser = 0; winner = 0; made = 0 }) f more

    border_before : (e : End) → is_border_end m (k + 1) e ≡ true → is_border_end m k e ≡ true
    border_before e h = by (label_at (merged m) k a.left == label_at (merged m) k a.right) refl
      where
        a : BaseArc
        a = arc_number m.arcs e.arc

        by : (b : Bool) → (label_at (merged m) k a.left == label_at (merged m) k a.right) ≡ b → not b ≡ true
        by true f =
            let same : label_at (merged m) (k + 1) a.left ≡ label_at (merged m) (k + 1) a.right
            = next_label a.left ∙ ap (relabel (get_or (history_of m) k (record { loser = 0; winner = 0; made = 0 }))) (eqb-true _ _ f) ∙ sym (next_label a.right) in
            absurd (true≢false (sym (eq-eqb _ _ same) ∙ not-true _ h))
        by false f = refl

    -- the chains that are left
    left_end : (c : Chain) → Among c (chains_at (merged m) k) → (d : Link) → Among d c
        → is_border (merged m) (k + 1) (arc_number m.arcs d.arc) ≡ not (goes (merged m) k numbered more based (even k) c)
    left_end c n d o =
        gone_or_left (is_border (merged m) k (arc_number m.arcs d.arc)) (is_border (merged m) (k + 1) (arc_number m.arcs d.arc))
        (goes (merged m) k numbered more based (even k) c)
        (chains_border (merged m) k (chains_at (merged m) k) (chains_exist (merged m) k) d (joined_among (chains_at (merged m) k) c d n o)).border
        (link_vanishes (merged m) k numbered more based (even k) c n d o)

    left_ends : (c : Chain) → Among c (chains_at (merged m) k)
        → (is_border_end m (k + 1) (start_end c) ≡ not (goes (merged m) k numbered more based (even k) c))
        × (is_border_end m (k + 1) (finish_end c) ≡ not (goes (merged m) k numbered more based (even k) c))
    left_ends c n =
        let s = start_link c (chain_links (merged m) k c n) in
        let f = finish_link c (chain_links (merged m) k c n) in
        let stays = not (goes (merged m) k numbered more based (even k) c) in (
          subst (λ (i : ℕ). is_border (merged m) (k + 1) (arc_number m.arcs i) ≡ stays) s.2 (left_end c n s.0 s.1),
          subst (λ (i : ℕ). is_border (merged m) (k + 1) (arc_number m.arcs i) ≡ stays) f.2 (left_end c n f.0 f.1),
        )

    old_ways : (v : Point) → AreWays v (chains_ways m.arcs rs v (chains_at (merged m) k))
    old_ways v = chains_are_ways k rs (sound_slice k within) v

    left_are : (v : Point) → filter (λ w. is_border_end m (k + 1) (end_of w)) (chains_ways m.arcs rs v (chains_at (merged m) k)) ≡ chains_ways m.arcs rs v left
    left_are v =
        rows_kept (is_border_end m (k + 1)) (λ c. not (goes (merged m) k numbered more based (even k) c)) v start_end finish_end (points_along m.arcs rs)
        (chains_at (merged m) k) left_ends

    left_ways : (v : Point) → AreWays v (chains_ways m.arcs rs v left)
    left_ways v = subst (AreWays v) (left_are v) (ways_kept (is_border_end m (k + 1)) v (chains_ways m.arcs rs v (chains_at (merged m) k)) (old_ways v))

    left_order : (v : Point) → filter (is_border_end m (k + 1)) (chain_order k v) ≡ ordered v (chains_ways m.arcs rs v left)
    left_order v =
        order_kept (is_border_end m (k + 1)) v (chains_ways m.arcs rs v (chains_at (merged m) k)) (old_ways v) ∙ ap (ordered v) (left_are v)

    -- ---- chains are joined

    next_sound : AreSound (edges_of (merged m) (k + 1) rs next)
    next_sound = (step_edges (merged m) k rs numbered more based long (even k) (even (k + 1)) (ends_stay k within) (sound_slice k within)).0

    was : (c : Chain) → Among c left → Among c (chains_at (merged m) k)
    was c n = kept_among (λ c. not (goes (merged m) k numbered more based (even k) c)) (chains_at (merged m) k) c n

    left_keeps : (c : Chain) → Among c left → KeepsEnds m.arcs rs c
    left_keeps c n = record {
      path = path_named m.arcs (Both (merged m) k numbered more based (even k)) Anywhere (λ p j. tt) c ((left_joined (merged m) k numbered more based (even k)).paths c n);
      long = λ d o. long d.arc (record { left = 0; right = 0; points = [] }) (chain_arcs (merged m) k c (was c n) d o);
      start = ends_stay k within (chain_start m.arcs c) (c, contained (chains_at (merged m) k) c (was c n), inl refl);
      end = ends_stay k within (chain_end m.arcs c) (c, contained (chains_at (merged m) k) c (was c n), inr refl);
    }

    next_same : (v : Point) → SameWays (merged m) (k + 1) rs left next v
    next_same v =
        subst (λ cs. SameWays (merged m) (k + 1) rs left cs v) (sym (chains_step (merged m) k numbered more based (even k)))
        (joined_ways (merged m) (k + 1) rs (new_joints (merged m) k) (Both (merged m) k numbered more based (even k)) left
        (left_joined (merged m) k numbered more based (even k)) (new_next (merged m) k numbered more based (even k)) left_keeps v)

    -- ---- then vertices are removed

    before_is : edges_before_sweep (merged m) (k + 1) ≡ edges_of (merged m) (k + 1) rs next
    before_is =
        let none_back : k + 1 - 1 ≡ k = omega arith in
        ap (λ (i : ℕ). edges_of (merged m) (k + 1) (removals_to (merged m) i) next) none_back

    after_is : edges_after_sweep (merged m) (k + 1) ≡ edges_of (merged m) (k + 1) (removals_to (merged m) (k + 1)) next
    after_is = (partition_has_removals m base planar (k + 1)).left (omega arith) (omega (arith, more))

    swept : (v : Point) → IsRotation (ends_round v (edge_segments (edges_before_sweep (merged m) (k + 1)))) (ends_round v (edge_segments (edges_after_sweep (merged m) (k + 1))))
    swept v = by (m.rules.ratio == 0)
      where
        by : (b : Bool) → IsRotation (ends_round v (edge_segments (edges_before_sweep (merged m) (k + 1))))
            (ends_round v (edge_segments (cond b (edges_before_sweep (merged m) (k + 1))
            (swept_edges m.rules.ratio (step_area (merged m) (k + 1)) (step_number (merged m) (k + 1)).made [] (edges_before_sweep (merged m) (k + 1))))))
        by true = rotation_self (ends_round v (edge_segments (edges_before_sweep (merged m) (k + 1))))
        by false =
            sweep_keeps_order m.rules.ratio (step_area (merged m) (k + 1)) (step_number (merged m) (k + 1)).made (edges_before_sweep (merged m) (k + 1))
            (subst AreSound (sym before_is) next_sound) v

    turned : (v : Point) → IsRotation (ordered v (chains_ways m.arcs rs v next)) (chain_order (k + 1) v)
    turned v =
        subst₂ IsRotation (edges_order (k + 1) rs next_sound v)
        (edges_order (k + 1) (removals_to (merged m) (k + 1)) (sound_slice (k + 1) (omega (arith, more))) v)
        (rotation_mapped (arc_end next) _ _
        (subst₂ (λ es fs. IsRotation (ends_round v (edge_segments es)) (ends_round v (edge_segments fs))) before_is after_is (swept v)))

    next_keeps : KeepsOrder (k + 1)
    next_keeps v some =
        let here : ordered v (chains_ways m.arcs rs v next) ≢ [] = rotation_some _ _ (turned v) some in
        let joined : ordered v (chains_ways m.arcs rs v left) ≡ ordered v (chains_ways m.arcs rs v next)
        = order_same (k + 1) rs left next v (left_ways v) (chains_are_ways (k + 1) rs next_sound v) (next_same v) here in
        let kept : filter (is_border_end m (k + 1)) (chain_order k v) ≡ ordered v (chains_ways m.arcs rs v next) = left_order v ∙ joined in
        let old : chain_order k v ≢ [] = λ none. here (sym kept ∙ ap (filter (is_border_end m (k + 1))) none) in
        rotation_then (base_order m (k + 1) v) (ordered v (chains_ways m.arcs rs v next)) (chain_order (k + 1) v)
        (subst₂ IsRotation (kept_twice (is_border_end m k) (is_border_end m (k + 1)) border_before (ends_round v (base_segments m))) kept
        (rotation_kept (is_border_end m (k + 1)) (base_order m k v) (chain_order k v) (keeps v old)))
        (turned v)

  each_keeps : (k : ℕ) → k ≤ length (history_of m) → KeepsOrder k
  each_keeps zero l = first_keeps
  each_keeps (suc k) l =
      let next : k + 1 ≡ suc k = omega arith in
      subst KeepsOrder next (next_keeps k (omega (arith, l)) (each_keeps k (omega (arith, l))))

-- ---- the law

no_members : {A B : Type 0} (f : A → B) (xs : List A) → map f xs ≡ [] → xs ≡ []
no_members f [] e = refl
no_members f (x ∷ xs) e = absurd cc

pub ends_keep_order : EndsKeepOrder
unfolding slice
ends_keep_order m base planar k l v some =
    let order = edges_order m base planar k (removals_to (merged m) k) (sound_slice m base planar k l) v in
    subst (IsRotation (base_order m k v)) (sym order)
    (each_keeps m base planar k l v (λ none. some (no_members (arc_end (chains_at (merged m) k)) _ (order ∙ none))))
