-- The joints of a base map: the nodes at which two arc ends are.
use Rattle.std.proofs.Common.{◌≡◌, ◌↔◌, inl, inr, ℕ, suc, ◌+◌, ◌<◌, ◌≤◌, ◌==◌, Bool, true, false, cond, List, [], ◌∷◌, map, filter, sum_by, length, get_or, Option, Some, None, refl, sym, ap, ◌∙◌, subst, arith, pos}
use Rattle.std.specs.Prelude.{Contains, unwrap_or}
use Rattle.std.specs.List.{range_with_len}
use Rattle.std.specs.List.Sorted.{IsStrictlyIncreasing}
use Rattle.std.proofs.lemmas.Bool.{eq-eqb, eqb-true, and_from, or_right, not_from_false}
use Rattle.std.proofs.lemmas.List.{get_or_default}
use Rattle.tgap_model.specs.declared.geometry.Point.{Point}
use Rattle.tgap_model.specs.Segment.{point_before}
use Rattle.tgap_model.specs.Merged.{MergedMap, merged, is_border}
use Rattle.tgap_model.specs.Chains.{arc_number, border_numbers, degree, step_of_two, joins_before}
use Rattle.tgap_model.proofs.BaseFacts.{base_facts, each_arc}
use Rattle.map_laws.proofs.ChainMembers.{Among}
use Rattle.map_laws.proofs.Lists.{among_range, sum_some, pairs_of}
use Rattle.map_laws.proofs.JoinEnds.{chain_ends}
use Rattle.map_laws.proofs.JoinSteps.{AreJoined, ends_degree}
use Rattle.map_laws.proofs.JoinAll.{AreNext}
use Rattle.map_laws.proofs.ChainsExist.{single_joined}
use Rattle.edge_forest.specs.declared.net.Current.{Current}
use Rattle.edge_forest.specs.declared.growth.Growth.{Growth}
use Rattle.edge_forest.specs.Nodes.{node_at}
use Rattle.edge_forest.specs.Net.{row_ends}
use Rattle.edge_forest.specs.Rows.{end_points}
use Rattle.edge_forest.specs.Start.{single}
use Rattle.edge_forest.specs.Growth.{rows_of, IsStored}
use Rattle.edge_forest.specs.Growth as stored
use Rattle.edge_forest.proofs.Counting.{count_is, end_within}
use Rattle.edge_forest.proofs.InTurn.{IsPointOf, ArePointsOf}
use Rattle.edge_forest.proofs.NextJoints.{contains_among, among_contains, increasing_pairs, point_at, point_once, Pointed, pointed, pointed_ascend, ends_there}

-- before the first step every degree became two at step 0, if at all
step_none : (h : MergedMap) (p : Point) → step_of_two h 0 p ≡ 0
step_none h p = by (degree h 0 p == 2)
  where
    by : (b : Bool) → ◌≡◌ {A = ℕ} (unwrap_or (cond b (Some 0) None) 0) 0
    by true = refl
    by false = refl

-- so nodes stand in the order of points
order_none : (h : MergedMap) (p q : Point) → point_before p q ≡ true → joins_before h 0 p q ≡ true
order_none h p q e =
    or_right _ _ (and_from (step_of_two h 0 p == step_of_two h 0 q) (point_before p q)
    (eq-eqb (step_of_two h 0 p) (step_of_two h 0 q) (step_none h p ∙ sym (step_none h q))) e)

-- a member of a list stands at a place
place_of : {A : Type 0} (xs : List A) (x d : A) → Among x xs → (i : ℕ) × (get_or xs i d ≡ x)
place_of [] x d m = absurd m
place_of (y ∷ xs) x d (inl e) = (0, e)
place_of (y ∷ xs) x d (inr m) = let r = place_of xs x d m in (suc r.0, r.1)

module _ (g : Growth) (w : IsStored 0 g) (singles : stored.family_of g ≡ map single (range_with_len 0 (length g.base.arcs))) where
  abbrev h : MergedMap
  h = merged g.base

  -- ---- each arc is a border

  all_kept : (p : ℕ → Bool) (xs : List ℕ) → ((i : ℕ) → Among i xs → p i ≡ true) → filter p xs ≡ xs
  all_kept p [] all = refl
  all_kept p (x ∷ xs) all =
      ap (λ (b : Bool). cond b (x ∷ filter p xs) (filter p xs)) (all x (inl refl)) ∙ ap (λ (ys : List ℕ). x ∷ ys) (all_kept p xs (λ i m. all i (inr m)))

  border_all : border_numbers h 0 ≡ range_with_len 0 (length g.base.arcs)
  border_all =
      all_kept (λ i. is_border h 0 (arc_number g.base.arcs i)) (range_with_len 0 (length g.base.arcs))
      (λ i m. not_from_false _ (each_arc g.base (base_facts g.base w.base) i (record { left = 0; right = 0; points = [] })
      (omega (arith, (among_range 0 (length g.base.arcs) i m).1))).differ)

  pub start_joined : AreJoined (merged g.base) 0 (λ q. ⊥) (stored.family_of g)
  start_joined =
      subst (AreJoined h 0 (λ q. ⊥)) (ap (map single) border_all ∙ sym singles) (single_joined h 0)

  -- ---- the joints are next

  count_point : (n : ℕ) (p : Point) → IsPointOf g.base g.nodes n p → get_or g.net.counts.items n 0 ≡ degree h 0 p
  count_point n p of =
      count_is 0 g w n of.place of.inside of.node p of.point ∙ ends_degree h 0 (λ q. ⊥) (stored.family_of g) start_joined p (λ b. b)

  -- a node at which arc ends are has a point
  node_point : (n : ℕ) → n < length g.nodes.places.items → 1 ≤ get_or g.net.counts.items n 0 → (p : Point) × IsPointOf g.base g.nodes n p
  node_point n l some =
      let row = sum_some (row_ends g.nodes n) (rows_of g) (omega (arith, w.net.counted n l, some)) in
      let at = place_of (rows_of g) row.0 None row.1 in
      by row.0 at.0 at.1 row.2
    where
      here : (x : ℕ) → x < length (end_points g.base.arcs) → (node_at g.nodes x == n) ≡ true → (p : Point) × IsPointOf g.base g.nodes n p
      here x inside t =
          let p : Point = get_or (end_points g.base.arcs) x (record { x = pos 0; y = pos 0 }) in
          (p, subst (λ (m : ℕ). IsPointOf g.base g.nodes m p) (eqb-true (node_at g.nodes x) n t) (point_at g.base g.nodes w.nodes x inside (record { x = pos 0; y = pos 0 })))

      by : (row : Option Current) (i : ℕ) → get_or (rows_of g) i None ≡ row → 1 ≤ row_ends g.nodes n row → (p : Point) × IsPointOf g.base g.nodes n p
      by None i e m = absurd (omega arith)
      by (Some r) i e m = ends (node_at g.nodes r.first == n) (node_at g.nodes r.last == n) refl refl m
        where
          ends : (a b : Bool) → (node_at g.nodes r.first == n) ≡ a → (node_at g.nodes r.last == n) ≡ b → 1 ≤ cond {A = ℕ} a 1 0 + cond {A = ℕ} b 1 0
              → (p : Point) × IsPointOf g.base g.nodes n p
          ends true b s t m = here r.first (end_within 0 g w r.first (w.net.first i r e).0) s
          ends false true s t m = here r.last (end_within 0 g w r.last (w.net.last i r e).0) t
          ends false false s t m = absurd (omega arith)

  module _ (joints : List ℕ) (ascend : IsStrictlyIncreasing joints)
      (listed : (n : ℕ) → Contains joints n ↔ (Contains g.nodes.node_of.items n × (get_or g.net.counts.items n 0 ≡ 2))) where
    -- the nodes of the arc ends are all nodes at which one is
    members : (n : ℕ) → Contains joints n ↔ ((n < length g.nodes.places.items) × (get_or g.net.counts.items n 0 ≡ 2))
    members n = (
      (λ c. let l = (listed n).0 c in (below l.0, l.1)),
      (λ c.
          let p = node_point n c.0 (omega (arith, c.1)) in
          (listed n).1 ((p.1.place, omega (arith, p.1.inside, w.nodes.count), get_or_default g.nodes.node_of.items p.1.place n 0 (omega (arith, p.1.inside, w.nodes.count)) ∙ p.1.node), c.1)),
    )
      where
        below : Contains g.nodes.node_of.items n → n < length g.nodes.places.items
        below (x, l, e) =
            let inside : x < length (end_points g.base.arcs) = omega (arith, l, w.nodes.count) in
            subst (λ (m : ℕ). m < length g.nodes.places.items) (get_or_default g.nodes.node_of.items x 0 n l ∙ e) (w.nodes.below x inside)

    joint_point : (n : ℕ) → Among n joints → (p : Point) × IsPointOf g.base g.nodes n p × (degree h 0 p ≡ 2)
    joint_point n m =
        let c = (members n).0 (among_contains joints n m) in
        let p = node_point n c.0 (omega (arith, c.1)) in
        (p.0, p.1, sym (count_point n p.0 p.1) ∙ c.1)

    pub points : Pointed g.base g.nodes w.nodes joints
    points = pointed g.base g.nodes w.nodes joints (λ n m. let t = joint_point n m in (t.0, t.1))

    pub start_next : AreNext (merged g.base) 0 (λ q. ⊥) points.points
    start_next = record {
      two = λ p m.
          let f = points.from p m in
          let t = joint_point f.0 f.1 in
          subst (λ (q : Point). degree h 0 q ≡ 2) (point_once g.base g.nodes w.nodes f.0 t.0 p t.1 f.2) t.2;
      all = λ q two.
          let total : sum_by (chain_ends g.base.arcs q) (stored.family_of g) ≡ degree h 0 q = ends_degree h 0 (λ q. ⊥) (stored.family_of g) start_joined q (λ b. b) in
          let c = sum_some (chain_ends g.base.arcs q) (stored.family_of g) (omega (arith, total, two)) in
          let e = ends_there 0 g w c.0 q c.1 c.2 in
          inr (points.all e.node q (contains_among joints e.node ((members e.node).1
          (subst (λ (m : ℕ). m < length g.nodes.places.items) e.point.node (w.nodes.below e.point.place e.point.inside), count_point e.node q e.point ∙ two))) e.point);
      before = λ q j. absurd j;
      later = λ p j m i. absurd i;
      apart = λ p m j. j;
      ascend =
          pairs_of (λ p q. point_before p q ≡ true) (λ p q. joins_before h 0 p q ≡ true) points.points (λ p q m n e. order_none h p q e)
          (pointed_ascend g.base g.nodes w.nodes joints points.points points.each (increasing_pairs joints ascend));
    }

    pub start_points : ArePointsOf g.base g.nodes joints points.points
    start_points = points.each
