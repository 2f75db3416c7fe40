-- The joints of a step: the touched nodes at which two ends are left are the nodes whose degree becomes two.
use Rattle.std.proofs.Common.{◌≡◌, ◌⊎◌, ◌↔◌, inl, inr, ℕ, suc, ◌+◌, ◌-◌, ◌<◌, ◌≤◌, ◌==◌, ◌&&◌, ◌||◌, Bool, true, false, not, cond, List, [], ◌∷◌, map, filter, sum_by, length, get_or, Option, Some, None, All, refl, sym, ap, ap₂, ◌∙◌, subst, arith}
use Rattle.std.specs.Prelude.{Contains}
use Rattle.std.specs.List.Sorted.{IsStrictlyIncreasing}
use Rattle.std.proofs.lemmas.Bool.{cases_eq, and_from, le-leb, or_left, or_right}
use Rattle.std.proofs.lemmas.List.Elements.{All-weaker}
use Rattle.std.proofs.lemmas.List.Filters.{sum_by-filter_both}
use Rattle.tgap_model.specs.declared.geometry.Point.{Point}
use Rattle.tgap_model.specs.declared.base.BaseArc.{BaseArc}
use Rattle.tgap_model.specs.declared.merge.MergeStep.{MergeStep}
use Rattle.tgap_model.specs.Base.{BaseMap, same_point}
use Rattle.tgap_model.proofs.Points.{same_point-from}
use Rattle.tgap_model.specs.Segment.{point_before}
use Rattle.tgap_model.specs.History.{history_of, AreNumbered}
use Rattle.tgap_model.specs.Merged.{MergedMap, merged, step_number, label_at}
use Rattle.tgap_model.specs.Chains.{degree, joins_before, Chain, arc_number, chain_start, chain_end, touches, chains_at}
use Rattle.tgap_model.specs.Removals.{edge_of}
use Rattle.tgap_model.specs.Records.{is_edge_between}
use Rattle.tgap_model.proofs.BaseFacts.{ArcFacts, base_facts, each_arc}
use Rattle.map_laws.specs.ChainLaws.{has_base_faces, IsEven, HasEvenSides, chains_left}
use Rattle.map_laws.proofs.ChainMembers.{Among, filter_among}
use Rattle.map_laws.proofs.Lists.{kept_among, among_kept, sum_member, sum_some, all_members, members_all, pairs_of}
use Rattle.map_laws.proofs.JoinEnds.{chain_ends, touching_ends}
use Rattle.map_laws.proofs.JoinSteps.{AreJoined, ends_degree}
use Rattle.map_laws.proofs.JoinAll.{AreNext}
use Rattle.map_laws.proofs.ChainsExist.{chains_sums, chains_maximal}
use Rattle.map_laws.proofs.StepDegrees.{degree_less, order_new, order_both}
use Rattle.map_laws.proofs.ChainsStep.{Both, left_joined}
use Rattle.slice_laws.specs.SliceLaws.{KeepsFaces}
use Rattle.slice_laws.proofs.EvenSides.{chains_keep_faces}
use Rattle.face_merge.proofs.Start.{history_numbered}
use Rattle.edge_forest.specs.declared.net.Current.{Current}
use Rattle.edge_forest.specs.declared.face_labels.Sides.{Sides}
use Rattle.edge_forest.specs.declared.growth.Growth.{Growth}
use Rattle.edge_forest.specs.Edges.{chains_of}
use Rattle.edge_forest.specs.FaceLabels.{face_of, HasLabel, IsCurrent, sides_of}
use Rattle.edge_forest.specs.Nodes.{node_at}
use Rattle.edge_forest.specs.Net.{row_at}
use Rattle.edge_forest.specs.Rows.{end_points}
use Rattle.edge_forest.specs.Family.{family}
use Rattle.edge_forest.specs.Growth.{rows_of, is_row_between, relabel_row, row_after, IsStored, IsAtRest, IsTouched, IsSettled}
use Rattle.edge_forest.specs.Growth as stored
use Rattle.edge_forest.proofs.Family.{of_family}
use Rattle.edge_forest.proofs.Counting.{ends_at_most, first_point, last_point, count_is, end_within}
use Rattle.edge_forest.proofs.InTurn.{IsPointOf, ArePointsOf}
use Rattle.edge_forest.proofs.LabelSteps.{label_test}
use Rattle.edge_forest.proofs.Settled.{sides_known as step_labels}
use Rattle.edge_forest.proofs.NextJoints.{contains_among, among_contains, increasing_pairs, point_at, point_once, Pointed, pointed, pointed_ascend, ends_there}

-- the chains after k steps are joined at the nodes of degree two
chains_joined : (h : MergedMap) (k : ℕ) → AreJoined h k (λ q. degree h k q ≡ 2) (chains_at h k)
chains_joined h k = record {
  covers = chains_sums h k;
  paths = λ c m. (chains_maximal h k c m).path;
  shut = λ c m p j t. (chains_maximal h k c m).shut p j t;
  anchored = λ c m closed two. (chains_maximal h k c m).anchored closed two;
}

-- the chain is between the faces of a step
abbrev goes_out : MergedMap → ℕ → MergeStep → Chain → Bool
goes_out h k s c = is_edge_between s.loser s.winner (edge_of h k [] c)

-- what a step leaves of a family is what it leaves of the chains
family_left : (p : Chain → Bool) (sides : Sides) (chains : List Chain) (rows : List (Option Current))
    → ((i : ℕ) (r : Current) → row_at rows i ≡ Some r → is_row_between sides r ≡ p (get_or chains r.id []))
    → family chains (map (row_after sides) rows) ≡ filter (λ c. not (p c)) (family chains rows)
family_left p sides chains [] same = refl
family_left p sides chains (None ∷ rows) same = family_left p sides chains rows (λ i r e. same (suc i) r e)
family_left p sides chains (Some r ∷ rows) same = by (is_row_between sides r) (p (get_or chains r.id [])) refl (same 0 r refl) (family_left p sides chains rows (λ i r e. same (suc i) r e))
  where
    by : (b c : Bool) → is_row_between sides r ≡ b → b ≡ c → family chains (map (row_after sides) rows) ≡ filter (λ c. not (p c)) (family chains rows)
        → family chains (cond b None (Some (relabel_row sides r)) ∷ map (row_after sides) rows)
        ≡ cond (not c) (get_or chains r.id [] ∷ filter (λ c. not (p c)) (family chains rows)) (filter (λ c. not (p c)) (family chains rows))
    by true true e f t = t
    by true false e f t = absurd cc
    by false true e f t = absurd cc
    by false false e f t = ap (λ (cs : List Chain). get_or chains r.id [] ∷ cs) t

module _ (k : ℕ) (g g' : Growth) (rest : IsAtRest k g) (more : k < length (history_of g.base)) (s : MergeStep) (is : s ≡ step_number (merged g.base) (k + 1))
    (touched : List ℕ) (settled : IsSettled s g g' touched) (w' : IsStored (k + 1) g') where
  abbrev h : MergedMap
  h = merged g.base

  abbrev w : IsStored k g
  w = rest.stored

  -- ---- the laws hold of this map

  pub numbered : AreNumbered (length g.base.classes) (history_of g.base)
  numbered = history_numbered g.base w.base

  pub based : All (λ a. has_base_faces (merged g.base) a ≡ true) g.base.arcs
  based = All-weaker (λ a. ArcFacts (length g.base.classes) a) (λ a. has_base_faces h a ≡ true) (λ a f. both a f) g.base.arcs (each_arc g.base (base_facts g.base w.base))
    where
      both : (a : BaseArc) → ArcFacts (length g.base.classes) a → has_base_faces h a ≡ true
      both a f = and_from _ _ (le-leb a.left (length g.base.classes) f.left) (le-leb a.right (length g.base.classes) f.right)

  pub even : HasEvenSides (merged g.base) k
  even =
      all_members (IsEven h k) (chains_at h k) (λ c m.
      let f : KeepsFaces h k [] c = members_all (KeepsFaces h k []) (chains_at h k) c (chains_keep_faces g.base w.base w.partition k []) m in
      record { left = f.left; right = f.right })

  -- ---- the chains that are left

  abbrev sides : Sides
  sides = sides_of g.labels s

  -- the loser and the winner have labels
  sides_known : HasLabel g.labels s.loser × HasLabel g.labels s.winner
  sides_known =
      let same : k ≡ k + 1 - 1 = omega arith in
      step_labels g (k + 1) s (omega arith) (omega (arith, more)) is (subst (λ (n : ℕ). IsAtRest n g) same rest)

  -- a row is between them by labels where it is by faces
  row_by_faces : (r : Current) → IsCurrent g.labels r.left → IsCurrent g.labels r.right
      → is_row_between sides r ≡ (((face_of g.labels r.left == s.loser) && (face_of g.labels r.right == s.winner)) || ((face_of g.labels r.left == s.winner) && (face_of g.labels r.right == s.loser)))
  row_by_faces r left right =
      ap₂ (λ (a b : Bool). a || b)
      (ap₂ (λ (a b : Bool). a && b) (label_test g.labels r.left s.loser left sides_known.0) (label_test g.labels r.right s.winner right sides_known.1))
      (ap₂ (λ (a b : Bool). a && b) (label_test g.labels r.left s.winner left sides_known.1) (label_test g.labels r.right s.loser right sides_known.0))

  row_goes : (i : ℕ) (r : Current) → row_at (rows_of g) i ≡ Some r → is_row_between sides r ≡ goes_out h k s (get_or (chains_of g.edges.items) r.id [])
  row_goes i r e =
      let l = w.labels i r e in
      let u = w.rows i r e in
      row_by_faces r l.left_current l.right_current
      ∙ ap₂ (λ (a b : ℕ). ((a == s.loser) && (b == s.winner)) || ((a == s.winner) && (b == s.loser)))
      (l.left ∙ ap (λ (n : ℕ). label_at h k (arc_number g.base.arcs n).left) (sym u.key))
      (l.right ∙ ap (λ (n : ℕ). label_at h k (arc_number g.base.arcs n).right) (sym u.key))

  left_family : stored.family_of g' ≡ filter (λ c. not (goes_out h k s c)) (stored.family_of g)
  left_family = rw (settled.rows, settled.chains) (family_left (goes_out h k s) sides (chains_of g.edges.items) (rows_of g) row_goes)

  left_chains : stored.family_of g' ≡ chains_left h k
  left_chains =
      left_family ∙ ap (filter (λ c. not (goes_out h k s c))) rest.chains
      ∙ ap (λ (s : MergeStep). filter (λ c. not (goes_out h k s c)) (chains_at h k)) is

  -- they are joined at the nodes that have degree two before the step and after it
  pub settled_joined : AreJoined (merged g.base) (k + 1) (Both (merged g.base) k numbered more based even) (stored.family_of g')
  settled_joined = subst (AreJoined h (k + 1) (Both h k numbered more based even)) (sym left_chains) (left_joined h k numbered more based even)

  before_joined : AreJoined h k (λ q. degree h k q ≡ 2) (stored.family_of g)
  before_joined = subst (AreJoined h k (λ q. degree h k q ≡ 2)) (sym rest.chains) (chains_joined h k)

  -- ---- ends

  gone : List Chain
  gone = filter (λ c. not (not (goes_out h k s c))) (stored.family_of g)

  split : (f : Chain → ℕ) → sum_by f (stored.family_of g') + sum_by f (filter (λ c. not (not (goes_out h k s c))) (stored.family_of g)) ≡ sum_by f (stored.family_of g)
  split f =
      ap (λ (cs : List Chain). sum_by f cs + sum_by f (filter (λ c. not (not (goes_out h k s c))) (stored.family_of g))) left_family
      ∙ sum_by-filter_both (λ c. not (goes_out h k s c)) (λ c. not (not (goes_out h k s c))) (λ c. refl) f (stored.family_of g)

  -- the count of a node after the edges are out
  left_count : (n : ℕ) (p : Point) → IsPointOf g.base g.nodes n p → get_or g'.net.counts.items n 0 ≡ sum_by (chain_ends g.base.arcs p) (stored.family_of g')
  left_count n p of =
      count_is (k + 1) g' w' n of.place
      (subst (λ (m : BaseMap). of.place < length (end_points m.arcs)) (sym settled.base) of.inside)
      (ap (λ x. node_at x of.place) settled.nodes ∙ of.node) p
      (ap (λ (m : BaseMap). get_or (end_points m.arcs) of.place p) settled.base ∙ of.point)
      ∙ ap (λ (m : BaseMap). sum_by (chain_ends m.arcs p) (stored.family_of g')) settled.base

  -- a touched node has a point, and an end of a chain that went out
  pub touched_point : (n : ℕ) → IsTouched s g n → (p : Point) × IsPointOf g.base g.nodes n p × (1 ≤ sum_by (chain_ends g.base.arcs p) (filter (λ c. not (not (goes_out (merged g.base) k s c))) (stored.family_of g)))
  touched_point n t = at_end t.0 t.1 t.2 t.3 t.4
    where
      -- the chain is one of those that went out
      out : (i : ℕ) (r : Current) → row_at (rows_of g) i ≡ Some r → is_row_between sides r ≡ true
          → Among (get_or (chains_of g.edges.items) r.id []) (filter (λ c. not (not (goes_out h k s c))) (stored.family_of g))
      out i r e b =
          among_kept (λ c. not (not (goes_out h k s c))) (stored.family_of g) (get_or (chains_of g.edges.items) r.id [])
          (of_family (chains_of g.edges.items) (rows_of g) i r e) (ap (λ (b : Bool). not (not b)) (sym (row_goes i r e) ∙ b))

      -- it has an end at the point
      ends : (i : ℕ) (r : Current) (e : row_at (rows_of g) i ≡ Some r) (b : is_row_between sides r ≡ true) (p : Point)
          → touches g.base.arcs p (get_or (chains_of g.edges.items) r.id []) ≡ true
          → 1 ≤ sum_by (chain_ends g.base.arcs p) (filter (λ c. not (not (goes_out h k s c))) (stored.family_of g))
      ends i r e b p t =
          omega (
            arith,
            touching_ends g.base.arcs p (get_or (chains_of g.edges.items) r.id []) t,
            sum_member (chain_ends g.base.arcs p) (filter (λ c. not (not (goes_out h k s c))) (stored.family_of g)) (get_or (chains_of g.edges.items) r.id []) (out i r e b),
          )

      at_end : (i : ℕ) (r : Current) → row_at (rows_of g) i ≡ Some r → is_row_between sides r ≡ true → (node_at g.nodes r.first ≡ n) ⊎ (node_at g.nodes r.last ≡ n)
          → (p : Point) × IsPointOf g.base g.nodes n p × (1 ≤ sum_by (chain_ends g.base.arcs p) (filter (λ c. not (not (goes_out h k s c))) (stored.family_of g)))
      at_end i r e b (inl t) =
          let c : Chain = get_or (chains_of g.edges.items) r.id [] in
          let p : Point = chain_start g.base.arcs c in
          let x = point_at g.base g.nodes w.nodes r.first (end_within k g w r.first (w.net.first i r e).0) p in (
            p,
            subst (λ (m : ℕ). IsPointOf g.base g.nodes m p) t (subst (IsPointOf g.base g.nodes (node_at g.nodes r.first)) (first_point k g w i r e p) x),
            ends i r e b p (or_left (same_point (chain_start g.base.arcs c) p) (same_point (chain_end g.base.arcs c) p) (same_point-from p p refl)),
          )
      at_end i r e b (inr t) =
          let c : Chain = get_or (chains_of g.edges.items) r.id [] in
          let p : Point = chain_end g.base.arcs c in
          let x = point_at g.base g.nodes w.nodes r.last (end_within k g w r.last (w.net.last i r e).0) p in (
            p,
            subst (λ (m : ℕ). IsPointOf g.base g.nodes m p) t (subst (IsPointOf g.base g.nodes (node_at g.nodes r.last)) (last_point k g w i r e p) x),
            ends i r e b p (or_right (same_point (chain_start g.base.arcs c) p) (same_point (chain_end g.base.arcs c) p) (same_point-from p p refl)),
          )

  -- two ends are left there: its degree was greater than two and is two
  joint_is : (n : ℕ) (p : Point) → IsPointOf g.base g.nodes n p → 1 ≤ sum_by (chain_ends g.base.arcs p) (filter (λ c. not (not (goes_out h k s c))) (stored.family_of g))
      → get_or g'.net.counts.items n 0 ≡ 2 → (degree h (k + 1) p ≡ 2) × (degree h k p ≡ 2 → ⊥)
  joint_is n p of some two =
      let left : sum_by (chain_ends g.base.arcs p) (stored.family_of g') ≡ 2 = sym (left_count n p of) ∙ two in
      let three : 3 ≤ degree h k p = omega (arith, split (chain_ends g.base.arcs p), some, left, ends_at_most h k (λ q. degree h k q ≡ 2) (stored.family_of g) before_joined p) in
      let other : degree h k p ≡ 2 → ⊥ = λ e. absurd (omega (arith, e, three)) in
      (sym (ends_degree h (k + 1) (Both h k numbered more based even) (stored.family_of g') settled_joined p (λ b. other b.0)) ∙ left, other)

  -- and a node whose degree becomes two is touched, with two ends left
  joint_touched : (q : Point) → degree h (k + 1) q ≡ 2 → (degree h k q ≡ 2 → ⊥) → (n : ℕ) × IsPointOf g.base g.nodes n q × IsTouched s g n × (get_or g'.net.counts.items n 0 ≡ 2)
  joint_touched q two other =
      let before : sum_by (chain_ends g.base.arcs q) (stored.family_of g) ≡ degree h k q = ends_degree h k (λ q. degree h k q ≡ 2) (stored.family_of g) before_joined q other in
      let after : sum_by (chain_ends g.base.arcs q) (stored.family_of g') ≡ degree h (k + 1) q
      = ends_degree h (k + 1) (Both h k numbered more based even) (stored.family_of g') settled_joined q (λ b. other b.0) in
      let more_before : 3 ≤ degree h k q = omega (arith, degree_less h k more q, two, other) in
      let c = sum_some (chain_ends g.base.arcs q) (filter (λ c. not (not (goes_out h k s c))) (stored.family_of g))
      (omega (arith, split (chain_ends g.base.arcs q), before, after, two, more_before)) in
      let e = ends_there k g w c.0 q (kept_among (λ c. not (not (goes_out h k s c))) (stored.family_of g) c.0 c.1) c.2 in (
        e.node,
        e.point,
        (e.key, e.row, e.at, row_goes e.key e.row e.at ∙ ap (goes_out h k s) e.chain ∙ twice (goes_out h k s c.0) (filter_among (λ c. not (not (goes_out h k s c))) (stored.family_of g) c.0 c.1), e.there),
        left_count e.node q e.point ∙ after ∙ two,
      )
    where
      twice : (b : Bool) → not (not b) ≡ true → b ≡ true
      twice true e = refl
      twice false e = e

  -- ---- the joints are next

  module _ (joints : List ℕ) (ascend : IsStrictlyIncreasing joints)
      (members : (n : ℕ) → Contains joints n ↔ (Contains touched n × (get_or g'.net.counts.items n 0 ≡ 2))) where
    joint_point : (n : ℕ) → Among n joints
        → (p : Point) × IsPointOf g.base g.nodes n p × (degree h (k + 1) p ≡ 2) × (degree h k p ≡ 2 → ⊥)
    joint_point n m =
        let c = (members n).0 (among_contains joints n m) in
        let t = touched_point n ((settled.nodes_touched n).0 c.0) in
        let j = joint_is n t.0 t.1 t.2 c.1 in
        (t.0, t.1, j.0, j.1)

    pub points : Pointed g.base g.nodes w.nodes joints
    points = pointed g.base g.nodes w.nodes joints (λ n m. let t = joint_point n m in (t.0, t.1))

    new_at : (p : Point) → Among p points.points → (degree h (k + 1) p ≡ 2) × (degree h k p ≡ 2 → ⊥)
    new_at p m =
        let f = points.from p m in
        let t = joint_point f.0 f.1 in
        subst (λ (q : Point). (degree h (k + 1) q ≡ 2) × (degree h k q ≡ 2 → ⊥)) (point_once g.base g.nodes w.nodes f.0 t.0 p t.1 f.2) (t.2, t.3)

    pub step_next : AreNext (merged g.base) (k + 1) (Both (merged g.base) k numbered more based even) points.points
    step_next = record {
      two = λ p m. (new_at p m).0;
      all = λ q two. elim (cases_eq (degree h k q) 2) [
        | inl before ↦ inl (before, two)
        | inr other ↦
            let t = joint_touched q two other in
            inr (points.all t.0 q (contains_among joints t.0 ((members t.0).1 ((settled.nodes_touched t.0).1 t.2, t.3))) t.1)
      ];
      before = λ q both. both.1;
      later = λ p j m both. let n = new_at p m in order_new h k more p j n.0 n.1 both.0;
      apart = λ p m both. (new_at p m).1 both.0;
      ascend =
          pairs_of (λ p q. point_before p q ≡ true) (λ p q. joins_before h (k + 1) p q ≡ true) points.points
          (λ p q m n e. let x = new_at p m in let y = new_at q n in order_both h k more p q x.0 x.1 y.0 y.1 e)
          (pointed_ascend g.base g.nodes w.nodes joints points.points points.each (increasing_pairs joints ascend));
    }

    pub step_points : ArePointsOf g.base g.nodes joints points.points
    step_points = points.each
