-- The joints of a step are next, in the order of points.
use Rattle.std.proofs.Common.{◌≡◌, ◌⊎◌, inl, inr, ℕ, zero, suc, ◌<◌, ◌≤◌, ◌||◌, Bool, true, false, List, [], ◌∷◌, length, get_or, Some, refl, sym, ap, ap₂, ◌∙◌, subst, arith}
use Rattle.std.specs.Prelude.{Contains}
use Rattle.std.specs.List.{AllPairs}
use Rattle.std.specs.List.Sorted.{IsStrictlyIncreasing}
use Rattle.std.proofs.lemmas.Bool.{or_cases}
use Rattle.std.proofs.lemmas.List.{get_or_default}
use Rattle.std.proofs.lemmas.List.Kept.{AllPairs-from_increasing}
use Rattle.lemmas.proofs.Members.{AllPairs-head, AllPairs-tail, in_head, in_tail}
use Rattle.tgap_model.specs.declared.geometry.Point.{Point}
use Rattle.tgap_model.specs.Base.{BaseMap, same_point}
use Rattle.tgap_model.specs.Segment.{point_before}
use Rattle.tgap_model.specs.Chains.{Chain, chain_start, chain_end}
use Rattle.tgap_model.proofs.Points.{same_point-true}
use Rattle.map_laws.proofs.ChainMembers.{Among}
use Rattle.map_laws.proofs.Lists.{ArePairs, members_all}
use Rattle.map_laws.proofs.JoinEnds.{chain_ends, other_ends}
use Rattle.edge_forest.specs.declared.nodes.Nodes.{Nodes}
use Rattle.edge_forest.specs.declared.net.Current.{Current}
use Rattle.edge_forest.specs.declared.growth.Growth.{Growth}
use Rattle.edge_forest.specs.Edges.{chains_of}
use Rattle.edge_forest.specs.Nodes.{node_at, AreNodes}
use Rattle.edge_forest.specs.Net.{row_at}
use Rattle.edge_forest.specs.Rows.{end_points}
use Rattle.edge_forest.specs.Growth.{rows_of, IsStored}
use Rattle.edge_forest.specs.Growth as stored
use Rattle.edge_forest.proofs.Family.{family_of}
use Rattle.edge_forest.proofs.Counting.{first_point, last_point, end_within}
use Rattle.edge_forest.proofs.InTurn.{IsPointOf, ArePointsOf}

-- members by place are members by cases
pub contains_among : {A : Type 0} (xs : List A) (x : A) → Contains xs x → Among x xs
contains_among [] x (k, l, e) = absurd (omega (arith, l))
contains_among (y ∷ xs) x (zero, l, e) = inl e
contains_among (y ∷ xs) x (suc k, l, e) = inr (contains_among xs x (k, omega (arith, l), e))

pub among_contains : {A : Type 0} (xs : List A) (x : A) → Among x xs → Contains xs x
among_contains [] x m = absurd m
among_contains (y ∷ xs) x (inl e) = subst (Contains (y ∷ xs)) e (in_head y xs)
among_contains (y ∷ xs) x (inr m) = in_tail y xs x (among_contains xs x m)

-- what increases stands in pairs
pub increasing_pairs : (ns : List ℕ) → IsStrictlyIncreasing ns → ArePairs (λ (n m : ℕ). n < m) ns
increasing_pairs ns inc = by ns (AllPairs-from_increasing ns inc)
  where
    by : (ns : List ℕ) → AllPairs (λ (n m : ℕ). n < m) ns → ArePairs (λ (n m : ℕ). n < m) ns
    by [] h = tt
    by (n ∷ ns) h = ((λ m a. members_all (λ (m : ℕ). n < m) ns m (AllPairs-head (λ (n m : ℕ). n < m) n ns h) a), by ns (AllPairs-tail (λ (n m : ℕ). n < m) n ns h))

-- ---- the points of some nodes

module _ (m : BaseMap) (nodes : Nodes) (are : AreNodes (end_points m.arcs) nodes) where
  -- a place shows the point of its node
  pub point_at : (x : ℕ) → x < length (end_points m.arcs) → (d : Point) → IsPointOf m nodes (node_at nodes x) (get_or (end_points m.arcs) x d)
  point_at x l d = record { place = x; inside = l; node = refl; point = get_or_default (end_points m.arcs) x (get_or (end_points m.arcs) x d) d l }

  -- a node has one point
  pub point_once : (n : ℕ) (p q : Point) → IsPointOf m nodes n p → IsPointOf m nodes n q → p ≡ q
  point_once n p q a b =
      sym a.point
      ∙ (are.same a.place b.place p a.inside b.inside).0 (a.node ∙ sym b.node)
      ∙ get_or_default (end_points m.arcs) b.place p q b.inside
      ∙ b.point

  -- and the points of nodes stand in their order
  pub points_ordered : (n i : ℕ) (p q : Point) → IsPointOf m nodes n p → IsPointOf m nodes i q → n < i → point_before p q ≡ true
  points_ordered n i p q a b l =
      ap₂ point_before (sym a.point) (sym (get_or_default (end_points m.arcs) b.place p q b.inside ∙ b.point))
      ∙ are.ascend a.place b.place p a.inside b.inside (omega (arith, a.node, b.node, l))

  -- the points of a list of nodes
  pub record Pointed (ns : List ℕ) : Type 0 where
    pub points : List Point
    pub each : ArePointsOf m nodes ns points
    pub from : (p : Point) → Among p points → (n : ℕ) × Among n ns × IsPointOf m nodes n p
    pub all : (n : ℕ) (p : Point) → Among n ns → IsPointOf m nodes n p → Among p points

  pub pointed : (ns : List ℕ) → ((n : ℕ) → Among n ns → (p : Point) × IsPointOf m nodes n p) → Pointed ns
  pointed [] has = record { points = []; each = tt; from = λ p a. absurd a; all = λ n p a i. absurd a }
  pointed (n ∷ ns) has =
      let p = has n (inl refl) in
      let r = pointed ns (λ i a. has i (inr a)) in
      record {
        points = p.0 ∷ r.points;
        each = (p.1, r.each);
        from = λ q a. elim a [
          | inl e ↦ (n, inl refl, subst (IsPointOf m nodes n) e p.1)
          | inr b ↦ let f = r.from q b in (f.0, inr f.1, f.2)
        ];
        all = λ i q a of. elim a [
          | inl e ↦ inl (point_once n p.0 q p.1 (subst (λ (j : ℕ). IsPointOf m nodes j q) (sym e) of))
          | inr b ↦ inr (r.all i q b of)
        ];
      }

  pub pointed_ascend : (ns : List ℕ) (ps : List Point) → ArePointsOf m nodes ns ps → ArePairs (λ (n i : ℕ). n < i) ns → ArePairs (λ p q. point_before p q ≡ true) ps
  pointed_ascend [] [] each asc = tt
  pointed_ascend [] (p ∷ ps) each asc = absurd each
  pointed_ascend (n ∷ ns) [] each asc = absurd each
  pointed_ascend (n ∷ ns) (p ∷ ps) each asc = (
    (λ q a. let f = node_of ns ps each.1 q a in points_ordered n f.0 p q each.0 f.2 (asc.0 f.0 f.1)),
    pointed_ascend ns ps each.1 asc.1,
  )
    where
      node_of : (ns : List ℕ) (ps : List Point) → ArePointsOf m nodes ns ps → (q : Point) → Among q ps → (i : ℕ) × Among i ns × IsPointOf m nodes i q
      node_of [] [] each q a = absurd a
      node_of [] (p ∷ ps) each q a = absurd each
      node_of (n ∷ ns) [] each q a = absurd each
      node_of (n ∷ ns) (p ∷ ps) each q (inl e) = (n, inl refl, subst (IsPointOf m nodes n) e each.0)
      node_of (n ∷ ns) (p ∷ ps) each q (inr b) = let f = node_of ns ps each.1 q b in (f.0, inr f.1, f.2)

-- ---- an end of a chain is at the node of an arc end

module _ (k : ℕ) (g : Growth) (w : IsStored k g) where
  -- the row of a chain that ends at a point, and the arc end there
  pub record EndsThere (c : Chain) (p : Point) : Type 0 where
    pub key : ℕ
    pub row : Current
    pub at : row_at (rows_of g) key ≡ Some row
    pub chain : get_or (chains_of g.edges.items) row.id [] ≡ c
    pub node : ℕ
    pub point : IsPointOf g.base g.nodes node p
    pub there : (node_at g.nodes row.first ≡ node) ⊎ (node_at g.nodes row.last ≡ node)

  pub ends_there : (c : Chain) (p : Point) → Among c (stored.family_of g) → 1 ≤ chain_ends g.base.arcs p c → EndsThere c p
  ends_there c p m some =
      let o = family_of (chains_of g.edges.items) (rows_of g) c m in
      elim (or_cases (same_point (chain_start g.base.arcs c) p) (same_point (chain_end g.base.arcs c) p) (touched c p some)) [
        | inl s ↦
            let l = end_within k g w o.1.first (w.net.first o.0 o.1 o.3).0 in
            record {
              key = o.0;
              row = o.1;
              at = o.3;
              chain = o.4;
              node = node_at g.nodes o.1.first;
              point = subst (IsPointOf g.base g.nodes (node_at g.nodes o.1.first))
                  (first_point k g w o.0 o.1 o.3 p ∙ ap (chain_start g.base.arcs) o.4 ∙ same_point-true _ _ s) (point_at g.base g.nodes w.nodes o.1.first l p);
              there = inl refl;
            }
        | inr s ↦
            let l = end_within k g w o.1.last (w.net.last o.0 o.1 o.3).0 in
            record {
              key = o.0;
              row = o.1;
              at = o.3;
              chain = o.4;
              node = node_at g.nodes o.1.last;
              point = subst (IsPointOf g.base g.nodes (node_at g.nodes o.1.last))
                  (last_point k g w o.0 o.1 o.3 p ∙ ap (chain_end g.base.arcs) o.4 ∙ same_point-true _ _ s) (point_at g.base g.nodes w.nodes o.1.last l p);
              there = inr refl;
            }
      ]
    where
      touched : (c : Chain) (p : Point) → 1 ≤ chain_ends g.base.arcs p c → (same_point (chain_start g.base.arcs c) p || same_point (chain_end g.base.arcs c) p) ≡ true
      touched c p some = by (same_point (chain_start g.base.arcs c) p || same_point (chain_end g.base.arcs c) p) refl
        where
          by : (b : Bool) → (same_point (chain_start g.base.arcs c) p || same_point (chain_end g.base.arcs c) p) ≡ b → b ≡ true
          by true e = refl
          by false e = absurd (omega (arith, some, other_ends g.base.arcs p c e))
