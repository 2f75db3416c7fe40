-- Joins at one node after the other.
use Rattle.std.proofs.Common.{◌≡◌, ◌⊎◌, inl, inr, ℕ, suc, ◌+◌, ◌<◌, false, List, [], ◌∷◌, ◌++◌, length, take, get_or, refl, sym, ap, ◌∙◌, subst, arith}
use Rattle.std.proofs.Math.Seq.{take-suc}
use Rattle.tgap_model.specs.declared.geometry.Point.{Point}
use Rattle.tgap_model.specs.Base.{BaseMap}
use Rattle.tgap_model.specs.Merged.{merged}
use Rattle.tgap_model.specs.Chains.{degree, joins_before}
use Rattle.map_laws.proofs.JoinPaths.{path_named}
use Rattle.map_laws.proofs.JoinSteps.{AreJoined}
use Rattle.map_laws.proofs.JoinAll.{AreNext, rest_next, comes_later}
use Rattle.edge_forest.specs.declared.nodes.Nodes.{Nodes}
use Rattle.edge_forest.specs.declared.growth.Growth.{Growth}
use Rattle.edge_forest.specs.Nodes.{node_at}
use Rattle.edge_forest.specs.Rows.{end_points}
use Rattle.edge_forest.specs.Growth.{IsStored, IsJoinedAt, IsJoinedInTurn}
use Rattle.edge_forest.specs.Growth as stored
use Rattle.edge_forest.proofs.NodeJoins.{joined_there}

-- one join more
pub turn_more : (k : ℕ) (g h i : Growth) (ns : List ℕ) (n : ℕ) → IsJoinedInTurn k g ns h → IsJoinedAt h n i → IsStored k i → IsJoinedInTurn k g (ns ++ n ∷ []) i
turn_more k g h i [] n t j w = (i, subst (λ (x : Growth). IsJoinedAt x n i) t j, w, refl)
turn_more k g h i (m ∷ ns) n t j w = (t.0, t.1, t.2, turn_more k t.0 h i ns n t.3 j w)

-- the base map stays, and so do the nodes
pub turn_same : (k : ℕ) (g g' : Growth) (ns : List ℕ) → IsJoinedInTurn k g ns g' → (g'.base ≡ g.base) × (g'.nodes ≡ g.nodes)
turn_same k g g' [] t = (ap (λ (x : Growth). x.base) t, ap (λ (x : Growth). x.nodes) t)
turn_same k g g' (n ∷ ns) t = let r = turn_same k t.0 g' ns t.3 in (r.0 ∙ t.1.base, r.1 ∙ t.1.nodes)

-- one more of a list of nodes
pub turn_next : (k : ℕ) (g h i : Growth) (ns : List ℕ) (j d n : ℕ) → IsJoinedInTurn k g (take j ns) h → j < length ns → n ≡ get_or ns j d → IsJoinedAt h n i → IsStored k i
    → IsJoinedInTurn k g (take (j + 1) ns) i
turn_next k g h i ns j d n t l e a w =
    subst (λ (ms : List ℕ). IsJoinedInTurn k g ms i) (sym split) (turn_more k g h i (take j ns) n t a w)
  where
    next : j + 1 ≡ suc j
    next = omega arith

    split : take (j + 1) ns ≡ take j ns ++ n ∷ []
    split = ap (λ (m : ℕ). take m ns) next ∙ take-suc ns j d l ∙ ap (λ (m : ℕ). take j ns ++ m ∷ []) (sym e)

-- the nodes stay in number
pub turn_nodes : (k : ℕ) (g h : Growth) (ns : List ℕ) → IsJoinedInTurn k g ns h → length h.nodes.places.items ≡ length g.nodes.places.items
turn_nodes k g h ns t = ap (λ (x : Nodes). length x.places.items) (turn_same k g h ns t).1

-- a node has this point
pub record IsPointOf (m : BaseMap) (nodes : Nodes) (n : ℕ) (p : Point) : Type 0 where
  pub place : ℕ
  pub inside : place < length (end_points m.arcs)
  pub node : node_at nodes place ≡ n
  pub point : get_or (end_points m.arcs) place p ≡ p

abbrev pub ArePointsOf : BaseMap → Nodes → List ℕ → List Point → Type 0
ArePointsOf m nodes [] [] = Unit {0}
ArePointsOf m nodes [] (p ∷ ps) = ⊥
ArePointsOf m nodes (n ∷ ns) [] = ⊥
ArePointsOf m nodes (n ∷ ns) (p ∷ ps) = IsPointOf m nodes n p × ArePointsOf m nodes ns ps

-- after the joins at the nodes that are next the junctions are the nodes of degree two
pub turn_joined : (k : ℕ) (m : BaseMap) (nodes : Nodes) (ns : List ℕ) (ps : List Point) (g g' : Growth) → g.base ≡ m → g.nodes ≡ nodes → IsJoinedInTurn k g ns g' → IsStored k g
    → (J : Point → Type 0) → AreJoined (merged m) k J (stored.family_of g) → AreNext (merged m) k J ps → ArePointsOf m nodes ns ps
    → AreJoined (merged m) k (λ q. degree (merged m) k q ≡ 2) (stored.family_of g')
turn_joined k m nodes [] [] g g' em en t w J a next at =
    subst (λ (x : Growth). AreJoined (merged m) k (λ q. degree (merged m) k q ≡ 2) (stored.family_of x)) (sym t) (record {
      covers = a.covers;
      paths = λ c i. path_named m.arcs J (λ q. degree (merged m) k q ≡ 2) next.before c (a.paths c i);
      shut = λ c i p deg. a.shut c i p (elim (next.all p deg) [ inl j ↦ j | inr o ↦ absurd o ]);
      anchored = a.anchored;
    })
turn_joined k m nodes [] (p ∷ ps) g g' em en t w J a next at = absurd at
turn_joined k m nodes (n ∷ ns) [] g g' em en t w J a next at = absurd at
turn_joined k m nodes (n ∷ ns) (p ∷ ps) g g' em en t w J a next at =
    turn_joined k m nodes ns ps t.0 g' (t.1.base ∙ em) (t.1.nodes ∙ en) t.3 t.2 (λ q. J q ⊎ (q ≡ p)) (there em en w a next at.0) (rest_next (merged m) k J p ps next) at.1
  where
    there : g.base ≡ m → g.nodes ≡ nodes → IsStored k g → AreJoined (merged m) k J (stored.family_of g) → AreNext (merged m) k J (p ∷ ps) → IsPointOf m nodes n p
        → AreJoined (merged m) k (λ q. J q ⊎ (q ≡ p)) (stored.family_of t.0)
    there em en w a next at =
        subst (λ (b : BaseMap). AreJoined (merged b) k (λ q. J q ⊎ (q ≡ p)) (stored.family_of t.0)) em
        (joined_there k g t.0 w J (subst (λ (b : BaseMap). AreJoined (merged b) k J (stored.family_of g)) (sym em) a) n at.place
        (subst (λ (b : BaseMap). at.place < length (end_points b.arcs)) (sym em) at.inside)
        (subst (λ (x : Nodes). node_at x at.place ≡ n) (sym en) at.node) p
        (subst (λ (b : BaseMap). get_or (end_points b.arcs) at.place p ≡ p) (sym em) at.point)
        (subst (λ (b : BaseMap). degree (merged b) k p ≡ 2) (sym em) (next.two p (inl refl)))
        (next.apart p (inl refl))
        (subst (λ (b : BaseMap). (q j : Point) → degree (merged b) k q ≡ 2 → (J q → ⊥) → (q ≡ p → ⊥) → J j ⊎ (j ≡ p) → joins_before (merged b) k q j ≡ false) (sym em)
        (comes_later (merged m) k J p ps next))
        t.1)

-- one is popped
pub popped : {A : Type 0} (xs ys : List A) (x : A) → xs ≡ ys ++ x ∷ [] → length xs ≡ length ys + 1
popped {A} xs ys x e = ap length e ∙ one ys
  where
    one : (ys : List A) → length (ys ++ x ∷ []) ≡ length ys + 1
    one [] = refl
    one (y ∷ ys) = omega (arith, one ys)
