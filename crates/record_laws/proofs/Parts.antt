-- The chains after a step are made of parts: chains before the step, each as it is or turned round, one after the other.
use Rattle.std.proofs.Common.{◌≡◌, ◌⊎◌, inl, inr, ℕ, ◌+◌, ◌<◌, Bool, true, false, not, nat_lt, cond, List, [], ◌∷◌, ◌++◌, map, filter, fold, length, All, refl, sym, ap, ap₂, ◌∙◌, subst}
use Rattle.std.specs.Prelude.{flat_map}
use Rattle.std.proofs.lemmas.List.{append-nil}
use Rattle.std.proofs.lemmas.Grind.{flat_map-append}
use Rattle.tgap_model.specs.declared.geometry.Point.{Point}
use Rattle.tgap_model.specs.declared.base.BaseArc.{BaseArc}
use Rattle.tgap_model.specs.Base.{same_point}
use Rattle.tgap_model.specs.History.{AreNumbered}
use Rattle.tgap_model.specs.Merged.{MergedMap}
use Rattle.tgap_model.specs.Chains.{Link, Chain, chain_end, key, touches, toward, turned_round, join_at, directed, is_directed, chains_at}
use Rattle.map_laws.specs.ChainLaws.{has_base_faces, HasEvenSides, chains_left, new_joints}
use Rattle.map_laws.proofs.ChainMembers.{Among, append_among}
use Rattle.map_laws.proofs.ChainEnds.{turn, turn_twice}
use Rattle.map_laws.proofs.Lists.{kept_among, map_among, sort_among}
use Rattle.map_laws.proofs.JoinPaths.{turned_cons}
use Rattle.map_laws.proofs.ChainsStep.{chains_step}

-- ---- chains turned round

-- two chains in a row, turned round
pub turned_append : (c e : Chain) → turned_round (c ++ e) ≡ turned_round e ++ turned_round c
turned_append [] e = sym (append-nil (turned_round e))
turned_append (d ∷ c) e =
    turned_cons d (c ++ e) ∙ ap (λ (x : Chain). x ++ turn d ∷ []) (turned_append c e) ∙ regroup (turned_round e) (turned_round c) (turn d ∷ [])
    ∙ ap (λ (x : Chain). turned_round e ++ x) (sym (turned_cons d c))
  where
    regroup : (x y z : Chain) → (x ++ y) ++ z ≡ x ++ (y ++ z)
    regroup [] y z = refl
    regroup (w ∷ x) y z = ap (λ (v : Chain). w ∷ v) (regroup x y z)

-- a chain turned round twice
pub turned_back : (c : Chain) → turned_round (turned_round c) ≡ c
turned_back [] = refl
turned_back (d ∷ c) =
    ap turned_round (turned_cons d c) ∙ turned_append (turned_round c) (turn d ∷ [])
    ∙ ap₂ (λ (e : Link) (x : Chain). e ∷ x) (turn_twice d) (turned_back c)

-- ---- parts

-- the chain is one of these, or one of them turned round
pub record IsPart (finer : List Chain) (r : Chain) : Type 0 where
  pub chain : Chain
  pub member : Among chain finer
  pub same : (r ≡ chain) ⊎ (r ≡ turned_round chain)

-- the chain is a row of such parts
pub record IsMadeOf (finer : List Chain) (c : Chain) : Type 0 where
  pub parts : List Chain
  pub joined : flat_map (λ r. r) parts ≡ c
  pub each : (r : Chain) → Among r parts → IsPart finer r

-- parts in the other direction, from the last one on
abbrev turned_parts : List Chain → List Chain
turned_parts [] = []
turned_parts (r ∷ parts) = turned_parts parts ++ turned_round r ∷ []

turned_parts_joined : (parts : List Chain) → flat_map (λ r. r) (turned_parts parts) ≡ turned_round (flat_map (λ r. r) parts)
turned_parts_joined [] = refl
turned_parts_joined (r ∷ parts) =
    flat_map-append (λ (c : Chain). c) (turned_parts parts) (turned_round r ∷ [])
    ∙ ap₂ (λ (x y : Chain). x ++ y) (turned_parts_joined parts) (append-nil (turned_round r))
    ∙ sym (turned_append r (flat_map (λ r. r) parts))

module _ (finer : List Chain) where
  turned_part : (r : Chain) → IsPart finer r → IsPart finer (turned_round r)
  turned_part r p = record {
    chain = p.chain;
    member = p.member;
    same = elim p.same [
      | inl e ↦ inr (ap turned_round e)
      | inr e ↦ inl (ap turned_round e ∙ turned_back p.chain)
    ];
  }

  turned_parts_each : (parts : List Chain) → ((r : Chain) → Among r parts → IsPart finer r) → (r : Chain) → Among r (turned_parts parts) → IsPart finer r
  turned_parts_each [] each r m = absurd m
  turned_parts_each (q ∷ parts) each r m = elim (append_among (turned_parts parts) (turned_round q ∷ []) r m) [
    | inl n ↦ turned_parts_each parts (λ x o. each x (inr o)) r n
    | inr n ↦ elim n [ inl e ↦ subst (IsPart finer) e (turned_part q (each q (inl refl))) | inr o ↦ absurd o ]
  ]

  -- one of the chains
  made_self : (c : Chain) → Among c finer → IsMadeOf finer c
  made_self c m = record {
    parts = c ∷ [];
    joined = append-nil c;
    each = λ r n. elim n [ inl e ↦ record { chain = c; member = m; same = inl (sym e) } | inr o ↦ absurd o ];
  }

  made_turned : (c : Chain) → IsMadeOf finer c → IsMadeOf finer (turned_round c)
  made_turned c w = record {
    parts = turned_parts w.parts;
    joined = turned_parts_joined w.parts ∙ ap turned_round w.joined;
    each = turned_parts_each w.parts w.each;
  }

  made_joined : (c e : Chain) → IsMadeOf finer c → IsMadeOf finer e → IsMadeOf finer (c ++ e)
  made_joined c e w v = record {
    parts = w.parts ++ v.parts;
    joined = flat_map-append (λ (c : Chain). c) w.parts v.parts ∙ ap₂ (λ (x y : Chain). x ++ y) w.joined v.joined;
    each = λ r m. elim (append_among w.parts v.parts r m) [ inl n ↦ w.each r n | inr n ↦ v.each r n ];
  }

  made_toward : (arcs : List BaseArc) (p : Point) (c : Chain) → IsMadeOf finer c → IsMadeOf finer (toward arcs p c)
  made_toward arcs p c w = by (same_point (chain_end arcs c) p)
    where
      by : (v : Bool) → IsMadeOf finer (cond v c (turned_round c))
      by true = w
      by false = made_turned c w

  made_directed : (c : Chain) → IsMadeOf finer c → IsMadeOf finer (directed c)
  made_directed c w = by (is_directed c)
    where
      by : (v : Bool) → IsMadeOf finer (cond v c (turned_round c))
      by true = w
      by false = made_turned c w

  -- a join makes chains of such ones
  made_join : (arcs : List BaseArc) (chains : List Chain) (p : Point) → ((c : Chain) → Among c chains → IsMadeOf finer c)
      → (c : Chain) → Among c (join_at arcs chains p) → IsMadeOf finer c
  made_join arcs chains p h c m = by (filter (touches arcs p) chains) (λ d n. h d (kept_among (touches arcs p) chains d n)) m
    where
      by : (found : List Chain) → ((d : Chain) → Among d found → IsMadeOf finer d)
          → Among c (elim found [
            | [] ↦ chains
            | c ∷ [] ↦ chains
            | c ∷ d ∷ more ↦ (toward arcs p c ++ turned_round (toward arcs p d)) ∷ (more ++ filter (λ e. not (touches arcs p e)) chains)
          ]) → IsMadeOf finer c
      by [] f n = h c n
      by (d ∷ []) f n = h c n
      by (d ∷ e ∷ more) f (inl n) = subst (IsMadeOf finer) n (made_joined (toward arcs p d) (turned_round (toward arcs p e))
          (made_toward arcs p d (f d (inl refl))) (made_turned (toward arcs p e) (made_toward arcs p e (f e (inr (inl refl))))))
      by (d ∷ e ∷ more) f (inr n) = elim (append_among more (filter (λ e. not (touches arcs p e)) chains) c n) [
        | inl l ↦ f c (inr (inr l))
        | inr l ↦ h c (kept_among (λ e. not (touches arcs p e)) chains c l)
      ]

  made_joins : (arcs : List BaseArc) (ps : List Point) (chains : List Chain) → ((c : Chain) → Among c chains → IsMadeOf finer c)
      → (c : Chain) → Among c (fold (join_at arcs) chains ps) → IsMadeOf finer c
  made_joins arcs [] chains h c m = h c m
  made_joins arcs (p ∷ ps) chains h c m = made_joins arcs ps (join_at arcs chains p) (made_join arcs chains p h) c m

-- ---- one step

-- each chain after a step is made of chains that the step leaves
pub chain_parts : (h : MergedMap) (k : ℕ) → AreNumbered (length h.base.classes) h.steps → k < length h.steps
    → All (λ a. has_base_faces h a ≡ true) h.base.arcs → HasEvenSides h k
    → (c : Chain) → Among c (chains_at h (k + 1)) → IsMadeOf (chains_left h k) c
chain_parts h k numbered small faces even c m =
    let joined = fold (join_at h.base.arcs) (chains_left h k) (new_joints h k) in
    let from = map_among directed joined c (sort_among (λ c d. nat_lt (key c) (key d)) (map directed joined) c
    (subst (Among c) (chains_step h k numbered small faces even) m)) in
    subst (IsMadeOf (chains_left h k)) from.2
    (made_directed (chains_left h k) from.0
    (made_joins (chains_left h k) h.base.arcs (new_joints h k) (chains_left h k) (made_self (chains_left h k)) from.0 from.1))
