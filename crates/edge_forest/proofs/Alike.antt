-- Lists of paths that are the same but for their order and directions: what one keeps at its joints the other keeps.
use Rattle.std.proofs.Common.{◌≡◌, ◌⊎◌, inl, inr, ℕ, false, List, [], ◌∷◌, ◌++◌, sum_by, refl, sym, ap, ◌∙◌, subst}
use Rattle.std.proofs.lemmas.List.{append-nil, append_assoc}
use Rattle.tgap_model.specs.declared.geometry.Point.{Point}
use Rattle.tgap_model.specs.declared.base.BaseArc.{BaseArc}
use Rattle.tgap_model.specs.Merged.{MergedMap}
use Rattle.tgap_model.specs.Chains.{degree, joins_before, Link, Chain, chain_start, chain_end, turned_round}
use Rattle.map_laws.proofs.ChainMembers.{Among}
use Rattle.map_laws.proofs.ChainEnds.{turn, turn_twice}
use Rattle.map_laws.proofs.JoinPaths.{turned_cons, turned_start, turned_end, IsPath, path_turned}
use Rattle.map_laws.proofs.JoinSteps.{arc_sum, AreJoined}

-- ---- chains turned round

-- two chains in a row, turned round
pub turned_append : (c e : Chain) → turned_round (c ++ e) ≡ turned_round e ++ turned_round c
turned_append [] e = sym (append-nil (turned_round e))
turned_append (d ∷ c) e =
    turned_cons d (c ++ e)
    ∙ ap (λ (x : Chain). x ++ turn d ∷ []) (turned_append c e)
    ∙ append_assoc (turned_round e) (turned_round c) (turn d ∷ [])
    ∙ ap (λ (x : Chain). turned_round e ++ x) (sym (turned_cons d c))

pub turned_twice : (c : Chain) → turned_round (turned_round c) ≡ c
turned_twice [] = refl
turned_twice (d ∷ c) =
    ap turned_round (turned_cons d c)
    ∙ turned_append (turned_round c) (turn d ∷ [])
    ∙ ap (λ (x : Chain). turned_round (turn d ∷ []) ++ x) (turned_twice c)
    ∙ ap (λ (e : Link). e ∷ c) (turn_twice d)

path_back : (arcs : List BaseArc) (J : Point → Type 0) (c : Chain) → IsPath arcs J (turned_round c) → IsPath arcs J c
path_back arcs J c p = subst (IsPath arcs J) (turned_twice c) (path_turned arcs J (turned_round c) p)

-- ---- lists that are alike

-- each member of the first is one of the second or one of them turned round, and each arc counts in both as often
pub record AreAlike (cs ds : List Chain) : Type 0 where
  pub sums : (f : ℕ → ℕ) → sum_by (arc_sum f) cs ≡ sum_by (arc_sum f) ds
  pub members : (c : Chain) → Among c cs → Among c ds ⊎ Among (turned_round c) ds

-- paths that are alike are joined at the same nodes
pub alike_joined : (h : MergedMap) (k : ℕ) (J : Point → Type 0) (cs ds : List Chain) → AreAlike cs ds → AreJoined h k J ds → AreJoined h k J cs
alike_joined h k J cs ds w a = record {
  covers = λ f. w.sums f ∙ a.covers f;
  paths = λ c m. elim (w.members c m) [ inl n ↦ a.paths c n | inr n ↦ path_back h.base.arcs J c (a.paths (turned_round c) n) ];
  shut = λ c m p j t. elim (w.members c m) [ inl n ↦ a.shut c n p j t | inr n ↦ turned_shut c n p j t ];
  anchored = λ c m closed two. elim (w.members c m) [ inl n ↦ a.anchored c n closed two | inr n ↦ turned_anchored c n closed two ];
}
  where
    arcs : List BaseArc
    arcs = h.base.arcs

    turned_shut : (c : Chain) → Among (turned_round c) ds → (p : Point) → J p → (chain_start arcs c ≡ p) ⊎ (chain_end arcs c ≡ p)
        → (chain_start arcs c ≡ p) × (chain_end arcs c ≡ p)
    turned_shut c n p j t =
        let both = a.shut (turned_round c) n p j (elim t [ inl s ↦ inr (turned_end arcs c ∙ s) | inr s ↦ inl (turned_start arcs c ∙ s) ]) in
        (sym (turned_end arcs c) ∙ both.1, sym (turned_start arcs c) ∙ both.0)

    turned_anchored : (c : Chain) → Among (turned_round c) ds → chain_start arcs c ≡ chain_end arcs c → degree h k (chain_start arcs c) ≡ 2
        → IsPath arcs (λ j. joins_before h k (chain_start arcs c) j ≡ false) c
    turned_anchored c n closed two =
        let start : chain_start arcs (turned_round c) ≡ chain_start arcs c = turned_start arcs c ∙ sym closed in
        path_back arcs (λ j. joins_before h k (chain_start arcs c) j ≡ false) c
        (subst (λ (p : Point). IsPath arcs (λ j. joins_before h k p j ≡ false) (turned_round c)) start
        (a.anchored (turned_round c) n (start ∙ sym (turned_end arcs c)) (ap (degree h k) start ∙ two)))
