-- All nodes of degree two are joined, one after the other.
use Rattle.std.proofs.Common.{◌≡◌, ◌⊎◌, inl, inr, ℕ, true, false, List, [], ◌∷◌, refl, sym, ◌∙◌, subst}
use Rattle.std.specs.Prelude.{fold}
use Rattle.std.proofs.lemmas.Bool.{true≢false}
use Rattle.lemmas.proofs.Orders.{one_order}
use Rattle.tgap_model.specs.declared.geometry.Point.{Point}
use Rattle.tgap_model.specs.Merged.{MergedMap}
use Rattle.tgap_model.specs.Chains.{degree, joins_before, Chain, join_at}
use Rattle.map_laws.proofs.ChainMembers.{Among}
use Rattle.map_laws.proofs.Lists.{ArePairs}
use Rattle.map_laws.proofs.JoinPaths.{path_named}
use Rattle.map_laws.proofs.JoinSteps.{AreJoined, join_step}
use Rattle.map_laws.proofs.JoinOrder.{joins_before_order}

-- The listed nodes are those of degree two that are no junctions yet. They stand in the order of joining, and none joins before
-- a junction.
pub record AreNext (h : MergedMap) (k : ℕ) (J : Point → Type 0) (ps : List Point) : Type 0 where
  pub two : (p : Point) → Among p ps → degree h k p ≡ 2
  pub all : (q : Point) → degree h k q ≡ 2 → J q ⊎ Among q ps
  pub before : (q : Point) → J q → degree h k q ≡ 2
  pub later : (p j : Point) → Among p ps → J j → joins_before h k p j ≡ false
  pub apart : (p : Point) → Among p ps → J p → ⊥
  pub ascend : ArePairs (λ p q. joins_before h k p q ≡ true) ps

module _ (h : MergedMap) (k : ℕ) where
  -- no node joins before itself
  itself : (p q : Point) → p ≡ q → joins_before h k p q ≡ true → ⊥
  itself p q e b = true≢false (sym (subst (λ r. joins_before h k p r ≡ true) (sym e) b) ∙ (joins_before_order h k).itself p tt)

  -- after the first is joined the others are next
  pub rest_next : (J : Point → Type 0) (p : Point) (ps : List Point) → AreNext h k J (p ∷ ps) → AreNext h k (λ q. J q ⊎ (q ≡ p)) ps
  rest_next J p ps n = record {
    two = λ q m. n.two q (inr m);
    all = λ q deg. elim (n.all q deg) [ inl j ↦ inl (inl j) | inr m ↦ elim m [ inl e ↦ inl (inr (sym e)) | inr o ↦ inr o ] ];
    before = λ q j. elim j [ inl i ↦ n.before q i | inr e ↦ subst (λ r. degree h k r ≡ 2) (sym e) (n.two p (inl refl)) ];
    later = λ q j m t. elim t [
      | inl i ↦ n.later q j (inr m) i
      | inr e ↦ subst (λ r. joins_before h k q r ≡ false) (sym e) (one_order (joins_before_order h k) p q tt tt (n.ascend.0 q m))
    ];
    apart = λ q m j. elim j [ inl i ↦ n.apart q (inr m) i | inr e ↦ itself p q (sym e) (n.ascend.0 q m) ];
    ascend = n.ascend.1;
  }

  -- a node that is neither a junction nor joined now comes later
  pub comes_later : (J : Point → Type 0) (p : Point) (ps : List Point) → AreNext h k J (p ∷ ps)
      → (q j : Point) → degree h k q ≡ 2 → (J q → ⊥) → (q ≡ p → ⊥) → J j ⊎ (j ≡ p) → joins_before h k q j ≡ false
  comes_later J p ps n q j deg new ne t =
      elim (n.all q deg) [
        | inl i ↦ absurd (new i)
        | inr m ↦ elim m [ inl e ↦ absurd (ne (sym e)) | inr o ↦ (rest_next J p ps n).later q j o t ]
      ]

  -- after all are joined the junctions are the nodes of degree two
  pub join_all : (ps : List Point) (J : Point → Type 0) (cs : List Chain) → AreJoined h k J cs → AreNext h k J ps
      → AreJoined h k (λ q. degree h k q ≡ 2) (fold (join_at h.base.arcs) cs ps)
  join_all [] J cs a n = record {
    covers = a.covers;
    paths = λ c m. path_named h.base.arcs J (λ q. degree h k q ≡ 2) n.before c (a.paths c m);
    shut = λ c m p deg. a.shut c m p (elim (n.all p deg) [ inl j ↦ j | inr o ↦ absurd o ]);
    anchored = a.anchored;
  }
  join_all (p ∷ ps) J cs a n =
      join_all ps (λ q. J q ⊎ (q ≡ p)) (join_at h.base.arcs cs p)
      (join_step h k J cs a p (n.two p (inl refl)) (n.apart p (inl refl)) (comes_later J p ps n))
      (rest_next J p ps n)
