-- Edges at some keys that ascend: those of all edges that have one of the keys.
use Rattle.std.proofs.Common.{◌≡◌, inl, inr, ℕ, ◌<◌, ◌==◌, Bool, true, cond, List, [], ◌∷◌, ◌++◌, filter, AllPairs, Contains, Option, Some, None, refl, sym, ap, ap₂, ◌∙◌, subst, eq-eqb}
use Rattle.std.specs.Prelude.{option_to_list}
use Rattle.std.specs.List.{flat_map, list_any}
use Rattle.std.proofs.lemmas.Bool.{eqb-true}
use Rattle.tgap_model.specs.declared.slice.Edge.{Edge}
use Rattle.map_laws.proofs.ChainMembers.{Among, any_among, append_among}
use Rattle.map_laws.proofs.Lists.{all_members, any_from}
use Rattle.removal_laws.proofs.ChainEnds.{contained}
use Rattle.grid_index.specs.Keyed.{edge_in, edges_in, AreAtKeys, edges_at}
use Rattle.tgap_build.proofs.Covered.{covered}

-- it has one of the keys
abbrev pub has_one : List ℕ → Edge → Bool
has_one ks e = list_any (λ k. k == e.key) ks

pub has_contained : (ks : List ℕ) (e : Edge) → has_one ks e ≡ true → Contains ks e.key
has_contained ks e t = let k = any_among (λ k. k == e.key) ks t in subst (Contains ks) (eqb-true k.0 e.key k.2) (contained ks k.0 k.1)

module _ (places : List (Option Edge)) (keyed : AreAtKeys places) where
  -- an edge at a key has that key
  pub at_key : (ks : List ℕ) (e : Edge) → Among e (edges_at places ks) → Among e.key ks
  at_key [] e m = absurd m
  at_key (k ∷ ks) e m = elim (append_among (option_to_list (edge_in places k)) (edges_at places ks) e m) [
    | inl here ↦ inl (by (edge_in places k) refl here)
    | inr more ↦ inr (at_key ks e more)
  ]
    where
      by : (o : Option Edge) → edge_in places k ≡ o → Among e (option_to_list o) → k ≡ e.key
      by None is n = absurd n
      by (Some f) is (inl s) = sym (keyed k f is) ∙ ap (λ (g : Edge). g.key) s
      by (Some f) is (inr n) = absurd n

  module _ (ks : List ℕ) (up : AllPairs (λ (j k : ℕ). j < k) ks) where
    one_passes : (k : ℕ) → Among k ks → option_to_list (edge_in places k) ≡ filter (has_one ks) (option_to_list (edge_in places k))
    one_passes k m = by (edge_in places k) refl
      where
        by : (o : Option Edge) → edge_in places k ≡ o → option_to_list o ≡ filter (has_one ks) (option_to_list o)
        by None is = refl
        by (Some e) is = sym (ap (λ (b : Bool). cond b (e ∷ []) []) (any_from (λ j. j == e.key) ks k m (eq-eqb k e.key (sym (keyed k e is)))))

    all_pass : (js : List ℕ) → ((k : ℕ) → Among k js → Among k ks) → edges_at places js ≡ flat_map (λ k. filter (has_one ks) (option_to_list (edge_in places k))) js
    all_pass [] sub = refl
    all_pass (j ∷ js) sub = ap₂ (λ (es fs : List Edge). es ++ fs) (one_passes j (sub j (inl refl))) (all_pass js (λ k m. sub k (inr m)))

    pub edges_at_are : edges_at places ks ≡ filter (λ e. list_any (λ k. k == e.key) ks) (edges_in places)
    edges_at_are =
        all_pass ks (λ k m. m)
        ∙ covered (has_one ks) places keyed ks up (all_members (λ (e : Edge). has_one ks e ≡ true → Contains ks e.key) (edges_in places) (λ e m t. has_contained ks e t))
