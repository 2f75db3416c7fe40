-- Which edges of a table are those of before: all but those of some keys.
use Rattle.std.proofs.Common.{◌≡◌, ◌⊎◌, inl, inr, ℕ, Bool, true, false, cond, List, ◌++◌, map, Contains, Option, refl, sym, ap, ◌∙◌, subst}
use Rattle.std.proofs.lemmas.List.Sorted.{Contains-permutation, IsPermutation-sym}
use Rattle.tgap_model.specs.declared.geometry.Point.{Point}
use Rattle.tgap_model.specs.declared.slice.Edge.{Edge}
use Rattle.map_laws.proofs.ChainMembers.{Among, append_among}
use Rattle.map_laws.proofs.Lists.{all_members, kept_among, map_among}
use Rattle.removal_laws.proofs.ChainEnds.{contained, among_contained}
use Rattle.grid_index.specs.Keyed.{AreAtKeys, edges_at}
use Rattle.grid_index.specs.Live.{without_keys}
use Rattle.tgap_build.specs.Running.{less}
use Rattle.tgap_build.specs.Changes.{IsChange, less_at}
use Rattle.tgap_build.specs.Queues.{AreKeptBut}
use Rattle.tgap_build.proofs.EdgesAt.{has_one, has_contained, at_key}

-- ---- after an exchange

-- the edges that did not come are those of before
pub kept_exchange : (places : List (Option Edge)) → AreAtKeys places → (before after : List Edge) (gone come : List ℕ) → IsChange before gone (edges_at places come) after → AreKeptBut come before after
kept_exchange places keyed before after gone come ex = all_members (λ (e : Edge). Contains before e ⊎ Contains come e.key) after (λ e m.
    let stay = without_keys gone before in
    let back = Contains-permutation after (stay ++ edges_at places come) e (IsPermutation-sym (stay ++ edges_at places come) after ex) (contained after e m) in
    elim (append_among stay (edges_at places come) e (among_contained (stay ++ edges_at places come) e back)) [
      | inl old ↦ inl (contained before e (kept_among _ before e old))
      | inr new ↦ inr (contained come e.key (at_key places keyed come e new))
    ])

-- ---- after points went

-- the edges that lost none are those of before
pub kept_less : (gone : List Point) (ks : List ℕ) (edges : List Edge) → AreKeptBut ks edges (map (less_at gone ks) edges)
kept_less gone ks edges = all_members (λ (e : Edge). Contains edges e ⊎ Contains ks e.key) (map (less_at gone ks) edges) (λ e m.
    let d = map_among (less_at gone ks) edges e m in
    by d.0 d.1 (has_one ks d.0) refl e d.2)
  where
    by : (d : Edge) → Among d edges → (b : Bool) → has_one ks d ≡ b → (e : Edge) → cond (has_one ks d) (less gone d) d ≡ e → Contains edges e ⊎ Contains ks e.key
    by d m true t e is =
        let key : d.key ≡ e.key = ap (λ (f : Edge). f.key) (sym (ap (λ (b : Bool). cond b (less gone d) d) t) ∙ is) in
        inr (subst (Contains ks) key (has_contained ks d t))
    by d m false t e is = inl (subst (Contains edges) (sym (ap (λ (b : Bool). cond b (less gone d) d) t) ∙ is) (contained edges d m))
