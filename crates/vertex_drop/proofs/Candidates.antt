-- The keys of the edges that border a face and have a small corner.
use Rattle.std.proofs.Common.{◌≡◌, ◌<◌, ℕ, ℤ, true, List, map, filter, length, All, AllPairs, Contains, sym, ap₂, ◌∙◌, subst₂, arith}
use Rattle.std.specs.Cmp.Derive.{both_true}
use Rattle.std.proofs.lemmas.Bool.{and_parts}
use Rattle.std.proofs.lemmas.List.{length-map, get_or-map}
use Rattle.std.proofs.lemmas.List.Kept.{AllPairs-filter}
use Rattle.lemmas.proofs.Members.{All-from_members, Contains-filter, Contains-from_filter, Contains-map, Contains-from_map}
use Rattle.tgap_model.specs.declared.slice.Edge.{Edge}
use Rattle.tgap_model.specs.Removals.{has_side}
use Rattle.vertex_drop.specs.Corners.{has_small_corner, may_lose}
use Rattle.vertex_drop.proofs.Unswept.{Ascend, no_edge}

-- the keys of edges in order of key ascend
keys_ascend : (edges : List Edge) → Ascend edges → AllPairs (λ j k. j < k) (map (λ e. e.key) edges)
keys_ascend edges up i j d less l =
    let key = λ (e : Edge). e.key in
    let short : j < length edges = omega (arith, l, length-map edges key) in
    let first : i < length edges = omega (arith, less, short) in
    subst₂ (λ (m n : ℕ). m < n) (sym (get_or-map key edges i no_edge d first)) (sym (get_or-map key edges j no_edge d short)) (up i j no_edge less short)

module _ (ratio : ℕ) (area : ℤ) (made : ℕ) (live : List Edge) where
  abbrev some_keys : List ℕ
  some_keys = map (λ e. e.key) (filter (may_lose ratio area made) live)

  pub some_ascend : Ascend live → AllPairs (λ j k. j < k) some_keys
  some_ascend up =
      keys_ascend (filter (may_lose ratio area made) live) (AllPairs-filter (λ (e f : Edge). e.key < f.key) (may_lose ratio area made) live up)

  pub some_there : All (λ k. (e : Edge) × Contains live e × (e.key ≡ k) × (has_side made e ≡ true)) some_keys
  some_there = All-from_members (λ k. (e : Edge) × Contains live e × (e.key ≡ k) × (has_side made e ≡ true)) some_keys (λ k c.
      let e = Contains-from_map (λ (e : Edge). e.key) (filter (may_lose ratio area made) live) k c in
      let in_live = Contains-from_filter (may_lose ratio area made) live e.0 e.1 in
      (e.0, in_live.0, e.2, (and_parts (has_side made e.0) (has_small_corner ratio area e.0.points) in_live.1).0))

  pub some_are_all : (e : Edge) → Contains live e → has_side made e ≡ true → has_small_corner ratio area e.points ≡ true → Contains some_keys e.key
  some_are_all e c side small =
      Contains-map (λ (e : Edge). e.key) (filter (may_lose ratio area made) live) e
      (Contains-filter (may_lose ratio area made) live e c (both_true side small))

-- what is made of equal edges and an equal area
pub some_keys_are : (ratio : ℕ) (area z : ℤ) (made : ℕ) (edges live : List Edge) (keys : List ℕ)
    → keys ≡ map (λ e. e.key) (filter (may_lose ratio z made) edges) → z ≡ area → edges ≡ live → keys ≡ map (λ e. e.key) (filter (may_lose ratio area made) live)
some_keys_are ratio area z made edges live keys e f g =
    e ∙ ap₂ (λ (y : ℤ) (es : List Edge). map (λ e. e.key) (filter (may_lose ratio y made) es)) f g
