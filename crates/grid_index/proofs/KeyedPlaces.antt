-- Edges at the places of their keys.
use Rattle.std.proofs.Common.{◌≡◌, ◌≢◌, inl, inr, ℕ, zero, suc, ◌<◌, List, [], ◌∷◌, length, get_or, All, Contains, Option, Some, None, refl, sym, ap, ◌∙◌, subst, arith}
use Rattle.std.proofs.lemmas.List.{get_or_default}
use Rattle.tgap_model.specs.declared.slice.Edge.{Edge}
use Rattle.lemmas.proofs.Members.{in_head, in_tail, in_cases, in_none}
use Rattle.grid_index.specs.Slots.{no_edge}
use Rattle.grid_index.specs.Keyed.{edge_in, edges_in, AreAtKeys}

-- what is at a place is among the edges
pub among_edges : (places : List (Option Edge)) (i : ℕ) (e : Edge) → edge_in places i ≡ Some e → Contains (edges_in places) e
among_edges [] i e is = absurd cc
among_edges (x ∷ xs) zero e is = subst (λ (o : Option Edge). Contains (edges_in (o ∷ xs)) e) (sym is) (in_head e (edges_in xs))
among_edges (None ∷ xs) (suc i) e is = among_edges xs i e is
among_edges (Some x ∷ xs) (suc i) e is = in_tail x (edges_in xs) e (among_edges xs i e is)

-- each of them is at a place
pub at_place : (places : List (Option Edge)) (e : Edge) → Contains (edges_in places) e → (i : ℕ) × (edge_in places i ≡ Some e)
at_place [] e m = absurd (in_none e m)
at_place (None ∷ xs) e m = let i = at_place xs e m in (suc i.0, i.1)
at_place (Some x ∷ xs) e m = elim (in_cases x (edges_in xs) e m) [
  | inl same ↦ (0, ap Some same)
  | inr rest ↦ let i = at_place xs e rest in (suc i.0, i.1)
]

-- that of its key
pub at_key : (places : List (Option Edge)) → AreAtKeys places → (e : Edge) → Contains (edges_in places) e → edge_in places e.key ≡ Some e
at_key places keyed e m = let i = at_place places e m in ap (edge_in places) (keyed i.0 e i.1) ∙ i.1

-- so an edge is found by its key
pub found_by_key : (places : List (Option Edge)) → AreAtKeys places → (key j : ℕ) (d : Edge) → j < length (edges_in places) → (get_or (edges_in places) j d).key ≡ key → edge_in places key ≡ Some (get_or (edges_in places) j d)
found_by_key places keyed key j d l same =
    let e = get_or (edges_in places) j d in
    ap (edge_in places) (sym same) ∙ at_key places keyed e (j, l, sym (get_or_default (edges_in places) j d e l))

-- and none where there is none
pub none_by_key : (places : List (Option Edge)) → AreAtKeys places → (key : ℕ) → All (λ e. e.key ≢ key) (edges_in places) → edge_in places key ≡ None
none_by_key places keyed key h = by (edge_in places key) refl
  where
    by : (o : Option Edge) → edge_in places key ≡ o → o ≡ None
    by None is = refl
    by (Some e) is = let m = among_edges places key e is in absurd (h m.0 e m.1 (ap (λ (f : Edge). f.key) m.2 ∙ keyed key e is))

-- what holds of all edges holds of that at a place
pub placed_all : (P : Edge → Type 0) (places : List (Option Edge)) → All P (edges_in places) → (i : ℕ) (e : Edge) → edge_in places i ≡ Some e → P e
placed_all P places h i e is = let m = among_edges places i e is in subst P m.2 (h m.0 e m.1)

-- only a place that is there has an edge
pub place_within : (places : List (Option Edge)) (i : ℕ) (e : Edge) → edge_in places i ≡ Some e → i < length places
place_within [] i e is = absurd cc
place_within (x ∷ xs) zero e is = omega arith
place_within (x ∷ xs) (suc i) e is = let l = place_within xs i e is in omega (arith, l)

-- that of a place, or one that is none
abbrev pub edge_of : Option Edge → Edge
edge_of None = no_edge
edge_of (Some e) = e
