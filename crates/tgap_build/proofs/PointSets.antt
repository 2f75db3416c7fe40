-- Points, sorted and without repeats: the same are there.
use Rattle.std.proofs.Common.{◌≡◌, ℕ, Bool, true, false, ◌||◌, List, [], ◌∷◌, map, Contains, IsPermutation, MatchOption, get_or, length, ◌<◌, refl, sym, ap, ◌∙◌, subst, true≢false}
use Rattle.std.specs.Prelude.{Option, Some, None, is_some}
use Rattle.std.specs.List.{dedup}
use Rattle.std.proofs.lemmas.Bool.{false_from_ne_true}
use Rattle.std.proofs.lemmas.List.Kept.{Contains-from_dedup}
use Rattle.std.proofs.lemmas.List.Sorted.{Contains-permutation, IsPermutation-sym}
use Rattle.tgap_model.specs.declared.geometry.Point.{Point}
use Rattle.tgap_model.specs.declared.slice.Removal.{Removal}
use Rattle.tgap_model.specs.Base.{same_point}
use Rattle.tgap_model.specs.Removals.{is_removed}
use Rattle.tgap_model.proofs.Points.{same_point-true, same_point-from}
use Rattle.map_laws.proofs.ChainMembers.{any_among}
use Rattle.map_laws.proofs.Lists.{any_from}
use Rattle.removal_laws.proofs.ChainEnds.{contained, among_contained}
use Rattle.edge_forest.proofs.RemovedPoints.{points_kept}
use Rattle.tgap_build.specs.Running.{has_point}

pub has_contains : (ps : List Point) (p : Point) → has_point ps p ≡ true → Contains ps p
has_contains ps p e =
    let q = any_among (λ (q : Point). same_point q p) ps e in
    subst (Contains ps) (same_point-true q.0 p q.2) (contained ps q.0 q.1)

pub contains_has : (ps : List Point) (p : Point) → Contains ps p → has_point ps p ≡ true
contains_has ps p c = any_from (λ (q : Point). same_point q p) ps p (among_contained ps p c) (same_point-from p p refl)

pub set_is : (ps sorted : List Point) → IsPermutation ps sorted → (p : Point) → has_point (dedup same_point sorted) p ≡ has_point ps p
set_is ps sorted moved p = by (has_point ps p) refl
  where
    by : (b : Bool) → has_point ps p ≡ b → has_point (dedup same_point sorted) p ≡ b
    by true e = contains_has (dedup same_point sorted) p (points_kept ps sorted moved p (has_contains ps p e))
    by false e = false_from_ne_true (has_point (dedup same_point sorted) p) (λ t.
        true≢false (sym (contains_has ps p (Contains-permutation sorted ps p (IsPermutation-sym ps sorted moved)
        (Contains-from_dedup same_point sorted p (has_contains (dedup same_point sorted) p t)))) ∙ e))

-- a point that has no place is none of them
pub none_placed : (ps : List Point) (p : Point) → (Contains ps p → ⊥) → has_point ps p ≡ false
none_placed ps p none = false_from_ne_true (has_point ps p) (λ t. none (has_contains ps p t))

-- a search tells whether it is
pub search_tells : (ps : List Point) (p : Point) (o : Option ℕ) → MatchOption o (Contains ps p → ⊥) (λ i. (i < length ps) × (get_or ps i p ≡ p)) → is_some o ≡ has_point ps p
search_tells ps p None h = sym (none_placed ps p h)
search_tells ps p (Some i) h = sym (contains_has ps p (i, h.0, h.1))

-- the points of removals are those that are removed
pub points_removed : (removals : List Removal) (p : Point) → has_point (map (λ (r : Removal). r.point) removals) p ≡ is_removed removals p
points_removed [] p = refl
points_removed (r ∷ removals) p = ap (λ (b : Bool). same_point r.point p || b) (points_removed removals p)
