-- A look-up of boxes, as the edges of a table change.
use Rattle.std.proofs.Common.{◌≡◌, ◌⊎◌, inl, inr, ℕ, Bool, true, false, cond, not, List, map, length, All, Contains, Option, Some, None, refl, sym, ap, ◌∙◌, subst}
use Rattle.std.proofs.lemmas.List.Elements.{All-filter}
use Rattle.tgap_model.specs.declared.geometry.Point.{Point}
use Rattle.tgap_model.specs.declared.geometry.Window.{Window}
use Rattle.tgap_model.specs.declared.slice.Edge.{Edge}
use Rattle.map_laws.proofs.ChainMembers.{Among}
use Rattle.map_laws.proofs.Lists.{members_all, map_among}
use Rattle.removal_laws.proofs.ChainEnds.{among_contained}
use Rattle.grid_index.specs.Keyed.{edge_in, edges_in, AreAtKeys}
use Rattle.grid_index.specs.Picked.{box_at}
use Rattle.point_rope.specs.Held.{IsHeld}
use Rattle.tgap_build.specs.Queues.{AreKeptBut}
use Rattle.tgap_build.specs.Running.{has_point, less}
use Rattle.tgap_build.specs.Changes.{less_at}
use Rattle.tgap_build.specs.Sought.{IsSought, HasRoom, AreSameBut}
use Rattle.tgap_build.proofs.EdgesAt.{has_one}
use Rattle.tgap_build.proofs.EdgeTables.{at_among}
use Rattle.tgap_build.proofs.Tables.{place_among}

-- a look-up has a box for each place
pub sought_room : (places : List (Option Edge)) (sought : Option (List Window)) → IsSought places sought → HasRoom (length places) sought
sought_room places None h = tt
sought_room places (Some boxes) h = h.long

-- the edges that are those of before stand where they stood
pub same_places : (before after : List (Option Edge)) → AreAtKeys before → AreAtKeys after → (keys : List ℕ) → AreKeptBut keys (edges_in before) (edges_in after)
    → AreSameBut keys before after
same_places before after keyed now keys kept k e is =
    let key = now k e is in
    elim (members_all (λ (f : Edge). Contains (edges_in before) f ⊎ Contains keys f.key) (edges_in after) e kept (at_among after k e is)) [
      | inl old ↦ inl (ap (edge_in before) (sym key) ∙ place_among before keyed e (among_contained (edges_in before) e old))
      | inr new ↦ inr (subst (Contains keys) key new)
    ]

-- ---- after points went

module _ (gone : List Point) (ks : List ℕ) where
  less_key : (e : Edge) → (less_at gone ks e).key ≡ e.key
  less_key e = by (has_one ks e)
    where
      by : (b : Bool) → (cond b (less gone e) e).key ≡ e.key
      by true = refl
      by false = refl

  less_held : (box : Window) (e : Edge) → All (IsHeld box) e.points → All (IsHeld box) (less_at gone ks e).points
  less_held box e h = by (has_one ks e)
    where
      by : (b : Bool) → All (IsHeld box) (cond b (less gone e) e).points
      by true = All-filter (λ (p : Point). not (has_point gone p)) (IsHeld box) e.points h
      by false = h

  -- a box that holds the points of an edge holds those that are left
  pub sought_less : (before after : List (Option Edge)) → AreAtKeys before → AreAtKeys after → edges_in after ≡ map (less_at gone ks) (edges_in before) → length after ≡ length before
      → (sought : Option (List Window)) → IsSought before sought → IsSought after sought
  sought_less before after keyed now is long None h = tt
  sought_less before after keyed now is long (Some boxes) h = record {
    long = h.long ∙ sym long;
    each = λ k e at.
        let d = map_among (less_at gone ks) (edges_in before) e (subst (Among e) is (at_among after k e at)) in
        let key : d.0.key ≡ k = sym (less_key d.0) ∙ ap (λ (f : Edge). f.key) d.2 ∙ now k e at in
        subst (λ (f : Edge). All (IsHeld (box_at boxes k)) f.points) d.2
        (less_held (box_at boxes k) d.0 (h.each k d.0 (ap (edge_in before) (sym key) ∙ place_among before keyed d.0 d.1)));
  }
