-- An edge whose bounding box meets a window after some steps is one whose box of all points meets it.
use Rattle.std.proofs.Common.{◌≡◌, inl, inr, ℕ, true, false, int_le, List, [], ◌∷◌, map, fold, drop, reverse, subst, cond, Bool, arith}
use Rattle.std.specs.Prelude.{not}
use Rattle.std.specs.List.{list_any}
use Rattle.std.specs.Cmp.Derive.{both_true}
use Rattle.std.proofs.lemmas.Bool.{and_parts}
use Rattle.std.proofs.lemmas.Int.{ints, int_min_is, int_max_is}
use Rattle.lemmas.proofs.Signs.{Decides-int_le, le_le_trans}
use Rattle.tgap_model.specs.declared.geometry.Point.{Point}
use Rattle.tgap_model.specs.declared.geometry.Window.{Window}
use Rattle.tgap_model.specs.declared.base.BaseArc.{BaseArc}
use Rattle.tgap_model.specs.declared.slice.Edge.{Edge}
use Rattle.tgap_model.specs.declared.slice.Removal.{Removal}
use Rattle.tgap_model.specs.Merged.{MergedMap}
use Rattle.tgap_model.specs.Chains.{Link, Chain, arc_number, link_points, chain_points}
use Rattle.tgap_model.specs.Removals.{edge_of, is_removed}
use Rattle.tgap_model.specs.Slice.{meets_window}
use Rattle.map_laws.proofs.ChainMembers.{Among, any_among, append_among, among_left, among_right}
use Rattle.map_laws.proofs.Lists.{kept_among, among_map}
use Rattle.grid_index.specs.Boxes.{meets, Covers}
use Rattle.grid_index.proofs.Covering.{Covers-refl, Covers-trans}
use Rattle.tgap_build.specs.Boxes.{hull, hull_of, point_box, points_box, arcs_points}
use Rattle.slice_laws.proofs.Places.{among_reverse}

-- ---- hulls

hull_left : (a b : Window) → Covers (hull a b) a
hull_left a b = record {
  left = omega (arith, ints, int_min_is a.x0 b.x0);
  right = omega (arith, ints, int_max_is a.x1 b.x1);
  low = omega (arith, ints, int_min_is a.y0 b.y0);
  high = omega (arith, ints, int_max_is a.y1 b.y1);
}

hull_right : (a b : Window) → Covers (hull a b) b
hull_right a b = record {
  left = omega (arith, ints, int_min_is a.x0 b.x0);
  right = omega (arith, ints, int_max_is a.x1 b.x1);
  low = omega (arith, ints, int_min_is a.y0 b.y0);
  high = omega (arith, ints, int_max_is a.y1 b.y1);
}

hull_covers_first : (a : Window) (boxes : List Window) → Covers (fold hull a boxes) a
hull_covers_first a [] = Covers-refl a
hull_covers_first a (b ∷ boxes) = Covers-trans (hull_covers_first (hull a b) boxes) (hull_left a b)

hull_covers_later : (a : Window) (boxes : List Window) (b : Window) → Among b boxes → Covers (fold hull a boxes) b
hull_covers_later a [] b n = absurd n
hull_covers_later a (c ∷ boxes) b (inl e) = subst (Covers (fold hull (hull a c) boxes)) e (Covers-trans (hull_covers_first (hull a c) boxes) (hull_right a c))
hull_covers_later a (c ∷ boxes) b (inr n) = hull_covers_later (hull a c) boxes b n

hull_covers : (boxes : List Window) (b : Window) → Among b boxes → Covers (hull_of boxes) b
hull_covers [] b n = absurd n
hull_covers (a ∷ boxes) b (inl e) = subst (Covers (fold hull a boxes)) e (hull_covers_first a boxes)
hull_covers (a ∷ boxes) b (inr n) = hull_covers_later a boxes b n

-- the bounding box of points holds each of them
point_within : (points : List Point) (p : Point) → Among p points → Covers (points_box points) (point_box p)
point_within points p n = hull_covers (map point_box points) (point_box p) (among_map point_box points p n)

-- ---- the points of an edge

link_within : (arcs : List BaseArc) (d : Link) (p : Point) → Among p (link_points arcs d) → Among p (arc_number arcs d.arc).points
link_within arcs d p = by d.turned
  where
    points : List Point
    points = (arc_number arcs d.arc).points

    by : (t : Bool) → Among p (cond t (reverse points) points) → Among p points
    by true n = among_reverse points p n
    by false n = n

after_first : (points : List Point) (p : Point) → Among p (drop 1 points) → Among p points
after_first [] p n = n
after_first (q ∷ points) p n = inr n

chain_within : (arcs : List BaseArc) (c : Chain) (p : Point) → Among p (chain_points arcs c) → Among p (arcs_points arcs c)
chain_within arcs [] p n = absurd n
chain_within arcs (d ∷ []) p n = among_left (arc_number arcs d.arc).points [] p (link_within arcs d p n)
chain_within arcs (d ∷ e ∷ c) p n = elim (append_among (link_points arcs d) (drop 1 (chain_points arcs (e ∷ c))) p n) [
  | inl here ↦ among_left (arc_number arcs d.arc).points (arcs_points arcs (e ∷ c)) p (link_within arcs d p here)
  | inr later ↦
      among_right (arc_number arcs d.arc).points (arcs_points arcs (e ∷ c)) p
      (chain_within arcs (e ∷ c) p (after_first (chain_points arcs (e ∷ c)) p later))
]

edge_within : (h : MergedMap) (k : ℕ) (removals : List Removal) (c : Chain) (p : Point) → Among p (edge_of h k removals c).points
    → Covers (points_box (arcs_points h.base.arcs c)) (point_box p)
edge_within h k removals c p n =
    point_within (arcs_points h.base.arcs c) p
    (chain_within h.base.arcs c p (kept_among (λ (q : Point). not (is_removed removals q)) (chain_points h.base.arcs c) p n))

-- ---- windows

meets_within : (area box : Window) (e : Edge) → ((p : Point) → Among p e.points → Covers box (point_box p)) → meets_window area e ≡ true → meets area box ≡ true
meets_within area box e holds h =
    let a = and_parts _ (list_any (λ (p : Point). int_le area.y0 p.y) e.points) h in
    let b = and_parts _ (list_any (λ (p : Point). int_le p.y area.y1) e.points) a.0 in
    let c = and_parts _ (list_any (λ (p : Point). int_le area.x0 p.x) e.points) b.0 in
    let left = any_among (λ (p : Point). int_le p.x area.x1) e.points c.0 in
    let right = any_among (λ (p : Point). int_le area.x0 p.x) e.points c.1 in
    let low = any_among (λ (p : Point). int_le p.y area.y1) e.points b.1 in
    let high = any_among (λ (p : Point). int_le area.y0 p.y) e.points a.1 in
    both_true
    (both_true
    ((Decides-int_le area.x0 box.x1).1 (le_le_trans ((Decides-int_le area.x0 right.0.x).0 right.2) (holds right.0 right.1).right))
    ((Decides-int_le box.x0 area.x1).1 (le_le_trans (holds left.0 left.1).left ((Decides-int_le left.0.x area.x1).0 left.2))))
    (both_true
    ((Decides-int_le area.y0 box.y1).1 (le_le_trans ((Decides-int_le area.y0 high.0.y).0 high.2) (holds high.0 high.1).high))
    ((Decides-int_le box.y0 area.y1).1 (le_le_trans (holds low.0 low.1).low ((Decides-int_le low.0.y area.y1).0 low.2))))

-- an edge that meets the window has a box that does
pub edge_meets : (h : MergedMap) (k : ℕ) (removals : List Removal) (c : Chain) (area : Window) → meets_window area (edge_of h k removals c) ≡ true
    → meets area (points_box (arcs_points h.base.arcs c)) ≡ true
edge_meets h k removals c area met = meets_within area (points_box (arcs_points h.base.arcs c)) (edge_of h k removals c) (edge_within h k removals c) met
