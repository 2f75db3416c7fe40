-- The arcs that are listed for a point.
use Rattle.std.specs.Prelude.{◌≡◌, ℕ, zero, suc, ◌==◌, Bool, true, false, List, [], ◌∷◌, map, unwrap_or, option_map}
use Rattle.std.specs.List.{list_any}
use Rattle.std.specs.BTreeMap.{get}
use Rattle.tgap_model.specs.declared.geometry.Point.{Point}
use Rattle.tgap_model.specs.declared.base.BaseArc.{BaseArc}
use Rattle.face_cuts.specs.Nodes.{passes}
use Rattle.face_cuts.specs.PointSets.{point_cmp}
use Rattle.arc_places.specs.declared.places.Places.{Places}
use Rattle.arc_places.specs.Bodies.{image}

-- the bodies that are listed for a point
abbrev pub bodies_at : Places → Point → List ℕ
bodies_at places p = unwrap_or (option_map (λ bodies. bodies.items) (get point_cmp places.lists p)) []

-- the slots of the arcs that are listed for a point
abbrev pub listed : Places → Point → List ℕ
listed places p = map (image places.bodies) (bodies_at places p)

-- the arc of this number passes the test
abbrev pub arc_passes : (BaseArc → Bool) → List BaseArc → ℕ → Bool
arc_passes test [] i = false
arc_passes test (a ∷ arcs) zero = test a
arc_passes test (a ∷ arcs) (suc i) = arc_passes test arcs i

-- the number stands in the list
abbrev pub is_among : ℕ → List ℕ → Bool
is_among i numbers = list_any (λ j. j == i) numbers

-- Each arc that has a point is listed for it. Others may be listed too.
abbrev pub Covers : (Point → List ℕ) → List BaseArc → Type 0
Covers lists arcs = (p : Point) (i : ℕ) → arc_passes (passes p) arcs i ≡ true → is_among i (lists p) ≡ true
