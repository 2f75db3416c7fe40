-- Arcs in slots, with the places of their points and the borders of faces.
use Rattle.std.specs.Prelude.{◌≡◌, ℕ, ◌+◌, nat_le, Bool, ◌&&◌, ◌||◌, List, length, map, Result, Ok, Err}
use Rattle.tgap_model.specs.declared.failure.Or.{Or}
use Rattle.tgap_model.specs.declared.geometry.Point.{Point}
use Rattle.tgap_model.specs.declared.base.BaseArc.{BaseArc}
use Rattle.tgap_model.specs.declared.limits.TheConstants.{MAX_ARCS, MAX_POINTS}
use Rattle.tgap_model.specs.Base.{count_points, same_point}
use Rattle.tgap_model.specs.Chains.{first_point, last_point}
use Rattle.line_forms.specs.Lines.{◌>>=◌}
use Rattle.plain_io.specs.Taking.{Refuses}
use Rattle.face_cuts.specs.Fusions.{others, relabelled, renumbered}
use Rattle.face_cuts.specs.Moves.{cut_off_sides, divided_arcs}
use Rattle.arc_places.specs.declared.places.Places.{Places}
use Rattle.arc_places.specs.Slots.{arcs_in, is_there}
use Rattle.arc_places.specs.Places.{Covers, listed}
use Rattle.arc_places.specs.Borders.{CoversFaces, bordering}
use Rattle.map_version.specs.declared.labels.Counts.{Counts}

-- Slots of arcs, of which one without points is gone, and how many faces there are beside the one outside.
pub record Indexed : Type 0 where
  pub slots : List BaseArc
  pub faces : ℕ

-- the arcs that are there
abbrev pub arcs_of : Indexed → List BaseArc
arcs_of x = arcs_in x.slots

-- so many arcs are there, and so many points have they
pub record AreCounted (slots : List BaseArc) (counts : Counts) : Type 0 where
  pub arcs_are : counts.arcs ≡ length (arcs_in slots)
  pub points_are : counts.points ≡ count_points (arcs_in slots)

-- each arc that is there is listed for its points and for its faces, and is counted
pub record AreIndexed (slots : List BaseArc) (places : Places) (borders : List (List ℕ)) (counts : Counts) : Type 0 where
  pub by_point : Covers (listed places) slots
  pub by_face : CoversFaces (bordering borders) slots
  pub counted : AreCounted slots counts

-- the arc begins or ends at the point
abbrev pub ends_at : Point → BaseArc → Bool
ends_at p a = same_point p (first_point a.points) || same_point p (last_point a.points)

-- the arc is there and does
abbrev pub ends_there : Point → BaseArc → Bool
ends_there p a = is_there a && ends_at p a

-- what a change makes of the arcs, want of memory apart
abbrev pub GivesArcs : Result Indexed (Or ℕ) → Result (List BaseArc) ℕ → Type 0
GivesArcs (Ok x) made = made ≡ Ok (arcs_of x)
GivesArcs (Err e) made = Refuses e made

-- a map with so many more arcs and points keeps to the limits
abbrev pub has_more : ℕ → ℕ → List BaseArc → Bool
has_more more points arcs = nat_le (length arcs + more) MAX_ARCS && nat_le (count_points arcs + points) MAX_POINTS

-- of a map with n faces, the arcs where face g is a part of face f
abbrev pub fused_arcs : ℕ → ℕ → ℕ → List BaseArc → List BaseArc
fused_arcs n f g arcs = map (relabelled (renumbered n f g)) (others f g arcs)

-- the arcs where one with these points cuts face f, and a new face is at its left
abbrev pub cut_arcs : List BaseArc → ℕ → ℕ → List Point → Result (List BaseArc) ℕ
cut_arcs arcs f new points = cut_off_sides arcs f points >>= λ moved. Ok (divided_arcs arcs f new points moved)
