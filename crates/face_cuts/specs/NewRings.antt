-- The ring that a new arc makes with its walk.
use Rattle.std.specs.Prelude.{◌≡◌, ◌≤◌, ◌<◌, ◌*◌, ◌==◌, ℕ, Bool, true, false, ◌&&◌, Option, Some, None, List, [], ◌∷◌, ◌++◌, length, get_or, slice_index_or, All, IfSome, Result, Ok, if◌then◌else◌}
use Rattle.std.specs.List.{list_all, list_any}
use Rattle.std.specs.Option.{ok_or}
use Rattle.tgap_model.specs.declared.geometry.Point.{Point}
use Rattle.tgap_model.specs.declared.geometry.Seg.{Seg}
use Rattle.tgap_model.specs.declared.base.BaseArc.{BaseArc}
use Rattle.tgap_model.specs.Base.{in_limits}
use Rattle.tgap_model.specs.declared.limits.TheConstants.{MAX_ARCS}
use Rattle.ring_walk.specs.declared.side.Side.{Side}
use Rattle.ring_walk.specs.Sides.{face_of, side_number}
use Rattle.ring_walk.specs.Areas.{first_leaning, segments_of}
use Rattle.ring_walk.specs.Spans.{IsRing}
use Rattle.ring_probe.specs.Rows.{IsLeaning, IsLine}
use Rattle.face_cuts.specs.Cuts.{all_different, face_after, lines_of, new_area, new_ring, sectors_of, with_faces}
use Rattle.face_cuts.specs.Outcomes.{◌>>=◌}
use Rattle.face_cuts.specs.Sectors.{spans_of}
use Rattle.face_cuts.specs.Walks.{walk_between}
use Rattle.face_cuts.specs.Columns.{AreColumns}
use Rattle.face_cuts.specs.declared.new_ring.NewRing.{NewRing}
use Rattle.face_cuts.specs.declared.new_ring.Leaning.{Leaning}

-- arcs within the limits of a map
pub record AreLines (arcs : List BaseArc) : Type 0 where
  pub few : length arcs ≤ MAX_ARCS
  pub each : All (λ a. IsLine a.points) arcs

-- an arc within the limits, and a walk along others, which these are
pub record IsNewRing (arcs : List BaseArc) (ring : NewRing) : Type 0 where
  pub points : IsLine ring.points.now
  pub walk : IsRing (length arcs) ring.walk.now
  pub area : ring.area ≡ new_area (lines_of arcs) ring.points.now ring.walk.now
  pub columns : IfSome ring.columns (AreColumns (new_ring (lines_of arcs) ring.points.now ring.walk.now))

-- the first segment of an arc that is not vertical
abbrev pub leaning_of : List (List Point) → ℕ → Option Seg
leaning_of lines i = first_leaning (segments_of (slice_index_or lines i []))

-- a segment of an arc of the row, such that no arc of the row before that has one
pub record IsLeastOf (lines : List (List Point)) (row : List Side) (l : Leaning) : Type 0 where
  pub here : leaning_of lines l.arc ≡ Some l.segment
  pub leaning : IsLeaning l.segment
  pub among : list_any (λ s. s.span == l.arc) row ≡ true
  pub least : All (λ s. s.span < l.arc → leaning_of lines s.span ≡ None) row

-- the segment of least number that is not vertical, of the arcs of a row of sides
abbrev pub IsLeast : List (List Point) → List Side → Option Leaning → Type 0
IsLeast lines row None = All (λ s. leaning_of lines s.span ≡ None) row
IsLeast lines row (Some l) = IsLeastOf lines row l

-- by number, which sides of n spans are in a row
abbrev pub in_row : List Side → ℕ → Bool
in_row row i = list_any (λ s. side_number s == i) row

pub record AreNoted (n : ℕ) (row : List Side) (notes : List Bool) : Type 0 where
  pub long : length notes ≡ 2 * n
  pub each : (i : ℕ) (d : Bool) → i < 2 * n → get_or notes i d ≡ in_row row i

-- the face of a side afterwards, told by such notes
abbrev pub told_face : List BaseArc → ℕ → ℕ → List Bool → Side → ℕ
told_face arcs f new moved s = if (face_of (spans_of arcs) s == f) && get_or moved (side_number s) false then new else face_of (spans_of arcs) s

-- the arcs after a cut with this walk
abbrev pub cut_arcs : List BaseArc → ℕ → ℕ → List Point → List Side → List BaseArc
cut_arcs arcs f new points walk = with_faces (face_after arcs f new points walk) 0 arcs ++ record { left = new; right = f; points = points } ∷ []

-- the arcs after a cut between these sectors
abbrev pub arcs_between : List BaseArc → ℕ → ℕ → List Point → Side × Side → Result (List BaseArc) ℕ
arcs_between arcs f new points sectors = ok_or (walk_between (spans_of arcs) f sectors.0 sectors.1) 12 >>= λ walk. Ok (cut_arcs arcs f new points walk)

-- the arcs after a cut
abbrev pub arcs_after : List BaseArc → ℕ → ℕ → List Point → Result (List BaseArc) ℕ
arcs_after arcs f new points = ok_or (sectors_of (spans_of arcs) f points) 9 >>= λ sectors. arcs_between arcs f new points sectors

-- the points of a new arc: two at least, within the limits of a map, and all different
pub record IsNewLine (points : List Point) : Type 0 where
  pub line : IsLine points
  pub long : 2 ≤ length points
  pub limits : list_all in_limits points ≡ true
  pub different : all_different points ≡ true
