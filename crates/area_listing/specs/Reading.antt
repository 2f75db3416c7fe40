-- What the steps of reading a listing answer, beside the definitions of what is read.
use Rattle.std.specs.Prelude.{◌≡◌, ℕ, ℤ, List, ◌++◌, Option, Some, None, Result, Ok, Err}
use Rattle.tgap_model.specs.declared.fault.MapFault.{MapFault}
use Rattle.tgap_model.specs.declared.failure.Or.{Or}
use Rattle.tgap_model.specs.declared.geometry.Point.{Point}
use Rattle.tgap_model.specs.Base.{BaseMap}
use Rattle.line_forms.specs.Words.{Row, ◌>>=◌}
use Rattle.line_forms.specs.Lines.{Lines}
use Rattle.line_forms.specs.ListingLines.{coordinate_to}
use Rattle.plain_io.specs.Taking.{Refuses}
use Rattle.area_listing.specs.declared.row.ArcHead.{ArcHead}
use Rattle.area_listing.specs.declared.MapParts.{MapParts}

-- a point, of two coordinates from -most to most
abbrev pub point_at : ℤ → Row → Option (Point × Row)
point_at most row = do
  x ← coordinate_to most row
  y ← coordinate_to most x.1
  Some (record { x = x.0; y = y.0 }, y.1)

-- the head of an arc that was read, and what is left, or that there is none
abbrev pub ReadsHead : Option ArcHead → Row → Option ((ℕ × ℕ × ℕ) × Row) → Type 0
ReadsHead (Some head) rest read = read ≡ Some ((head.left, head.right, head.count), rest)
ReadsHead None rest read = read ≡ None

-- a class that was read, with the compatibilities put after those before
abbrev pub class_onto : {F : Type 0} → List ℕ → Result ((ℕ × List ℕ) × Lines) F → Result ((List ℕ × ℕ) × Lines) F
class_onto front (Ok x) = Ok ((front ++ x.0.1, x.0.0), x.1)
class_onto front (Err f) = Err f

-- the map of these parts
abbrev pub map_of : MapParts → BaseMap
map_of p = record { transform = p.transform; rules = p.rules; classes = p.classes; arcs = p.arcs }

-- the parts of the map that was read, and what is left, or the fault
abbrev pub GivesParts : Result MapParts (Or MapFault) → Lines → Result (BaseMap × Lines) MapFault → Type 0
GivesParts (Ok parts) rest read = read ≡ Ok (map_of parts, rest)
GivesParts (Err e) rest read = Refuses e read
