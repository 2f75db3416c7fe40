-- The plain listing of a base map: how it is spelled, and how it is read.
use Rattle.std.specs.Prelude.{◌≡◌, ℕ, zero, suc, ◌+◌, ◌-◌, ◌^◌, Bool, ◌&&◌, nat_le, List, [], ◌∷◌, ◌++◌, map, flat_map, take, drop, length, decimal, codes, IsTrue, Result, Ok, Err, if◌then◌else◌}
use Rattle.std.specs.List.{list_all}
use Rattle.std.specs.Option.{ok_or}
use Rattle.std.specs.Fmt.{signed_decimal}
use Rattle.tgap_model.specs.declared.geometry.Point.{Point}
use Rattle.tgap_model.specs.declared.base.Transform.{Transform}
use Rattle.tgap_model.specs.declared.base.Rules.{Rules}
use Rattle.tgap_model.specs.declared.base.BaseArc.{BaseArc}
use Rattle.tgap_model.specs.declared.fault.LimitKind.{LimitKind}
use Rattle.tgap_model.specs.declared.fault.LimitKind.TheVariants.{Classes, Faces, Arcs, Points}
use Rattle.tgap_model.specs.declared.fault.MapFault.{MapFault}
use Rattle.tgap_model.specs.declared.fault.MapFault.TheVariants.{BadLine, Limit}
use Rattle.tgap_model.specs.declared.limits.TheConstants.{MAX_RATIO}
use Rattle.tgap_model.specs.Base.{BaseMap, is_base, count_points, all_faces_bordered}
use Rattle.tgap_model.specs.Limits.{limit_of, limit_word}
use Rattle.line_forms.specs.Texts.{lines}
use Rattle.line_forms.specs.Words.{Row, read_words}
use Rattle.line_forms.specs.Lines.{Lines, ◌>>=◌, all_lines, line_at, read_line, is_over}
use Rattle.line_forms.specs.ListingLines.{read_transform, read_count, read_class, read_face, head_at, read_points}
use Rattle.map_forms.specs.declared.version.Version.{Version}
use Rattle.map_forms.specs.declared.version.Version.TheVariants.{Two}
use Rattle.map_forms.specs.Version.{coordinate_of, points_of, in_square, heading_words, read_heading}

-- ---- how a base map is spelled

abbrev pub transform_words : Transform → Row
transform_words t = codes "transform" ∷ signed_decimal t.sx ∷ signed_decimal t.sy ∷ signed_decimal t.tx ∷ signed_decimal t.ty ∷ []

-- a line of a keyword and one number
abbrev pub count_words : List ℕ → ℕ → Row
count_words keyword n = keyword ∷ decimal n ∷ []

-- the classes from number i on, of c in all: number, weight, and the compatibilities of the class as loser
abbrev pub class_rows : ℕ → ℕ → List ℕ → List ℕ → List Row
class_rows c i [] compat = []
class_rows c i (w ∷ weights) compat = (codes "class" ∷ decimal i ∷ decimal w ∷ map decimal (take c compat)) ∷ class_rows c (i + 1) weights (drop c compat)

-- the faces from number f on, each with its class
abbrev pub face_rows : ℕ → List ℕ → List Row
face_rows f [] = []
face_rows f (k ∷ classes) = (codes "face" ∷ decimal f ∷ decimal k ∷ []) ∷ face_rows (f + 1) classes

abbrev pub point_words : Point → Row
point_words p = signed_decimal p.x ∷ signed_decimal p.y ∷ []

-- left face, right face, number of points, and the points
abbrev pub arc_words : BaseArc → Row
arc_words a = codes "arc" ∷ decimal a.left ∷ decimal a.right ∷ decimal (length a.points) ∷ flat_map point_words a.points

-- the rows of a base map in a version
abbrev pub rows_in : Version → BaseMap → List Row
rows_in v m =
    heading_words v ∷ transform_words m.transform ∷ count_words (codes "ratio") m.rules.ratio
    ∷ count_words (codes "classes") (length m.rules.weights) ∷ class_rows (length m.rules.weights) 0 m.rules.weights m.rules.compat
    ++ (count_words (codes "faces") (length m.classes) ∷ face_rows 1 m.classes)
    ++ (count_words (codes "arcs") (length m.arcs) ∷ map arc_words m.arcs)
    ++ (codes "end" ∷ []) ∷ []

-- the listing of a base map in a version
abbrev pub text_in : Version → BaseMap → List ℕ
text_in v m = lines (rows_in v m)

-- the listing of a base map that is written: that of version 2
abbrev pub listing_text : BaseMap → List ℕ
listing_text m = text_in Two m

-- all points of the arc are within the coordinates of the version
abbrev pub all_inside : Version → BaseArc → Bool
all_inside v a = list_all (in_square (coordinate_of v)) a.points

-- the points of the map are within the coordinates of the version, and their number within its limit
abbrev pub keeps_to : Version → BaseMap → Bool
keeps_to v m = list_all (all_inside v) m.arcs && nat_le (count_points m.arcs) (points_of v)

-- The bytes are the listing of this base map in some version, within the limits of that version.
pub record IsListing (bytes : List ℕ) (m : BaseMap) : Type 0 where
  pub version : Version
  pub base : IsTrue (is_base m)
  pub limits : IsTrue (keeps_to version m)
  pub spelled : bytes ≡ text_in version m

-- ---- how a base map is read: line after line, up to the first that is not of its form
-- The limits of what is counted keep the number of each line that is asked for far below 2^32.

-- the fault of more than most of what is counted
abbrev pub at_most : LimitKind → ℕ → ℕ → Result (Unit {0}) MapFault
at_most which most n = if nat_le n most then Ok tt else Err (Limit which n)

-- the fault of a limit, where there are more than it allows
abbrev pub within_limit : LimitKind → ℕ → Result (Unit {0}) MapFault
within_limit which n = at_most which (limit_of which) n

-- a line that begins with the name of what is counted, and has the count, from least on; and then its limit
unfoldable pub count_line : LimitKind → ℕ → Lines → Result (ℕ × Lines) MapFault
count_line which least lines = do
  n ← read_line BadLine (read_count (limit_word which) least (2 ^ 32 - 1)) lines
  limited ← within_limit which n.0
  Ok n

-- n classes from number i on, of c in all: weights and compatibilities
unfoldable pub classes_at : ℕ → ℕ → ℕ → Lines → Result ((List ℕ × List ℕ) × Lines) MapFault
classes_at c i zero lines = Ok (([], []), lines)
classes_at c i (suc n) lines = do
  first ← read_line BadLine (read_class c i) lines
  more ← classes_at c (i + 1) n first.1
  Ok ((first.0.0 ∷ more.0.0, first.0.1 ++ more.0.1), more.1)

-- the ratio and the classes
unfoldable pub rules_at : Lines → Result (Rules × Lines) MapFault
rules_at lines = do
  ratio ← read_line BadLine (read_count (codes "ratio") 0 MAX_RATIO) lines
  c ← count_line Classes 1 ratio.1
  weighed ← classes_at c.0 0 c.0 c.1
  Ok (record { ratio = ratio.0; weights = weighed.0.0; compat = weighed.0.1 }, weighed.1)

-- the classes of n faces from number f on, where there are c classes
unfoldable pub faces_at : ℕ → ℕ → ℕ → Lines → Result (List ℕ × Lines) MapFault
faces_at c f zero lines = Ok ([], lines)
faces_at c f (suc n) lines = do
  first ← read_line BadLine (read_face c f) lines
  more ← faces_at c (f + 1) n first.1
  Ok (first.0 ∷ more.0, more.1)

-- the number of the faces, and the class of each
unfoldable pub all_faces_at : ℕ → Lines → Result (List ℕ × Lines) MapFault
all_faces_at c lines = do
  n ← count_line Faces 0 lines
  faces_at c 1 n.0 n.1

-- An arc of a map with n faces, after arcs with so many points. The limit of points comes before the points themselves.
unfoldable pub arc_at : Version → ℕ → ℕ → Lines → Result (BaseArc × Lines) MapFault
arc_at v n before lines = do
  line ← ok_or (line_at lines) (BadLine lines.number)
  head ← ok_or (head_at n line.0) (BadLine lines.number)
  limited ← at_most Points (points_of v) (before + head.0.2)
  points ← ok_or (read_points (coordinate_of v) head.0.2 head.1) (BadLine lines.number)
  Ok (record { left = head.0.0; right = head.0.1; points = points }, line.1)

-- m arcs of a map with n faces, after arcs with so many points
unfoldable pub arcs_at : Version → ℕ → ℕ → ℕ → Lines → Result (List BaseArc × Lines) MapFault
arcs_at v n before zero lines = Ok ([], lines)
arcs_at v n before (suc m) lines = do
  first ← arc_at v n before lines
  more ← arcs_at v n (before + length first.0.points) m first.1
  Ok (first.0 ∷ more.0, more.1)

-- the number of the arcs, and each arc
unfoldable pub all_arcs_at : Version → ℕ → Lines → Result (List BaseArc × Lines) MapFault
all_arcs_at v n lines = do
  m ← count_line Arcs 0 lines
  arcs_at v n 0 m.0 m.1

-- the map that is listed, up to its last line; the limits of its points are those of the version
unfoldable pub map_at : Lines → Result (BaseMap × Lines) MapFault
map_at lines = do
  version ← read_line BadLine read_heading lines
  transform ← read_line BadLine read_transform version.1
  rules ← rules_at transform.1
  classes ← all_faces_at (length rules.0.weights) rules.1
  arcs ← all_arcs_at version.0 (length classes.0) classes.1
  Ok (record { transform = transform.0; rules = rules.0; classes = classes.0; arcs = arcs.0 }, arcs.1)

-- the map, where each face has a border; where one has none, no line is of the form of the last one
abbrev pub bordered : BaseMap → ℕ → Result BaseMap MapFault
bordered m number = if all_faces_bordered (length m.classes) m.arcs then Ok m else Err (BadLine number)

-- the last line, and nothing after it
unfoldable pub end_at : Lines → Result (Unit {0}) MapFault
end_at lines = do
  last ← read_line BadLine (read_words (codes "end" ∷ [])) lines
  if is_over last.1.rows then Ok tt else Err (BadLine last.1.number)

-- the base map of which the bytes are the listing, or their first fault
unfoldable pub listing : List ℕ → Result BaseMap MapFault
listing bytes = do
  read ← map_at (all_lines bytes)
  base ← bordered read.0 read.1.number
  end ← end_at read.1
  Ok base
