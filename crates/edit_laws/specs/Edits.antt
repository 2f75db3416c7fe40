-- Edits of a base map: a batch of lines, each applied to the map that the lines before it left, up to the first at fault.
use Rattle.std.specs.Prelude.{ℕ, ◌-◌, ◌==◌, ◌&&◌, ◌||◌, Bool, false, not, nat_lt, unsigned_abs, pos, List, [], ◌∷◌, map, length, set, codes, bytes_eq, Option, Some, None, option_map, unwrap_or, Result, Ok, Err, if◌then◌else◌}
use Rattle.std.specs.Char.{is_ascii_digit}
use Rattle.std.specs.List.{list_all, list_any}
use Rattle.std.specs.Option.{ok_or}
use Rattle.tgap_model.specs.declared.geometry.Point.{Point}
use Rattle.tgap_model.specs.declared.base.BaseArc.{BaseArc}
use Rattle.tgap_model.specs.declared.limits.TheConstants.{MAX_COORDINATE, MAX_POINTS}
use Rattle.tgap_model.specs.Base.{BaseMap, same_point, count_points}
use Rattle.line_forms.specs.Texts.{number_of, rows_of}
use Rattle.line_forms.specs.Words.{Row, ◌>>=◌ as ◌then◌, natural_at, ended}
use Rattle.line_forms.specs.Lines.{◌>>=◌, next_number, is_over}
use Rattle.line_forms.specs.ListingLines.{coordinate_at, points_at}
use Rattle.line_forms.specs.Json.{ensured}
pub use Rattle.face_cuts.specs.Nodes.{is_node, with_points}
use Rattle.face_cuts.specs.Nodes.{add_node}
use Rattle.face_cuts.specs.Fusions.{fuse_faces}
use Rattle.face_cuts.specs.Cuts.{cut_face}

-- ---- how a line is read

-- An edit, as a line tells it. Of faces and a class there are the words that name them.
pub data Edit : Type 0 where
  Class : List ℕ → List ℕ → Edit
  Move : Point → Point → Edit
  Add : Point → Point → Point → Edit
  Drop : Point → Edit
  Node : Point → Edit
  Cut : List ℕ → List ℕ → List Point → Edit
  Fuse : List ℕ → List ℕ → Edit

-- digits, of which the first is 0 only where it stands alone
abbrev pub is_numeral : List ℕ → Bool
is_numeral [] = false
is_numeral (d ∷ ds) = list_all is_ascii_digit (d ∷ ds) && (not (d == 48) || (length ds == 0))

-- a number of any size in canonical decimal: a numeral, or a minus before one that is not 0
abbrev pub is_decimal : List ℕ → Bool
is_decimal [] = false
is_decimal (b ∷ bs) = if b == 45 then is_numeral bs && not (bytes_eq bs (codes "0")) else is_numeral (b ∷ bs)

-- the next word, a number of any size
abbrev pub decimal_at : Row → Option (List ℕ × Row)
decimal_at [] = None
decimal_at (w ∷ row) = if is_decimal w then Some (w, row) else None

-- the next two words, the coordinates of a point within the limits
abbrev pub point_at : Row → Option (Point × Row)
point_at row = coordinate_at row then λ x. coordinate_at x.1 then λ y. Some (record { x = x.0; y = y.0 }, y.1)

-- the lines by what stands after their first word
abbrev pub read_class : Row → Option Edit
read_class row = decimal_at row then λ face. decimal_at face.1 then λ class. ended (Class face.0 class.0) class.1

abbrev pub read_move : Row → Option Edit
read_move row = point_at row then λ old. point_at old.1 then λ new. ended (Move old.0 new.0) new.1

abbrev pub read_add : Row → Option Edit
read_add row = point_at row then λ a. point_at a.1 then λ b. point_at b.1 then λ new. ended (Add a.0 b.0 new.0) new.1

abbrev pub read_drop : Row → Option Edit
read_drop row = point_at row then λ old. ended (Drop old.0) old.1

abbrev pub read_node : Row → Option Edit
read_node row = point_at row then λ at. ended (Node at.0) at.1

-- how many points the new arc has, from 2 to 65,535, and then just so many points
abbrev pub arc_at : Row → Option (List Point × Row)
arc_at row = natural_at 2 65535 row then λ count. points_at MAX_COORDINATE count.0 count.1

abbrev pub read_cut : Row → Option Edit
read_cut row = decimal_at row then λ face. decimal_at face.1 then λ class. arc_at class.1 then λ arc. ended (Cut face.0 class.0 arc.0) arc.1

abbrev pub read_fuse : Row → Option Edit
read_fuse row = decimal_at row then λ kept. decimal_at kept.1 then λ gone. ended (Fuse kept.0 gone.0) gone.1

-- the edit that a line tells, where it is of one of the seven forms
abbrev pub read_edit : Row → Option Edit
read_edit [] = None
read_edit (w ∷ row) =
    if bytes_eq w (codes "class") then read_class row
    else if bytes_eq w (codes "move") then read_move row
    else if bytes_eq w (codes "add") then read_add row
    else if bytes_eq w (codes "drop") then read_drop row
    else if bytes_eq w (codes "node") then read_node row
    else if bytes_eq w (codes "cut") then read_cut row
    else if bytes_eq w (codes "fuse") then read_fuse row
    else None

-- ---- the points of a base

-- some arc has the point
abbrev pub has_point : Point → List BaseArc → Bool
has_point p arcs = list_any (λ a. list_any (same_point p) a.points) arcs

-- every point that is the one becomes the other
abbrev pub moved : Point → Point → Point → Point
moved old new p = if same_point old p then new else p

abbrev pub move_all : Point → Point → List BaseArc → List BaseArc
move_all old new arcs = map (λ a. with_points a (map (moved old new) a.points)) arcs

-- the two points in a row are these, in either order
abbrev pub are_ends : Point → Point → Point → Point → Bool
are_ends a b p q = (same_point a p && same_point b q) || (same_point a q && same_point b p)

-- the points with one more in the first segment that has these ends
abbrev pub put_between : Point → Point → Point → List Point → Option (List Point)
put_between a b new [] = None
put_between a b new (p ∷ []) = None
put_between a b new (p ∷ q ∷ points) =
    if are_ends a b p q then Some (p ∷ new ∷ q ∷ points) else option_map (λ rest. p ∷ rest) (put_between a b new (q ∷ points))

-- the points without the first inner one that is this
abbrev pub take_out : Point → List Point → Option (List Point)
take_out old [] = None
take_out old (p ∷ []) = None
take_out old (p ∷ q ∷ []) = None
take_out old (p ∷ q ∷ r ∷ points) =
    if same_point old q then Some (p ∷ r ∷ points) else option_map (λ rest. p ∷ rest) (take_out old (q ∷ r ∷ points))

-- the points before and after that one
abbrev pub neighbours : Point → List Point → Option (Point × Point)
neighbours old [] = None
neighbours old (p ∷ []) = None
neighbours old (p ∷ q ∷ []) = None
neighbours old (p ∷ q ∷ r ∷ points) = if same_point old q then Some (p, r) else neighbours old (q ∷ r ∷ points)

-- what is found in the points of the first arc that has it
abbrev pub first_found : {A : Type 0} → (List Point → Option A) → List BaseArc → Option A
first_found find [] = None
first_found find (a ∷ arcs) = elim (find a.points) [ None ↦ first_found find arcs | Some x ↦ Some x ]

-- the arcs with other points in the first one in which there is something to change
abbrev pub change_first : (List Point → Option (List Point)) → List BaseArc → Option (List BaseArc)
change_first change [] = None
change_first change (a ∷ arcs) =
    elim (change a.points) [ None ↦ option_map (λ rest. a ∷ rest) (change_first change arcs) | Some points ↦ Some (with_points a points ∷ arcs) ]

-- the first inner point that is this stands between two equal ones
abbrev pub turns_back : Point → List BaseArc → Bool
turns_back old arcs = elim (first_found (neighbours old) arcs) [ None ↦ false | Some beside ↦ same_point beside.0 beside.1 ]

-- the arcs without the first inner point that is this
abbrev pub without : Point → List BaseArc → List BaseArc
without old arcs = unwrap_or (change_first (take_out old) arcs) arcs

-- ---- what an edit does, or the number of the cause for which it is refused

-- the number from least to most that a word names
abbrev pub named : ℕ → ℕ → List ℕ → Option ℕ
named least most word = option_map unsigned_abs (number_of (pos least) (pos most) word)

unfoldable pub set_class : BaseMap → List ℕ → List ℕ → Result BaseMap ℕ
set_class m face class = do
  f ← ok_or (named 1 (length m.classes) face) 2
  k ← ok_or (named 0 (length m.rules.weights - 1) class) 2
  Ok (record m { classes = set m.classes (f - 1) k })

unfoldable pub move_point : BaseMap → Point → Point → Result BaseMap ℕ
move_point m old new = do
  there ← ensured (has_point old m.arcs) 3
  free ← ensured (not (has_point new m.arcs)) 4
  Ok (record m { arcs = move_all old new m.arcs })

unfoldable pub add_point : BaseMap → Point → Point → Point → Result BaseMap ℕ
add_point m a b new = do
  arcs ← ok_or (change_first (put_between a b new) m.arcs) 5
  free ← ensured (not (has_point new m.arcs)) 4
  room ← ensured (nat_lt (count_points m.arcs) MAX_POINTS) 8
  Ok (record m { arcs = arcs })

unfoldable pub drop_point : BaseMap → Point → Result BaseMap ℕ
drop_point m old = do
  there ← ensured (has_point old m.arcs) 3
  inner ← ensured (not (is_node old m.arcs)) 6
  apart ← ensured (not (turns_back old m.arcs)) 7
  Ok (record m { arcs = without old m.arcs })

-- a cut of the face that a word names, by an arc with these points; the new face has the class that another word names
unfoldable pub cut_named : BaseMap → List ℕ → List ℕ → List Point → Result BaseMap ℕ
cut_named m face class points = do
  f ← ok_or (named 1 (length m.classes) face) 2
  k ← ok_or (named 0 (length m.rules.weights - 1) class) 2
  cut_face m f k points

-- a fusion of the faces that two words name, by which the second one becomes a part of the first
unfoldable pub fuse_named : BaseMap → List ℕ → List ℕ → Result BaseMap ℕ
fuse_named m kept gone = do
  f ← ok_or (named 1 (length m.classes) kept) 2
  g ← ok_or (named 1 (length m.classes) gone) 2
  fuse_faces m f g

abbrev pub apply : BaseMap → Edit → Result BaseMap ℕ
apply m (Class face class) = set_class m face class
apply m (Move old new) = move_point m old new
apply m (Add a b new) = add_point m a b new
apply m (Drop old) = drop_point m old
apply m (Node at) = add_node m at
apply m (Cut face class points) = cut_named m face class points
apply m (Fuse kept gone) = fuse_named m kept gone

-- a line that is of no form is cause 1
abbrev pub apply_line : BaseMap → Row → Result BaseMap ℕ
apply_line m row = ok_or (read_edit row) 1 >>= apply m

-- ---- a batch

-- the cause, with the number of its line
abbrev pub at_line : {A : Type 0} → ℕ → Result A ℕ → Result A (ℕ × ℕ)
at_line n (Ok x) = Ok x
at_line n (Err cause) = Err (n, cause)

-- The map after these lines, of which the first has number n. What stands after the last line feed is no line: it is empty.
abbrev pub edit_rows : ℕ → List Row → BaseMap → Result BaseMap (ℕ × ℕ)
edit_rows n [] m = Ok m
edit_rows n (rest ∷ []) m = if is_over (rest ∷ []) then Ok m else Err (n, 1)
edit_rows n (row ∷ next ∷ rows) m = at_line n (apply_line m row) >>= λ edited. edit_rows (next_number n) (next ∷ rows) edited

-- the edited base map, or the first line at fault by its number, from 1, and the cause
abbrev pub edited : BaseMap → List ℕ → Result BaseMap (ℕ × ℕ)
edited m batch = edit_rows 1 (rows_of batch) m
