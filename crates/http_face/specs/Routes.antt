-- The routes: what a method and a target ask for.
use Rattle.std.specs.Prelude.{ℕ, zero, suc, ◌==◌, ◌&&◌, nat_lt, List, [], ◌∷◌, length, codes, bytes_eq, Option, Some, None, unwrap_or, if◌then◌else◌, Bool, true, false}
use Rattle.std.specs.List.{slice_split, before_first}
use Rattle.std.specs.Int.Signed.{le_z}
use Rattle.std.specs.Str.{is_utf8}
use Rattle.tgap_model.specs.declared.geometry.Window.{Window}
use Rattle.line_forms.specs.Words.{Row, ◌>>=◌, after_word, count_at}
use Rattle.line_forms.specs.ListingLines.{coordinate_at}
use Rattle.http_face.specs.declared.request.Allow.{Allow}
use Rattle.http_face.specs.declared.request.Allow.TheVariants.{Get, Post}
use Rattle.http_face.specs.declared.request.Resource.{Resource}
use Rattle.http_face.specs.declared.request.Resource.TheVariants as resource
use Rattle.http_face.specs.declared.request.Route.{Route}
use Rattle.http_face.specs.declared.request.Route.TheVariants as route

-- ---- the table

-- the first word of a path
abbrev pub word_of : Resource → List ℕ
word_of resource.Info = codes "info"
word_of resource.Pin = codes "pin"
word_of resource.PinSeen = codes "pin"
word_of resource.Slice = codes "slice"
word_of resource.Packet = codes "packet"
word_of resource.Window = codes "window"
word_of resource.Topo = codes "topo"
word_of resource.WindowPacket = codes "window-packet"
word_of resource.Edit = codes "edit"

-- how many parameters follow, each after a slash
abbrev pub parameter_count : Resource → ℕ
parameter_count resource.Info = 0
parameter_count resource.Pin = 0
parameter_count resource.PinSeen = 1
parameter_count resource.Slice = 1
parameter_count resource.Packet = 2
parameter_count resource.Window = 5
parameter_count resource.Topo = 1
parameter_count resource.WindowPacket = 6
parameter_count resource.Edit = 0

-- the method that it takes
abbrev pub method_of : Resource → Allow
method_of resource.Info = Get
method_of resource.Pin = Post
method_of resource.PinSeen = Post
method_of resource.Slice = Get
method_of resource.Packet = Get
method_of resource.Window = Get
method_of resource.Topo = Get
method_of resource.WindowPacket = Get
method_of resource.Edit = Post

-- the rows of the table
abbrev pub resources : List Resource
resources = resource.Info ∷ resource.Pin ∷ resource.PinSeen ∷ resource.Slice ∷ resource.Packet ∷ resource.Window ∷ resource.Topo
    ∷ resource.WindowPacket ∷ resource.Edit ∷ []

-- how a method is written
abbrev pub method_word : Allow → List ℕ
method_word Get = codes "GET"
method_word Post = codes "POST"

-- ---- the path

-- The path of a target: what stands before its first question mark. It is not decoded.
abbrev pub path_of : List ℕ → List ℕ
path_of target = before_first (λ b. b == 63) target

-- what stands between the slashes of a path
abbrev pub segments_of : List ℕ → Row
segments_of path = slice_split (λ b. b == 47) path

-- so many parameters, each of at least one byte
abbrev pub are_parameters : ℕ → Row → Bool
are_parameters zero [] = true
are_parameters zero (p ∷ parameters) = false
are_parameters (suc n) [] = false
are_parameters (suc n) (p ∷ parameters) = nat_lt 0 (length p) && are_parameters n parameters

-- the parameters of a path of this row: nothing before the first slash, then the row's word, then as many as the row has
abbrev pub parameters_of : Resource → Row → Option Row
parameters_of r segments = do
  front ← after_word [] segments
  parameters ← after_word (word_of r) front
  if are_parameters (parameter_count r) parameters then Some parameters else None

-- the row of these that the path is of, with its parameters
abbrev pub find_in : List Resource → Row → Option (Resource × Row)
find_in [] segments = None
find_in (r ∷ rows) segments =
    elim (parameters_of r segments) [ None ↦ find_in rows segments | Some parameters ↦ Some (r, parameters) ]

-- ---- the request

-- the ends of the window are in order
abbrev pub is_ordered : Window → Bool
is_ordered w = le_z w.x0 w.x1 && le_z w.y0 w.y1

-- the window that the next parameters spell, whose ends are in order
abbrev pub window_at : Row → Option Window
window_at parameters = do
  x0 ← coordinate_at parameters
  y0 ← coordinate_at x0.1
  x1 ← coordinate_at y0.1
  y1 ← coordinate_at x1.1
  let area : Window = record { x0 = x0.0; y0 = y0.0; x1 = x1.0; y1 = y1.0 } in if is_ordered area then Some area else None

-- What the parameters of a row spell, all in canonical decimal: versions and steps, of which none is above 4,294,967,295, and
-- coordinates within the limits.
abbrev pub read_parameters : Resource → Row → Option Route
read_parameters resource.Info parameters = Some route.Info
read_parameters resource.Pin parameters = Some route.Pin
read_parameters resource.PinSeen parameters = do
  seen ← count_at parameters
  Some (route.PinSeen seen.0)
read_parameters resource.Slice parameters = do
  step ← count_at parameters
  Some (route.Slice step.0)
read_parameters resource.Packet parameters = do
  from ← count_at parameters
  to ← count_at from.1
  Some (route.Packet from.0 to.0)
read_parameters resource.Window parameters = do
  step ← count_at parameters
  area ← window_at step.1
  Some (route.Window step.0 area)
read_parameters resource.Topo parameters = do
  step ← count_at parameters
  Some (route.Topo step.0)
read_parameters resource.WindowPacket parameters = do
  from ← count_at parameters
  to ← count_at from.1
  area ← window_at to.1
  Some (route.WindowPacket from.0 to.0 area)
read_parameters resource.Edit parameters = Some route.Edit

-- what a path of this row asks for: another method goes before a number that is out of form
abbrev pub request_of : List ℕ → Resource → Row → Route
request_of method r parameters =
    if bytes_eq method (method_word (method_of r)) then unwrap_or (read_parameters r parameters) route.BadNumber
    else route.WrongMethod (method_of r)

abbrev pub route_of_path : List ℕ → List ℕ → Route
route_of_path method path =
    elim (find_in resources (segments_of path)) [ None ↦ route.NoRoute | Some found ↦ request_of method found.0 found.1 ]

-- What a method and a target ask for. Where the target is no UTF-8, it is of no route.
abbrev pub route_of : List ℕ → List ℕ → Route
route_of method target = if is_utf8 target then route_of_path method (path_of target) else route.NoRoute
