-- The table of routes as the router keeps it.
use Rattle.std.specs.Prelude.{◌≡◌, ℕ, List, [], codes, Result, Ok, Err, None}
use Rattle.matchit.specs.Rows.{RowsOf}
use Rattle.matchit.specs.Order.{placed}
use Rattle.matchit.specs.Route.{Scan, parse_route}
use Rattle.matchit.specs.Router.{RouteOf, nearest, route_from}
use Rattle.http_face.specs.declared.request.Resource.{Resource}
use Rattle.http_face.specs.declared.request.Resource.TheVariants as resource

abbrev pub Rows : Type 0
Rows = RowsOf (RouteOf Resource)

-- the rows with one more, of this route's text
abbrev pub with_scan : {E : Type 0} → Result Scan E → Resource → Rows → Rows
with_scan (Ok s) r rows = placed (s.pattern, route_from s r) rows
with_scan (Err e) r rows = rows

abbrev pub with_row : List ℕ → Resource → Rows → Rows
with_row text r rows = with_scan (parse_route text) r rows

-- the rows of versions and of edits, put in one after the other
unfoldable pub version_rows : Rows
version_rows =
    with_row (codes "/edit") resource.Edit (
    with_row (codes "/pin/{seen}") resource.PinSeen (
    with_row (codes "/pin") resource.Pin (
    with_row (codes "/info") resource.Info [])))

-- the rows of the table: after those the rows of what is read of a map
unfoldable pub the_rows : Rows
the_rows =
    with_row (codes "/window-packet/{from}/{to}/{x0}/{y0}/{x1}/{y1}") resource.WindowPacket (
    with_row (codes "/topo/{step}") resource.Topo (
    with_row (codes "/window/{step}/{x0}/{y0}/{x1}/{y1}") resource.Window (
    with_row (codes "/packet/{from}/{to}") resource.Packet (
    with_row (codes "/slice/{step}") resource.Slice version_rows))))

-- the route can be read, and it conflicts with none of the rows
abbrev pub has_place : {E : Type 0} → Result Scan E → Rows → Type 0
has_place (Ok s) rows = nearest s.pattern rows ≡ None
has_place (Err e) rows = ⊥

abbrev pub HasPlace : List ℕ → Rows → Type 0
HasPlace text rows = has_place (parse_route text) rows

-- what the router says of this route, where its text can be read
abbrev pub entry_of : {E : Type 0} → Result Scan E → Resource → RouteOf Resource
entry_of (Ok s) r = route_from s r
entry_of (Err e) r = record { pattern = []; text = []; names = []; value = r }

abbrev pub entry : List ℕ → Resource → RouteOf Resource
entry text r = entry_of (parse_route text) r
