-- From the rings of a topology to the sides of its arcs: the base map that a topology and its rules make.
use Rattle.std.specs.Prelude.{ℕ, ◌+◌, ◌-◌, ◌^◌, ℤ, pos, negsuc, neg_ℤ, ◌+ℤ◌, int_lt, nat_le, nat_lt, ◌==◌, bytes_eq, Bool, true, false, not, ◌&&◌, List, [], ◌∷◌, ◌++◌, length, map, sum_by, count_by, slice_index, slice_index_or, slice_set, Option, Some, None, Result, Ok, Err, if◌then◌else◌}
use Rattle.std.specs.Ordering.{int_eq}
use Rattle.std.specs.List.{list_all}
use Rattle.tgap_model.specs.declared.geometry.Point.{Point}
use Rattle.tgap_model.specs.declared.base.BaseArc.{BaseArc}
use Rattle.tgap_model.specs.declared.topology.NamedRules.{NamedRules}
use Rattle.tgap_model.specs.declared.topology.RawPolygon.{RawPolygon}
use Rattle.tgap_model.specs.declared.topology.RawMap.{RawMap}
use Rattle.tgap_model.specs.declared.fault.MapFault.{MapFault}
use Rattle.tgap_model.specs.declared.fault.MapFault.TheVariants.{RingOpen, RingFlat, SideTaken, SameSides}
use Rattle.tgap_model.specs.declared.limits.TheConstants.{MAX_ARCS, MAX_POINTS, MAX_FACES}
use Rattle.tgap_model.specs.Base.{BaseMap, same_point, in_limits, no_repeat}
use Rattle.tgap_model.specs.Point.{shoelace}
use Rattle.tgap_model.specs.Chains.{first_point, last_point}
use Rattle.line_forms.specs.Lines.{◌>>=◌, next_number}
use Rattle.line_forms.specs.Json.{ensured, try_fold}
use Rattle.map_forms.specs.RulesFile.{rules_of}
use Rattle.topology_forms.specs.Topology.{names_arc, has_ring, topology}

-- ---- an index of a ring

-- the number of the arc that an index names, and whether it is taken from its last point to its first
abbrev pub arc_named : ℤ → ℕ
arc_named (pos n) = n
arc_named (negsuc n) = n

abbrev pub is_reversed : ℤ → Bool
is_reversed (pos n) = false
is_reversed (negsuc n) = true

abbrev pub points_named : List (List Point) → ℤ → List Point
points_named arcs i = slice_index_or arcs (arc_named i) []

-- where the arc of an index starts and ends in its ring
abbrev pub start_named : List (List Point) → ℤ → Point
start_named arcs i = if is_reversed i then last_point (points_named arcs i) else first_point (points_named arcs i)

abbrev pub end_named : List (List Point) → ℤ → Point
end_named arcs i = if is_reversed i then first_point (points_named arcs i) else last_point (points_named arcs i)

-- what the arc of an index adds to the shoelace sum of its ring
abbrev pub shoelace_named : List (List Point) → ℤ → ℤ
shoelace_named arcs i = if is_reversed i then neg_ℤ (shoelace (points_named arcs i)) else shoelace (points_named arcs i)

-- ---- a ring

-- the first place, from this one on, with a gap between the end of its arc and the start of the arc after it; after the last
-- arc comes the first
abbrev pub open_from : List (List Point) → ℤ → ℕ → List ℤ → Option ℕ
open_from arcs first place [] = None
open_from arcs first place (i ∷ []) = if same_point (end_named arcs i) (start_named arcs first) then None else Some place
open_from arcs first place (i ∷ j ∷ ring) =
    if same_point (end_named arcs i) (start_named arcs j) then open_from arcs first (next_number place) (j ∷ ring) else Some place

abbrev pub open_place : List (List Point) → List ℤ → Option ℕ
open_place arcs [] = None
open_place arcs (i ∷ ring) = open_from arcs i 0 (i ∷ ring)

abbrev pub closed : ℕ → Option ℕ → Result (Unit {0}) MapFault
closed r (Some place) = Err (RingOpen r place)
closed r None = Ok tt

-- all positions of the ring are one point, or it has none
abbrev pub is_collapsed : List (List Point) → List ℤ → Bool
is_collapsed arcs [] = true
is_collapsed arcs (i ∷ ring) = list_all (λ j. list_all (same_point (start_named arcs i)) (points_named arcs j)) (i ∷ ring)

-- twice the area of the ring, positive where it is counter-clockwise
abbrev pub ring_area : List (List Point) → List ℤ → ℤ
ring_area arcs [] = pos 0
ring_area arcs (i ∷ ring) = shoelace_named arcs i +ℤ ring_area arcs ring

-- ---- sides

-- What the rings so far took: the class of each face, and the face at the left and at the right of each arc, 0 where no ring took it.
pub record Taken : Type 0 where
  pub classes : List ℕ
  pub left : List ℕ
  pub right : List ℕ

-- the side of an arc that is free is taken by face f
unfoldable pub side_taken : Bool → ℕ → ℕ → Taken → Result Taken MapFault
side_taken true a f taken =
    ensured (slice_index taken.left a == 0) (SideTaken a 0 (slice_index taken.left a) f)
    >>= λ free. Ok (record { classes = taken.classes; left = slice_set taken.left a f; right = taken.right })
side_taken false a f taken =
    ensured (slice_index taken.right a == 0) (SideTaken a 1 (slice_index taken.right a) f)
    >>= λ free. Ok (record { classes = taken.classes; left = taken.left; right = slice_set taken.right a f })

-- The next arc of a ring that has face f on its left, or else on its right. Of an arc of one point no side is taken.
abbrev pub index_taken : List (List Point) → Bool → ℕ → Taken → ℤ → Result Taken MapFault
index_taken arcs on_left f taken i =
    if nat_lt (length (points_named arcs i)) 2 then Ok taken
    else side_taken (if is_reversed i then not on_left else on_left) (arc_named i) f taken

-- Ring number r, of face f. An exterior ring has its face inside, and a hole has it outside: the inside is on the left of a
-- ring whose area is positive.
unfoldable pub ring_taken : List (List Point) → Bool → ℕ → ℕ → List ℤ → Taken → Result Taken MapFault
ring_taken arcs exterior f r ring taken = do
  whole ← closed r (open_place arcs ring)
  wide ← ensured (not (int_eq (ring_area arcs ring) (pos 0))) (RingFlat r)
  try_fold (index_taken arcs (if int_lt (pos 0) (ring_area arcs ring) then exterior else not exterior) f) taken ring

-- the holes of face f, of which this one has number r; one that is collapsed is passed over
abbrev pub holes_taken : List (List Point) → ℕ → ℕ → List (List ℤ) → Taken → Result Taken MapFault
holes_taken arcs f r [] taken = Ok taken
holes_taken arcs f r (ring ∷ rings) taken =
    (if is_collapsed arcs ring then Ok taken else ring_taken arcs false f r ring taken)
    >>= holes_taken arcs f (next_number r) rings

-- the class of this name: the first of that name, from number k on
abbrev pub class_from : ℕ → ℕ → List (List ℕ) → List ℕ → ℕ
class_from default k [] name = default
class_from default k (n ∷ names) name = if bytes_eq n name then k else class_from default (k + 1) names name

abbrev pub class_named : NamedRules → Option (List ℕ) → ℕ
class_named named None = named.default
class_named named (Some name) = class_from named.default 0 named.names name

-- a face more, of that class
abbrev pub with_face : ℕ → Taken → Taken
with_face k taken = record { classes = taken.classes ++ k ∷ []; left = taken.left; right = taken.right }

-- the next polygon is a face, unless its exterior is collapsed or it has none
unfoldable pub face_taken : List (List Point) → NamedRules → ℕ → Option (List ℕ) → List (List ℤ) → Taken → Result Taken MapFault
face_taken arcs named r kind [] taken = Ok taken
face_taken arcs named r kind (exterior ∷ holes) taken =
    if is_collapsed arcs exterior then Ok taken
    else (ring_taken arcs true (length taken.classes + 1) r exterior (with_face (class_named named kind) taken)
    >>= holes_taken arcs (length taken.classes + 1) (next_number r) holes)

abbrev pub polygon_taken : List (List Point) → NamedRules → Taken → RawPolygon → Result Taken MapFault
polygon_taken arcs named taken p = face_taken arcs named p.first_ring p.kind p.rings taken

abbrev pub nothing_taken : List (List Point) → Taken
nothing_taken arcs = record { classes = []; left = map (λ a. 0) arcs; right = map (λ a. 0) arcs }

-- ---- the arcs of the base map

-- the arcs from number a on, of which at least one side is taken; both sides by one face is a fault
abbrev pub sided_from : ℕ → List (List Point) → List ℕ → List ℕ → Result (List BaseArc) MapFault
sided_from a (points ∷ arcs) (l ∷ left) (r ∷ right) =
    if l == r then
    (ensured (l == 0) (SameSides a l) >>= λ free. sided_from (a + 1) arcs left right)
    else (sided_from (a + 1) arcs left right >>= λ more. Ok (record { left = l; right = r; points = points } ∷ more))
sided_from a arcs left right = Ok []

-- the base map of a topology and its rules, or the first fault of its rings
unfoldable pub based : RawMap → NamedRules → Result BaseMap MapFault
based raw named = do
  taken ← try_fold (polygon_taken raw.arcs named) (nothing_taken raw.arcs) raw.polygons
  arcs ← sided_from 0 raw.arcs taken.left taken.right
  Ok (record { transform = raw.transform; rules = named.rules; classes = taken.classes; arcs = arcs })

-- the base map of a map file that is a topology, with this object chosen, and of a rules file; or their first fault
unfoldable pub topology_base : List ℕ → List ℕ → List ℕ → Result BaseMap MapFault
topology_base map_bytes object rules_bytes = do
  named ← rules_of rules_bytes
  raw ← topology map_bytes object named.property
  based raw named

-- ---- what is known of a topology that was read

-- an arc: no position repeated, and all within the limits
abbrev pub is_raw_arc : List Point → Bool
is_raw_arc points = nat_le 1 (length points) && list_all in_limits points && no_repeat points

-- a ring: each index names one of n arcs, and the places have numbers of 32 bits
abbrev pub is_raw_ring : ℕ → List ℤ → Bool
is_raw_ring n ring = list_all (names_arc n) ring && nat_lt (length ring) (2 ^ 32 - 1)

-- The form of a topology that was read: its arcs, points and polygons are within their limits, and its indexes name arcs.
unfoldable pub is_raw_map : RawMap → Bool
is_raw_map raw =
    nat_le (length raw.arcs) MAX_ARCS && nat_le (sum_by length raw.arcs) MAX_POINTS
    && list_all is_raw_arc raw.arcs && nat_le (count_by has_ring raw.polygons) MAX_FACES
    && list_all (λ p. list_all (is_raw_ring (length raw.arcs)) p.rings) raw.polygons
