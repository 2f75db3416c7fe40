-- What rings take, step by step, beside the definitions of what they take.
use Rattle.std.specs.Prelude.{◌≡◌, ◌≤◌, ℕ, Bool, true, false, not, ℤ, pos, int_lt, ◌==◌, List, ◌++◌, length, slice_index, slice_set, Result, Ok, Err, if◌then◌else◌}
use Rattle.std.specs.Ordering.{int_eq}
use Rattle.tgap_model.specs.declared.geometry.Point.{Point}
use Rattle.tgap_model.specs.declared.fault.MapFault.{MapFault}
use Rattle.tgap_model.specs.declared.fault.MapFault.TheVariants.{RingFlat, SideTaken}
use Rattle.tgap_model.specs.declared.limits.TheConstants.{MAX_ARCS}
use Rattle.line_forms.specs.Lines.{◌>>=◌, next_number}
use Rattle.line_forms.specs.Json.{ensured}
use Rattle.topology_forms.specs.Rings.{Taken, closed, open_place, is_collapsed, ring_area, ring_taken, holes_taken}
use Rattle.ring_sides.specs.declared.side.RingKind.{RingKind}
use Rattle.ring_sides.specs.declared.side.RingKind.TheVariants.{Exterior, Hole}
use Rattle.ring_sides.specs.declared.side.Side.{Side}
use Rattle.ring_sides.specs.declared.side.Side.TheVariants.{Left, Right}

-- what a step leaves, or its fault; after a fault nothing is said of what is left
abbrev pub Leaves : {S F : Type 0} → Result (Unit {0}) F → S → Result S F → Type 0
Leaves (Ok done) after step = step ≡ Ok after
Leaves (Err fault) after step = step ≡ Err fault

abbrev pub is_exterior : RingKind → Bool
is_exterior Exterior = true
is_exterior Hole = false

abbrev pub is_left : Side → Bool
is_left Left = true
is_left Right = false

-- as a fault tells it
abbrev pub side_number : Side → ℕ
side_number Left = 0
side_number Right = 1

-- the side that was found, or the fault
abbrev pub GivesSide : Result Side MapFault → Result Bool MapFault → Type 0
GivesSide (Ok side) step = step ≡ Ok (is_left side)
GivesSide (Err fault) step = step ≡ Err fault

-- whether the face of a ring is on its left
abbrev pub ring_side : List (List Point) → Bool → ℕ → List ℤ → Result Bool MapFault
ring_side arcs exterior r ring = do
  whole ← closed r (open_place arcs ring)
  wide ← ensured (not (int_eq (ring_area arcs ring) (pos 0))) (RingFlat r)
  Ok (if int_lt (pos 0) (ring_area arcs ring) then exterior else not exterior)

-- the faces at one side of the arcs, with face f at that side of arc a, if it is free
abbrev pub place_taken : Side → ℕ → ℕ → List ℕ → Result (List ℕ) MapFault
place_taken side a f faces =
    if slice_index faces a == 0 then Ok (slice_set faces a f) else Err (SideTaken a (side_number side) (slice_index faces a) f)

-- there is a place for each side of n arcs, which are few
pub record HasSides (n : ℕ) (taken : Taken) : Type 0 where
  pub few : n ≤ MAX_ARCS
  pub left : length taken.left ≡ n
  pub right : length taken.right ≡ n

-- no face more, and as many places
pub record KeepsForm (before after : Taken) : Type 0 where
  pub classes : after.classes ≡ before.classes
  pub left : length after.left ≡ length before.left
  pub right : length after.right ≡ length before.right

-- a hole of face f; one that is collapsed is passed over
abbrev pub hole_taken : List (List Point) → ℕ → ℕ → List ℤ → Taken → Result Taken MapFault
hole_taken arcs f r ring taken = if is_collapsed arcs ring then Ok taken else ring_taken arcs false f r ring taken

-- the exterior of face f, with this number, and its holes after it
abbrev pub rings_taken : List (List Point) → ℕ → ℕ → List ℤ → List (List ℤ) → Taken → Result Taken MapFault
rings_taken arcs f r exterior holes taken = ring_taken arcs true f r exterior taken >>= holes_taken arcs f (next_number r) holes

-- the arcs before, and those that are still made, or their fault
abbrev pub in_front : {A F : Type 0} → List A → Result (List A) F → Result (List A) F
in_front front more = more >>= λ xs. Ok (front ++ xs)
