-- A ring that is turned round has its face where it was: each place takes the same side for the same face.
use Rattle.std.proofs.Common.{◌≡◌, ◌≢◌, ℕ, Bool, true, false, cond, not, nat_lt, List, [], ◌∷◌, ◌++◌, length, ℤ, pos, negsuc, neg_ℤ, ◌+ℤ◌, int_lt, refl, sym, ap, ◌∙◌, arith}
use Rattle.std.proofs.Math.Bool.{not-not}
use Rattle.std.proofs.lemmas.Int.{ints}
use Rattle.tgap_model.specs.declared.geometry.Point.{Point}
use Rattle.tgap_model.specs.Point.{shoelace}
use Rattle.topology_forms.specs.Rings.{points_named, shoelace_named, ring_area}
use Rattle.ring_sides.specs.FaceRings.{is_on_left, is_left_of}
use Rattle.ring_sides.specs.Places.{Taking}
use Rattle.ring_sides.specs.Turned.{turned_index, turned, TurnedRingsTakeTheSame}

turned_shoelace : (arcs : List (List Point)) (i : ℤ) → shoelace_named arcs (turned_index i) ≡ neg_ℤ (shoelace_named arcs i)
turned_shoelace arcs (pos n) = refl
turned_shoelace arcs (negsuc n) = twice (shoelace (points_named arcs (negsuc n)))
  where
    twice : (z : ℤ) → z ≡ neg_ℤ (neg_ℤ z)
    twice z = omega (arith, ints)

area_push : (arcs : List (List Point)) (ring : List ℤ) (i : ℤ) → ring_area arcs (ring ++ i ∷ []) ≡ ring_area arcs ring +ℤ shoelace_named arcs i
area_push arcs [] i = omega (arith, ints)
area_push arcs (j ∷ ring) i = omega (arith, ints, area_push arcs ring i)

-- its area has the other sign
pub turned_area : (arcs : List (List Point)) (ring : List ℤ) → ring_area arcs (turned ring) ≡ neg_ℤ (ring_area arcs ring)
turned_area arcs [] = refl
turned_area arcs (i ∷ ring) = omega (arith, ints, area_push arcs (turned ring) (turned_index i), turned_area arcs ring, turned_shoelace arcs i)

-- the other sign of a number that is not 0
other_sign : (z : ℤ) → z ≢ pos 0 → int_lt (pos 0) (neg_ℤ z) ≡ not (int_lt (pos 0) z)
other_sign z some = grind (arith, ints, some)

turned_on_left : (arcs : List (List Point)) (exterior : Bool) (ring : List ℤ) → ring_area arcs ring ≢ pos 0 → is_on_left arcs exterior (turned ring) ≡ not (is_on_left arcs exterior ring)
turned_on_left arcs exterior ring wide =
    ap (λ (b : Bool). cond b exterior (not exterior)) (ap (int_lt (pos 0)) (turned_area arcs ring) ∙ other_sign (ring_area arcs ring) wide) ∙ by (int_lt (pos 0) (ring_area arcs ring)) exterior
  where
    by : (positive outer : Bool) → cond (not positive) outer (not outer) ≡ not (cond positive outer (not outer))
    by true outer = refl
    by false outer = sym (not-not outer)

turned_left_of : (arcs : List (List Point)) (exterior : Bool) (ring : List ℤ) (i : ℤ) → ring_area arcs ring ≢ pos 0
    → is_left_of arcs exterior (turned ring) (turned_index i) ≡ is_left_of arcs exterior ring i
turned_left_of arcs exterior ring (pos n) wide = ap not (turned_on_left arcs exterior ring wide) ∙ not-not (is_on_left arcs exterior ring)
turned_left_of arcs exterior ring (negsuc n) wide = turned_on_left arcs exterior ring wide

-- what a place takes of an arc with these points
abbrev side_of : List Point → ℕ → ℕ → Bool → List Taking
side_of points a f left = cond (nat_lt (length points) 2) [] (record { arc = a; left = left; face = f } ∷ [])

-- a place of the ring takes what it took
pub turned_takes : TurnedRingsTakeTheSame
turned_takes arcs ring (pos n) wide = ap (side_of (points_named arcs (pos n)) n ring.face) (turned_left_of arcs ring.exterior ring.indexes (pos n) wide)
turned_takes arcs ring (negsuc n) wide = ap (side_of (points_named arcs (negsuc n)) n ring.face) (turned_left_of arcs ring.exterior ring.indexes (negsuc n) wide)
