-- A face that is cut, by the sides that go over.
use Rattle.std.proofs.Common.{◌≡◌, ◌∙◌, ℕ, ◌+◌, Bool, true, false, ◌-◌, nat_lt, List, [], ◌∷◌, ◌++◌, length, Some, Result, Ok, Err, refl, sym, ap}
use Rattle.tgap_model.specs.declared.geometry.Point.{Point}
use Rattle.tgap_model.specs.declared.base.BaseArc.{BaseArc}
use Rattle.tgap_model.specs.Base.{BaseMap}
use Rattle.ring_walk.specs.declared.side.Side.{Side}
use Rattle.line_forms.specs.Json.{ensured}
use Rattle.line_forms.specs.Lines.{◌>>=◌}
use Rattle.edit_laws.specs.Edits.{cut_named, named}
use Rattle.edit_laws.proofs.Cases.{by_test}
use Rattle.face_cuts.specs.Outcomes.{◌>>=◌ as ◌then◌, has_room}
use Rattle.face_cuts.specs.Fusions.{is_face}
use Rattle.face_cuts.specs.Cuts.{are_free, cut_face}
use Rattle.face_cuts.specs.Moves.{cut_off_sides, divided_arcs}
use Rattle.face_cuts.proofs.CutCalls.{cuts_move}
use Rattle.map_version.specs.Indexed.{cut_arcs}

-- the map with these arcs and a new last class
abbrev pub cut_map : BaseMap → ℕ → List BaseArc → BaseMap
cut_map m k arcs = record m { classes = m.classes ++ k ∷ []; arcs = arcs }

-- a limit would be passed
pub cut_full : (m : BaseMap) (f k : ℕ) (points : List Point) → is_face m f ≡ true → nat_lt k (length m.rules.weights) ≡ true → has_room m 1 1 (length points) ≡ false
    → cut_face m f k points ≡ Err 11
unfolding cut_face
cut_full m f k points face class full = rw (face, class, full) refl

-- a point is not free
pub cut_taken : (m : BaseMap) (f k : ℕ) (points : List Point) → is_face m f ≡ true → nat_lt k (length m.rules.weights) ≡ true → has_room m 1 1 (length points) ≡ true
    → are_free m.arcs points ≡ false → cut_face m f k points ≡ Err 10
unfolding cut_face
cut_taken m f k points face class room taken = rw (face, class, room, taken) refl

-- the arcs that are made, and then the map
pub cut_by : (m : BaseMap) (f k : ℕ) (points : List Point) → is_face m f ≡ true → nat_lt k (length m.rules.weights) ≡ true → has_room m 1 1 (length points) ≡ true
    → are_free m.arcs points ≡ true → cut_face m f k points ≡ (cut_arcs m.arcs f (length m.classes + 1) points >>= λ arcs. Ok (cut_map m k arcs))
cut_by m f k points face class room free = cuts_move m f k points face class room free ∙ by (cut_off_sides m.arcs f points)
  where
    by : (r : Result (List Side) ℕ) → (r then λ moved. Ok (cut_map m k (divided_arcs m.arcs f (length m.classes + 1) points moved)))
        ≡ ((r >>= λ moved. Ok (divided_arcs m.arcs f (length m.classes + 1) points moved)) >>= λ arcs. Ok (cut_map m k arcs))
    by (Ok moved) = refl
    by (Err cause) = refl

-- what is left of a cut of a face that there is, where these tests tell whether there is room and whether the points are free
abbrev pub cut_chain : BaseMap → ℕ → ℕ → List Point → Bool → Bool → Result BaseMap ℕ
cut_chain m f k points room free =
    ensured room 11 >>= λ r. ensured free 10 >>= λ u. cut_arcs m.arcs f (length m.classes + 1) points >>= λ arcs. Ok (cut_map m k arcs)

pub cut_is : (m : BaseMap) (f k : ℕ) (points : List Point) → is_face m f ≡ true → nat_lt k (length m.rules.weights) ≡ true
    → cut_face m f k points ≡ cut_chain m f k points (has_room m 1 1 (length points)) (are_free m.arcs points)
cut_is m f k points face class =
    by_test (has_room m 1 1 (length points))
    (λ room. by_test (are_free m.arcs points)
    (λ free.
    cut_by m f k points face class room free
    ∙ sym (ap (λ (b : Bool). cut_chain m f k points b (are_free m.arcs points)) room ∙ ap (λ (b : Bool). cut_chain m f k points true b) free))
    (λ taken.
    cut_taken m f k points face class room taken
    ∙ sym (ap (λ (b : Bool). cut_chain m f k points b (are_free m.arcs points)) room ∙ ap (λ (b : Bool). cut_chain m f k points true b) taken)))
    (λ full. cut_full m f k points face class full ∙ sym (ap (λ (b : Bool). cut_chain m f k points b (are_free m.arcs points)) full))

-- by the words of the line
pub cut_to : (m : BaseMap) (face class : List ℕ) (points : List Point) (f k : ℕ) → named 1 (length m.classes) face ≡ Some f → named 0 (length m.rules.weights - 1) class ≡ Some k
    → cut_named m face class points ≡ cut_face m f k points
unfolding cut_named
cut_to m face class points f k e h = rw (e, h) refl
