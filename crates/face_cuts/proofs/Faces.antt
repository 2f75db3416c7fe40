-- The arcs with faces that are told of their sides, arc by arc, and those after a cut.
use Rattle.std.proofs.Common.{◌≡◌, ℕ, ◌+◌, ◌*◌, ◌<◌, ◌==◌, Bool, false, ◌&&◌, List, [], ◌∷◌, ◌++◌, length, filter, get_or, take, All, Contains, refl, sym, ap, ap₂, ◌∙◌, true≢false, if◌then◌else◌, arith}
use Rattle.std.specs.List.{list_any}
use Rattle.std.proofs.lemmas.List.{take_more, length-take}
use Rattle.std.proofs.lemmas.List.Elements.{All-filter, filter_passes}
use Rattle.std.proofs.lemmas.List.Folds.{list_any_none, list_any-from_Any}
use Rattle.lemmas.proofs.Members.{Contains-filter}
use Rattle.tgap_model.specs.declared.geometry.Point.{Point}
use Rattle.tgap_model.specs.declared.base.BaseArc.{BaseArc}
use Rattle.ring_walk.specs.declared.side.Side.{Side}
use Rattle.ring_walk.specs.Sides.{face_of, same_side, side_number, sides}
use Rattle.ring_walk.specs.Spans.{IsSide}
use Rattle.ring_walk.proofs.SideNumbers.{all_sides_within, number_within, same_side-itself, same_side-true, sides_contain}
use Rattle.face_cuts.specs.Sectors.{spans_of}
use Rattle.face_cuts.specs.Cuts.{face_after, with_faces}
use Rattle.face_cuts.specs.Moves.{divided_arcs, face_with, is_moved, moved_sides}
use Rattle.face_cuts.specs.NewRings.{AreNoted, cut_arcs, told_face}
use Rattle.face_cuts.specs.Tables.{sides_beside}
use Rattle.face_cuts.proofs.Cases.{by_test, not_held}
use Rattle.face_cuts.proofs.OverRings.{in_row_is}
use Rattle.face_cuts.proofs.SpansOfArcs.{of_arc, of_span}
use Rattle.face_cuts.proofs.CutsKeep.{along, against, number_of}

pub faces_append : (face : Side → ℕ) (i : ℕ) (xs ys : List BaseArc) → with_faces face i (xs ++ ys) ≡ with_faces face i xs ++ with_faces face (i + length xs) ys
faces_append face i [] ys = let e : i ≡ i + 0 = omega arith in ap (λ j. with_faces face j ys) e
faces_append face i (x ∷ xs) ys =
    let e : i + 1 + length xs ≡ i + length (x ∷ xs) = omega arith in
    let new = record x { left = face (along i); right = face (against i) } in
    ap (λ zs. new ∷ zs) (faces_append face (i + 1) xs ys) ∙ ap (λ j. new ∷ with_faces face (i + 1) xs ++ with_faces face j ys) e

-- faces that agree on the sides of the arcs
pub faces_agree : (face other : Side → ℕ) (i : ℕ) (arcs : List BaseArc) → ((s : Side) → s.span < i + length arcs → face s ≡ other s) → with_faces face i arcs ≡ with_faces other i arcs
faces_agree face other i [] h = refl
faces_agree face other i (a ∷ arcs) h =
    ap₂ (λ (b : BaseArc) (bs : List BaseArc). b ∷ bs)
    (ap₂ (λ (l r : ℕ). record a { left = l; right = r }) (h (along i) (omega arith)) (h (against i) (omega arith)))
    (faces_agree face other (i + 1) arcs (λ s l. h s (omega (arith, l))))

-- one arc more
pub faces_more : (arcs : List BaseArc) (f new : ℕ) (moved : List Bool) (k : ℕ) (a b : BaseArc) (made more : List BaseArc) → k < length arcs → a ≡ get_or arcs k a
    → b.left ≡ (if (a.left == f) && get_or moved (2 * k) false then new else a.left) → b.right ≡ (if (a.right == f) && get_or moved (2 * k + 1) false then new else a.right) → b.points ≡ a.points
    → made ≡ with_faces (told_face arcs f new moved) 0 (take k arcs) → more ≡ made ++ b ∷ [] → more ≡ with_faces (told_face arcs f new moved) 0 (take (k + 1) arcs)
faces_more arcs f new moved k a b made more l here left right points so_far pushed =
    let face = told_face arcs f new moved in
    let sides = number_of arcs k a l in
    let here_left : (get_or arcs k a).left ≡ a.left = sym (ap (λ (x : BaseArc). x.left) here) in
    let here_right : (get_or arcs k a).right ≡ a.right = sym (ap (λ (x : BaseArc). x.right) here) in
    let first : 2 * k + 0 ≡ 2 * k = omega arith in
    let low : b.left ≡ face (along k) = left
    ∙ sym (ap₂ (λ (h : ℕ) (m : ℕ). if (h == f) && get_or moved m false then new else h) (sides.0 ∙ here_left) first) in
    let high : b.right ≡ face (against k) = right
    ∙ sym (ap (λ (h : ℕ). if (h == f) && get_or moved (2 * k + 1) false then new else h) (sides.1 ∙ here_right)) in
    let place : 0 + length (take k arcs) ≡ k = omega (arith, l, length-take k arcs) in
    let whole : b ≡ record a { left = face (along k); right = face (against k) } =
    ap₂ (λ (x y : ℕ). record { left = x; right = y; points = b.points }) low high ∙ ap (λ (ps : List Point). record { left = face (along k); right = face (against k); points = ps }) points in
    pushed ∙ ap₂ (λ (xs : List BaseArc) (x : BaseArc). xs ++ x ∷ []) so_far whole
    ∙ sym (
    ap (with_faces face 0) (take_more arcs k a l ∙ ap (λ (x : BaseArc). take k arcs ++ x ∷ []) (sym here))
    ∙ faces_append face 0 (take k arcs) (a ∷ [])
    ∙ ap (λ j. with_faces face 0 (take k arcs) ++ with_faces face j (a ∷ [])) place
    )

-- the faces that notes of the sides that go over tell
pub told_is : (arcs : List BaseArc) (f new : ℕ) (moved : List Side) (notes : List Bool) → AreNoted (length arcs) moved notes
    → with_faces (told_face arcs f new notes) 0 arcs ≡ with_faces (face_with arcs f new moved) 0 arcs
told_is arcs f new moved notes h =
    faces_agree (told_face arcs f new notes) (face_with arcs f new moved) 0 arcs (λ s l.
    let inside : IsSide (length arcs) s = omega (arith, l) in
    ap (λ (b : Bool). if (face_of (spans_of arcs) s == f) && b then new else face_of (spans_of arcs) s)
    (h.each (side_number s) false (number_within (length arcs) s inside) ∙ in_row_is moved s))

-- ---- the sides that go over, and no others

-- of the sides that a filter keeps, a side is one where it passes
kept_has : (p : Side → Bool) (xs : List Side) (s : Side) → Contains xs s → list_any (same_side s) (filter p xs) ≡ p s
kept_has p xs s c = by_test (p s)
    (λ e.
    let k = Contains-filter p xs s c e in
    list_any-from_Any (same_side s) (filter p xs) (k.0, s, k.1, k.2, same_side-itself s) ∙ sym e)
    (λ e.
    list_any_none (same_side s) (filter p xs) (λ k d l.
    let t = get_or (filter p xs) k d in
    not_held (same_side s t) (λ same.
    let is : s ≡ t = same_side-true s t same in
    true≢false (sym (filter_passes p xs k d l) ∙ ap p (sym is) ∙ e)))
    ∙ sym e)

-- the arcs with the sides that go over are those after the cut
pub divided_is : (arcs : List BaseArc) (f new : ℕ) (points : List Point) (walk : List Side) → divided_arcs arcs f new points (moved_sides arcs f points walk) ≡ cut_arcs arcs f new points walk
divided_is arcs f new points walk =
    let spans = spans_of arcs in
    let moved = moved_sides arcs f points walk in
    ap (λ (xs : List BaseArc). xs ++ record { left = new; right = f; points = points } ∷ [])
    (faces_agree (face_with arcs f new moved) (face_after arcs f new points walk) 0 arcs (λ s l. by_test (face_of spans s == f)
    (λ e.
    let inside : IsSide (length spans) s = of_span arcs s (omega (arith, l)) in
    let beside : Contains (sides_beside spans f) s = Contains-filter (λ t. face_of spans t == f) (sides (length spans)) s (sides_contain (length spans) s inside) e in
    ap (λ (b : Bool). if (face_of spans s == f) && b then new else face_of spans s) (kept_has (is_moved arcs points walk) (sides_beside spans f) s beside))
    (λ e. ap (λ (b : Bool). if b && list_any (same_side s) moved then new else face_of spans s) e
    ∙ sym (ap (λ (b : Bool). if b && is_moved arcs points walk s then new else face_of spans s) e))))

-- they are sides of the arcs
pub moved_within : (arcs : List BaseArc) (f : ℕ) (points : List Point) (walk : List Side) → All (IsSide (length arcs)) (moved_sides arcs f points walk)
moved_within arcs f points walk =
    let spans = spans_of arcs in
    let all = All-filter (is_moved arcs points walk) (IsSide (length spans)) (sides_beside spans f)
    (All-filter (λ s. face_of spans s == f) (IsSide (length spans)) (sides (length spans)) (all_sides_within (length spans))) in
    λ k d l. of_arc arcs (get_or (moved_sides arcs f points walk) k d) (all k d l)
