-- The parts of a face as its polygons.
use Rattle.std.proofs.Common.{◌≡◌, ℕ, suc, ◌+◌, ◌<◌, ◌≤◌, ◌==◌, ℤ, List, [], ◌∷◌, ◌++◌, length, get_or, map, filter, All, refl, sym, ap, ap₂, ◌∙◌, subst, arith}
use Rattle.std.specs.List.{range_with_len}
use Rattle.std.proofs.lemmas.List.{get_or-map, length-map, map-append}
use Rattle.std.proofs.lemmas.List.Elements.{All-cons, All-map, All-weaker}
use Rattle.std.proofs.lemmas.List.FromFn.{get_or-range_with_len, length-range_with_len}
use Rattle.tgap_model.specs.declared.geometry.Point.{Point}
use Rattle.tgap_model.specs.declared.slice.FaceRow.{FaceRow}
use Rattle.ring_walk.specs.declared.side.Side.{Side}
use Rattle.topo_write.specs.declared.part.Part.{Part}
use Rattle.topo_write.specs.Building.{AreGroups, AreHeld, HasPlaces, inner_places, outer_places, part_at, ring_at, ring_polygons, told}
use Rattle.topo_write.specs.Polygons.{Polygon, face_polygons, home_of, polygons_from}
use Rattle.topo_write.proofs.FaceGroups.{groups_within}
use Rattle.topo_write.proofs.NearHomes.{home_below}
use Rattle.topo_write.proofs.Places.{by_places, filter-map, inner_are, outer_are}
use Rattle.ring_walk.specs.Areas.{ring_area}

map-map : {A B C : Type 0} (f : B → C) (g : A → B) (xs : List A) → map f (map g xs) ≡ map (λ x. f (g x)) xs
map-map f g [] = refl
map-map {A} {B} {C} f g (x ∷ xs) = ap (λ (ys : List C). f (g x) ∷ ys) (map-map f g xs)

abbrev polygon : FaceRow → List Side → List (List Side) → Polygon
polygon row r rings = record { row = row; rings = r ∷ rings }

-- the polygons, told by their places
from_places : (row : FaceRow) (home : List Side → ℕ) (inner : List (List Side)) (tell : ℕ → Polygon) (j : ℕ) (outer : List (List Side))
    → ((k : ℕ) → k < length outer → tell (j + k) ≡ polygon row (get_or outer k []) (filter (λ i. home i == j + k) inner))
    → map tell (range_with_len j (length outer)) ≡ polygons_from row home inner j outer
from_places row home inner tell j [] h = refl
from_places row home inner tell j (r ∷ outer) h =
    let e : j ≡ j + 0 = omega arith in
    ap₂ (λ (p : Polygon) (ps : List Polygon). p ∷ ps)
    (ap tell e ∙ h 0 (omega arith) ∙ ap (λ (n : ℕ). polygon row (r) (filter (λ i. home i == n) inner)) (sym e))
    (from_places row home inner tell (j + 1) outer (λ k l. let f : j + 1 + k ≡ j + suc k = omega arith in
    ap tell f ∙ h (suc k) (omega (arith, l)) ∙ ap (λ (n : ℕ). polygon row (get_or outer k []) (filter (λ i. home i == n) inner)) (sym f)))

-- the inner rings that belong to outer ones, from their homes
pub held_from : (lines : List (List Point)) (rings : List (List Side)) (outer inner homes : List ℕ) (held : List (List ℕ)) → homes ≡ map (λ p. home_of lines (map (ring_at rings) outer) (ring_at rings p)) inner
    → length outer ≤ length held → AreGroups homes (length homes) held → AreHeld lines rings outer inner held
held_from lines rings outer inner homes held e count groups =
    let home = λ (p : ℕ). home_of lines (map (ring_at rings) outer) (ring_at rings p) in
    let long : length homes ≡ length inner = ap length e ∙ length-map inner home in
    record {
      count = count;
      each = λ j l. ap (map (λ i. get_or inner i 0)) (groups j (omega (arith, l, count)))
          ∙ ap₂ (λ (hs : List ℕ) (n : ℕ). map (λ k. get_or inner k 0) (filter (λ k. get_or hs k 0 == j) (range_with_len 0 n))) e long
          ∙ by_places home inner 0 j;
      within = groups_within (length inner) homes held long groups;
    }

-- the homes are places of outer rings
pub homes_below : (lines : List (List Point)) (rings : List (List Side)) (outer inner homes : List ℕ) → homes ≡ map (λ p. home_of lines (map (ring_at rings) outer) (ring_at rings p)) inner → (n : ℕ) → 0 < n → length outer ≤ n
    → All (λ k. k < n) homes
homes_below lines rings outer inner homes e n some few =
    let long : length (map (ring_at rings) outer) ≡ length outer = length-map outer (ring_at rings) in
    subst (All (λ k. k < n)) (sym e)
    (All-map (λ k. k < n) (λ p. home_of lines (map (ring_at rings) outer) (ring_at rings p)) inner
    (λ k d l. home_below lines (map (ring_at rings) outer) (ring_at rings (get_or inner k d)) n some (omega (arith, few, long))))

-- The parts of a face, from its outer rings and what they hold.
pub parts_told : (lines : List (List Point)) (row : FaceRow) (rings : List (List Side)) (outer inner : List ℕ) (held : List (List ℕ)) → AreHeld lines rings outer inner held
    → map (told rings) (map (part_at row outer inner held) (range_with_len 0 (length outer))) ≡ ring_polygons lines row (map (ring_at rings) outer) (map (ring_at rings) inner)
parts_told lines row rings outer inner held holds =
    let os = map (ring_at rings) outer in
    let many : length outer ≡ length os = sym (length-map outer (ring_at rings)) in
    map-map (told rings) (part_at row outer inner held) (range_with_len 0 (length outer))
    ∙ ap (λ (n : ℕ). map (λ j. told rings (part_at row outer inner held j)) (range_with_len 0 n)) many
    ∙ from_places row (home_of lines os) (map (ring_at rings) inner) (λ j. told rings (part_at row outer inner held j)) 0 os
    (λ k l. let e : 0 + k ≡ k = omega arith in
    ap (λ (n : ℕ). told rings (part_at row outer inner held n)) e
    ∙ ap₂ (polygon row) (sym (get_or-map (ring_at rings) outer k 0 [] (omega (arith, l, many))))
    (ap (map (ring_at rings)) (holds.each k (omega (arith, l, many))) ∙ sym (filter-map (λ i. home_of lines os i == k) (ring_at rings) inner))
    ∙ ap (λ (n : ℕ). polygon row (get_or os k []) (filter (λ i. home_of lines os i == n) (map (ring_at rings) inner))) (sym e))

-- the parts that are appended
pub pushed_told : (lines : List (List Point)) (row : FaceRow) (rings : List (List Side)) (outer inner : List ℕ) (held : List (List ℕ)) (old new : List Part) → AreHeld lines rings outer inner held
    → new ≡ old ++ map (part_at row outer inner held) (range_with_len 0 (length outer))
    → map (told rings) new ≡ map (told rings) old ++ ring_polygons lines row (map (ring_at rings) outer) (map (ring_at rings) inner)
pushed_told lines row rings outer inner held old new holds pushed =
    ap (map (told rings)) pushed ∙ map-append (told rings) old (map (part_at row outer inner held) (range_with_len 0 (length outer)))
    ∙ ap (λ (ps : List Polygon). map (told rings) old ++ ps) (parts_told lines row rings outer inner held holds)

-- the polygons of a face, from the places of its outer and inner rings
pub face_is : (lines : List (List Point)) (row : FaceRow) (rings : List (List Side)) (areas : List ℤ) (places outer inner : List ℕ) → areas ≡ map (ring_area lines) rings → All (λ p. p < length rings) places
    → outer ≡ outer_places areas places → inner ≡ inner_places areas places
    → ring_polygons lines row (map (ring_at rings) outer) (map (ring_at rings) inner) ≡ face_polygons lines row (map (ring_at rings) places)
face_is lines row rings areas places outer inner measured within eo ei =
    ap₂ (ring_polygons lines row) (ap (map (ring_at rings)) eo ∙ outer_are lines rings areas places measured within) (ap (map (ring_at rings)) ei ∙ inner_are lines rings areas places measured within)

-- each place in these parts is that of a ring
pub parts_within : (n : ℕ) (row : FaceRow) (outer inner : List ℕ) (held : List (List ℕ)) → All (λ p. p < n) outer → All (λ p. p < n) inner → All (All (λ k. k < length inner)) held → length outer ≤ length held
    → All (HasPlaces n) (map (part_at row outer inner held) (range_with_len 0 (length outer)))
parts_within n row outer inner held out ins hs long =
    All-map (HasPlaces n) (part_at row outer inner held) (range_with_len 0 (length outer)) each
  where
    one : (k : ℕ) → k < length outer → HasPlaces n (part_at row outer inner held k)
    one k l =
        All-cons (λ p. p < n) (get_or outer k 0) (map (λ i. get_or inner i 0) (get_or held k [])) (out k 0 l)
        (All-map (λ p. p < n) (λ i. get_or inner i 0) (get_or held k [])
        (All-weaker (λ i. i < length inner) (λ i. get_or inner i 0 < n) (λ i m. ins i 0 m) (get_or held k []) (hs k [] (omega (arith, l, long)))))

    each : All (λ k. HasPlaces n (part_at row outer inner held k)) (range_with_len 0 (length outer))
    each i d l =
        let short : i < length outer = omega (arith, l, length-range_with_len 0 (length outer)) in
        let e : i ≡ get_or (range_with_len 0 (length outer)) i d = omega (arith, get_or-range_with_len 0 (length outer) i d short) in
        subst (λ k. HasPlaces n (part_at row outer inner held k)) e (one i short)
