-- The tree of a topology is read as it was told.
use Rattle.std.proofs.Common.{◌≡◌, ℕ, zero, suc, ◌^◌, ◌<◌, ◌≤◌, nat_lt, nat_le, Bool, true, false, not, cond, ◌&&◌, if◌then◌else◌, List, [], ◌∷◌, ◌++◌, length, map, sum_by, count_by, get_or, All, Option, Some, None, option_map, option_and_then, Result, Ok, refl, sym, ap, ap₂, ◌∙◌, append_assoc, append-nil, arith}
use Rattle.std.specs.Prelude.{ℤ, pos, negsuc, ◌+ℤ◌, ◌-ℤ◌, neg_ℤ, unsigned_abs, codes, decimal}
use Rattle.std.specs.List.{list_all}
use Rattle.std.proofs.lemmas.Bool.{and_parts, le-leb}
use Rattle.std.proofs.lemmas.Bool.Decides.{nat_tests}
use Rattle.std.proofs.lemmas.Int.{ints}
use Rattle.std.proofs.lemmas.List.{length-map}
use Rattle.std.proofs.lemmas.List.Elements.{All-head, All-tail}
use Rattle.lemmas.proofs.Counts.{count_by-cons}
use Rattle.serde_json.specs.Data.{Data}
use Rattle.serde_json.specs.Find.{as_i64}
use Rattle.serde_json.specs.View.{items_of}
use Rattle.tgap_model.specs.declared.geometry.Point.{Point}
use Rattle.tgap_model.specs.declared.base.Transform.{Transform}
use Rattle.tgap_model.specs.declared.fault.MapFault.{MapFault}
use Rattle.tgap_model.specs.declared.limits.TheConstants.{MAX_COORDINATE, MAX_ARCS, MAX_POINTS, MAX_FACES}
use Rattle.tgap_model.specs.Base.{within, is_word, is_transform, in_limits, same_point, no_repeat}
use Rattle.ring_walk.specs.declared.side.Side.{Side}
use Rattle.ring_walk.specs.declared.side.Way.{Way}
use Rattle.ring_walk.specs.declared.side.Way.TheVariants.{Along, Against}
use Rattle.ring_walk.specs.Sides.{origin}
use Rattle.ring_walk.specs.Spans.{IsSide}
use Rattle.line_forms.specs.Lines.{◌>>=◌, next_number}
use Rattle.line_forms.specs.Json.{list_of, each_of, try_fold, whole_of}
use Rattle.topology_forms.specs.Topology.{word_of, ArcSoFar, position_read, arc_read, names_arc, index_read, ring_read, polygon_read, Walk, no_geometries, geometry_read, has_ring, topology_of, ring_of, rings_of}
use Rattle.topo_write.specs.Polygons.{Polygon}
use Rattle.topo_write.specs.Topology.{num_of, list, pair, deltas, arc_data, index_by, index_data, ring_data, polygon_data, collection_data}
use Rattle.topo_laws.specs.Told.{index_of, indexes_of, after_rings, told_from, IsTellableLine, IsTellablePolygon, TreesAreRead}

-- ---- lists and numbers

list_told : (ds : List Data) → list_of (items_of ds) ≡ ds
list_told [] = refl
list_told (d ∷ ds) = ap (λ es. d ∷ es) (list_told ds)

-- a whole number of 64 bits is read
number_told : (z : ℤ) → unsigned_abs z < 2 ^ 63 → as_i64 (num_of z) ≡ Some z
number_told (pos n) h =
    let test : nat_lt n (2 ^ 63) ≡ true = grind (arith, nat_tests) in
    ap (λ (b : Bool). if b then Some (pos n) else None) test
number_told (negsuc n) h = refl

pub word_small : (z : ℤ) → is_word z ≡ true → unsigned_abs z < 2 ^ 63
word_small (pos n) h = grind (arith, ints)
word_small (negsuc n) h = grind (arith, ints)

coordinate_small : (z : ℤ) → within (neg_ℤ MAX_COORDINATE) MAX_COORDINATE z ≡ true → unsigned_abs z ≤ 2147483648
coordinate_small (pos n) h = grind (arith, ints)
coordinate_small (negsuc n) h = grind (arith, ints)

word_told : (z : ℤ) → is_word z ≡ true → word_of (num_of z) ≡ Some z
word_told z h =
    ap (λ (o : Option ℤ). option_and_then (λ x. if is_word x then Some x else None) o) (number_told z (word_small z h))
    ∙ ap (λ (b : Bool). if b then Some z else None) h

each_told : {A B : Type 0} (read : Data → Option B) (f : A → Data) (g : A → B) (xs : List A) → All (λ x. read (f x) ≡ Some (g x)) xs → each_of read (map f xs) ≡ Some (map g xs)
each_told read f g [] h = refl
each_told {A} {B} read f g (x ∷ xs) h =
    ap₂ (λ (o : Option B) (os : Option (List B)). option_and_then (λ y. option_map (λ ys. y ∷ ys) os) o)
    (All-head (λ y. read (f y) ≡ Some (g y)) x xs h) (each_told read f g xs (All-tail (λ y. read (f y) ≡ Some (g y)) x xs h))

-- ---- arcs

pub near_difference : (p q : ℤ) → within (neg_ℤ MAX_COORDINATE) MAX_COORDINATE p ≡ true → within (neg_ℤ MAX_COORDINATE) MAX_COORDINATE q ≡ true → unsigned_abs (p -ℤ q) < 2 ^ 63
near_difference p q h k = let a = coordinate_small p h in let b = coordinate_small q k in omega (arith, ints)

back_again : (p q : ℤ) → q +ℤ (p -ℤ q) ≡ p
back_again p q = omega (arith, ints)

-- points that can be told one after the other, where so many were told and the last one is here
abbrev Tells : ℕ → Point → List Point → Type 0
Tells c at [] = Unit {0}
Tells c at (p ∷ points) =
    ((nat_lt 0 c && same_point at p) ≡ false) × (in_limits at ≡ true) × (in_limits p ≡ true) × Tells (next_number c) p points

tells_line : (c : ℕ) (p : Point) (points : List Point) → in_limits p ≡ true → list_all in_limits points ≡ true → no_repeat (p ∷ points) ≡ true → Tells c p points
tells_line c p [] near h k = tt
tells_line c p (q ∷ points) near h k =
    let parts = and_parts (not (same_point p q)) (no_repeat (q ∷ points)) k in
    let limits = and_parts (in_limits q) (list_all in_limits points) h in
    (apart (nat_lt 0 c) (same_point p q) parts.0, near, limits.0, tells_line (next_number c) q points limits.0 limits.1 parts.1)
  where
    apart : (a b : Bool) → not b ≡ true → (a && b) ≡ false
    apart true true e = sym e
    apart true false e = refl
    apart false b e = refl

abbrev count_after : ℕ → List Point → ℕ
count_after c [] = c
count_after c (p ∷ points) = count_after (next_number c) points

two_kept : (c : ℕ) (points : List Point) → 2 ≤ c → 2 ≤ count_after c points
two_kept c [] h = h
two_kept c (p ∷ points) h = two_kept (next_number c) points (omega (arith, h))

abbrev last_told : Point → List Point → Point
last_told at [] = at
last_told at (p ∷ points) = last_told p points

abbrev so_far : ℕ → Point → List Point → ArcSoFar
so_far c at points = record { count = c; at = at; points = points }

position_told : (a c : ℕ) (at p : Point) (points : List Point) → (nat_lt 0 c && same_point at p) ≡ false → in_limits at ≡ true → in_limits p ≡ true
    → position_read true a (so_far c at points) (pair (p.x -ℤ at.x) (p.y -ℤ at.y)) ≡ Ok (so_far (next_number c) p (points ++ p ∷ []))
unfolding position_read
position_told a c at p points apart here there =
    let low = and_parts (within (neg_ℤ MAX_COORDINATE) MAX_COORDINATE at.x) (within (neg_ℤ MAX_COORDINATE) MAX_COORDINATE at.y) here in
    let high = and_parts (within (neg_ℤ MAX_COORDINATE) MAX_COORDINATE p.x) (within (neg_ℤ MAX_COORDINATE) MAX_COORDINATE p.y) there in
    let x = number_told (p.x -ℤ at.x) (near_difference p.x at.x high.0 low.0) in
    let y = number_told (p.y -ℤ at.y) (near_difference p.y at.y high.1 low.1) in
    let back_x = back_again p.x at.x in
    let back_y = back_again p.y at.y in
    rw (x, y, back_x, back_y, there, apart) refl

positions_told : (a c : ℕ) (at : Point) (front points : List Point) → Tells c at points
    → try_fold (position_read true a) (so_far c at front) (deltas at points) ≡ Ok (so_far (count_after c points) (last_told at points) (front ++ points))
positions_told a c at front [] h = ap (λ ps. Ok (so_far c at ps)) (sym (append-nil front))
positions_told a c at front (p ∷ points) h =
    ap (λ (r : Result ArcSoFar MapFault). r >>= λ next. try_fold (position_read true a) next (deltas p points)) (position_told a c at p front h.0 h.1 h.2)
    ∙ positions_told a (next_number c) p (front ++ p ∷ []) points h.3
    ∙ ap (λ ps. Ok (so_far (count_after (next_number c) points) (last_told p points) ps)) (append_assoc front (p ∷ []) points)

long_told : (points : List Point) → 2 ≤ length points → nat_le 2 (count_after 0 points) ≡ true
long_told [] h = absurd (omega (arith, h))
long_told (p ∷ []) h = absurd (omega (arith, h))
long_told (p ∷ q ∷ points) h = le-leb 2 (count_after 2 points) (two_kept 2 points (omega arith))

tells_first : (points : List Point) → IsTellableLine points → Tells 0 origin points
tells_first [] h = tt
tells_first (p ∷ points) h =
    let near = and_parts (in_limits p) (list_all in_limits points) h.near in
    (refl, refl, near.0, tells_line 1 p points near.0 near.1 h.steps)

arc_told : (arcs : List (List Point)) (points : List Point) → IsTellableLine points → arc_read true arcs (arc_data points) ≡ Ok (arcs ++ points ∷ [])
unfolding arc_read
arc_told arcs points h =
    let read = positions_told (length arcs) 0 origin [] points (tells_first points h) in
    let two = long_told points h.long in
    rw (list_told (deltas origin points), read, two) refl

arcs_told : (arcs lines : List (List Point)) → All IsTellableLine lines → try_fold (arc_read true) arcs (map arc_data lines) ≡ Ok (arcs ++ lines)
arcs_told arcs [] h = ap Ok (sym (append-nil arcs))
arcs_told arcs (points ∷ lines) h =
    ap (λ (r : Result (List (List Point)) MapFault). r >>= λ next. try_fold (arc_read true) next (map arc_data lines)) (arc_told arcs points (All-head IsTellableLine points lines h))
    ∙ arcs_told (arcs ++ points ∷ []) lines (All-tail IsTellableLine points lines h)
    ∙ ap Ok (append_assoc arcs (points ∷ []) lines)

-- ---- rings

index_told : (n : ℕ) (s : Side) → IsSide n s → n ≤ 2 ^ 32 → whole_of (index_data s) ≡ Some (index_of s)
index_told n s l few = by s.way
  where
    by : (w : Way) → as_i64 (num_of (index_by w s.span)) ≡ Some (index_by w s.span)
    by Along = number_told (pos s.span) (omega (arith, l, few))
    by Against = refl

ring_told : (n : ℕ) (ring : List Side) → All (IsSide n) ring → n ≤ 2 ^ 32 → ring_of (ring_data ring) ≡ Some (map index_of ring)
ring_told n ring h few =
    ap (λ ds. each_of whole_of ds) (list_told (map index_data ring))
    ∙ each_told whole_of index_data index_of ring (λ k d l. index_told n (get_or ring k d) (h k d l) few)

rings_told : (n : ℕ) (rings : List (List Side)) → All (All (IsSide n)) rings → n ≤ 2 ^ 32 → rings_of (list (map ring_data rings)) ≡ Some (indexes_of rings)
rings_told n rings h few =
    ap (λ ds. each_of ring_of ds) (list_told (map ring_data rings))
    ∙ each_told ring_of ring_data (map index_of) rings (λ k d l. ring_told n (get_or rings k d) (h k d l) few)

along_named : (n k : ℕ) → k < n → names_arc n (pos k) ≡ true
along_named zero k l = absurd (omega (arith, l))
along_named (suc n) k l = grind (arith, ints)

against_named : (n k : ℕ) → k < n → names_arc n (negsuc k) ≡ true
against_named zero k l = absurd (omega (arith, l))
against_named (suc n) k l = grind (arith, ints)

pub named : (n : ℕ) (s : Side) → IsSide n s → names_arc n (index_of s) ≡ true
named n s l = by s.way
  where
    by : (w : Way) → names_arc n (index_by w s.span) ≡ true
    by Along = along_named n s.span l
    by Against = against_named n s.span l

-- every index names an arc
places_told : (n r place : ℕ) (ring : List Side) → All (IsSide n) ring → (m : ℕ) × (try_fold (index_read n r) place (map index_of ring) ≡ Ok m)
unfolding index_read
places_told n r place [] h = (place, refl)
places_told n r place (s ∷ ring) h =
    let rest = places_told n r (next_number place) ring (All-tail (IsSide n) s ring h) in
    (rest.0, rw (named n s (All-head (IsSide n) s ring h)) rest.1)

ring_is_read : (n r : ℕ) (ring : List Side) → All (IsSide n) ring → ring_read n r (map index_of ring) ≡ Ok (next_number r)
unfolding ring_read
ring_is_read n r ring h = let m = places_told n r 0 ring h in rw m.1 refl

rings_are_read : (n r : ℕ) (rings : List (List Side)) → All (All (IsSide n)) rings → try_fold (ring_read n) r (indexes_of rings) ≡ Ok (after_rings r rings)
rings_are_read n r [] h = refl
rings_are_read n r (ring ∷ rings) h =
    ap (λ (o : Result ℕ MapFault). o >>= λ next. try_fold (ring_read n) next (indexes_of rings)) (ring_is_read n r ring (All-head (All (IsSide n)) ring rings h))
    ∙ rings_are_read n (next_number r) rings (All-tail (All (IsSide n)) ring rings h)

-- ---- geometries

-- the walk after a polygon, and after several
abbrev after_polygon : Walk → Polygon → Walk
after_polygon walk p = record {
  geometries = next_number walk.geometries;
  rings = after_rings walk.rings p.rings;
  polygons = walk.polygons ++ record { kind = Some (decimal p.row.class); first_ring = walk.rings; rings = indexes_of p.rings } ∷ [];
}

abbrev after_polygons : Walk → List Polygon → Walk
after_polygons walk [] = walk
after_polygons walk (p ∷ polygons) = after_polygons (after_polygon walk p) polygons

polygons_after : (walk : Walk) (polygons : List Polygon) → (after_polygons walk polygons).polygons ≡ walk.polygons ++ told_from walk.rings polygons
polygons_after walk [] = sym (append-nil walk.polygons)
polygons_after walk (p ∷ polygons) =
    polygons_after (after_polygon walk p) polygons
    ∙ append_assoc walk.polygons (record { kind = Some (decimal p.row.class); first_ring = walk.rings; rings = indexes_of p.rings } ∷ []) (told_from (after_rings walk.rings p.rings) polygons)

polygon_told : (depth n : ℕ) (walk : Walk) (p : Polygon) → IsTellablePolygon n p → n ≤ 2 ^ 32 → geometry_read (suc depth) n (codes "class") walk (polygon_data p) ≡ Ok (after_polygon walk p)
unfolding geometry_read polygon_read
polygon_told depth n walk p h few =
    let rings = rings_told n p.rings h.sides few in
    let read = rings_are_read n walk.rings p.rings h.sides in
    let class : nat_lt p.row.class (2 ^ 63) ≡ true = let c = h.class in grind (arith, nat_tests) in
    rw (rings, read, class) refl

polygons_told : (depth n : ℕ) (walk : Walk) (polygons : List Polygon) → All (IsTellablePolygon n) polygons → n ≤ 2 ^ 32
    → try_fold (geometry_read (suc depth) n (codes "class")) walk (map polygon_data polygons) ≡ Ok (after_polygons walk polygons)
polygons_told depth n walk [] h few = refl
polygons_told depth n walk (p ∷ polygons) h few =
    ap (λ (o : Result Walk MapFault). o >>= λ next. try_fold (geometry_read (suc depth) n (codes "class")) next (map polygon_data polygons))
    (polygon_told depth n walk p (All-head (IsTellablePolygon n) p polygons h) few)
    ∙ polygons_told depth n (after_polygon walk p) polygons (All-tail (IsTellablePolygon n) p polygons h) few

abbrev met_first : Walk
met_first = record { geometries = 1; rings = 0; polygons = [] }

collection_told : (depth n : ℕ) (polygons : List Polygon) → All (IsTellablePolygon n) polygons → n ≤ 2 ^ 32
    → geometry_read (suc (suc depth)) n (codes "class") no_geometries (collection_data polygons) ≡ Ok (after_polygons met_first polygons)
unfolding geometry_read
collection_told depth n polygons h few =
    let members = list_told (map polygon_data polygons) in
    let read = polygons_told depth n met_first polygons h few in
    rw (members) read

-- ---- the whole

have_rings : (r n : ℕ) (polygons : List Polygon) → All (IsTellablePolygon n) polygons → count_by has_ring (told_from r polygons) ≤ length polygons
have_rings r n [] h = omega arith
have_rings r n (p ∷ polygons) h =
    let rest = have_rings (after_rings r p.rings) n polygons (All-tail (IsTellablePolygon n) p polygons h) in
    let one = count_by-cons has_ring (record { kind = Some (decimal p.row.class); first_ring = r; rings = indexes_of p.rings }) (told_from (after_rings r p.rings) polygons) in
    let most = at_most_one (has_ring (record { kind = Some (decimal p.row.class); first_ring = r; rings = indexes_of p.rings })) in
    omega (arith, rest, one, most)
  where
    at_most_one : (b : Bool) → cond b 1 0 ≤ 1
    at_most_one true = omega arith
    at_most_one false = omega arith

pub are_words : (t : Transform) → is_transform t ≡ true → (is_word t.sx ≡ true) × (is_word t.sy ≡ true) × (is_word t.tx ≡ true) × (is_word t.ty ≡ true)
unfolding is_transform
are_words t h =
    let first = and_parts (is_word t.sx && is_word t.sy && is_word t.tx) (is_word t.ty) h in
    let second = and_parts (is_word t.sx && is_word t.sy) (is_word t.tx) first.0 in
    let third = and_parts (is_word t.sx) (is_word t.sy) second.0 in
    (third.0, third.1, second.1, first.1)

pub trees_are_read : TreesAreRead
unfolding topology_of
trees_are_read t lines polygons h =
    let n = length lines in
    let arcs = h.arcs in
    let few : n ≤ 2 ^ 32 = omega (arith, arcs) in
    let words = are_words t h.transform in
    let sx = word_told t.sx words.0 in
    let sy = word_told t.sy words.1 in
    let tx = word_told t.tx words.2 in
    let ty = word_told t.ty words.3 in
    let few_arcs = le-leb (length (map arc_data lines)) MAX_ARCS (omega (arith, arcs, length-map lines arc_data)) in
    let read = arcs_told [] lines h.each_line in
    let few_points = le-leb (sum_by length lines) MAX_POINTS h.points in
    let geometry = collection_told 126 n polygons h.each_polygon few in
    let all : (after_polygons met_first polygons).polygons ≡ told_from 0 polygons = polygons_after met_first polygons in
    let parts = h.parts in
    let few_faces = le-leb (count_by has_ring (told_from 0 polygons)) MAX_FACES (omega (arith, have_rings 0 n polygons h.each_polygon, parts)) in
    rw (list_told (map arc_data lines), sx, sy, tx, ty, few_arcs, read, few_points, geometry, all, few_faces) refl
