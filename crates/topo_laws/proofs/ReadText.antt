-- The text of a topology is read as its tree.
use Rattle.std.proofs.Common.{◌≡◌, ℕ, suc, ◌^◌, ◌<◌, ◌≤◌, Bool, true, false, if◌then◌else◌, List, [], ◌∷◌, ◌++◌, length, map, get_or, All, IsUtf8, Option, Some, None, option_map, option_and_then, refl, sym, ap, ap₂, ◌∙◌, append-nil, arith}
use Rattle.std.specs.Prelude.{ℤ, pos, negsuc, neg_ℤ, ◌-ℤ◌, unsigned_abs, codes, decimal}
use Rattle.std.proofs.lemmas.Fmt.{IsAscii-decimal}
use Rattle.std.proofs.lemmas.Str.{IsUtf8-append, IsUtf8-from_ascii, is_utf8-from_IsUtf8}
use Rattle.std.specs.List.{list_all}
use Rattle.std.specs.Option.{ok_or}
use Rattle.std.proofs.lemmas.Bool.{and_parts}
use Rattle.std.proofs.lemmas.List.Elements.{All-nil, All-cons, All-head, All-tail, All-map}
use Rattle.json.specs.Json as json
use Rattle.json.specs.Print.{quoted}
use Rattle.json.specs.Tree as tree
use Rattle.json.proofs.Printed.Decimals.{IsNumber-decimal, IsNumber-signed_decimal}
use Rattle.json.specs.Token.{Token}
use Rattle.json.proofs.Printed.Tokens.{tokens-print}
use Rattle.json.proofs.Printed.Trees.{value-json_tokens, ArePrintable-json_tokens}
use Rattle.json.proofs.Printed.Utf8.{are_ascii, IsUtf8-are_ascii, IsUtf8-quoted}
use Rattle.serde_json.specs.Data.{Data, unsigned, number, string, array, object, Items, item, Members, no_members, member}
use Rattle.serde_json.specs.Read.{read, of_json, of_items}
use Rattle.serde_json.specs.View.{items_of}
use Rattle.serde_json.specs.Written.{outline, items_outline, members_outline, comma_if, compact_text, items_text, members_text}
use Rattle.serde_json.proofs.Numbers.{number_of-decimal, number_of-negative}
use Rattle.serde_json.proofs.Texts.{print-outline}
use Rattle.tgap_model.specs.declared.geometry.Point.{Point}
use Rattle.tgap_model.specs.declared.base.Transform.{Transform}
use Rattle.tgap_model.specs.declared.fault.MapFault.TheVariants.{NotJson}
use Rattle.tgap_model.specs.declared.limits.TheConstants.{MAX_COORDINATE}
use Rattle.tgap_model.specs.Base.{within, in_limits, is_transform}
use Rattle.ring_walk.specs.declared.side.Side.{Side}
use Rattle.ring_walk.specs.declared.side.Way.{Way}
use Rattle.ring_walk.specs.declared.side.Way.TheVariants.{Along, Against}
use Rattle.ring_walk.specs.Spans.{IsSide}
use Rattle.line_forms.specs.Lines.{◌>>=◌}
use Rattle.ring_walk.specs.Sides.{origin}
use Rattle.line_forms.specs.Json.{tree as tree_of}
use Rattle.topology_forms.specs.Topology.{topology, topology_of}
use Rattle.topo_write.specs.Polygons.{Polygon}
use Rattle.topo_write.specs.Topology.{whole, list, pair, deltas, arc_data, index_by, index_data, ring_data, polygon_data, collection_data, transform_data, topology_data, topology_text}
use Rattle.topo_laws.specs.Told.{IsTellableLine, IsTellablePolygon, IsTellable, TextsAreRead}
use Rattle.topo_laws.proofs.ReadTree.{near_difference, word_small, are_words, trees_are_read}

-- ---- values whose text is read back

-- a value that nests at most n deep
pub record IsReadBack (n : ℕ) (d : Data) : Type 0 where
  pub numbers : tree.HasNumbers (outline d)
  pub shallow : tree.depth (outline d) ≤ n
  pub back : of_json (outline d) ≡ Some d
  pub utf8 : IsUtf8 (compact_text d)

record AreReadBack (n : ℕ) (ds : Items) : Type 0 where
  numbers : tree.ItemsHaveNumbers (items_outline ds)
  shallow : tree.items_depth (items_outline ds) ≤ n
  back : of_items (items_outline ds) ≡ Some ds
  utf8 : (b : Bool) → IsUtf8 (items_text b ds)

record HaveText (n : ℕ) (ms : Members) : Type 0 where
  numbers : tree.MembersHaveNumbers (members_outline ms)
  shallow : tree.members_depth (members_outline ms) ≤ n
  utf8 : (b : Bool) → IsUtf8 (members_text b ms)

pub read_back : (n : ℕ) (d : Data) → n ≤ 127 → IsReadBack n d → tree_of (compact_text d) ≡ Some d
unfolding tree_of
read_back n d le h =
    let shallow = h.shallow in
    ap (λ (b : Bool). if b then read (compact_text d) else None) (is_utf8-from_IsUtf8 (compact_text d) h.utf8)
    ∙ ap read (sym (print-outline d))
    ∙ ap (λ (o : Option (json.Json × List Token)). option_and_then of_json (option_and_then (λ p. json.if_last p.0 p.1) o))
    (ap (json.value 127) (tokens-print (tree.json_tokens (outline d)) (ArePrintable-json_tokens (outline d) h.numbers) ∙ sym (append-nil (tree.json_tokens (outline d))))
    ∙ value-json_tokens (outline d) 127 [] (omega (arith, shallow, le)))
    ∙ h.back

-- ---- lists

ascii : (xs : List ℕ) → are_ascii xs ≡ true → IsUtf8 xs
ascii = IsUtf8-are_ascii

comma_utf8 : (b : Bool) → IsUtf8 (comma_if b)
comma_utf8 true = ascii (44 ∷ []) refl
comma_utf8 false = ascii [] refl

items_back : (n : ℕ) (ds : List Data) → All (IsReadBack n) ds → AreReadBack n (items_of ds)
items_back n [] h = record { numbers = tt; shallow = omega arith; back = refl; utf8 = λ b. ascii (93 ∷ []) refl }
items_back n (d ∷ ds) h =
    let first = All-head (IsReadBack n) d ds h in
    let rest = items_back n ds (All-tail (IsReadBack n) d ds h) in
    let low = first.shallow in
    let high = rest.shallow in
    record {
      numbers = (first.numbers, rest.numbers);
      shallow = omega (arith, low, high);
      back = ap₂ (λ (o : Option Data) (os : Option Items). option_and_then (λ x. option_map (item x) os) o) first.back rest.back;
      utf8 = λ b. IsUtf8-append (comma_if b) (compact_text d ++ items_text true (items_of ds)) (comma_utf8 b)
          (IsUtf8-append (compact_text d) (items_text true (items_of ds)) first.utf8 (rest.utf8 true));
    }

pub list_back : (n : ℕ) (ds : List Data) → All (IsReadBack n) ds → IsReadBack (suc n) (list ds)
list_back n ds h =
    let all = items_back n ds h in
    let low = all.shallow in
    record {
      numbers = all.numbers;
      shallow = omega (arith, low);
      back = ap (option_map array) all.back;
      utf8 = IsUtf8-append (91 ∷ []) (items_text false (items_of ds)) (ascii (91 ∷ []) refl) (all.utf8 false);
    }

-- ---- members

no_more : (n : ℕ) → HaveText n no_members
no_more n = record { numbers = tt; shallow = omega arith; utf8 = λ b. ascii (125 ∷ []) refl }

one_more : (n : ℕ) (k : List ℕ) (d : Data) (ms : Members) → are_ascii k ≡ true → IsReadBack n d → HaveText n ms → HaveText n (member k d ms)
one_more n k d ms e h more =
    let low = h.shallow in
    let high = more.shallow in
    record {
      numbers = (h.numbers, more.numbers);
      shallow = omega (arith, low, high);
      utf8 = λ b. IsUtf8-append (comma_if b) (quoted k ++ 58 ∷ (compact_text d ++ members_text true ms)) (comma_utf8 b)
          (IsUtf8-append (quoted k) (58 ∷ (compact_text d ++ members_text true ms)) (IsUtf8-quoted k (ascii k e))
          (IsUtf8-append (58 ∷ []) (compact_text d ++ members_text true ms) (ascii (58 ∷ []) refl)
          (IsUtf8-append (compact_text d) (members_text true ms) h.utf8 (more.utf8 true))));
    }

object_back : (n : ℕ) (ms : Members) → HaveText n ms → of_json (outline (object ms)) ≡ Some (object ms) → IsReadBack (suc n) (object ms)
object_back n ms h e =
    let low = h.shallow in
    record {
      numbers = h.numbers;
      shallow = omega (arith, low);
      back = e;
      utf8 = IsUtf8-append (123 ∷ []) (members_text false ms) (ascii (123 ∷ []) refl) (h.utf8 false);
    }

-- ---- numbers and texts

decimal_utf8 : (n : ℕ) → n < 2 ^ 64 → IsUtf8 (decimal n)
decimal_utf8 n l = IsUtf8-from_ascii (decimal n) (IsAscii-decimal n l)

natural_back : (n : ℕ) → n < 2 ^ 63 → IsReadBack 0 (number (unsigned n))
natural_back n l = record {
  numbers = IsNumber-decimal n (omega (arith, l));
  shallow = omega arith;
  back = ap (option_map number) (number_of-decimal n (omega (arith, l)));
  utf8 = decimal_utf8 n (omega (arith, l));
}

whole_back : (z : ℤ) → unsigned_abs z < 2 ^ 63 → IsReadBack 0 (whole z)
whole_back (pos n) l = natural_back n l
whole_back (negsuc n) l = record {
  numbers = IsNumber-signed_decimal (negsuc n) (omega (arith, l));
  shallow = omega arith;
  back = ap (option_map number) (number_of-negative n (omega (arith, l)));
  utf8 = IsUtf8-append (45 ∷ []) (decimal (suc n)) (ascii (45 ∷ []) refl) (decimal_utf8 (suc n) (omega (arith, l)));
}

text_back : (s : List ℕ) → are_ascii s ≡ true → IsReadBack 0 (string s)
text_back s e = record { numbers = tt; shallow = omega arith; back = refl; utf8 = IsUtf8-quoted s (ascii s e) }

deeper : (m n : ℕ) (d : Data) → m ≤ n → IsReadBack m d → IsReadBack n d
deeper m n d l h = let low = h.shallow in record { numbers = h.numbers; shallow = omega (arith, low, l); back = h.back; utf8 = h.utf8 }

-- ---- arcs

pair_back : (x y : ℤ) → unsigned_abs x < 2 ^ 63 → unsigned_abs y < 2 ^ 63 → IsReadBack 1 (pair x y)
pair_back x y h k = list_back 0 (whole x ∷ whole y ∷ []) (All-cons (IsReadBack 0) (whole x) (whole y ∷ []) (whole_back x h) (All-cons (IsReadBack 0) (whole y) [] (whole_back y k) (All-nil (IsReadBack 0))))

deltas_back : (at : Point) (points : List Point) → in_limits at ≡ true → list_all in_limits points ≡ true → All (IsReadBack 1) (deltas at points)
deltas_back at [] h k = All-nil (IsReadBack 1)
deltas_back at (p ∷ points) h k =
    let parts = and_parts (in_limits p) (list_all in_limits points) k in
    let low = and_parts (within (neg_ℤ MAX_COORDINATE) MAX_COORDINATE at.x) (within (neg_ℤ MAX_COORDINATE) MAX_COORDINATE at.y) h in
    let high = and_parts (within (neg_ℤ MAX_COORDINATE) MAX_COORDINATE p.x) (within (neg_ℤ MAX_COORDINATE) MAX_COORDINATE p.y) parts.0 in
    All-cons (IsReadBack 1) (pair (p.x -ℤ at.x) (p.y -ℤ at.y)) (deltas p points)
    (pair_back (p.x -ℤ at.x) (p.y -ℤ at.y) (near_difference p.x at.x high.0 low.0) (near_difference p.y at.y high.1 low.1))
    (deltas_back p points parts.0 parts.1)

arcs_back : (lines : List (List Point)) → All IsTellableLine lines → IsReadBack 3 (list (map arc_data lines))
arcs_back lines h = list_back 2 (map arc_data lines) (All-map (IsReadBack 2) arc_data lines (λ k d l. list_back 1 (deltas origin (get_or lines k d)) (deltas_back origin (get_or lines k d) refl (h k d l).near)))

-- ---- polygons

ring_back : (n : ℕ) (ring : List Side) → All (IsSide n) ring → n ≤ 2 ^ 32 → IsReadBack 1 (ring_data ring)
ring_back n ring h few = list_back 0 (map index_data ring) (All-map (IsReadBack 0) index_data ring (λ k d l. by (get_or ring k d) (h k d l)))
  where
    by : (s : Side) → IsSide n s → IsReadBack 0 (index_data s)
    by s l = of_way s.way
      where
        of_way : (w : Way) → IsReadBack 0 (whole (index_by w s.span))
        of_way Along = whole_back (pos s.span) (omega (arith, l, few))
        of_way Against = whole_back (negsuc s.span) (omega (arith, l, few))

rings_back : (n : ℕ) (rings : List (List Side)) → All (All (IsSide n)) rings → n ≤ 2 ^ 32 → IsReadBack 2 (list (map ring_data rings))
rings_back n rings h few = list_back 1 (map ring_data rings) (All-map (IsReadBack 1) ring_data rings (λ k d l. ring_back n (get_or rings k d) (h k d l) few))

abbrev properties_of : ℕ → ℕ → Data
properties_of class face = object (member (codes "class") (number (unsigned class)) (member (codes "face") (number (unsigned face)) no_members))

properties_back : (class face : ℕ) → class < 2 ^ 63 → face < 2 ^ 63 → IsReadBack 1 (properties_of class face)
properties_back class face h k =
    let first = natural_back class h in
    let second = natural_back face k in
    let one = first.back in
    let two = second.back in
    object_back 0 (member (codes "class") (number (unsigned class)) (member (codes "face") (number (unsigned face)) no_members))
    (one_more 0 (codes "class") (number (unsigned class)) (member (codes "face") (number (unsigned face)) no_members) refl first
    (one_more 0 (codes "face") (number (unsigned face)) no_members refl second (no_more 0)))
    (rw (one, two) refl)

polygon_back : (n : ℕ) (p : Polygon) → IsTellablePolygon n p → n ≤ 2 ^ 32 → IsReadBack 3 (polygon_data p)
polygon_back n p h few =
    let class = h.class in
    let face = h.face in
    let rings = rings_back n p.rings h.sides few in
    let properties = properties_back p.row.class p.row.face (omega (arith, class)) (omega (arith, face)) in
    let one = rings.back in
    let two = properties.back in
    object_back 2 (member (codes "arcs") (list (map ring_data p.rings)) (member (codes "properties") (properties_of p.row.class p.row.face) (member (codes "type") (string (codes "Polygon")) no_members)))
    (one_more 2 (codes "arcs") (list (map ring_data p.rings)) (member (codes "properties") (properties_of p.row.class p.row.face) (member (codes "type") (string (codes "Polygon")) no_members)) refl rings
    (one_more 2 (codes "properties") (properties_of p.row.class p.row.face) (member (codes "type") (string (codes "Polygon")) no_members) refl (deeper 1 2 (properties_of p.row.class p.row.face) (omega arith) properties)
    (one_more 2 (codes "type") (string (codes "Polygon")) no_members refl (deeper 0 2 (string (codes "Polygon")) (omega arith) (text_back (codes "Polygon") refl)) (no_more 2))))
    (rw (one, two) refl)

collection_back : (n : ℕ) (polygons : List Polygon) → All (IsTellablePolygon n) polygons → n ≤ 2 ^ 32 → IsReadBack 5 (collection_data polygons)
collection_back n polygons h few =
    let all = list_back 3 (map polygon_data polygons) (All-map (IsReadBack 3) polygon_data polygons (λ k d l. polygon_back n (get_or polygons k d) (h k d l) few)) in
    let one = all.back in
    object_back 4 (member (codes "geometries") (list (map polygon_data polygons)) (member (codes "type") (string (codes "GeometryCollection")) no_members))
    (one_more 4 (codes "geometries") (list (map polygon_data polygons)) (member (codes "type") (string (codes "GeometryCollection")) no_members) refl all
    (one_more 4 (codes "type") (string (codes "GeometryCollection")) no_members refl (deeper 0 4 (string (codes "GeometryCollection")) (omega arith) (text_back (codes "GeometryCollection") refl)) (no_more 4)))
    (rw (one) refl)

-- ---- the whole

transform_back : (t : Transform) → is_transform t ≡ true → IsReadBack 2 (transform_data t)
transform_back t h =
    let words = are_words t h in
    let scale = pair_back t.sx t.sy (word_small t.sx words.0) (word_small t.sy words.1) in
    let translate = pair_back t.tx t.ty (word_small t.tx words.2) (word_small t.ty words.3) in
    let one = scale.back in
    let two = translate.back in
    object_back 1 (member (codes "scale") (pair t.sx t.sy) (member (codes "translate") (pair t.tx t.ty) no_members))
    (one_more 1 (codes "scale") (pair t.sx t.sy) (member (codes "translate") (pair t.tx t.ty) no_members) refl scale
    (one_more 1 (codes "translate") (pair t.tx t.ty) no_members refl translate (no_more 1)))
    (rw (one, two) refl)

abbrev objects_of : List Polygon → Data
objects_of polygons = object (member (codes "map") (collection_data polygons) no_members)

objects_back : (n : ℕ) (polygons : List Polygon) → All (IsTellablePolygon n) polygons → n ≤ 2 ^ 32 → IsReadBack 6 (objects_of polygons)
objects_back n polygons h few =
    let all = collection_back n polygons h few in
    let one = all.back in
    object_back 5 (member (codes "map") (collection_data polygons) no_members) (one_more 5 (codes "map") (collection_data polygons) no_members refl all (no_more 5)) (rw (one) refl)

topology_back : (t : Transform) (lines : List (List Point)) (polygons : List Polygon) → IsTellable t lines polygons → IsReadBack 7 (topology_data t lines polygons)
topology_back t lines polygons h =
    let few = h.arcs in
    let arcs = arcs_back lines h.each_line in
    let objects = objects_back (length lines) polygons h.each_polygon (omega (arith, few)) in
    let transform = transform_back t h.transform in
    let one = arcs.back in
    let two = objects.back in
    let three = transform.back in
    object_back 6
    (member (codes "arcs") (list (map arc_data lines)) (member (codes "objects") (objects_of polygons) (member (codes "transform") (transform_data t) (member (codes "type") (string (codes "Topology")) no_members))))
    (one_more 6 (codes "arcs") (list (map arc_data lines)) (member (codes "objects") (objects_of polygons) (member (codes "transform") (transform_data t) (member (codes "type") (string (codes "Topology")) no_members))) refl
    (deeper 3 6 (list (map arc_data lines)) (omega arith) arcs)
    (one_more 6 (codes "objects") (objects_of polygons) (member (codes "transform") (transform_data t) (member (codes "type") (string (codes "Topology")) no_members)) refl objects
    (one_more 6 (codes "transform") (transform_data t) (member (codes "type") (string (codes "Topology")) no_members) refl (deeper 2 6 (transform_data t) (omega arith) transform)
    (one_more 6 (codes "type") (string (codes "Topology")) no_members refl (deeper 0 6 (string (codes "Topology")) (omega arith) (text_back (codes "Topology") refl)) (no_more 6)))))
    (rw (one, two, three) refl)

pub texts_are_read : TextsAreRead
unfolding topology topology_text
texts_are_read t lines polygons h =
    let d = topology_data t lines polygons in
    ap (λ (o : Option Data). ok_or o NotJson >>= λ tree. topology_of tree (codes "map") (codes "class")) (read_back 7 d (omega arith) (topology_back t lines polygons h))
    ∙ trees_are_read t lines polygons h
