-- Texts that are put together one piece after another.
use Rattle.std.proofs.Common.{◌≡◌, ℕ, suc, true, nat_le, refl, ◌+◌, ◌-◌, ◌*◌, ◌<◌, List, [], ◌∷◌, ◌++◌, length, get_or, take, drop, map, Ok, IsTrue, ap, ◌∙◌, append_assoc, add-one, drop-cons, arith}
use Rattle.std.specs.Prelude.{codes, decimal, flat_map}
use Rattle.std.specs.Fmt.{signed_decimal}
use Rattle.std.specs.List.{list_all}
use Rattle.std.proofs.lemmas.Bool.{and_from, and_parts, le-leb}
use Rattle.tgap_model.specs.declared.base.Transform.{Transform}
use Rattle.tgap_model.specs.declared.base.BaseArc.{BaseArc}
use Rattle.tgap_model.specs.Base.{BaseMap, is_base, is_arc, count_points}
use Rattle.tgap_model.proofs.BaseFacts.{arc_facts, base_facts}
use Rattle.line_forms.specs.Texts.{line, lines}
use Rattle.line_forms.specs.Words.{Row}
use Rattle.map_forms.specs.declared.version.Version.{Version}
use Rattle.map_forms.specs.declared.version.Version.TheVariants.{Two}
use Rattle.map_forms.specs.Version.{points_of, heading_words}
use Rattle.map_forms.specs.Listing.{transform_words, class_rows, point_words, arc_words, rows_in, text_in, listing_text, all_inside, keeps_to, listing}
use Rattle.plain_io.specs.Fields.{fields}
use Rattle.plain_io.proofs.Fields.{word_put, field_put, fields_put, line_put, lines_put, line_after}
use Rattle.area_listing.specs.Written.{rules_rows, all_face_rows, all_arc_rows}
use Rattle.area_listing.proofs.Laws.{listing_again}
use Rattle.area_listing.proofs.OneLine.{class_words}
use Rattle.area_listing.proofs.Sections.{one_more}

-- the line of a transform, word after word
pub transform_put : (o0 o1 o2 o3 o4 o5 : List ℕ) (t : Transform) → o1 ≡ o0 ++ codes "transform" → o2 ≡ o1 ++ 32 ∷ signed_decimal t.sx → o3 ≡ o2 ++ 32 ∷ signed_decimal t.sy
    → o4 ≡ o3 ++ 32 ∷ signed_decimal t.tx → o5 ≡ o4 ++ 32 ∷ signed_decimal t.ty → o5 ++ 10 ∷ [] ≡ o0 ++ line (transform_words t)
transform_put o0 o1 o2 o3 o4 o5 t e1 e2 e3 e4 e5 =
    let w : List ℕ = codes "transform" in
    let sx : List ℕ = signed_decimal t.sx in
    let sy : List ℕ = signed_decimal t.sy in
    let tx : List ℕ = signed_decimal t.tx in
    let ty : List ℕ = signed_decimal t.ty in
    let f1 = field_put o0 o1 o2 w [] sx (word_put o0 o1 w e1) e2 in
    let f2 = field_put o0 o2 o3 w (sx ∷ []) sy f1 e3 in
    let f3 = field_put o0 o3 o4 w (sx ∷ sy ∷ []) tx f2 e4 in
    let f4 = field_put o0 o4 o5 w (sx ∷ sy ∷ tx ∷ []) ty f3 e5 in
    line_put o0 o5 w (sx ∷ sy ∷ tx ∷ ty ∷ []) f4

-- the line of a class
pub class_put : (o0 o1 o2 o3 o4 : List ℕ) (i w : ℕ) (compat : List ℕ) → o1 ≡ o0 ++ codes "class" → o2 ≡ o1 ++ 32 ∷ decimal i → o3 ≡ o2 ++ 32 ∷ decimal w
    → o4 ≡ o3 ++ fields (map decimal compat) → o4 ++ 10 ∷ [] ≡ o0 ++ line (class_words i w compat)
class_put o0 o1 o2 o3 o4 i w compat e1 e2 e3 e4 =
    let f1 = field_put o0 o1 o2 (codes "class") [] (decimal i) (word_put o0 o1 (codes "class") e1) e2 in
    let f2 = field_put o0 o2 o3 (codes "class") (decimal i ∷ []) (decimal w) f1 e3 in
    let f3 = fields_put o0 o3 o4 (codes "class") (decimal i ∷ decimal w ∷ []) (map decimal compat) f2 e4 in
    line_put o0 o4 (codes "class") (decimal i ∷ decimal w ∷ map decimal compat) f3

-- the line of an arc
pub arc_put : (o0 o1 o2 o3 o4 o5 : List ℕ) (a : BaseArc) → o1 ≡ o0 ++ codes "arc" → o2 ≡ o1 ++ 32 ∷ decimal a.left → o3 ≡ o2 ++ 32 ∷ decimal a.right
    → o4 ≡ o3 ++ 32 ∷ decimal (length a.points) → o5 ≡ o4 ++ fields (flat_map point_words a.points) → o5 ++ 10 ∷ [] ≡ o0 ++ line (arc_words a)
arc_put o0 o1 o2 o3 o4 o5 a e1 e2 e3 e4 e5 =
    let left : List ℕ = decimal a.left in
    let right : List ℕ = decimal a.right in
    let count : List ℕ = decimal (length a.points) in
    let f1 = field_put o0 o1 o2 (codes "arc") [] left (word_put o0 o1 (codes "arc") e1) e2 in
    let f2 = field_put o0 o2 o3 (codes "arc") (left ∷ []) right f1 e3 in
    let f3 = field_put o0 o3 o4 (codes "arc") (left ∷ right ∷ []) count f2 e4 in
    let f4 = fields_put o0 o4 o5 (codes "arc") (left ∷ right ∷ count ∷ []) (flat_map point_words a.points) f3 e5 in
    line_put o0 o5 (codes "arc") (left ∷ right ∷ count ∷ flat_map point_words a.points) f4

-- one class more, and the lines of those that are left
pub classes_put : (c i : ℕ) (weights rest row more out new : List ℕ) → i < length weights → row ≡ take c rest → more ≡ drop c rest
    → new ≡ out ++ line (class_words i (get_or weights i 0) row) → new ++ lines (class_rows c (i + 1) (drop (i + 1) weights) more) ≡ out ++ lines (class_rows c i (drop i weights) rest)
classes_put c i weights rest row more out new lt front back put =
    let split = drop-cons weights i 0 lt in
    rw (put, front, back, split, add-one i) (append_assoc out (line (class_words i (get_or weights i 0) (take c rest))) (lines (class_rows c (suc i) (drop (suc i) weights) (drop c rest))))

-- the table that is left is shorter by a row
pub table_left : (c i n len : ℕ) → i < n → len ≡ (n - i) * c → len - c ≡ (n - (i + 1)) * c
table_left c i n len lt e =
    let more : n - i ≡ suc (n - (i + 1)) = omega arith in
    (one_more c (n - (i + 1)) len (e ∙ ap (λ k. k * c) more)).1

-- the rows of the pieces of a listing
pieces_rows : (m : BaseMap) → ((((heading_words Two ∷ transform_words m.transform ∷ []) ++ rules_rows m.rules) ++ all_face_rows m.classes) ++ all_arc_rows m.arcs) ++ (codes "end" ∷ []) ∷ [] ≡ rows_in Two m
pieces_rows m = simp append_assoc

-- the pieces of a listing
pub listing_put : (o1 o2 o3 o4 o5 o6 : List ℕ) (m : BaseMap) → o1 ≡ codes "tgap 2\n" → o2 ≡ o1 ++ line (transform_words m.transform) → o3 ≡ o2 ++ lines (rules_rows m.rules)
    → o4 ≡ o3 ++ lines (all_face_rows m.classes) → o5 ≡ o4 ++ lines (all_arc_rows m.arcs) → o6 ≡ o5 ++ codes "end\n" → o6 ≡ listing_text m
listing_put o1 o2 o3 o4 o5 o6 m e1 e2 e3 e4 e5 e6 =
    let head : List Row = heading_words Two ∷ [] in
    let with_transform : List Row = heading_words Two ∷ transform_words m.transform ∷ [] in
    let f2 = line_after o1 o2 head (transform_words m.transform) e1 e2 in
    let f3 = lines_put o2 o3 with_transform (rules_rows m.rules) f2 e3 in
    let f4 = lines_put o3 o4 (with_transform ++ rules_rows m.rules) (all_face_rows m.classes) f3 e4 in
    let f5 = lines_put o4 o5 ((with_transform ++ rules_rows m.rules) ++ all_face_rows m.classes) (all_arc_rows m.arcs) f4 e5 in
    let f6 = lines_put o5 o6 (((with_transform ++ rules_rows m.rules) ++ all_face_rows m.classes) ++ all_arc_rows m.arcs) ((codes "end" ∷ []) ∷ []) f5 e6 in
    f6 ∙ ap lines (pieces_rows m)

-- the arcs of a base map are within the coordinates of version 2
arcs_inside : (n : ℕ) (arcs : List BaseArc) → list_all (is_arc n) arcs ≡ true → list_all (all_inside Two) arcs ≡ true
arcs_inside n [] fits = refl
arcs_inside n (a ∷ arcs) fits =
    let parts = and_parts (is_arc n a) (list_all (is_arc n) arcs) fits in
    and_from (all_inside Two a) (list_all (all_inside Two) arcs) (arc_facts n a parts.0).in_limits (arcs_inside n arcs parts.1)

-- a base map keeps to the limits of version 2
pub base_keeps : (m : BaseMap) → is_base m ≡ true → keeps_to Two m ≡ true
base_keeps m base =
    let facts = base_facts m base in
    and_from (list_all (all_inside Two) m.arcs) (nat_le (count_points m.arcs) (points_of Two)) (arcs_inside (length m.classes) m.arcs facts.arcs)
    (le-leb (count_points m.arcs) (points_of Two) facts.few_points)

-- a base map within the limits of a version is read from its listing in that version
pub version_read : (v : Version) (m : BaseMap) → is_base m ≡ true → keeps_to v m ≡ true → listing (text_in v m) ≡ Ok m
version_read v m base limits = listing_again (text_in v m) m (record { version = v; base = base; limits = limits; spelled = refl })

-- and so from the text that is written for it
pub listing_read : (text : List ℕ) (m : BaseMap) → IsTrue (is_base m) → text ≡ listing_text m → listing text ≡ Ok m
listing_read text m base spelled = ap listing spelled ∙ version_read Two m base (base_keeps m base)
