-- The two laws: the map that is read is spelled so, and the map that is spelled so is read.
use Rattle.std.proofs.Common.{◌≡◌, ◌≢◌, ℕ, ◌-◌, ◌*◌, ◌<◌, ◌≤◌, Bool, true, false, cond, ◌&&◌, nat_le, nat_lt, List, [], ◌∷◌, ◌++◌, length, map, Option, Some, None, Result, Ok, Err, refl, sym, ap, subst, ◌∙◌, arith}
use Rattle.std.specs.Prelude.{codes, IfOk}
use Rattle.std.specs.Option.{ok_or}
use Rattle.std.specs.List.{list_all}
use Rattle.std.proofs.lemmas.Bool.{and_from, and_parts, leb-true, ltb-true, le-leb, lt-ltb, eq-eqb}
use Rattle.std.proofs.lemmas.List.{append-nil, append_assoc}
use Rattle.std.proofs.lemmas.List.Folds.{list_all-append}
use Rattle.tgap_model.specs.declared.base.Rules.{Rules}
use Rattle.tgap_model.specs.declared.base.BaseArc.{BaseArc}
use Rattle.tgap_model.specs.declared.fault.LimitKind.TheVariants.{Classes, Faces, Arcs}
use Rattle.tgap_model.specs.declared.fault.MapFault.{MapFault}
use Rattle.tgap_model.specs.declared.fault.MapFault.TheVariants.{BadLine}
use Rattle.tgap_model.specs.declared.limits.TheConstants.{MAX_WEIGHT, MAX_COMPATIBILITY, MAX_RATIO, MAX_CLASSES, MAX_FACES, MAX_ARCS, MAX_POINTS}
use Rattle.tgap_model.specs.Base.{BaseMap, is_rules, is_arc, count_points, is_base, all_faces_bordered, checked}
use Rattle.tgap_model.proofs.BaseFacts.{RulesFacts, BaseFacts, rules_facts, base_facts}
use Rattle.line_forms.specs.Texts.{rows_of}
use Rattle.line_forms.specs.Words.{Row, read_words}
use Rattle.line_forms.specs.Lines.{◌>>=◌, Lines, all_lines, next_number, read_line, is_over}
use Rattle.line_forms.specs.ListingLines.{read_transform, read_count}
use Rattle.map_forms.specs.declared.version.Version.{Version}
use Rattle.map_forms.specs.declared.version.Version.TheVariants.{One, Two}
use Rattle.map_forms.specs.Version.{points_of, heading_words, read_heading}
use Rattle.map_forms.specs.Listing.{transform_words, count_words, class_rows, face_rows, arc_words, rows_in, all_inside, keeps_to, IsListing, count_line, classes_at, rules_at, all_faces_at, all_arcs_at, map_at, bordered, end_at, listing}
use Rattle.tgap_model.specs.declared.failure.Or.{Or}
use Rattle.tgap_model.specs.declared.failure.Or.TheVariants.{Fault, Memory}
use Rattle.plain_io.specs.Taking.{GivesWhole, Refuses}
use Rattle.plain_io.proofs.Words.{same_bytes}
use Rattle.plain_io.proofs.Rows.{is_plain_row, lines_from_rows, rows_again}
use Rattle.plain_io.proofs.Steps.{bound, read_words_is, read_line_is, read_line_again, number_after, lines_from, some_rows}
use Rattle.area_listing.proofs.OneLine.{AreFrom, points_few, read_heading_is, read_heading_again, read_transform_is, read_transform_again, read_count_is, read_count_again}
use Rattle.area_listing.proofs.Plain.{transform_plain, count_plain, classes_plain, faces_plain, arcs_plain}
use Rattle.area_listing.proofs.Sections.{count_line_is, count_line_again, classes_at_is, classes_at_again, faces_at_is, faces_at_again, arcs_at_is, arcs_at_again}

-- ---- what is read is spelled so

-- a line of certain words
worded : (words : Row) (lines : Lines) (x : Unit {0} × Lines) → read_line {F = MapFault} BadLine (read_words words) lines ≡ Ok x → lines.rows ≡ words ∷ x.1.rows
worded words lines x e =
    let row = read_line_is BadLine (read_words words) lines x e in
    row.1 ∙ ap (λ r. r ∷ x.1.rows) (read_words_is words row.0 x.0 row.2)

-- a list of numbers from least to most passes the test
from_test : (least most : ℕ) (ns : List ℕ) → AreFrom least most ns → list_all (λ n. nat_le least n && nat_le n most) ns ≡ true
from_test least most [] from = refl
from_test least most (n ∷ ns) from = and_from _ _ (and_from _ _ (le-leb least n from.0.0) (le-leb n most from.0.1)) (from_test least most ns from.1)

most_test : (least most : ℕ) (ns : List ℕ) → AreFrom least most ns → list_all (λ n. nat_le n most) ns ≡ true
most_test least most [] from = refl
most_test least most (n ∷ ns) from = and_from _ _ (le-leb n most from.0.1) (most_test least most ns from.1)

-- classes below c, of which there is one
below_test : (c : ℕ) (ks : List ℕ) → 1 ≤ c → AreFrom 0 (c - 1) ks → list_all (λ k. nat_lt k c) ks ≡ true
below_test c [] some from = refl
below_test c (k ∷ ks) some from = and_from _ _ (lt-ltb k c (omega (arith, from.0.1))) (below_test c ks some from.1)

-- rules that are read are spelled so
pub record AreRules (lines : Lines) (x : Rules × Lines) : Type 0 where
  pub spelled : lines.rows ≡ count_words (codes "ratio") x.0.ratio ∷ count_words (codes "classes") (length x.0.weights) ∷ class_rows (length x.0.weights) 0 x.0.weights x.0.compat ++ x.1.rows
  pub rules : is_rules x.0 ≡ true

pub rules_at_is : (lines : Lines) (x : Rules × Lines) → rules_at lines ≡ Ok x → AreRules lines x
unfolding rules_at is_rules
rules_at_is lines x e =
    bound _ (read_line BadLine (read_count (codes "ratio") 0 MAX_RATIO) lines) x e (λ ratio e0 r0.
    bound _ (count_line Classes 1 ratio.1) x r0 (λ c e1 r1.
    bound _ (classes_at c.0 0 c.0 c.1) x r1 (λ weighed e2 r2.
    let row = read_line_is BadLine (read_count (codes "ratio") 0 MAX_RATIO) lines ratio e0 in
    let first = read_count_is (codes "ratio") 0 MAX_RATIO row.0 ratio.0 row.2 in
    let count = count_line_is Classes 1 ratio.1 c e1 in
    let classes = classes_at_is c.0 0 c.0 c.1 weighed e2 in
    let rules : Rules = record { ratio = ratio.0; weights = weighed.0.0; compat = weighed.0.1 } in
    let made : (rules, weighed.1) ≡ x = cc in
    let f0 = row.1 in
    let f1 = first.0 in
    let f2 = count.spelled in
    let f3 = classes.spelled in
    let f4 = classes.count in
    let spelled : lines.rows ≡ count_words (codes "ratio") ratio.0 ∷ count_words (codes "classes") (length weighed.0.0) ∷ class_rows (length weighed.0.0) 0 weighed.0.0 weighed.0.1 ++ weighed.1.rows = cc in
    let table : length weighed.0.1 ≡ length weighed.0.0 * length weighed.0.0 = classes.table ∙ ap (λ (n : ℕ). n * n) (sym f4) in
    let fits : is_rules rules ≡ true = rw (
      le-leb 1 (length weighed.0.0) (omega (arith, count.low, f4)),
      le-leb (length weighed.0.0) MAX_CLASSES (omega (arith, count.high, f4)),
      from_test 1 MAX_WEIGHT weighed.0.0 classes.weights,
      eq-eqb (length weighed.0.1) (length weighed.0.0 * length weighed.0.0) table,
      most_test 0 MAX_COMPATIBILITY weighed.0.1 classes.compat,
      le-leb ratio.0 MAX_RATIO first.2,
    ) refl in
    subst (λ (y : Rules × Lines). AreRules lines y) made (record { spelled = spelled; rules = fits }))))

-- all faces that are read are spelled so
pub record AreAllFaces (c : ℕ) (lines : Lines) (x : List ℕ × Lines) : Type 0 where
  pub spelled : lines.rows ≡ count_words (codes "faces") (length x.0) ∷ face_rows 1 x.0 ++ x.1.rows
  pub few : length x.0 ≤ MAX_FACES
  pub classes : AreFrom 0 (c - 1) x.0

pub all_faces_at_is : (c : ℕ) (lines : Lines) (x : List ℕ × Lines) → all_faces_at c lines ≡ Ok x → AreAllFaces c lines x
unfolding all_faces_at
all_faces_at_is c lines x e =
    bound _ (count_line Faces 0 lines) x e (λ n e0 r0.
    let count = count_line_is Faces 0 lines n e0 in
    let faces = faces_at_is c 1 n.0 n.1 x r0 in
    let f0 = count.spelled in
    let f1 = faces.spelled in
    let f2 = faces.count in
    let spelled : lines.rows ≡ count_words (codes "faces") (length x.0) ∷ face_rows 1 x.0 ++ x.1.rows = cc in
    record { spelled = spelled; few = omega (arith, count.high, f2); classes = faces.classes })

-- all arcs that are read are spelled so
pub record AreAllArcs (v : Version) (n : ℕ) (lines : Lines) (x : List BaseArc × Lines) : Type 0 where
  pub spelled : lines.rows ≡ count_words (codes "arcs") (length x.0) ∷ map arc_words x.0 ++ x.1.rows
  pub few : length x.0 ≤ MAX_ARCS
  pub arcs : list_all (is_arc n) x.0 ≡ true
  pub inside : list_all (all_inside v) x.0 ≡ true
  pub few_points : count_points x.0 ≤ points_of v

all_arcs_at_is : (v : Version) (n : ℕ) (lines : Lines) (x : List BaseArc × Lines) → all_arcs_at v n lines ≡ Ok x → AreAllArcs v n lines x
unfolding all_arcs_at
all_arcs_at_is v n lines x e =
    bound _ (count_line Arcs 0 lines) x e (λ m e0 r0.
    let count = count_line_is Arcs 0 lines m e0 in
    let arcs = arcs_at_is v n 0 m.0 m.1 x (omega arith) r0 in
    let f0 = count.spelled in
    let f1 = arcs.spelled in
    let f2 = arcs.count in
    let spelled : lines.rows ≡ count_words (codes "arcs") (length x.0) ∷ map arc_words x.0 ++ x.1.rows = cc in
    record { spelled = spelled; few = omega (arith, count.high, f2); arcs = arcs.arcs; inside = arcs.inside; few_points = omega (arith, arcs.few) })

-- the rows of a map up to its last line, one section after another
abbrev sections : Version → BaseMap → List Row → List Row
sections v m rest =
    heading_words v ∷ transform_words m.transform ∷ count_words (codes "ratio") m.rules.ratio
    ∷ count_words (codes "classes") (length m.rules.weights) ∷ (class_rows (length m.rules.weights) 0 m.rules.weights m.rules.compat
    ++ (count_words (codes "faces") (length m.classes) ∷ (face_rows 1 m.classes
    ++ (count_words (codes "arcs") (length m.arcs) ∷ (map arc_words m.arcs ++ rest)))))

-- the rows of a listing, section after section
regrouped : (v : Version) (m : BaseMap) (rest : List Row) → rows_in v m ++ rest ≡ sections v m ((codes "end" ∷ []) ∷ rest)
regrouped v m rest = simp append_assoc

-- A map that is read is spelled so in some version, within the limits of that, and is a base map where each face has a border.
pub record IsMap (lines : Lines) (x : BaseMap × Lines) : Type 0 where
  pub version : Version
  pub spelled : lines.rows ≡ sections version x.0 x.1.rows
  pub limits : keeps_to version x.0 ≡ true
  pub base : is_base x.0 ≡ all_faces_bordered (length x.0.classes) x.0.arcs

pub map_at_is : (lines : Lines) (x : BaseMap × Lines) → map_at lines ≡ Ok x → IsMap lines x
unfolding map_at is_base
map_at_is lines x e =
    bound _ (read_line BadLine read_heading lines) x e (λ head e0 r0.
    bound _ (read_line BadLine read_transform head.1) x r0 (λ transform e1 r1.
    bound _ (rules_at transform.1) x r1 (λ rules e2 r2.
    bound _ (all_faces_at (length rules.0.weights) rules.1) x r2 (λ classes e3 r3.
    bound _ (all_arcs_at head.0 (length classes.0) classes.1) x r3 (λ arcs e4 r4.
    let row = read_line_is BadLine read_transform head.1 transform e1 in
    let of_transform = read_transform_is row.0 transform.0 row.2 in
    let of_rules = rules_at_is transform.1 rules e2 in
    let of_faces = all_faces_at_is (length rules.0.weights) rules.1 classes e3 in
    let of_arcs = all_arcs_at_is head.0 (length classes.0) classes.1 arcs e4 in
    let first = read_line_is BadLine read_heading lines head e0 in
    let f0 = first.1 ∙ ap (λ (r : Row). r ∷ head.1.rows) (read_heading_is first.0 head.0 first.2) in
    let f1 = row.1 in
    let f2 = of_transform.0 in
    let f3 = of_rules.spelled in
    let f4 = of_faces.spelled in
    let f5 = of_arcs.spelled in
    let m : BaseMap = record { transform = transform.0; rules = rules.0; classes = classes.0; arcs = arcs.0 } in
    let made : (m, arcs.1) ≡ x = cc in
    let spelled : lines.rows ≡ sections head.0 m arcs.1.rows = cc in
    let facts = rules_facts rules.0 of_rules.rules in
    let base : is_base m ≡ all_faces_bordered (length classes.0) arcs.0 = rw (
      of_transform.1,
      of_rules.rules,
      le-leb (length classes.0) MAX_FACES of_faces.few,
      below_test (length rules.0.weights) classes.0 facts.some_class of_faces.classes,
      le-leb (length arcs.0) MAX_ARCS of_arcs.few,
      le-leb (count_points arcs.0) MAX_POINTS (omega (arith, of_arcs.few_points, points_few head.0)),
      of_arcs.arcs,
    ) refl in
    let limits = and_from (list_all (all_inside head.0) arcs.0) (nat_le (count_points arcs.0) (points_of head.0)) of_arcs.inside (le-leb (count_points arcs.0) (points_of head.0) of_arcs.few_points) in
    subst (λ (y : BaseMap × Lines). IsMap lines y) made (record { version = head.0; spelled = spelled; limits = limits; base = base }))))))

-- nothing is left but one row, of one empty word
over_is : (rows : List Row) → is_over rows ≡ true → rows ≡ ([] ∷ []) ∷ []
over_is [] e = absurd cc
over_is ([] ∷ []) e = absurd cc
over_is ([] ∷ row ∷ rows) e = absurd cc
over_is ((word ∷ []) ∷ []) e = ap (λ (w : List ℕ). (w ∷ []) ∷ []) (same_bytes word [] e)
over_is ((word ∷ []) ∷ row ∷ rows) e = absurd cc
over_is ((word ∷ more ∷ words) ∷ []) e = absurd cc
over_is ((word ∷ more ∷ words) ∷ row ∷ rows) e = absurd cc

-- what a test lets pass, and what it gives
cond_ok : {A F : Type 0} (b : Bool) (x y : A) (f : F) → cond b (Ok x) (Err f) ≡ Ok y → (b ≡ true) × (x ≡ y)
cond_ok true x y f e = (refl, cc)
cond_ok false x y f e = absurd cc

-- the last line that is read is spelled so, and nothing is after it
end_at_is : (lines : Lines) (x : Unit {0}) → end_at lines ≡ Ok x → lines.rows ≡ (codes "end" ∷ []) ∷ ([] ∷ []) ∷ []
unfolding end_at
end_at_is lines x e =
    bound _ (read_line BadLine (read_words (codes "end" ∷ [])) lines) x e (λ last e0 r0.
    let over = over_is last.1.rows (cond_ok (is_over last.1.rows) tt x (BadLine last.1.number) r0).0 in
    worded (codes "end" ∷ []) lines last e0 ∙ ap (λ (rows : List Row). (codes "end" ∷ []) ∷ rows) over)

-- What is read is spelled so.
pub listing_spelled : (bytes : List ℕ) (m : BaseMap) → listing bytes ≡ Ok m → IsListing bytes m
unfolding listing
listing_spelled bytes m e =
    bound _ (map_at (all_lines bytes)) m e (λ x e0 r0.
    bound _ (bordered x.0 x.1.number) m r0 (λ base e1 r1.
    bound _ (end_at x.1) m r1 (λ end e2 r2.
    let is = map_at_is (all_lines bytes) x e0 in
    let border = cond_ok (all_faces_bordered (length x.0.classes) x.0.arcs) x.0 base (BadLine x.1.number) e1 in
    let last = end_at_is x.1 end e2 in
    let one : base ≡ m = cc in
    let same : x.0 ≡ m = border.1 ∙ one in
    let v = is.version in
    let rows : rows_of bytes ≡ rows_in v x.0 ++ ([] ∷ []) ∷ [] = is.spelled ∙ ap (sections v x.0) last ∙ sym (regrouped v x.0 (([] ∷ []) ∷ [])) in
    subst (λ (b : BaseMap). IsListing bytes b) same
    (record { version = v; base = is.base ∙ border.0; limits = is.limits; spelled = lines_from_rows bytes (rows_in v x.0) rows }))))

-- ---- what is spelled so is read

-- numbers that pass the test are in the range
test_from : (least most : ℕ) (ns : List ℕ) → list_all (λ n. nat_le least n && nat_le n most) ns ≡ true → AreFrom least most ns
test_from least most [] h = tt
test_from least most (n ∷ ns) h =
    let parts = and_parts (nat_le least n && nat_le n most) (list_all (λ k. nat_le least k && nat_le k most) ns) h in
    let one = and_parts (nat_le least n) (nat_le n most) parts.0 in
    ((leb-true least n one.0, leb-true n most one.1), test_from least most ns parts.1)

test_most : (most : ℕ) (ns : List ℕ) → list_all (λ n. nat_le n most) ns ≡ true → AreFrom 0 most ns
test_most most [] h = tt
test_most most (n ∷ ns) h =
    let parts = and_parts (nat_le n most) (list_all (λ k. nat_le k most) ns) h in
    ((omega arith, leb-true n most parts.0), test_most most ns parts.1)

test_below : (c : ℕ) (ks : List ℕ) → list_all (λ k. nat_lt k c) ks ≡ true → AreFrom 0 (c - 1) ks
test_below c [] h = tt
test_below c (k ∷ ks) h =
    let parts = and_parts (nat_lt k c) (list_all (λ j. nat_lt j c) ks) h in
    let below : k < c = ltb-true k c parts.0 in
    ((omega arith, omega arith), test_below c ks parts.1)

-- what the rows of a map in a version rest on
record IsSpelled (v : Version) (m : BaseMap) : Type 0 where
  inside : list_all (all_inside v) m.arcs ≡ true
  few_points : count_points m.arcs ≤ points_of v
  facts : BaseFacts m
  rules : RulesFacts m.rules
  weights : AreFrom 1 MAX_WEIGHT m.rules.weights
  compat : AreFrom 0 MAX_COMPATIBILITY m.rules.compat
  classes : AreFrom 0 (length m.rules.weights - 1) m.classes

is_spelled : (v : Version) (m : BaseMap) → is_base m ≡ true → keeps_to v m ≡ true → IsSpelled v m
is_spelled v m h keeps =
    let facts = base_facts m h in
    let rules = rules_facts m.rules facts.rules in
    let limits = and_parts (list_all (all_inside v) m.arcs) (nat_le (count_points m.arcs) (points_of v)) keeps in
    record {
      inside = limits.0;
      few_points = leb-true (count_points m.arcs) (points_of v) limits.1;
      facts = facts;
      rules = rules;
      weights = test_from 1 MAX_WEIGHT m.rules.weights rules.weights;
      compat = test_most MAX_COMPATIBILITY m.rules.compat rules.compat;
      classes = test_below (length m.rules.weights) m.classes facts.classes;
    }

-- the last line, and what is left after it
abbrev last_rows : List Row
last_rows = (codes "end" ∷ []) ∷ ([] ∷ []) ∷ []

-- the arcs and what follows them
abbrev from_arcs : BaseMap → List Row
from_arcs m = count_words (codes "arcs") (length m.arcs) ∷ (map arc_words m.arcs ++ last_rows)

-- the faces and what follows them
abbrev from_faces : BaseMap → List Row
from_faces m = count_words (codes "faces") (length m.classes) ∷ (face_rows 1 m.classes ++ from_arcs m)

-- the rules are read again
rules_again : (v : Version) (n : ℕ) (m : BaseMap) → IsSpelled v m
    → rules_at (lines_from n (count_words (codes "ratio") m.rules.ratio ∷ count_words (codes "classes") (length m.rules.weights) ∷ (class_rows (length m.rules.weights) 0 m.rules.weights m.rules.compat ++ from_faces m)))
    ≡ Ok (m.rules, lines_from (number_after (length m.rules.weights) (next_number (next_number n))) (from_faces m))
unfolding rules_at
rules_again v n m is =
    let c = length m.rules.weights in
    let of_classes : List Row = class_rows c 0 m.rules.weights m.rules.compat ++ from_faces m in
    let some : of_classes ≢ [] = some_rows (class_rows c 0 m.rules.weights m.rules.compat) (from_faces m) (λ e. cc) in
    let ratio = read_count_again (codes "ratio") 0 MAX_RATIO m.rules.ratio (omega arith) is.rules.ratio (omega (arith, is.rules.ratio)) in
    rw (
      read_line_again {F = MapFault} BadLine (read_count (codes "ratio") 0 MAX_RATIO) n (count_words (codes "ratio") m.rules.ratio) (count_words (codes "classes") c ∷ of_classes) m.rules.ratio (λ e. cc) ratio,
      count_line_again Classes 1 (next_number n) c of_classes some is.rules.some_class is.rules.few_classes (omega (arith, is.rules.few_classes)),
      classes_at_again c 0 (next_number (next_number n)) m.rules.weights m.rules.compat (from_faces m) (λ e. cc) (omega (arith, is.rules.few_classes)) is.rules.table is.weights is.compat,
    ) refl

-- the spelling of the faces is read again
faces_again : (v : Version) (n : ℕ) (m : BaseMap) → IsSpelled v m → all_faces_at (length m.rules.weights) (lines_from n (from_faces m)) ≡ Ok (m.classes, lines_from (number_after (length m.classes) (next_number n)) (from_arcs m))
unfolding all_faces_at
faces_again v n m is =
    let of_faces : List Row = face_rows 1 m.classes ++ from_arcs m in
    let some : of_faces ≢ [] = some_rows (face_rows 1 m.classes) (from_arcs m) (λ e. cc) in
    rw (
      count_line_again Faces 0 n (length m.classes) of_faces some (omega arith) is.facts.few_faces (omega (arith, is.facts.few_faces)),
      faces_at_again (length m.rules.weights) 1 (next_number n) m.classes (from_arcs m) (λ e. cc) (omega (arith, is.facts.few_faces)) (omega (arith, is.rules.few_classes)) is.classes,
    ) refl

-- and the arcs
arcs_again : (v : Version) (n : ℕ) (m : BaseMap) → IsSpelled v m → all_arcs_at v (length m.classes) (lines_from n (from_arcs m)) ≡ Ok (m.arcs, lines_from (number_after (length m.arcs) (next_number n)) last_rows)
unfolding all_arcs_at
arcs_again v n m is =
    let of_arcs : List Row = map arc_words m.arcs ++ last_rows in
    let some : of_arcs ≢ [] = some_rows (map arc_words m.arcs) last_rows (λ e. cc) in
    rw (
      count_line_again Arcs 0 n (length m.arcs) of_arcs some (omega arith) is.facts.few_arcs (omega (arith, is.facts.few_arcs)),
      arcs_at_again v (length m.classes) 0 (next_number n) m.arcs last_rows (λ e. cc) (omega (arith, is.facts.few_faces)) is.facts.arcs is.inside (omega (arith, is.few_points)),
    ) refl

-- the last line is read again
end_again : (n : ℕ) → end_at (lines_from n last_rows) ≡ Ok tt
unfolding end_at
end_again n = refl

-- the number of the last line
abbrev end_number : BaseMap → ℕ
end_number m = number_after (length m.arcs) (next_number (number_after (length m.classes) (next_number (number_after (length m.rules.weights) (next_number (next_number (next_number (next_number 1))))))))

-- the rows of the map are read as that map
map_again : (v : Version) (m : BaseMap) → IsSpelled v m → map_at (lines_from 1 (sections v m last_rows)) ≡ Ok (m, lines_from (end_number m) last_rows)
unfolding map_at
map_again v m is =
    let of_rules : List Row = count_words (codes "ratio") m.rules.ratio ∷ count_words (codes "classes") (length m.rules.weights) ∷ (class_rows (length m.rules.weights) 0 m.rules.weights m.rules.compat ++ from_faces m) in
    let of_map : List Row = transform_words m.transform ∷ of_rules in
    rw (
      read_line_again {F = MapFault} BadLine read_heading 1 (heading_words v) of_map v (λ e. cc) (read_heading_again v),
      read_line_again {F = MapFault} BadLine read_transform (next_number 1) (transform_words m.transform) of_rules m.transform (λ e. cc) (read_transform_again m.transform is.facts.transform),
      rules_again v (next_number (next_number 1)) m is,
      faces_again v (number_after (length m.rules.weights) (next_number (next_number (next_number (next_number 1))))) m is,
      arcs_again v (number_after (length m.classes) (next_number (number_after (length m.rules.weights) (next_number (next_number (next_number (next_number 1))))))) m is,
    ) refl

-- the heading of a version
heading_plain : (v : Version) → is_plain_row (heading_words v) ≡ true
heading_plain One = refl
heading_plain Two = refl

-- no word of the listing of a base map has a separator
listing_plain : (v : Version) (m : BaseMap) → IsSpelled v m → list_all is_plain_row (rows_in v m) ≡ true
listing_plain v m is =
    let c = length m.rules.weights in
    let few = is.rules.few_classes in
    let last : List Row = (codes "end" ∷ []) ∷ [] in
    let of_arcs : list_all is_plain_row (map arc_words m.arcs ++ last) ≡ true = list_all-append is_plain_row (map arc_words m.arcs) last ∙ and_from _ _ (arcs_plain (length m.classes) m.arcs (omega (arith, is.facts.few_faces)) is.facts.arcs (omega (arith, is.facts.few_points))) refl in
    let with_arcs : list_all is_plain_row (count_words (codes "arcs") (length m.arcs) ∷ (map arc_words m.arcs ++ last)) ≡ true = and_from _ _ (count_plain (codes "arcs") (length m.arcs) refl (omega (arith, is.facts.few_arcs))) of_arcs in
    let of_faces = list_all-append is_plain_row (face_rows 1 m.classes) (count_words (codes "arcs") (length m.arcs) ∷ (map arc_words m.arcs ++ last)) ∙ and_from _ _ (faces_plain 1 (c - 1) m.classes (omega (arith, is.facts.few_faces)) (omega arith) is.classes) with_arcs in
    let with_faces : list_all is_plain_row (count_words (codes "faces") (length m.classes) ∷ (face_rows 1 m.classes ++ (count_words (codes "arcs") (length m.arcs) ∷ (map arc_words m.arcs ++ last)))) ≡ true = and_from _ _ (count_plain (codes "faces") (length m.classes) refl (omega (arith, is.facts.few_faces))) of_faces in
    let of_classes = list_all-append is_plain_row (class_rows c 0 m.rules.weights m.rules.compat) _ ∙ and_from _ _ (classes_plain c 0 m.rules.weights m.rules.compat (omega arith) is.weights is.compat) with_faces in
    let whole : list_all is_plain_row (sections v m last) ≡ true =
    and_from _ _ (heading_plain v) (and_from _ _ (transform_plain m.transform is.facts.transform) (and_from _ _ (count_plain (codes "ratio") m.rules.ratio refl (omega (arith, is.rules.ratio))) (and_from _ _ (count_plain (codes "classes") c refl (omega arith)) of_classes))) in
    ap (list_all is_plain_row) (sym (append-nil (rows_in v m)) ∙ regrouped v m []) ∙ whole

-- What is spelled so is read.
pub listing_again : (bytes : List ℕ) (m : BaseMap) → IsListing bytes m → listing bytes ≡ Ok m
unfolding listing
listing_again bytes m is =
    let v = is.version in
    let spelled = is_spelled v m is.base is.limits in
    let rows : rows_of bytes ≡ sections v m last_rows = ap rows_of is.spelled ∙ rows_again (rows_in v m) (listing_plain v m spelled) ∙ regrouped v m (([] ∷ []) ∷ []) in
    let read : map_at (all_lines bytes) ≡ Ok (m, lines_from (end_number m) last_rows) = ap (λ (r : List Row). map_at (lines_from 1 r)) rows ∙ map_again v m spelled in
    rw (read, spelled.facts.bordered, end_again (end_number m)) refl

-- ---- what the calls answer

-- a test, by a map or none, and by a map or the fault
either : (b : Bool) (m : BaseMap) (n : ℕ) → ok_or (cond b (Some m) None) (BadLine n) ≡ cond b (Ok m) (Err (BadLine n))
either true m n = refl
either false m n = refl

-- the map of parts that were read is what the library's test of a base map gives where each face has a border
pub bordered_is : (lines : Lines) (m : BaseMap) (rest : Lines) (found : Option BaseMap) (n : ℕ) → map_at lines ≡ Ok (m, rest) → found ≡ checked m → ok_or found (BadLine n) ≡ bordered m n
bordered_is lines m rest found n e given =
    let base = (map_at_is lines (m, rest) e).base in
    ap (λ o. ok_or o (BadLine n)) given ∙ ap (λ b. ok_or (cond b (Some m) None) (BadLine n)) base ∙ either (all_faces_bordered (length m.classes) m.arcs) m n

-- what is read is spelled so
pub base_read : (bytes : List ℕ) (r : Result BaseMap (Or MapFault)) → GivesWhole r (listing bytes) → IfOk r (IsListing bytes)
base_read bytes (Ok m) given = listing_spelled bytes m given
base_read bytes (Err e) given = tt

-- what is spelled so is read
pub base_spelled : (bytes : List ℕ) (r : Result BaseMap (Or MapFault)) (m : BaseMap) → IsListing bytes m → GivesWhole r (listing bytes) → GivesWhole r (Ok m)
base_spelled bytes r m is given = subst (λ read. GivesWhole r read) (listing_again bytes m is) given

-- the fault comes where nothing is spelled
pub base_fault : (bytes : List ℕ) (r : Result BaseMap (Or MapFault)) (f : MapFault) (m : BaseMap) → r ≡ Err (Fault f) → GivesWhole r (listing bytes) → ¬ (IsListing bytes m)
base_fault bytes r f m is given = λ spelled.
    let refused : listing bytes ≡ Err f = subst (λ (x : Result BaseMap (Or MapFault)). GivesWhole x (listing bytes)) is given in
    let again = listing_again bytes m spelled in
    cc

-- the listing from where its parts were read
pub listing_from : (bytes : List ℕ) (lines : Lines) (m : BaseMap) (rest : Lines) (found : Option BaseMap) (n : ℕ)
    → lines ≡ all_lines bytes → map_at lines ≡ Ok (m, rest) → found ≡ checked m → n ≡ rest.number
    → listing bytes ≡ (ok_or found (BadLine n) >>= λ base. end_at rest >>= λ end. Ok base)
unfolding listing
listing_from bytes lines m rest found n all read given number =
    let whole : map_at (all_lines bytes) ≡ Ok (m, rest) = ap map_at (sym all) ∙ read in
    let border : ok_or found (BadLine n) ≡ bordered m rest.number = bordered_is lines m rest found n read given ∙ ap (bordered m) number in
    rw (whole, border) refl

-- the fault where some face has no border
pub no_border : {A : Type 0} (found : Option A) (f : Or MapFault) (n : ℕ) (go : A → Result A MapFault) → Err f ≡ ok_or found (Fault (BadLine n)) → Refuses f (ok_or found (BadLine n) >>= go)
no_border (Some x) f n go e = absurd cc
no_border None (Fault f) n go e = let same : BadLine n ≡ f = cc in ap Err same
no_border None Memory n go e = tt

-- the fault of the last line
pub no_end : {A : Type 0} (found : Option A) (x : A) (f bad : Or MapFault) (n : ℕ) (end : Result (Unit {0}) MapFault) → Ok x ≡ ok_or found bad → Refuses f end
    → Refuses f (ok_or found (BadLine n) >>= λ base. end >>= λ u. Ok base)
no_end None x f bad n end e h = absurd cc
no_end (Some y) x Memory bad n end e h = tt
no_end (Some y) x (Fault f) bad n end e h = rw h refl

-- all lines are read
pub all_read : {A : Type 0} (found : Option A) (x : A) (bad : Or MapFault) (n : ℕ) (end : Result (Unit {0}) MapFault) (u : Unit {0}) → Ok x ≡ ok_or found bad → end ≡ Ok u
    → (ok_or found (BadLine n) >>= λ base. end >>= λ v. Ok base) ≡ Ok x
all_read None x bad n end u e h = absurd cc
all_read (Some y) x bad n end u e h = let same : y ≡ x = cc in rw h (ap Ok same)
