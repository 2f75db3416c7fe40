-- The counted sections: what is read is spelled so, and what is spelled so is read.
use Rattle.std.proofs.Common.{◌≡◌, ◌≢◌, ℕ, zero, suc, ◌+◌, ◌-◌, ◌*◌, ◌^◌, ◌<◌, ◌≤◌, Bool, true, false, cond, not, eqb, nat_le, List, [], ◌∷◌, ◌++◌, length, take, drop, map, Some, Ok, Err, refl, ap, subst, ◌∙◌, arith}
use Rattle.std.specs.Option.{ok_or}
use Rattle.std.specs.List.{list_all, flat_map}
use Rattle.std.proofs.lemmas.Bool.{and_from, and_parts, leb-true, le-leb}
use Rattle.std.proofs.lemmas.List.{take_at, drop_at, length-take, length-drop, length-append, take-append-drop}
use Rattle.std.proofs.lemmas.List.Sums.{sum_by-cons}
use Rattle.tgap_model.specs.declared.base.BaseArc.{BaseArc}
use Rattle.tgap_model.specs.declared.fault.LimitKind.{LimitKind}
use Rattle.tgap_model.specs.declared.fault.LimitKind.TheVariants.{Points}
use Rattle.tgap_model.specs.declared.fault.MapFault.{MapFault}
use Rattle.tgap_model.specs.declared.fault.MapFault.TheVariants.{BadLine, Limit}
use Rattle.tgap_model.specs.declared.limits.TheConstants.{MAX_WEIGHT, MAX_COMPATIBILITY}
use Rattle.tgap_model.specs.Limits.{limit_of, limit_word}
use Rattle.tgap_model.specs.Base.{is_arc, count_points}
use Rattle.line_forms.specs.Words.{Row}
use Rattle.line_forms.specs.Lines.{Lines, next_number, line_at, read_line}
use Rattle.line_forms.specs.ListingLines.{read_count, read_class, read_face, head_at, read_points}
use Rattle.map_forms.specs.declared.version.Version.{Version}
use Rattle.map_forms.specs.Version.{coordinate_of, points_of, in_square}
use Rattle.map_forms.specs.Listing.{count_words, class_rows, face_rows, point_words, arc_words, at_most, within_limit, all_inside, count_line, classes_at, faces_at, arc_at, arcs_at}
use Rattle.tgap_model.proofs.BaseFacts.{arc_facts}
use Rattle.plain_io.proofs.Steps.{bound, ok_or_is, line_at_is, line_at_again, read_line_is, read_line_again, number_after, lines_from, some_rows}
use Rattle.area_listing.proofs.Loops.{Classes}
use Rattle.area_listing.proofs.OneLine.{AreFrom, read_count_is, read_count_again, class_words, read_class_is, read_class_again, face_words, read_face_is, read_face_again, points_within, points_few, read_points_is, read_points_again, head_at_is, head_at_again}

-- ---- limits

-- a limit that was kept
cond_ok : {A F : Type 0} (b : Bool) (x y : A) (f : F) → cond b (Ok x) (Err f) ≡ Ok y → b ≡ true
cond_ok true x y f e = refl
cond_ok false x y f e = absurd cc

pub at_most_is : (which : LimitKind) (most n : ℕ) (x : Unit {0}) → at_most which most n ≡ Ok x → n ≤ most
at_most_is which most n x e = leb-true n most (cond_ok (nat_le n most) tt x (Limit which n) e)

pub at_most_again : (which : LimitKind) (most n : ℕ) → n ≤ most → at_most which most n ≡ Ok tt
at_most_again which most n le = rw (le-leb n most le) refl

pub within_limit_is : (which : LimitKind) (n : ℕ) (x : Unit {0}) → within_limit which n ≡ Ok x → n ≤ limit_of which
within_limit_is which n x e = at_most_is which (limit_of which) n x e

pub within_limit_again : (which : LimitKind) (n : ℕ) → n ≤ limit_of which → within_limit which n ≡ Ok tt
within_limit_again which n le = at_most_again which (limit_of which) n le

-- a line of a count is spelled so, and within its limit
pub record IsCountLine (which : LimitKind) (least : ℕ) (lines : Lines) (x : ℕ × Lines) : Type 0 where
  pub spelled : lines.rows ≡ count_words (limit_word which) x.0 ∷ x.1.rows
  pub low : least ≤ x.0
  pub high : x.0 ≤ limit_of which

pub count_line_is : (which : LimitKind) (least : ℕ) (lines : Lines) (x : ℕ × Lines) → count_line which least lines ≡ Ok x → IsCountLine which least lines x
unfolding count_line
count_line_is which least lines x e =
    let keyword = limit_word which in
    bound _ (read_line BadLine (read_count keyword least (2 ^ 32 - 1)) lines) x e (λ n e0 r0.
    bound _ (within_limit which n.0) x r0 (λ u e1 r1.
    let row = read_line_is BadLine (read_count keyword least (2 ^ 32 - 1)) lines n e0 in
    let count = read_count_is keyword least (2 ^ 32 - 1) row.0 n.0 row.2 in
    let made : n ≡ x = cc in
    subst (λ (y : ℕ × Lines). IsCountLine which least lines y) made
    (record { spelled = row.1 ∙ ap (λ (r : Row). r ∷ n.1.rows) count.0; low = count.1; high = within_limit_is which n.0 u e1 })))

pub count_line_again : (which : LimitKind) (least n k : ℕ) (rest : List Row) → rest ≢ [] → least ≤ k → k ≤ limit_of which → k < 2 ^ 32
    → count_line which least (lines_from n (count_words (limit_word which) k ∷ rest)) ≡ Ok (k, lines_from (next_number n) rest)
unfolding count_line
count_line_again which least n k rest some low high small =
    let keyword = limit_word which in
    let word = read_count_again keyword least (2 ^ 32 - 1) k low (omega arith) small in
    rw (read_line_again {F = MapFault} BadLine (read_count keyword least (2 ^ 32 - 1)) n (count_words keyword k) rest k some word, within_limit_again which k high) refl

-- ---- classes

-- n classes that are read are spelled so
pub record AreClasses (c i n : ℕ) (lines : Lines) (x : Classes) : Type 0 where
  pub spelled : lines.rows ≡ class_rows c i x.0.0 x.0.1 ++ x.1.rows
  pub count : length x.0.0 ≡ n
  pub table : length x.0.1 ≡ n * c
  pub weights : AreFrom 1 MAX_WEIGHT x.0.0
  pub compat : AreFrom 0 MAX_COMPATIBILITY x.0.1

-- numbers in a range, one list after another
from_append : (least most : ℕ) (xs ys : List ℕ) → AreFrom least most xs → AreFrom least most ys → AreFrom least most (xs ++ ys)
from_append least most [] ys p q = q
from_append least most (x ∷ xs) ys p q = (p.0, from_append least most xs ys p.1 q)

pub classes_at_is : (c i n : ℕ) (lines : Lines) (x : Classes) → classes_at c i n lines ≡ Ok x → AreClasses c i n lines x
unfolding classes_at
classes_at_is c i zero lines x e =
    let made : (([], []), lines) ≡ x = cc in
    subst (λ (y : Classes). AreClasses c i 0 lines y) made (record { spelled = refl; count = refl; table = omega arith; weights = tt; compat = tt })
classes_at_is c i (suc n) lines x e =
    bound _ (read_line BadLine (read_class c i) lines) x e (λ first e0 r0.
    bound _ (classes_at c (i + 1) n first.1) x r0 (λ more e1 r1.
    let row = read_line_is BadLine (read_class c i) lines first e0 in
    let one = read_class_is c i row.0 first.0 row.2 in
    let rest = classes_at_is c (i + 1) n first.1 more e1 in
    let made : ((first.0.0 ∷ more.0.0, first.0.1 ++ more.0.1), more.1) ≡ x = cc in
    let front : take c (first.0.1 ++ more.0.1) ≡ first.0.1 = take_at first.0.1 more.0.1 c one.count in
    let back : drop c (first.0.1 ++ more.0.1) ≡ more.0.1 = drop_at first.0.1 more.0.1 c one.count in
    let f0 = row.1 in
    let f1 = one.spelled in
    let f2 = rest.spelled in
    let spelled : lines.rows ≡ class_rows c i (first.0.0 ∷ more.0.0) (first.0.1 ++ more.0.1) ++ more.1.rows = cc in
    let t1 = one.count in
    let t2 = rest.table in
    let table : length (first.0.1 ++ more.0.1) ≡ suc n * c = omega (arith, length-append first.0.1 more.0.1) in
    subst (λ (y : Classes). AreClasses c i (suc n) lines y) made
    (record { spelled = spelled; count = ap suc rest.count; table = table; weights = ((one.least, one.most), rest.weights); compat = from_append 0 MAX_COMPATIBILITY first.0.1 more.0.1 one.compat rest.compat })))

-- the first numbers of a range are in it
pub from_take : (least most n : ℕ) (vs : List ℕ) → AreFrom least most vs → AreFrom least most (take n vs)
from_take least most zero vs from = tt
from_take least most (suc n) [] from = tt
from_take least most (suc n) (v ∷ vs) from = (from.0, from_take least most n vs from.1)

-- the last numbers of a range are in it
pub from_drop : (least most n : ℕ) (vs : List ℕ) → AreFrom least most vs → AreFrom least most (drop n vs)
from_drop least most zero vs from = from
from_drop least most (suc n) [] from = tt
from_drop least most (suc n) (v ∷ vs) from = from_drop least most n vs from.1

-- a table of one row more is longer by a row
pub one_more : (c n len : ℕ) → len ≡ suc n * c → (c ≤ len) × (len - c ≡ n * c)
one_more c n len e = (omega arith, omega arith)

-- the rows of classes are read as these classes
pub classes_at_again : (c i n : ℕ) (weights compat : List ℕ) (rest : List Row) → rest ≢ [] → i + length weights ≤ 2 ^ 32 → length compat ≡ length weights * c
    → AreFrom 1 MAX_WEIGHT weights → AreFrom 0 MAX_COMPATIBILITY compat
    → classes_at c i (length weights) (lines_from n (class_rows c i weights compat ++ rest)) ≡ Ok ((weights, compat), lines_from (number_after (length weights) n) rest)
unfolding classes_at
classes_at_again c i n [] [] rest some room len from_w from = refl
classes_at_again c i n [] (v ∷ compat) rest some room len from_w from = absurd (omega arith)
classes_at_again c i n (w ∷ weights) compat rest some room len from_w from =
    let long : c ≤ length compat = (one_more c (length weights) (length compat) len).0 in
    let of_class : length (take c compat) ≡ c = omega (arith, length-take c compat) in
    let others : length (drop c compat) ≡ length weights * c = length-drop c compat ∙ (one_more c (length weights) (length compat) len).1 in
    let after : List Row = class_rows c (i + 1) weights (drop c compat) ++ rest in
    let some_after : after ≢ [] = some_rows (class_rows c (i + 1) weights (drop c compat)) rest some in
    let first : read_class c i (class_words i w (take c compat)) ≡ Some (w, take c compat) = subst (λ k. read_class k i (class_words i w (take c compat)) ≡ Some (w, take c compat)) of_class (read_class_again i w (take c compat) (omega arith) from_w.0.0 from_w.0.1 (from_take 0 MAX_COMPATIBILITY c compat from)) in
    let more = classes_at_again c (i + 1) (next_number n) weights (drop c compat) rest some (omega arith) others from_w.1 (from_drop 0 MAX_COMPATIBILITY c compat from) in
    rw (read_line_again {F = MapFault} BadLine (read_class c i) n (class_words i w (take c compat)) after (w, take c compat) some_after first, more)
    (ap (λ vs. Ok ((w ∷ weights, vs), lines_from (number_after (length weights) (next_number n)) rest)) (take-append-drop c compat))

-- ---- faces

-- the classes of n faces that are read are spelled so
pub record AreFaces (c f n : ℕ) (lines : Lines) (x : List ℕ × Lines) : Type 0 where
  pub spelled : lines.rows ≡ face_rows f x.0 ++ x.1.rows
  pub count : length x.0 ≡ n
  pub classes : AreFrom 0 (c - 1) x.0

pub faces_at_is : (c f n : ℕ) (lines : Lines) (x : List ℕ × Lines) → faces_at c f n lines ≡ Ok x → AreFaces c f n lines x
unfolding faces_at
faces_at_is c f zero lines x e =
    let made : ([], lines) ≡ x = cc in
    subst (λ (y : List ℕ × Lines). AreFaces c f 0 lines y) made (record { spelled = refl; count = refl; classes = tt })
faces_at_is c f (suc n) lines x e =
    bound _ (read_line BadLine (read_face c f) lines) x e (λ first e0 r0.
    bound _ (faces_at c (f + 1) n first.1) x r0 (λ more e1 r1.
    let row = read_line_is BadLine (read_face c f) lines first e0 in
    let one = read_face_is c f row.0 first.0 row.2 in
    let rest = faces_at_is c (f + 1) n first.1 more e1 in
    let made : (first.0 ∷ more.0, more.1) ≡ x = cc in
    let f0 = row.1 in
    let f1 = one.0 in
    let f2 = rest.spelled in
    let spelled : lines.rows ≡ face_rows f (first.0 ∷ more.0) ++ more.1.rows = cc in
    subst (λ (y : List ℕ × Lines). AreFaces c f (suc n) lines y) made
    (record { spelled = spelled; count = ap suc rest.count; classes = ((omega arith, one.1), rest.classes) })))

-- the rows of faces are read as their classes
pub faces_at_again : (c f n : ℕ) (classes : List ℕ) (rest : List Row) → rest ≢ [] → f + length classes ≤ 2 ^ 32 → c ≤ 2 ^ 32 → AreFrom 0 (c - 1) classes
    → faces_at c f (length classes) (lines_from n (face_rows f classes ++ rest)) ≡ Ok (classes, lines_from (number_after (length classes) n) rest)
unfolding faces_at
faces_at_again c f n [] rest some room few from = refl
faces_at_again c f n (k ∷ classes) rest some room few from =
    let some_after = some_rows (face_rows (f + 1) classes) rest some in
    let first = read_face_again c f k (omega arith) from.0.1 (omega (arith, from.0.1)) in
    rw (read_line_again {F = MapFault} BadLine (read_face c f) n (face_words f k) (face_rows (f + 1) classes ++ rest) k some_after first, faces_at_again c (f + 1) (next_number n) classes rest some (omega arith) few from.1) refl

-- ---- arcs

-- an arc that is read is spelled so, its points are within the coordinates of the version, and all points within its limit
pub record IsArcLine (v : Version) (n before : ℕ) (lines : Lines) (x : BaseArc × Lines) : Type 0 where
  pub spelled : lines.rows ≡ arc_words x.0 ∷ x.1.rows
  pub arc : is_arc n x.0 ≡ true
  pub inside : list_all (in_square (coordinate_of v)) x.0.points ≡ true
  pub few : before + length x.0.points ≤ points_of v

pub arc_at_is : (v : Version) (n before : ℕ) (lines : Lines) (x : BaseArc × Lines) → arc_at v n before lines ≡ Ok x → IsArcLine v n before lines x
unfolding arc_at is_arc
arc_at_is v n before lines x e =
    bound _ (ok_or (line_at lines) (BadLine lines.number)) x e (λ line e0 r0.
    bound _ (ok_or (head_at n line.0) (BadLine lines.number)) x r0 (λ head e1 r1.
    bound _ (at_most Points (points_of v) (before + head.0.2)) x r1 (λ u e2 r2.
    bound _ (ok_or (read_points (coordinate_of v) head.0.2 head.1) (BadLine lines.number)) x r2 (λ points e3 r3.
    let f0 = line_at_is lines line (ok_or_is (line_at lines) (BadLine lines.number) line e0) in
    let one = head_at_is n line.0 head (ok_or_is (head_at n line.0) (BadLine lines.number) head e1) in
    let all = read_points_is (coordinate_of v) head.0.2 head.1 points (ok_or_is (read_points (coordinate_of v) head.0.2 head.1) (BadLine lines.number) points e3) in
    let f1 = one.spelled in
    let f2 = all.spelled in
    let f3 = all.count in
    let a : BaseArc = record { left = head.0.0; right = head.0.1; points = points } in
    let made : (a, line.1) ≡ x = cc in
    let spelled : lines.rows ≡ arc_words a ∷ line.1.rows = cc in
    let two : 2 ≤ length points = omega (arith, one.two, all.count) in
    let differ : not (eqb head.0.0 head.0.1) ≡ true = ap not one.differ in
    let fits : is_arc n a ≡ true = rw (le-leb head.0.0 n one.left, le-leb head.0.1 n one.right, one.differ, le-leb 2 (length points) two, points_within v points all.inside, all.apart) refl in
    let room = at_most_is Points (points_of v) (before + head.0.2) u e2 in
    subst (λ (y : BaseArc × Lines). IsArcLine v n before lines y) made
    (record { spelled = spelled; arc = fits; inside = all.inside; few = omega (arith, room, all.count) })))))

-- the row of an arc is read as that arc
pub arc_at_again : (v : Version) (n before k : ℕ) (a : BaseArc) (rest : List Row) → rest ≢ [] → n < 2 ^ 32 → is_arc n a ≡ true → list_all (in_square (coordinate_of v)) a.points ≡ true
    → before + length a.points ≤ points_of v → arc_at v n before (lines_from k (arc_words a ∷ rest)) ≡ Ok (a, lines_from (next_number k) rest)
unfolding arc_at
arc_at_again v n before k a rest some few fits inside room =
    let facts = arc_facts n a fits in
    let most = points_few v in
    rw (
      line_at_again k (arc_words a) rest some,
      head_at_again n a.left a.right (length a.points) (flat_map point_words a.points) facts.left facts.right few facts.differ facts.two_points (omega arith),
      at_most_again Points (points_of v) (before + length a.points) room,
      read_points_again v a.points inside facts.apart,
    ) refl

-- m arcs that are read are spelled so
pub record AreArcs (v : Version) (n before m : ℕ) (lines : Lines) (x : List BaseArc × Lines) : Type 0 where
  pub spelled : lines.rows ≡ map arc_words x.0 ++ x.1.rows
  pub count : length x.0 ≡ m
  pub arcs : list_all (is_arc n) x.0 ≡ true
  pub inside : list_all (all_inside v) x.0 ≡ true
  pub few : before + count_points x.0 ≤ points_of v

pub arcs_at_is : (v : Version) (n before m : ℕ) (lines : Lines) (x : List BaseArc × Lines) → before ≤ points_of v → arcs_at v n before m lines ≡ Ok x → AreArcs v n before m lines x
unfolding arcs_at
arcs_at_is v n before zero lines x room e =
    let made : ([], lines) ≡ x = cc in
    subst (λ (y : List BaseArc × Lines). AreArcs v n before 0 lines y) made (record { spelled = refl; count = refl; arcs = refl; inside = refl; few = omega arith })
arcs_at_is v n before (suc m) lines x room e =
    bound _ (arc_at v n before lines) x e (λ first e0 r0.
    bound _ (arcs_at v n (before + length first.0.points) m first.1) x r0 (λ more e1 r1.
    let one = arc_at_is v n before lines first e0 in
    let rest = arcs_at_is v n (before + length first.0.points) m first.1 more one.few e1 in
    let made : (first.0 ∷ more.0, more.1) ≡ x = cc in
    let f0 = one.spelled in
    let f1 = rest.spelled in
    let spelled : lines.rows ≡ map arc_words (first.0 ∷ more.0) ++ more.1.rows = cc in
    let sum : count_points (first.0 ∷ more.0) ≡ length first.0.points + count_points more.0 = sum_by-cons (λ (b : BaseArc). length b.points) first.0 more.0 in
    subst (λ (y : List BaseArc × Lines). AreArcs v n before (suc m) lines y) made
    (record {
      spelled = spelled;
      count = ap suc rest.count;
      arcs = and_from (is_arc n first.0) (list_all (is_arc n) more.0) one.arc rest.arcs;
      inside = and_from (all_inside v first.0) (list_all (all_inside v) more.0) one.inside rest.inside;
      few = omega (arith, rest.few, sum);
    })))

-- the rows of arcs are read as these arcs
pub arcs_at_again : (v : Version) (n before k : ℕ) (arcs : List BaseArc) (rest : List Row) → rest ≢ [] → n < 2 ^ 32 → list_all (is_arc n) arcs ≡ true → list_all (all_inside v) arcs ≡ true
    → before + count_points arcs ≤ points_of v → arcs_at v n before (length arcs) (lines_from k (map arc_words arcs ++ rest)) ≡ Ok (arcs, lines_from (number_after (length arcs) k) rest)
unfolding arcs_at
arcs_at_again v n before k [] rest some few fits inside room = refl
arcs_at_again v n before k (a ∷ arcs) rest some few fits inside room =
    let parts = and_parts (is_arc n a) (list_all (is_arc n) arcs) fits in
    let inner = and_parts (all_inside v a) (list_all (all_inside v) arcs) inside in
    let sum : count_points (a ∷ arcs) ≡ length a.points + count_points arcs = sum_by-cons (λ (b : BaseArc). length b.points) a arcs in
    let some_after = some_rows (map arc_words arcs) rest some in
    rw (
      arc_at_again v n before k a (map arc_words arcs ++ rest) some_after few parts.0 inner.0 (omega arith),
      arcs_at_again v n (before + length a.points) (next_number k) arcs rest some few parts.1 inner.1 (omega arith),
    ) refl
